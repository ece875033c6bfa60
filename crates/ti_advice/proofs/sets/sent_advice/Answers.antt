use Rattle.std.proofs.Common.{Bool, codes, option_map, subst}
use Rattle.std.proofs.lemmas.Result.{IfOk-weaker}
use Rattle.ti_advice.specs.Sets.{asked}
use Rattle.ti_advice.specs.Strings.{IsOwn}
use Rattle.ti_advice.proofs.sets.sent_advice.Goals as goal

pub returns : goal.returns
returns c =
    IfOk-weaker c.judged_if.result _ _
    (λ found judged. record {
      own = option_map (λ bytes. bytes.items) c.in_ok-own.own;
      sends = subst (λ (lines : Bool). IsOwn c.args.entry.now (codes "sgr") (asked c.args.marked lines) (option_map (λ bytes. bytes.items) c.in_ok-own.own)) c.is_lines.ensures c.in_ok-own.ensures;
      plain = option_map (λ bytes. bytes.items) c.in_ok-plain.plain;
      sends_plain = c.in_ok-plain.ensures;
      judged = judged;
    })
    c.judged_if.ensures
