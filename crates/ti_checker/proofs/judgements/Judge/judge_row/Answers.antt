use Rattle.std.proofs.Common.{List, ℕ, [], sym, subst}
use Rattle.std.proofs.lemmas.Result.{err_from_is_err_and}
use Rattle.vt_term.specs.Text.{Splits}
use Rattle.ti_checker.specs.Limit.{IsLineFor}
use Rattle.ti_checker.specs.No.{IsFaulty}
use Rattle.ti_checker.specs.declared.causes.Cause.{Cause}
use Rattle.ti_checker.proofs.Misjudgements.{judged_line, misjudged, sends_asked, taught_next}
use Rattle.ti_checker.proofs.judgements.Judge.judge_row.Goals as goal

pub returns-in_err-effect-clause-faulty : goal.returns-in_err-effect-clause-faulty
returns-in_err-effect-clause-faulty c =
    let r = c.in_ok-found.ensures.record in
    let e = err_from_is_err_and c.from_residual-in_err-effect.result c.from_residual-in_err-effect.ensures.1 in
    rw e.1 (subst (λ (cause : Cause). IsFaulty c.args.size.rows c.args.size.cols c.args.string.now c.args.row cause) (sym e.2)
    (misjudged c.args.size.rows c.args.size.cols c.args.string.now c.args.looks.now c.args.row c.sent_into.new.bytes.items r.tokens c.in_err-effect.field-0.0 c.args.size.limits c.requires.taught c.in_ok-sent_into.ensures.sends
    (subst (λ (bytes : List ℕ). Splits bytes r.tokens []) c.deref.ensures.value r.splits) (c.in_err-effect.ensures.misjudged r.tokens r.is)))

pub returns-clause-right : goal.returns-clause-right
returns-clause-right c =
    let line : IsLineFor c.args.size.rows c.args.size.cols c.args.string.now (record { row = c.args.row; bytes = c.sent_into.new.bytes.items; effect = c.in_ok-effect.effect }) =
    judged_line _ _ _ _ _ c.args.row _ c.in_ok-effect.effect c.in_ok-sent_into.ensures.sends c.deref.ensures.value c.in_ok-found.ensures.record c.in_ok-effect.ensures.found in
    sends_asked c.args.size.rows c.args.size.cols c.args.string.now c.args.row c.args.looks.now c.sent_into.new.bytes.items c.in_ok-effect.effect c.requires.taught line c.in_ok-effect.ensures.asked

pub returns-clause-taught : goal.returns-clause-taught
returns-clause-taught c =
    let line : IsLineFor c.args.size.rows c.args.size.cols c.args.string.now (record { row = c.args.row; bytes = c.sent_into.new.bytes.items; effect = c.in_ok-effect.effect }) =
    judged_line _ _ _ _ _ c.args.row _ c.in_ok-effect.effect c.in_ok-sent_into.ensures.sends c.deref.ensures.value c.in_ok-found.ensures.record c.in_ok-effect.ensures.found in
    taught_next c.args.size.rows c.args.size.cols c.args.string.now c.args.row c.args.looks.now c.learned.result c.sent_into.new.bytes.items c.in_ok-effect.effect c.requires.range c.requires.taught line c.in_ok-effect.ensures.asked c.learned.ensures
