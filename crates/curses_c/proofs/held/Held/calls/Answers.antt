use Rattle.std.proofs.Common.{◌≡◌, ℕ, ◌+◌, length, sym, ap, subst, ◌∙◌, arith}
use Rattle.cur_play.specs.declared.answers.Answer.TheVariants.{Done}
use Rattle.curses_c.specs.Held.{MakesUpTo}
use Rattle.curses_c.proofs.Making.{leads_on, leads_out, leads_whole}
use Rattle.curses_c.proofs.held.Held.calls.Goals as goal

pub returns-then-not-is_done : goal.returns-then-not-is_done
returns-then-not-is_done c =
    let stops = leads_out c.args.self.now c.args.calls.now c.loop-call.call-index c.call-item.result c.loop-call.self c.call-answer.new.self c.call-answer.result c.loop-call-test.true c.call-item.is c.loop-call.invariant.leads c.call-answer.ensures.makes
    (sym c.is_done.ensures ∙ c.if-not-is_done.true) in
    subst (λ (n : ℕ). MakesUpTo c.args.self.now c.args.calls.now n c.call-answer.result c.call-answer.new.self) (sym c.loop-call.invariant.done) stops

pub loop-call-preserved : goal.loop-call-preserved
loop-call-preserved c = record {
  done = ap (λ (n : ℕ). n + 1) c.loop-call.invariant.done;
  leads = leads_on c.args.self.now c.args.calls.now c.loop-call.call-index c.call-item.result c.loop-call.self c.call-answer.new.self c.call-answer.result c.loop-call-test.true c.call-item.is c.loop-call.invariant.leads c.call-answer.ensures.makes
      (sym c.is_done.ensures ∙ c.if-not-is_done.false);
}

pub returns : goal.returns
returns c =
    let whole : c.loop-call.call-index ≡ length c.args.calls.now = omega arith in
    let all = leads_whole c.args.self.now c.args.calls.now c.loop-call.call-index c.loop-call.self whole c.loop-call.invariant.leads in
    subst (λ (n : ℕ). MakesUpTo c.args.self.now c.args.calls.now n Done c.loop-call.self) (sym c.loop-call.invariant.done) all
