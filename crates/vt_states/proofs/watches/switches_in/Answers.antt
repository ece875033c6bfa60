use Rattle.std.proofs.Common.{ℕ, List, ap, subst, ◌∙◌}
use Rattle.vt_term.specs.Function.{Function}
use Rattle.vt_term.specs.Text.{Splits}
use Rattle.vt_term.specs.Scanned.{IsTokenAt}
use Rattle.vt_states.specs.Watches.{switches_after}
use Rattle.vt_states.proofs.Endings.{switched_more, switches_at_end, whole_has_none}
use Rattle.vt_states.proofs.watches.switches_in.Goals as goal

pub loop-end-preserved : goal.loop-end-preserved
loop-end-preserved c =
    let token : IsTokenAt c.args.text.now c.loop-end.start c.in-Ok-Some.end c.next.new.self = rw c.in-Ok-Some.field-0-is at c.in-Ok-Some.ensures.token in
    record {
      within = token.within;
      switched = switched_more c.args.text.now c.loop-end.start c.in-Ok-Some.end c.next.new.self c.loop-end.switches c.after-switches.result c.loop-end.invariant.switched token
          (c.after-switches.ensures ∙ ap (λ (f : Function). switches_after f c.loop-end.switches) c.function.ensures);
    }

pub returns-in-Ok-None : goal.returns-in-Ok-None
returns-in-Ok-None c = λ rows cols after runs rests. switches_at_end c.args.text.now c.loop-end.start c.loop-end.switches c.loop-end.invariant.switched (c.in-Ok-None.ensures.end c.in-Ok-None.field-0-is) rows cols after runs

pub returns-in-Err : goal.returns-in-Err
returns-in-Err c = λ rows cols after runs rests.
    let whole = subst (λ (r : List ℕ). Splits c.args.text.now runs.tokens r) rests runs.splits in
    absurd (whole_has_none c.args.text.now c.in-Err.field-0 (c.in-Err.ensures.fault c.loop-end.invariant.switched.tokens c.loop-end.invariant.switched.begins) runs.tokens whole)
