use Rattle.std.proofs.Common.{ℕ, ◌+◌, ◌-◌, List, sym, subst, length, take, drop, arith, length-drop}
use Rattle.std.proofs.lemmas.List.{take_all}
use Rattle.vt_states.proofs.Answered.{Answered, next_answered, none_answered}
use Rattle.vt_states.proofs.cases.case_answers.Goals as goal

pub loop-rest-init : goal.loop-rest-init
loop-rest-init c = subst (λ (t : List ℕ). Answered c.args.size.rows c.args.size.cols c.args.file.now c.args.file.now 0 t) (sym c.new-text.ensures.items) (none_answered c.args.size.rows c.args.size.cols c.args.file.now)

pub loop-rest-preserved : goal.loop-rest-preserved
loop-rest-preserved c =
    next_answered c.args.size.rows c.args.size.cols c.args.file.now c.loop-rest.rest.now c.loop-rest.number c.loop-rest.text.items c.in-Some.end
    (take (length c.loop-rest.rest.now - (c.in-Some.end + 1)) (drop (c.in-Some.end + 1) c.loop-rest.rest.now)) c.push_answer.new.text.items
    c.loop-rest.invariant (sym c.in-Some.ensures.value)
    (take_all (length c.loop-rest.rest.now - (c.in-Some.end + 1)) (drop (c.in-Some.end + 1) c.loop-rest.rest.now) (omega (arith, length-drop (c.in-Some.end + 1) c.loop-rest.rest.now)))
    c.in_ok-push_answer-in-Some.ensures.answer
