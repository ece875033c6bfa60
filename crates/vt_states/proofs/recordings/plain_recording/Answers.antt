use Rattle.std.proofs.Common.{◌≡◌, ℕ, ◌+◌, ◌-◌, ◌≤◌, List, ◌∙◌, ap, subst, length, take, drop, arith, length-drop}
use Rattle.std.proofs.lemmas.List.{take_all}
use Rattle.vt_states.specs.Recordings.{part_length}
use Rattle.vt_states.proofs.Shown.{all_shown, one_shown}
use Rattle.vt_states.proofs.recordings.plain_recording.Goals as goal

pub loop-at-preserved : goal.loop-at-preserved
loop-at-preserved c =
    let bytes = c.args.bytes.now in
    let at = c.loop-at.at in
    let n = c.part_length.result in
    let whole : take (length c.args.bytes.now - c.loop-at.at) (drop c.loop-at.at c.args.bytes.now) ≡ drop c.loop-at.at c.args.bytes.now = take_all (length c.args.bytes.now - c.loop-at.at) (drop c.loop-at.at c.args.bytes.now) (omega (arith, length-drop c.loop-at.at c.args.bytes.now)) in
    let within : c.part_length.result ≤ length (drop c.loop-at.at c.args.bytes.now) = subst (λ (l : List ℕ). c.part_length.result ≤ length l) whole c.part_length.ensures.within in
    one_shown bytes at c.loop-at.recording.text.items c.loop-at.recording.dropped c.loop-at.recording.replaced n _ c.add.new.self.text.items c.add.new.self.dropped c.add.new.self.replaced
    c.loop-at.invariant c.loop-at-test.true (c.part_length.ensures.value ∙ ap part_length whole)
    (ap (λ (k : ℕ). take k (drop c.loop-at.at c.args.bytes.now)) (let e : (c.loop-at.at + c.part_length.result) - c.loop-at.at ≡ c.part_length.result = omega arith in e))
    c.part_length.ensures.some within c.in_ok-add.ensures.text c.in_ok-add.ensures.dropped c.in_ok-add.ensures.replaced

pub returns-clause-text : goal.returns-clause-text
returns-clause-text c = (all_shown c.args.bytes.now c.loop-at.at c.loop-at.recording.text.items c.loop-at.recording.dropped c.loop-at.recording.replaced c.loop-at.invariant c.loop-at-test.false).is_text

pub returns-clause-dropped : goal.returns-clause-dropped
returns-clause-dropped c = (all_shown c.args.bytes.now c.loop-at.at c.loop-at.recording.text.items c.loop-at.recording.dropped c.loop-at.recording.replaced c.loop-at.invariant c.loop-at-test.false).is_gone

pub returns-clause-replaced : goal.returns-clause-replaced
returns-clause-replaced c = (all_shown c.args.bytes.now c.loop-at.at c.loop-at.recording.text.items c.loop-at.recording.dropped c.loop-at.recording.replaced c.loop-at.invariant c.loop-at-test.false).is_marks
