use Rattle.std.proofs.Common.{ℕ, List, ap, ◌∙◌}
use Rattle.vt_states.specs.Recordings.{all_parts, dropped, plain_text, replaced, total, unscripted}
use Rattle.ti_commands.specs.States.{note_of}
use Rattle.ti_commands.proofs.states.fed_bytes.Goals as goal

pub returns-in_ok-note : goal.returns-in_ok-note
returns-in_ok-note c =
    let lines = c.without_script_lines.ensures ∙ ap unscripted c.as_slice.ensures.value in
    rw (c.if-plain_text.true) (
      c.in_ok-recording.ensures.text ∙ ap plain_text lines,
      c.in_ok-note.ensures ∙ ap (λ (n : ℕ). note_of n c.in_ok-recording.recording.replaced) c.in_ok-recording.ensures.dropped
          ∙ ap (λ (n : ℕ). note_of (total dropped (all_parts c.without_script_lines.result.now)) n) c.in_ok-recording.ensures.replaced
          ∙ ap (λ (b : List ℕ). note_of (total dropped (all_parts b)) (total replaced (all_parts b))) lines,
    )
