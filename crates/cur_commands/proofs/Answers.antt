-- A line for each refused call, one entry after another.
use Rattle.std.proofs.Common.{◌≡◌, ℕ, ◌+◌, ◌<◌, List, ◌∷◌, ◌++◌, length, drop, sym, ap, ◌∙◌, append_assoc, get_or, add-one}
use Rattle.std.proofs.Math.Seq.{drop-cons}
use Rattle.cur_play.specs.declared.runs.LogEntry.{LogEntry}
use Rattle.cur_commands.specs.Shows.{answer_line, refusals_text}

-- the lines so far, followed by those of the remaining entries
pub lines_more : (log : List LogEntry) (i : ℕ) (d : LogEntry) (lines all : List ℕ) → i < length log → lines ++ refusals_text i (drop i log) ≡ all
    → (lines ++ answer_line (i + 1) (get_or log i d).answer) ++ refusals_text (i + 1) (drop (i + 1) log) ≡ all
lines_more log i d lines all lt h =
    let here : drop i log ≡ get_or log i d ∷ drop (i + 1) log = drop-cons log i d lt ∙ ap (λ (n : ℕ). get_or log i d ∷ drop n log) (sym (add-one i)) in
    append_assoc lines (answer_line (i + 1) (get_or log i d).answer) (refusals_text (i + 1) (drop (i + 1) log))
    ∙ sym (ap (λ (l : List LogEntry). lines ++ refusals_text i l) here) ∙ h
