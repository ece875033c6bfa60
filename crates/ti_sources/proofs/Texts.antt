-- A text that is joined line by line.
use Rattle.std.proofs.Common.{◌≡◌, ℕ, Bool, true, false, List, [], ◌∷◌, ◌++◌, refl, sym, ap, ◌∙◌, append_assoc}
use Rattle.std.specs.Prelude.{if◌then◌else◌}
use Rattle.std.specs.List.{flat_map}
use Rattle.std.proofs.lemmas.List.{append-nil}
use Rattle.ti_sources.specs.Joins.{Lines, before, continues, ended, joined_from, joined_lines, with_blank}
use Rattle.ti_sources.specs.Steps.{State, advance, text_from, text_of, with_begun, with_taken}
use Rattle.ti_source.specs.Layout.{skip_white}

-- a blank line among the others, or behind the first
blank_moved : (done blanks : List ℕ) (lines : Lines) → text_of done blanks (with_blank lines) ≡ text_of done (blanks ++ 10 ∷ []) lines
blank_moved done blanks lines = ap (λ (l : List ℕ). done ++ (ended lines.first ++ l)) (sym (append_assoc blanks (10 ∷ []) (flat_map ended lines.others)))

-- a line that is done
line_moved : (done blanks line : List ℕ) (lines : Lines) → text_of done blanks (before line lines) ≡ text_of ((done ++ ended line) ++ blanks) [] lines
line_moved done blanks line lines =
    sym (append_assoc (done ++ ended line) blanks (ended lines.first ++ flat_map ended lines.others) ∙ append_assoc done (ended line) (blanks ++ (ended lines.first ++ flat_map ended lines.others)))

step : (s : State) (next : List ℕ) (behind : List (List ℕ)) (t : Bool)
    → text_of s.done s.blanks (if t then with_blank (joined_from (s.line ++ skip_white next) behind) else before s.line (joined_from next behind)) ≡ text_from (if t then with_taken s next else with_begun s next) behind
unfolding text_from
step s next behind true = blank_moved s.done s.blanks (joined_from (s.line ++ skip_white next) behind)
step s next behind false = line_moved s.done s.blanks s.line (joined_from next behind)

-- the text after one more line
pub advanced_text : (s : State) (next : List ℕ) (behind : List (List ℕ)) → text_from s (next ∷ behind) ≡ text_from (advance s next) behind
unfolding text_from advance
advanced_text s next behind = step s next behind (continues s.line next)

-- the text of a line alone
pub begun_text : (line : List ℕ) (behind : List (List ℕ)) → text_from (record { done = []; line = line; blanks = [] }) behind ≡ flat_map ended (joined_lines (line ∷ behind))
unfolding text_from
begun_text line behind = refl

-- the text without further lines
pub ended_text : (s : State) → (s.done ++ ended s.line) ++ s.blanks ≡ text_from s []
unfolding text_from
ended_text s = append_assoc s.done (ended s.line) s.blanks ∙ ap (λ (l : List ℕ). s.done ++ (ended s.line ++ l)) (sym (append-nil s.blanks))
