-- The lines of the fields of each entry, found from line to line, and looked up.
use Rattle.std.proofs.Common.{◌≡◌, ℕ, ◌+◌, Bool, true, false, List, [], ◌∷◌, ◌++◌, Option, Some, None, refl, sym, ap, ◌∙◌, append-nil, append_assoc, Bor}
use Rattle.std.specs.Prelude.{if◌then◌else◌, map, option_map, slice_get}
use Rattle.std.proofs.lemmas.Bool.{cond-true, cond-false}
use Rattle.std.proofs.lemmas.List.{map-append}
use Rattle.std.proofs.lemmas.Option.{none-some, slice_get-get_or, slice_get-map, slice_get_past}
use Rattle.std.specs.Slice.{IsItemAt}
use Rattle.ti_sources.specs.LinedTexts.{line_at, line_behind, number_of, numbered, numbers_of, or_zero}
use Rattle.ti_sources.proofs.LineShifts.{entry_moved}
use Rattle.ti_source.specs.declared.lines.FieldLine.{FieldLine}
use Rattle.ti_source.specs.Layout.{cut_of, lines_of}
use Rattle.ti_source.specs.Lines.{Blocks, after_names, begin_block, begins_entry, blocks_from, field_lines_of, firsts, is_further, line_blocks, onto_blocks, part_lines}
use Rattle.ti_source.proofs.FieldLines.{found_entry, lines_of_none, lines_of_some}

-- ---- one more line

abbrev entries_in : ℕ → List ℕ → List (List FieldLine)
entries_in number rest = (blocks_from number (lines_of rest)).entries

abbrev own_fields : ℕ → List ℕ → List ℕ → List FieldLine
own_fields number line behind = part_lines number (after_names (cut_of line).ended) ++ (blocks_from (number + 1) (lines_of behind)).ahead

same_entries : (fields : List FieldLine) (behind : Blocks) (t : Bool) → (if t then onto_blocks fields behind else behind).entries ≡ behind.entries
same_entries fields behind true = refl
same_entries fields behind false = refl

entries_behind : (number : ℕ) (line rest behind : List ℕ) → lines_of rest ≡ line ∷ lines_of behind → begins_entry line ≡ false → entries_in number rest ≡ entries_in (number + 1) behind
unfolding line_blocks
entries_behind number line rest behind cut none =
    let later = blocks_from (number + 1) (lines_of behind) in
    let parts = part_lines number (cut_of line).ended in
    ap (λ ls. (blocks_from number ls).entries) cut
    ∙ (ap (λ (b : Blocks). b.entries) (cond-false (begins_entry line) (begin_block (part_lines number (after_names (cut_of line).ended)) later) (if is_further line then onto_blocks parts later else later) none)
    ∙ same_entries parts later (is_further line))

entries_begun : (number : ℕ) (line rest behind : List ℕ) → lines_of rest ≡ line ∷ lines_of behind → begins_entry line ≡ true → entries_in number rest ≡ own_fields number line behind ∷ entries_in (number + 1) behind
unfolding line_blocks
entries_begun number line rest behind cut begins =
    let later = blocks_from (number + 1) (lines_of behind) in
    let parts = part_lines number (cut_of line).ended in
    ap (λ ls. (blocks_from number ls).entries) cut
    ∙ ap (λ (b : Blocks). b.entries) (cond-true (begins_entry line) (begin_block (part_lines number (after_names (cut_of line).ended)) later) (if is_further line then onto_blocks parts later else later) begins)

-- the entry that begins on the line has these lines in the whole text
own_numbers : (before : ℕ) (own line rest behind : List ℕ) → lines_of rest ≡ line ∷ lines_of behind → begins_entry line ≡ true → own ≡ map (line_behind before) (field_lines_of rest 0) → own ≡ numbered (own_fields (before + 1) line behind)
own_numbers before own line rest behind cut begins is =
    let names = after_names (cut_of line).ended in
    let found = found_entry 1 0 (slice_get (entries_in 1 rest) 0) line rest behind cut begins refl refl in
    is ∙ (ap (map (line_behind before)) (sym (lines_of_some rest 0 (own_fields 1 line behind) found)) ∙ sym (entry_moved before 1 names (lines_of behind)))

abbrev AllNumbers : {V : Type 0} → (V → List ℕ) → List V → ℕ → List ℕ → List (List ℕ) → Type 0
AllNumbers view all before rest total = map view all ++ map numbered (entries_in (before + 1) rest) ≡ total

pub numbers_begun : {V : Type 0} (view : V → List ℕ) (before : ℕ) (all next : List V) (own : V) (total : List (List ℕ)) (line rest behind : List ℕ) → lines_of rest ≡ line ∷ lines_of behind → begins_entry line ≡ true → view own ≡ map (line_behind before) (field_lines_of rest 0) → next ≡ all ++ own ∷ [] → AllNumbers view all before rest total → AllNumbers view next (before + 1) behind total
numbers_begun view before all next own total line rest behind cut begins is longer was =
    let later = map numbered (entries_in (before + 1 + 1) behind) in
    ap (λ vs. map view vs ++ later) longer
    ∙ (ap (λ ns. ns ++ later) (map-append view all (own ∷ []))
    ∙ (append_assoc (map view all) (view own ∷ []) later
    ∙ (ap (λ own_lines. map view all ++ (own_lines ∷ later)) (own_numbers before (view own) line rest behind cut begins is)
    ∙ (sym (ap (λ es. map view all ++ map numbered es) (entries_begun (before + 1) line rest behind cut begins)) ∙ was))))

pub numbers_passed : {V : Type 0} (view : V → List ℕ) (before : ℕ) (all : List V) (total : List (List ℕ)) (line rest behind : List ℕ) → lines_of rest ≡ line ∷ lines_of behind → begins_entry line ≡ false → AllNumbers view all before rest total → AllNumbers view all (before + 1) behind total
numbers_passed view before all total line rest behind cut none was =
    sym (ap (λ es. map view all ++ map numbered es) (entries_behind (before + 1) line rest behind cut none)) ∙ was

pub numbers_end : {V : Type 0} (view : V → List ℕ) (before : ℕ) (all : List V) (total : List (List ℕ)) (rest : List ℕ) → lines_of rest ≡ [] → AllNumbers view all before rest total → map view all ≡ total
numbers_end view before all total rest cut was =
    sym (append-nil (map view all)) ∙ (sym (ap (λ ls. map view all ++ map numbered (blocks_from (before + 1) ls).entries) cut) ∙ was)

-- ---- a field's line

line_found : (fields : List FieldLine) (place : ℕ) → or_zero (slice_get (map (λ field. field.line) fields) place) ≡ line_at fields place
line_found fields place = ap or_zero (slice_get-map (λ (field : FieldLine). field.line) fields place) ∙ by_cases (slice_get fields place)
  where
    by_cases : (o : Option FieldLine) → or_zero (option_map (λ (field : FieldLine). field.line) o) ≡ number_of o
    by_cases None = refl
    by_cases (Some field) = refl

line_in : (text : List ℕ) (entry place : ℕ) (own : List ℕ) (block : Option (List FieldLine)) → slice_get (entries_in 1 text) entry ≡ block → option_map numbered block ≡ Some own → or_zero (slice_get own place) ≡ line_at (field_lines_of text entry) place
line_in text entry place own None is there = absurd (none-some own there)
line_in text entry place own (Some fields) is there =
    let same : numbered fields ≡ own = cc in
    sym (ap (λ ns. or_zero (slice_get ns place)) same)
    ∙ (line_found (firsts fields) place ∙ ap (λ fs. line_at fs place) (lines_of_some text entry fields is))

no_line : (text : List ℕ) (entry place : ℕ) (block : Option (List FieldLine)) → slice_get (entries_in 1 text) entry ≡ block → option_map numbered block ≡ None → 0 ≡ line_at (field_lines_of text entry) place
no_line text entry place None is there = ap (λ fs. line_at fs place) (lines_of_none text entry is)
no_line text entry place (Some fields) is there = absurd (none-some (numbered fields) (sym there))

-- the kept lines of an entry, by those of the text
kept_at : {V : Type 0} (view : V → List ℕ) (all : List V) (text : List ℕ) (entry : ℕ) (found : Option V) → map view all ≡ numbers_of text → slice_get all entry ≡ found → option_map numbered (slice_get (entries_in 1 text) entry) ≡ option_map view found
kept_at view all text entry found kept is =
    sym (slice_get-map numbered (entries_in 1 text) entry)
    ∙ (ap (λ ns. slice_get ns entry) (sym kept) ∙ (slice_get-map view all entry ∙ ap (option_map view) is))

pub line_kept : {V : Type 0} (view : V → List ℕ) (all : List V) (text : List ℕ) (entry place : ℕ) (own : V) → map view all ≡ numbers_of text → slice_get all entry ≡ Some own → or_zero (slice_get (view own) place) ≡ line_at (field_lines_of text entry) place
line_kept view all text entry place own kept is = line_in text entry place (view own) (slice_get (entries_in 1 text) entry) refl (kept_at view all text entry (Some own) kept is)

pub no_line_kept : {V : Type 0} (view : V → List ℕ) (all : List V) (text : List ℕ) (entry place : ℕ) → map view all ≡ numbers_of text → slice_get all entry ≡ None → 0 ≡ line_at (field_lines_of text entry) place
no_line_kept view all text entry place kept is = no_line text entry place (slice_get (entries_in 1 text) entry) refl (kept_at view all text entry None kept is)

-- what a slice lends
pub lent : {X : Type 0} (xs : List X) (i : ℕ) (r : Option (Bor X)) → IsItemAt xs i r → slice_get xs i ≡ option_map (λ x. x.now) r
lent xs i None p = slice_get_past xs i p.3
lent xs i (Some x) p = slice_get-get_or xs i x.now p.3.0 ∙ ap Some (sym p.1)
