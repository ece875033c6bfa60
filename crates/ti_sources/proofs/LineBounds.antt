-- No field's line is behind the last line of the text.
use Rattle.std.proofs.Common.{◌≡◌, ℕ, ◌+◌, ◌≤◌, suc, Bool, true, false, not, ◌&&◌, List, [], ◌∷◌, ◌++◌, length, Option, Some, None, refl, sym, subst, arith}
use Rattle.std.specs.Prelude.{if◌then◌else◌, ◌==◌, cond, slice_get}
use Rattle.std.proofs.lemmas.Option.{none-some}
use Rattle.std.specs.List.{AllByRecursion, filter, cons_option}
use Rattle.ti_sources.specs.LinedTexts.{line_behind}
use Rattle.ti_sources.proofs.LineShifts.{IsOn, part_on}
use Rattle.ti_source.specs.declared.lines.FieldLine.{FieldLine}
use Rattle.ti_source.specs.Layout.{begins_feed, cut_of, lines_of, onto_line}
use Rattle.ti_source.specs.Lines.{Blocks, after_names, begin_block, begins_entry, blocks_from, field_lines_of, firsts, is_further, is_same, line_blocks, onto_blocks, part_line, part_lines}
use Rattle.ti_source.proofs.FieldLines.{lines_of_none, lines_of_some}
use Rattle.ti_source.proofs.Spellings.{choose}

-- the number of lines

onto_count : (b : ℕ) (lines : List (List ℕ)) (n : ℕ) → length lines ≤ n → length (onto_line b lines) ≤ suc n
onto_count b [] n h = omega arith
onto_count b (line ∷ lines) n h = omega (arith, h)

lines_count : (text : List ℕ) → length (lines_of text) ≤ length text
lines_count [] = omega arith
lines_count (b ∷ rest) =
    let shorter = lines_count rest in
    choose (λ (lines : List (List ℕ)). length lines ≤ suc (length rest)) (b == 10) ([] ∷ lines_of rest) (if (b == 13) && begins_feed rest then lines_of rest else onto_line b (lines_of rest)) (λ _. omega (arith, shorter))
    (λ _. choose (λ (lines : List (List ℕ)). length lines ≤ suc (length rest)) ((b == 13) && begins_feed rest) (lines_of rest) (onto_line b (lines_of rest)) (λ _. omega (arith, shorter)) (λ _. onto_count b (lines_of rest) (length rest) shorter))

-- fields on lines up to the last one

abbrev Within : ℕ → List FieldLine → Type 0
Within last fields = AllByRecursion (λ field. field.line ≤ last) fields

one_within : (line last : ℕ) → line ≤ last → (o : Option FieldLine) (fields : List FieldLine) → IsOn line o → Within last fields → Within last (cons_option o fields)
one_within line last h None fields is all = all
one_within line last h (Some field) fields is all = (omega (arith, is, h), all)

parts_within : (line last : ℕ) → line ≤ last → (parts : List (List ℕ)) → Within last (part_lines line parts)
parts_within line last h [] = tt
parts_within line last h (part ∷ parts) = one_within line last h (part_line line part) (part_lines line parts) (part_on line part) (parts_within line last h parts)

both_within : (last : ℕ) (fields others : List FieldLine) → Within last fields → Within last others → Within last (fields ++ others)
both_within last [] others all more = more
both_within last (field ∷ fields) others all more = (all.0, both_within last fields others all.1 more)

abbrev AreWithin : ℕ → Blocks → Type 0
AreWithin last blocks = Within last blocks.ahead × AllByRecursion (Within last) blocks.entries

line_within : (number last : ℕ) (line : List ℕ) (behind : Blocks) → number ≤ last → AreWithin last behind → AreWithin last (line_blocks number line behind)
unfolding line_blocks
line_within number last line behind h all =
    let names = after_names (cut_of line).ended in
    let parts = (cut_of line).ended in
    choose (AreWithin last) (begins_entry line) (begin_block (part_lines number names) behind) (if is_further line then onto_blocks (part_lines number parts) behind else behind)
    (λ _. (tt, (both_within last (part_lines number names) behind.ahead (parts_within number last h names) all.0, all.1)))
    (λ _. choose (AreWithin last) (is_further line) (onto_blocks (part_lines number parts) behind) behind (λ _. (both_within last (part_lines number parts) behind.ahead (parts_within number last h parts) all.0, all.1)) (λ _. all))

blocks_within : (number last : ℕ) (lines : List (List ℕ)) → number + length lines ≤ last + 1 → AreWithin last (blocks_from number lines)
blocks_within number last [] h = (tt, tt)
blocks_within number last (line ∷ lines) h =
    line_within number last line (blocks_from (number + 1) lines) (omega (arith, h)) (blocks_within (number + 1) last lines (omega (arith, h)))

kept_within : (last : ℕ) (t : Bool) (field : FieldLine) (fields : List FieldLine) → field.line ≤ last → Within last fields → Within last (cond t (field ∷ fields) fields)
kept_within last true field fields h all = (h, all)
kept_within last false field fields h all = all

filter_within : (last : ℕ) (p : FieldLine → Bool) (fields : List FieldLine) → Within last fields → Within last (filter p fields)
filter_within last p [] all = tt
filter_within last p (field ∷ fields) all = kept_within last (p field) field (filter p fields) all.0 (filter_within last p fields all.1)

firsts_within : (last : ℕ) (fields : List FieldLine) → Within last fields → Within last (firsts fields)
firsts_within last [] all = tt
firsts_within last (field ∷ fields) all = (all.0, filter_within last (λ other. not (is_same field.cap other.cap)) (firsts fields) (firsts_within last fields all.1))

-- the first entry

first_within : (text : List ℕ) (last : ℕ) (blocks : List (List FieldLine)) (found : Option (List FieldLine)) → AllByRecursion (Within last) blocks → slice_get blocks 0 ≡ found → ((fields : List FieldLine) → found ≡ Some fields → firsts fields ≡ field_lines_of text 0) → (found ≡ None → [] ≡ field_lines_of text 0) → Within last (field_lines_of text 0)
first_within text last blocks None all is some none = subst (Within last) (none refl) tt
first_within text last [] (Some fields) all is some none = absurd (none-some fields is)
first_within text last (block ∷ blocks) (Some fields) all is some none =
    let same : block ≡ fields = cc in
    subst (Within last) (some fields refl) (firsts_within last fields (subst (Within last) same all.0))

fit_behind : (before last most : ℕ) (fields : List FieldLine) → before + last ≤ most → Within last fields → AllByRecursion (λ field. line_behind before field ≤ most) fields
fit_behind before last most [] h all = tt
fit_behind before last most (field ∷ fields) h all = (omega (arith, h, all.0), fit_behind before last most fields h all.1)

-- the lines of the first entry of a text behind others are not too many to count
pub first_lines_fit : (before most : ℕ) (text : List ℕ) (fields : List FieldLine) → before + length text ≤ most → fields ≡ field_lines_of text 0 → AllByRecursion (λ field. line_behind before field ≤ most) fields
first_lines_fit before most text fields h is =
    let blocks = blocks_from 1 (lines_of text) in
    let few = lines_count text in
    let all = blocks_within 1 (length text) (lines_of text) (omega (arith, few)) in
    fit_behind before (length text) most fields h
    (subst (Within (length text)) (sym is)
    (first_within text (length text) blocks.entries (slice_get blocks.entries 0) all.1 refl (λ found e. lines_of_some text 0 found e) (λ e. lines_of_none text 0 e)))
