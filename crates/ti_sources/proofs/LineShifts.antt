-- Lines that come before a text move the line of each field by their number.
use Rattle.std.proofs.Common.{◌≡◌, ℕ, ◌+◌, Bool, true, false, not, List, [], ◌∷◌, ◌++◌, Option, Some, None, refl, sym, ap, ◌∙◌, append_assoc, arith, subst}
use Rattle.std.specs.Prelude.{⊤, if◌then◌else◌, ◌==◌, cond, map, option_map}
use Rattle.std.specs.List.{filter, cons_option}
use Rattle.std.proofs.lemmas.List.{map-append}
use Rattle.ti_caps.specs.Table.{place_in}
use Rattle.ti_sources.specs.LinedTexts.{line_behind}
use Rattle.ti_source.specs.declared.lines.FieldLine.{FieldLine}
use Rattle.ti_source.specs.Fields.{is_skipped, is_use}
use Rattle.ti_source.specs.Layout.{Marked, cut_of, mark_of, marked_at, marked_in, marked_with, onto_name, skip_white, trim_end}
use Rattle.ti_source.specs.Lines.{Blocks, after_names, begin_block, begins_entry, blocks_from, field_line, firsts, is_further, is_same, line_blocks, named_line, onto_blocks, part_line, part_lines, split_line}
use Rattle.ti_source.specs.Marks.{at_sign, equals, hash}
use Rattle.ti_source.specs.Scan.{before_name}

-- the field, so many lines further on
abbrev pub moved : ℕ → FieldLine → FieldLine
moved k field = field_line (k + field.line) field.cap

-- a function of a choice is a choice of its values
chosen : {A B : Type 0} (f : A → B) (t : Bool) (x y : A) (u v : B) → u ≡ f x → v ≡ f y → (if t then u else v) ≡ f (if t then x else y)
chosen f true x y u v p q = p
chosen f false x y u v p q = q

-- a part of a line: what it says on a line so many lines further on is that, moved, and its field is on its line

abbrev pub IsOn : ℕ → Option FieldLine → Type 0
IsOn line None = ⊤
IsOn line (Some field) = field.line ≡ line

abbrev Moves : ℕ → ℕ → Option FieldLine → Option FieldLine → Type 0
Moves k line further own = (further ≡ option_map (moved k) own) × IsOn line own

both_move : (k line : ℕ) (t : Bool) (x y u v : Option FieldLine) → Moves k line x u → Moves k line y v → Moves k line (if t then x else y) (if t then u else v)
both_move k line true x y u v p q = p
both_move k line false x y u v p q = q

name_moves : (k line : ℕ) (found : Option ℕ) → Moves k line (named_line (k + line) found) (named_line line found)
name_moves k line None = (refl, tt)
name_moves k line (Some cap) = (refl, refl)

abbrev SplitMoves : ℕ → ℕ → List ℕ → Option Marked → Type 0
SplitMoves k line field found = Moves k line (split_line (k + line) field found) (split_line line field found)

name_further : (front : List ℕ) (b : ℕ) (found : Option Marked) → option_map (before_name (front ++ b ∷ [])) found ≡ option_map (before_name front) (option_map (onto_name b) found)
name_further front b None = refl
name_further front b (Some m) = ap (λ name. Some (marked_with name m.mark m.value)) (append_assoc front (b ∷ []) m.name)

name_whole : (found : Option Marked) → option_map (before_name []) found ≡ found
name_whole None = refl
name_whole (Some m) = refl

-- one of four values
one_of : {A : Type 0} (o : A) (P : A → Type 0) (t u v : Bool) (x y z w : A) → o ≡ (if t then x else (if u then y else (if v then z else w))) → P x → P y → P z → P w → P o
one_of o P true u v x y z w e p q r s = subst P (sym e) p
one_of o P false true v x y z w e p q r s = subst P (sym e) q
one_of o P false false true x y z w e p q r s = subst P (sym e) r
one_of o P false false false x y z w e p q r s = subst P (sym e) s

-- whatever mark comes first behind the bytes of a name
marks_move : (k line : ℕ) (field rest front : List ℕ) → SplitMoves k line field (option_map (before_name front) (marked_in rest))
marks_move k line field [] front = name_moves k line (place_in (trim_end field))
marks_move k line field (b ∷ rest) front =
    let name = front ++ [] in
    one_of (mark_of b) (λ o. SplitMoves k line field (option_map (before_name front) (marked_at o b rest (marked_in rest)))) (b == at_sign) (b == hash) (b == equals) _ _ _ _ refl
    (name_moves k line (place_in name)) (name_moves k line (place_in name))
    (both_move k line (is_use name) (Some (field_line (k + line) None)) (named_line (k + line) (place_in name)) (Some (field_line line None)) (named_line line (place_in name)) (refl, refl) (name_moves k line (place_in name)))
    (subst (SplitMoves k line field) (name_further front b (marked_in rest)) (marks_move k line field rest (front ++ b ∷ [])))

split_moves : (k line : ℕ) (field : List ℕ) → SplitMoves k line field (marked_in field)
split_moves k line field = subst (SplitMoves k line field) (name_whole (marked_in field)) (marks_move k line field field [])

part_moves : (k line : ℕ) (part : List ℕ) → Moves k line (part_line (k + line) part) (part_line line part)
unfolding part_line
part_moves k line part =
    let field = skip_white part in
    both_move k line (is_skipped field) None (split_line (k + line) field (marked_in field)) None (split_line line field (marked_in field)) (refl, tt) (split_moves k line field)

part_moved : (k line : ℕ) (part : List ℕ) → part_line (k + line) part ≡ option_map (moved k) (part_line line part)
part_moved k line part = (part_moves k line part).0

pub part_on : (line : ℕ) (part : List ℕ) → IsOn line (part_line line part)
part_on line part = (part_moves 0 line part).1

one_moved : {A B : Type 0} (f : A → B) (o : Option A) (xs : List A) → cons_option (option_map f o) (map f xs) ≡ map f (cons_option o xs)
one_moved f None xs = refl
one_moved f (Some x) xs = refl

parts_moved : (k line : ℕ) (parts : List (List ℕ)) → part_lines (k + line) parts ≡ map (moved k) (part_lines line parts)
parts_moved k line [] = refl
parts_moved k line (part ∷ parts) =
    ap (λ o. cons_option o (part_lines (k + line) parts)) (part_moved k line part)
    ∙ (ap (cons_option (option_map (moved k) (part_line line part))) (parts_moved k line parts)
    ∙ one_moved (moved k) (part_line line part) (part_lines line parts))

-- lines

abbrev blocks_of : List FieldLine → List (List FieldLine) → Blocks
blocks_of ahead entries = record { ahead = ahead; entries = entries }

abbrev entries_moved : ℕ → List (List FieldLine) → List (List FieldLine)
entries_moved k entries = map (λ (fields : List FieldLine). map (moved k) fields) entries

moved_blocks : ℕ → Blocks → Blocks
moved_blocks k blocks = blocks_of (map (moved k) blocks.ahead) (entries_moved k blocks.entries)

begun_moved : (k : ℕ) (fields : List FieldLine) (behind : Blocks) → begin_block (map (moved k) fields) (moved_blocks k behind) ≡ moved_blocks k (begin_block fields behind)
unfolding moved_blocks
begun_moved k fields behind =
    ap (λ (own : List FieldLine). blocks_of [] (own ∷ entries_moved k behind.entries)) (sym (map-append (moved k) fields behind.ahead))

further_moved : (k : ℕ) (fields : List FieldLine) (behind : Blocks) → onto_blocks (map (moved k) fields) (moved_blocks k behind) ≡ moved_blocks k (onto_blocks fields behind)
unfolding moved_blocks
further_moved k fields behind =
    ap (λ (own : List FieldLine). blocks_of own (entries_moved k behind.entries)) (sym (map-append (moved k) fields behind.ahead))

line_moved : (k number : ℕ) (line : List ℕ) (behind : Blocks) → line_blocks (k + number) line (moved_blocks k behind) ≡ moved_blocks k (line_blocks number line behind)
unfolding line_blocks
line_moved k number line behind =
    let names = after_names (cut_of line).ended in
    let parts = (cut_of line).ended in
    let later = moved_blocks k behind in
    chosen (moved_blocks k) (begins_entry line) (begin_block (part_lines number names) behind) (if is_further line then onto_blocks (part_lines number parts) behind else behind)
    (begin_block (part_lines (k + number) names) later) (if is_further line then onto_blocks (part_lines (k + number) parts) later else later)
    (ap (λ fields. begin_block fields later) (parts_moved k number names) ∙ begun_moved k (part_lines number names) behind)
    (chosen (moved_blocks k) (is_further line) (onto_blocks (part_lines number parts) behind) behind (onto_blocks (part_lines (k + number) parts) later) later
    (ap (λ fields. onto_blocks fields later) (parts_moved k number parts) ∙ further_moved k (part_lines number parts) behind) refl)

blocks_moved : (k number : ℕ) (lines : List (List ℕ)) → blocks_from (k + number) lines ≡ moved_blocks k (blocks_from number lines)
unfolding moved_blocks
blocks_moved k number [] = refl
blocks_moved k number (line ∷ lines) =
    let next : (k + number) + 1 ≡ k + (number + 1) = omega arith in
    ap (line_blocks (k + number) line) (ap (λ n. blocks_from n lines) next ∙ blocks_moved k (number + 1) lines)
    ∙ line_moved k number line (blocks_from (number + 1) lines)

-- the fields that count

kept_moved : (k : ℕ) (t : Bool) (field : FieldLine) (fields : List FieldLine) → cond t (moved k field ∷ map (moved k) fields) (map (moved k) fields) ≡ map (moved k) (cond t (field ∷ fields) fields)
kept_moved k true field fields = refl
kept_moved k false field fields = refl

filter_moved : (k : ℕ) (p : Option ℕ → Bool) (fields : List FieldLine) → filter (λ (field : FieldLine). p field.cap) (map (moved k) fields) ≡ map (moved k) (filter (λ (field : FieldLine). p field.cap) fields)
filter_moved k p [] = refl
filter_moved k p (field ∷ fields) =
    ap (λ (rest : List FieldLine). cond (p field.cap) (moved k field ∷ rest) rest) (filter_moved k p fields)
    ∙ kept_moved k (p field.cap) field (filter (λ (other : FieldLine). p other.cap) fields)

firsts_moved : (k : ℕ) (fields : List FieldLine) → firsts (map (moved k) fields) ≡ map (moved k) (firsts fields)
firsts_moved k [] = refl
firsts_moved k (field ∷ fields) =
    ap (λ (rest : List FieldLine). moved k field ∷ filter (λ (other : FieldLine). not (is_same field.cap other.cap)) rest) (firsts_moved k fields)
    ∙ ap (λ (rest : List FieldLine). moved k field ∷ rest) (filter_moved k (λ cap. not (is_same field.cap cap)) (firsts fields))

lines_moved : (k : ℕ) (fields : List FieldLine) → map (λ (field : FieldLine). field.line) (map (moved k) fields) ≡ map (line_behind k) fields
lines_moved k [] = refl
lines_moved k (field ∷ fields) = ap (λ (rest : List ℕ). line_behind k field ∷ rest) (lines_moved k fields)

-- the lines of the fields that count, of an entry whose first line and further lines these are
pub entry_moved : (k number : ℕ) (names : List (List ℕ)) (lines : List (List ℕ)) → map (λ (field : FieldLine). field.line) (firsts (part_lines (k + number) names ++ (blocks_from ((k + number) + 1) lines).ahead)) ≡ map (line_behind k) (firsts (part_lines number names ++ (blocks_from (number + 1) lines).ahead))
unfolding moved_blocks
entry_moved k number names lines =
    let next : (k + number) + 1 ≡ k + (number + 1) = omega arith in
    let first = part_lines number names in
    let ahead = (blocks_from (number + 1) lines).ahead in
    let later : (blocks_from ((k + number) + 1) lines).ahead ≡ map (moved k) ahead = ap (λ (b : Blocks). b.ahead) (ap (λ n. blocks_from n lines) next ∙ blocks_moved k (number + 1) lines) in
    ap (λ (fields : List FieldLine). map (λ (field : FieldLine). field.line) (firsts (fields ++ (blocks_from ((k + number) + 1) lines).ahead))) (parts_moved k number names)
    ∙ (ap (λ (fields : List FieldLine). map (λ (field : FieldLine). field.line) (firsts (map (moved k) first ++ fields))) later
    ∙ (ap (λ (fields : List FieldLine). map (λ (field : FieldLine). field.line) (firsts fields)) (sym (map-append (moved k) first ahead))
    ∙ (ap (map (λ (field : FieldLine). field.line)) (firsts_moved k (first ++ ahead)) ∙ lines_moved k (firsts (first ++ ahead)))))
