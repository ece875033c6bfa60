-- The fields that count, by parts, lines and entries, are those that reading returns.
use Rattle.std.proofs.Common.{◌≡◌, ◌≢◌, ℕ, zero, suc, ◌+◌, ◌-◌, Bool, true, false, not, ◌&&◌, ◌||◌, List, [], ◌∷◌, ◌++◌, Option, Some, None, Result, Ok, Err, refl, sym, ap, ◌∙◌, subst, arith, append-nil, append_assoc}
use Rattle.std.specs.Prelude.{⊤, if◌then◌else◌, ◌==◌, map, cond, slice_get, slice_index_or, option_map, option_to_list}
use Rattle.std.specs.List.{filter, cons_option, list_any, list_all}
use Rattle.std.proofs.lemmas.Bool.{cond-true, cond-false, eqb-true}
use Rattle.std.proofs.lemmas.Bool.Decides.{nat_tests}
use Rattle.std.proofs.lemmas.List.Elements.{filter_agree}
use Rattle.std.proofs.lemmas.Option.{slice_get-map}
use Rattle.std.proofs.lemmas.List.Folds.{list_any-append}
use Rattle.ti_caps.specs.declared.types.Kind.TheVariants as kinds
use Rattle.ti_caps.specs.declared.value.Value.TheVariants as values
use Rattle.ti_caps.specs.Table.{place_in, kind_of, is_kind}
use Rattle.ti_source.specs.declared.layout.Mark.{Mark}
use Rattle.ti_source.specs.declared.layout.Mark.TheVariants.{At, Hash, Equals}
use Rattle.ti_source.specs.declared.lines.FieldLine.{FieldLine}
use Rattle.ti_source.specs.declared.parts.Reading.{Reading}
use Rattle.ti_source.specs.declared.parts.Reading.TheVariants.{Skipped, Unknown, Says}
use Rattle.ti_source.specs.declared.types.FaultKind.{FaultKind}
use Rattle.ti_source.specs.declared.types.FaultKind.TheVariants as faults
use Rattle.ti_source.specs.declared.types.Field.{Field}
use Rattle.ti_source.specs.declared.types.Field.TheVariants.{Set, Include}
use Rattle.ti_source.specs.declared.types.RawEntry.{RawEntry}
use Rattle.ti_source.specs.declared.types.SourceFault.{SourceFault}
use Rattle.ti_source.specs.Blocks.{further_lines, is_held, with_line, with_lines, with_part}
use Rattle.ti_source.specs.Escapes.{Decoding, decoding_of}
use Rattle.ti_source.specs.Fields.{◌>>=◌, cap_of, is_cap, is_told, repeats, is_use, flag_reading, number_reading, decoded_reading, string_reading, known_reading, named_reading, marked_reading, split_reading, is_skipped, reading_of, is_long, bounded_reading, ended_reading, with_said, with_reading, add_field, add_last, add_fields, add_cut, is_no_name, new_entry, named_entry, open_names, begun_by, entry_on}
use Rattle.ti_source.specs.Layout.{Cut, Marked, cut_of, is_white, lines_of, marked_in, put_field, skip_white, trim_end}
use Rattle.ti_source.specs.Lines.{Blocks, LinesAreOfFields, after_names, begin_block, begins_entry, blocks_from, caps_of_lines, caps_of_raw, field_line, field_lines_of, firsts, is_further, is_same, line_blocks, lined_of, marked_line, named_line, onto_blocks, part_line, part_lines, split_line}
use Rattle.ti_source.specs.Numbers.{number_of}
use Rattle.ti_source.specs.Source.{Progress, all_of, begins_white, begun, continued, fault_at, is_passed, lines_behind, no_progress, read_line, read_lines, source_of}
use Rattle.ti_source.proofs.Spellings.{choose}

-- filters

abbrev kept : {X : Type 0} → Bool → X → List X → List X
kept t x xs = cond t (x ∷ xs) xs

kept_both : {X : Type 0} (p : X → Bool) (x : X) (t : Bool) (xs : List X) → filter p (kept t x xs) ≡ kept (t && p x) x (filter p xs)
kept_both p x true xs = refl
kept_both p x false xs = refl

filter_both : {X : Type 0} (p q : X → Bool) (xs : List X) → filter p (filter q xs) ≡ filter (λ x. q x && p x) xs
filter_both p q [] = refl
filter_both p q (x ∷ xs) = kept_both p x (q x) (filter q xs) ∙ ap (kept (q x && p x) x) (filter_both p q xs)

filter_all : {X : Type 0} (p : X → Bool) → ((x : X) → p x ≡ true) → (xs : List X) → filter p xs ≡ xs
filter_all p all [] = refl
filter_all p all (x ∷ xs) = ap (λ t. kept t x (filter p xs)) (all x) ∙ ap (λ ys. x ∷ ys) (filter_all p all xs)

-- one more field

same_is : (a b : Option ℕ) → is_same a b ≡ true → a ≡ b
same_is None b e = cc
same_is (Some c) None e = cc
same_is (Some c) (Some d) e = ap Some (sym (eqb-true d c e))

eqb_flip : (c d : ℕ) → (c == d) ≡ (d == c)
eqb_flip c d = grind (arith, nat_tests)

same_flip : (d : ℕ) (a : Option ℕ) → is_cap d a ≡ is_same a (Some d)
same_flip d None = refl
same_flip d (Some c) = eqb_flip c d

same_none : (a : Option ℕ) → is_same a None ≡ false
same_none None = refl
same_none (Some c) = refl

or_last : (s t : Bool) → (s || (t || false)) ≡ (s || t)
or_last true t = refl
or_last false true = refl
or_last false false = refl

held_push : (fields : List FieldLine) (x : FieldLine) (b : Option ℕ) → is_held (fields ++ x ∷ []) b ≡ (is_held fields b || is_same x.cap b)
held_push fields x None = sym (same_none x.cap)
held_push fields x (Some d) =
    list_any-append (λ field. is_cap d field.cap) fields (x ∷ [])
    ∙ (or_last (is_held fields (Some d)) (is_cap d x.cap) ∙ ap (λ t. is_held fields (Some d) || t) (same_flip d x.cap))

neither : (s h : Bool) → (not s && not h) ≡ not (h || s)
neither true true = refl
neither true false = refl
neither false true = refl
neither false false = refl

hides : (s h : Bool) → (s ≡ true → h ≡ true) → (not s && not h) ≡ not h
hides true h e = ap not (sym (e refl))
hides false h e = refl

-- the new fields among one more, given the fields so far
new_beside : (fields : List FieldLine) (x : FieldLine) (b : Option ℕ) (t : Bool) → is_held fields x.cap ≡ t → (not (is_same x.cap b) && not (is_held fields b)) ≡ not (is_held (if t then fields else fields ++ x ∷ []) b)
new_beside fields x b true e =
    hides (is_same x.cap b) (is_held fields b) (λ same. subst (λ o. is_held fields o ≡ true) (same_is x.cap b same) e)
new_beside fields x b false e = neither (is_same x.cap b) (is_held fields b) ∙ ap not (sym (held_push fields x b))

one_in : (fields zs : List FieldLine) (x : FieldLine) (t : Bool) → fields ++ kept (not t) x zs ≡ (if t then fields else fields ++ x ∷ []) ++ zs
one_in fields zs x true = refl
one_in fields zs x false = sym (append_assoc fields (x ∷ []) zs)

with_step : (fields xs : List FieldLine) (x : FieldLine) → with_lines fields (x ∷ xs) ≡ with_lines (with_line fields x) xs
unfolding with_lines
with_step fields xs x =
    let is_new : FieldLine → Bool = λ y. not (is_held fields y.cap) in
    let is_apart : FieldLine → Bool = λ y. not (is_same x.cap y.cap) in
    let is_newer : FieldLine → Bool = λ y. not (is_held (with_line fields x) y.cap) in
    ap (λ zs. fields ++ kept (not (is_held fields x.cap)) x zs)
    (filter_both is_new is_apart (firsts xs) ∙ filter_agree (λ y. is_apart y && is_new y) is_newer (λ y. new_beside fields x y.cap (is_held fields x.cap) refl) (firsts xs))
    ∙ one_in fields (filter is_newer (firsts xs)) x (is_held fields x.cap)

pub with_none : (fields : List FieldLine) → with_lines fields [] ≡ fields
unfolding with_lines
with_none fields = append-nil fields

with_more : (fields xs ys : List FieldLine) → with_lines fields (xs ++ ys) ≡ with_lines (with_lines fields xs) ys
with_more fields [] ys = ap (λ fs. with_lines fs ys) (sym (with_none fields))
with_more fields (x ∷ xs) ys =
    with_step fields (xs ++ ys) x ∙ (with_more (with_line fields x) xs ys ∙ ap (λ fs. with_lines fs ys) (sym (with_step fields xs x)))

none_held : (cap : Option ℕ) → not (is_held [] cap) ≡ true
none_held None = refl
none_held (Some cap) = refl

with_all : (xs : List FieldLine) → with_lines [] xs ≡ firsts xs
unfolding with_lines
with_all xs = filter_all (λ y. not (is_held [] y.cap)) (λ y. none_held y.cap) (firsts xs)

with_option : (fields xs : List FieldLine) (o : Option FieldLine) → with_lines fields (cons_option o xs) ≡ with_lines (with_part fields o) xs
with_option fields xs None = refl
with_option fields xs (Some x) = with_step fields xs x

-- parts of a line

pub parts_more : (line : ℕ) (fields next all : List FieldLine) (part rest behind : List ℕ) → cut_of rest ≡ put_field part (cut_of behind) → next ≡ with_part fields (part_line line part) → with_lines fields (part_lines line (cut_of rest).ended) ≡ all → with_lines next (part_lines line (cut_of behind).ended) ≡ all
parts_more line fields next all part rest behind cut is was =
    ap (λ fs. with_lines fs (part_lines line (cut_of behind).ended)) is
    ∙ (sym (ap (λ c. with_lines fields (part_lines line c.ended)) cut ∙ with_option fields (part_lines line (cut_of behind).ended) (part_line line part)) ∙ was)

pub parts_end : (line : ℕ) (fields all : List FieldLine) (rest : List ℕ) → cut_of rest ≡ record { ended = []; last = rest } → with_lines fields (part_lines line (cut_of rest).ended) ≡ all → fields ≡ all
parts_end line fields all rest cut was = sym (ap (λ c. with_lines fields (part_lines line c.ended)) cut ∙ with_none fields) ∙ was

pub first_parts : (line : ℕ) (fields next : List FieldLine) (names text behind : List ℕ) → cut_of text ≡ put_field names (cut_of behind) → next ≡ with_lines fields (part_lines line (cut_of behind).ended) → next ≡ with_lines fields (part_lines line (after_names (cut_of text).ended))
first_parts line fields next names text behind cut is = is ∙ ap (λ c. with_lines fields (part_lines line (after_names c.ended))) (sym cut)

pub no_parts : (line : ℕ) (fields : List FieldLine) (text : List ℕ) → cut_of text ≡ record { ended = []; last = text } → fields ≡ with_lines fields (part_lines line (after_names (cut_of text).ended))
no_parts line fields text cut = sym (ap (λ c. with_lines fields (part_lines line (after_names c.ended))) cut ∙ with_none fields)

-- lines

further_ahead : (number : ℕ) (line : List ℕ) (behind : Blocks) → begins_entry line ≡ false → line_blocks number line behind ≡ record { ahead = further_lines number line ++ behind.ahead; entries = behind.entries }
unfolding line_blocks
further_ahead number line behind none =
    let parts = part_lines number (cut_of line).ended in
    let further : (t : Bool) → (if t then onto_blocks parts behind else behind) ≡ record { ahead = (if t then parts else []) ++ behind.ahead; entries = behind.entries } =
    λ t. if_further parts behind t in
    cond-false (begins_entry line) _ _ none ∙ further (is_further line)
  where
    if_further : (parts : List FieldLine) (behind : Blocks) (t : Bool) → (if t then onto_blocks parts behind else behind) ≡ record { ahead = (if t then parts else []) ++ behind.ahead; entries = behind.entries }
    if_further parts behind true = refl
    if_further parts behind false = refl

begun_ahead : (number : ℕ) (line : List ℕ) (behind : Blocks) → begins_entry line ≡ true → line_blocks number line behind ≡ begin_block (part_lines number (after_names (cut_of line).ended)) behind
unfolding line_blocks
begun_ahead number line behind begins = cond-true (begins_entry line) _ _ begins

pub lines_more : (number : ℕ) (fields next all : List FieldLine) (line rest behind : List ℕ) → lines_of rest ≡ line ∷ lines_of behind → begins_entry line ≡ false → next ≡ with_lines fields (further_lines number line) → with_lines fields (blocks_from number (lines_of rest)).ahead ≡ all → with_lines next (blocks_from (number + 1) (lines_of behind)).ahead ≡ all
lines_more number fields next all line rest behind cut none is was =
    let later = blocks_from (number + 1) (lines_of behind) in
    ap (λ fs. with_lines fs later.ahead) is
    ∙ (sym (with_more fields (further_lines number line) later.ahead)
    ∙ (sym (ap (λ ls. with_lines fields (blocks_from number ls).ahead) cut ∙ ap (λ b. with_lines fields b.ahead) (further_ahead number line later none)) ∙ was))

pub lines_end : (number : ℕ) (fields all : List FieldLine) (line rest behind : List ℕ) → lines_of rest ≡ line ∷ lines_of behind → begins_entry line ≡ true → with_lines fields (blocks_from number (lines_of rest)).ahead ≡ all → fields ≡ all
lines_end number fields all line rest behind cut begins was =
    let later = blocks_from (number + 1) (lines_of behind) in
    sym (ap (λ ls. with_lines fields (blocks_from number ls).ahead) cut ∙ (ap (λ b. with_lines fields b.ahead) (begun_ahead number line later begins) ∙ with_none fields)) ∙ was

pub lines_out : (number : ℕ) (fields all : List FieldLine) (rest : List ℕ) → lines_of rest ≡ [] → with_lines fields (blocks_from number (lines_of rest)).ahead ≡ all → fields ≡ all
lines_out number fields all rest cut was = sym (ap (λ ls. with_lines fields (blocks_from number ls).ahead) cut ∙ with_none fields) ∙ was

-- entries

abbrev block_in : ℕ → List ℕ → ℕ → Option (List FieldLine)
block_in number rest left = slice_get (blocks_from number (lines_of rest)).entries left

pub passed_line : (number left : ℕ) (all : Option (List FieldLine)) (line rest behind : List ℕ) → lines_of rest ≡ line ∷ lines_of behind → begins_entry line ≡ false → block_in number rest left ≡ all → block_in (number + 1) behind left ≡ all
passed_line number left all line rest behind cut none was =
    let later = blocks_from (number + 1) (lines_of behind) in
    sym (ap (λ ls. slice_get (blocks_from number ls).entries left) cut ∙ ap (λ b. slice_get b.entries left) (further_ahead number line later none)) ∙ was

begun_line : (number left : ℕ) (line rest behind : List ℕ) → lines_of rest ≡ line ∷ lines_of behind → begins_entry line ≡ true → block_in number rest left ≡ slice_get ((part_lines number (after_names (cut_of line).ended) ++ (blocks_from (number + 1) (lines_of behind)).ahead) ∷ (blocks_from (number + 1) (lines_of behind)).entries) left
begun_line number left line rest behind cut begins =
    let later = blocks_from (number + 1) (lines_of behind) in
    ap (λ ls. slice_get (blocks_from number ls).entries left) cut ∙ ap (λ b. slice_get b.entries left) (begun_ahead number line later begins)

pub one_fewer : (left next : ℕ) → next ≡ left - 1 → left ≢ 0 → left ≡ suc next
one_fewer left next is some = omega (arith, is, some)

pub passed_entry : (number left next : ℕ) (all : Option (List FieldLine)) (line rest behind : List ℕ) → lines_of rest ≡ line ∷ lines_of behind → begins_entry line ≡ true → left ≡ suc next → block_in number rest left ≡ all → block_in (number + 1) behind next ≡ all
passed_entry number left next all line rest behind cut begins fewer was =
    let later = blocks_from (number + 1) (lines_of behind) in
    sym (begun_line number left line rest behind cut begins
    ∙ ap (slice_get ((part_lines number (after_names (cut_of line).ended) ++ later.ahead) ∷ later.entries)) fewer) ∙ was

pub found_entry : (number left : ℕ) (all : Option (List FieldLine)) (line rest behind : List ℕ) → lines_of rest ≡ line ∷ lines_of behind → begins_entry line ≡ true → left ≡ 0 → block_in number rest left ≡ all → all ≡ Some (part_lines number (after_names (cut_of line).ended) ++ (blocks_from (number + 1) (lines_of behind)).ahead)
found_entry number left all line rest behind cut begins zero_left was =
    let later = blocks_from (number + 1) (lines_of behind) in
    sym was ∙ (begun_line number left line rest behind cut begins
    ∙ ap (slice_get ((part_lines number (after_names (cut_of line).ended) ++ later.ahead) ∷ later.entries)) zero_left)

pub no_entry : (number left : ℕ) (all : Option (List FieldLine)) (rest : List ℕ) → lines_of rest ≡ [] → block_in number rest left ≡ all → all ≡ None
no_entry number left all rest cut was = sym was ∙ ap (λ ls. slice_get (blocks_from number ls).entries left) cut

abbrev firsts_in : Option (List FieldLine) → List FieldLine
firsts_in None = []
firsts_in (Some fields) = firsts fields

firsts_at : (blocks : List (List FieldLine)) (entry : ℕ) (o : Option (List FieldLine)) → slice_get blocks entry ≡ o → slice_index_or (map firsts blocks) entry [] ≡ firsts_in o
firsts_at [] entry o e = ap firsts_in e
firsts_at (b ∷ blocks) zero o e = ap firsts_in e
firsts_at (b ∷ blocks) (suc entry) o e = firsts_at blocks entry o e

lines_at : (text : List ℕ) (entry : ℕ) (o : Option (List FieldLine)) → slice_get (blocks_from 1 (lines_of text)).entries entry ≡ o → field_lines_of text entry ≡ firsts_in o
unfolding field_lines_of lined_of
lines_at text entry o e = firsts_at (blocks_from 1 (lines_of text)).entries entry o e

pub lines_of_none : (text : List ℕ) (entry : ℕ) → slice_get (blocks_from 1 (lines_of text)).entries entry ≡ None → [] ≡ field_lines_of text entry
lines_of_none text entry e = sym (lines_at text entry None e)

pub lines_of_some : (text : List ℕ) (entry : ℕ) (fields : List FieldLine) → slice_get (blocks_from 1 (lines_of text)).entries entry ≡ Some fields → firsts fields ≡ field_lines_of text entry
lines_of_some text entry fields e = sym (lines_at text entry (Some fields) e)

pub block_is : (first ahead none middle block : List FieldLine) → none ≡ [] → middle ≡ with_lines none first → block ≡ with_lines middle ahead → block ≡ firsts (first ++ ahead)
block_is first ahead none middle block bare began went =
    went ∙ (ap (λ fs. with_lines fs ahead) (began ∙ ap (λ fs. with_lines fs first) bare) ∙ (sym (with_more [] first ahead) ∙ with_all (first ++ ahead)))

-- the meaning of a part by reading

abbrev line_said : ℕ → Reading → Option FieldLine
line_said line (Says field odd) = Some (field_line line (cap_of field))
line_said line _ = None

abbrev IsSaid : ℕ → Option FieldLine → Result Reading FaultKind → Type 0
IsSaid line o (Ok reading) = o ≡ line_said line reading
IsSaid line o (Err kind) = ⊤

choose_both : {A B : Type 0} (P : A → B → Type 0) (t : Bool) (x y : A) (u v : B) → P x u → P y v → P (if t then x else y) (if t then u else v)
choose_both P true x y u v p q = p
choose_both P false x y u v p q = q

flag_said : (line : ℕ) (found : Option ℕ) → IsSaid line (named_line line found) (flag_reading found)
flag_said line None = refl
flag_said line (Some cap) = choose (IsSaid line (named_line line (Some cap))) (is_kind (kind_of cap) kinds.Flag) (Ok (Says (Set cap values.Flag) 0)) (Err faults.WrongKind) (λ _. refl) (λ _. tt)

number_said : (line cap : ℕ) (read : Result ℕ FaultKind) → IsSaid line (named_line line (Some cap)) (read >>= λ n. Ok (Says (Set cap (values.Number n)) 0))
number_said line cap (Ok n) = refl
number_said line cap (Err kind) = tt

string_said : (line cap : ℕ) (decoded : Option Decoding) → IsSaid line (named_line line (Some cap)) (decoded_reading cap decoded)
string_said line cap None = tt
string_said line cap (Some d) = refl

known_said : (line cap : ℕ) (mark : Mark) (value : List ℕ) → IsSaid line (named_line line (Some cap)) (known_reading cap mark value)
unfolding number_reading string_reading
known_said line cap At value = refl
known_said line cap Hash value =
    choose (IsSaid line (named_line line (Some cap))) (is_kind (kind_of cap) kinds.Number) (number_of value >>= λ n. Ok (Says (Set cap (values.Number n)) 0)) (Err faults.WrongKind) (λ _. number_said line cap (number_of value)) (λ _. tt)
known_said line cap Equals value =
    choose (IsSaid line (named_line line (Some cap))) (is_kind (kind_of cap) kinds.String) (decoded_reading cap (decoding_of value)) (Err faults.WrongKind) (λ _. string_said line cap (decoding_of value)) (λ _. tt)

named_said : (line : ℕ) (found : Option ℕ) (mark : Mark) (value : List ℕ) → IsSaid line (named_line line found) (named_reading found mark value)
named_said line None mark value = refl
named_said line (Some cap) mark value = known_said line cap mark value

marked_said : (line : ℕ) (mark : Mark) (name value : List ℕ) → IsSaid line (marked_line line mark name) (marked_reading mark name value)
marked_said line At name value = named_said line (place_in name) At value
marked_said line Hash name value = named_said line (place_in name) Hash value
marked_said line Equals name value =
    choose_both (IsSaid line) (is_use name) (Some (field_line line None)) (named_line line (place_in name)) (Ok (Says (Include value) 0)) (named_reading (place_in name) Equals value) refl (named_said line (place_in name) Equals value)

split_said : (line : ℕ) (field : List ℕ) (m : Option Marked) → IsSaid line (split_line line field m) (split_reading field m)
split_said line field None = flag_said line (place_in (trim_end field))
split_said line field (Some m) = marked_said line m.mark m.name m.value

part_said : (line : ℕ) (part : List ℕ) → IsSaid line (part_line line part) (reading_of part)
unfolding part_line reading_of
part_said line part =
    let field = skip_white part in
    choose_both (IsSaid line) (is_skipped field) None (split_line line field (marked_in field)) (Ok Skipped) (split_reading field (marked_in field)) refl (split_said line field (marked_in field))

-- an entry gets the fields that count

bound_same : (reading other : Reading) → bounded_reading reading ≡ Ok other → reading ≡ other
bound_same reading other = choose (λ r. r ≡ Ok other → reading ≡ other) (is_long reading) (Err faults.TooLong) (Ok reading) (λ _ e. cc) (λ _ e. cc)

bind_ok : {A B : Type 0} (first : Result A FaultKind) (next : A → Result B FaultKind) (y : B) → (first >>= next) ≡ Ok y → (x : A) × (first ≡ Ok x) × (next x ≡ Ok y)
bind_ok (Ok x) next y is = (x, refl, is)
bind_ok (Err kind) next y is = cc

held_told : (fields : List FieldLine) (said : List Field) (cap : ℕ) → caps_of_lines fields ≡ map cap_of said → is_held fields (Some cap) ≡ is_told said cap
unfolding is_told
held_told fields said cap same =
    sym (any_map (λ f. f.cap) fields) ∙ (ap (list_any (is_cap cap)) same ∙ any_map cap_of said)
  where
    any_map : {X : Type 0} (on : X → Option ℕ) (xs : List X) → list_any (is_cap cap) (map on xs) ≡ list_any (λ x. is_cap cap (on x)) xs
    any_map on [] = refl
    any_map on (x ∷ xs) = ap (λ t. is_cap cap (on x) || t) (any_map on xs)

repeats_same : (fields : List FieldLine) (said : List Field) (cap : Option ℕ) → caps_of_lines fields ≡ map cap_of said → is_held fields cap ≡ repeats said cap
repeats_same fields said None same = refl
repeats_same fields said (Some cap) same = held_told fields said cap same

map_push : {X Y : Type 0} (f : X → Y) (xs : List X) (x : X) → map f (xs ++ x ∷ []) ≡ map f xs ++ f x ∷ []
map_push f [] x = refl
map_push f (y ∷ xs) x = ap (λ ys. f y ∷ ys) (map_push f xs x)

said_caps : (line place : ℕ) (fields : List FieldLine) (raw : RawEntry) (field : Field) (t : Bool) → caps_of_lines fields ≡ caps_of_raw raw → caps_of_lines (if t then fields else fields ++ field_line line (cap_of field) ∷ []) ≡ caps_of_raw (with_said t place raw field)
said_caps line place fields raw field true same = same
said_caps line place fields raw field false same =
    map_push (λ f. f.cap) fields (field_line line (cap_of field)) ∙ (ap (λ cs. cs ++ cap_of field ∷ []) same ∙ sym (map_push cap_of raw.fields field))

reading_caps : (line place : ℕ) (fields : List FieldLine) (raw : RawEntry) (reading : Reading) → caps_of_lines fields ≡ caps_of_raw raw → caps_of_lines (with_part fields (line_said line reading)) ≡ caps_of_raw (with_reading place raw reading)
unfolding with_reading
reading_caps line place fields raw Skipped same = same
reading_caps line place fields raw Unknown same = same
reading_caps line place fields raw (Says field odd) same =
    ap (λ t. caps_of_lines (if t then fields else fields ++ field_line line (cap_of field) ∷ [])) (repeats_same fields raw.fields (cap_of field) same)
    ∙ said_caps line place fields raw field (repeats raw.fields (cap_of field)) same

part_caps : (line place : ℕ) (fields : List FieldLine) (raw next : RawEntry) (part : List ℕ) → add_field place raw part ≡ Ok next → caps_of_lines fields ≡ caps_of_raw raw → caps_of_lines (with_part fields (part_line line part)) ≡ caps_of_raw next
unfolding add_field ended_reading
part_caps line place fields raw next part is same =
    let outer = bind_ok (reading_of part >>= bounded_reading) (λ reading. Ok (with_reading place raw reading)) next is in
    let inner = bind_ok (reading_of part) bounded_reading outer.0 outer.1 in
    let read : reading_of part ≡ Ok outer.0 = inner.1 ∙ ap Ok (bound_same inner.0 outer.0 inner.2) in
    let said : part_line line part ≡ line_said line outer.0 = subst (IsSaid line (part_line line part)) read (part_said line part) in
    let grown : with_reading place raw outer.0 ≡ next = let e = outer.2 in cc in
    ap (λ o. caps_of_lines (with_part fields o)) said ∙ (reading_caps line place fields raw outer.0 same ∙ ap caps_of_raw grown)

parts_caps : (line place : ℕ) (fields : List FieldLine) (raw next : RawEntry) (parts : List (List ℕ)) → add_fields place raw parts ≡ Ok next → caps_of_lines fields ≡ caps_of_raw raw → caps_of_lines (with_lines fields (part_lines line parts)) ≡ caps_of_raw next
parts_caps line place fields raw next [] is same = let e : raw ≡ next = cc in ap caps_of_lines (with_none fields) ∙ (same ∙ ap caps_of_raw e)
parts_caps line place fields raw next (part ∷ parts) is same =
    let b = bind_ok (add_field place raw part) (λ one. add_fields place one parts) next is in
    ap caps_of_lines (with_option fields (part_lines line parts) (part_line line part))
    ∙ parts_caps line place (with_part fields (part_line line part)) b.0 next parts b.2 (part_caps line place fields raw b.0 part b.1 same)

last_same : (raw next : RawEntry) (part : List ℕ) → add_last raw part ≡ Ok next → raw ≡ next
unfolding add_last
last_same raw next part =
    choose (λ r. r ≡ Ok next → raw ≡ next) (list_all is_white part) (Ok raw) (reading_of part >>= λ reading. Err faults.OpenField) (λ _ e. cc)
    (λ _ e. let b = bind_ok (reading_of part) (λ reading. Err faults.OpenField) next e in let never = b.2 in cc)

cut_caps : (line place : ℕ) (fields : List FieldLine) (raw next : RawEntry) (cut : Cut) → add_cut place raw cut ≡ Ok next → caps_of_lines fields ≡ caps_of_raw raw → caps_of_lines (with_lines fields (part_lines line cut.ended)) ≡ caps_of_raw next
unfolding add_cut
cut_caps line place fields raw next cut is same =
    let b = bind_ok (add_fields place raw cut.ended) (λ one. add_last one cut.last) next is in
    parts_caps line place fields raw b.0 cut.ended b.1 same ∙ ap caps_of_raw (last_same b.0 next cut.last b.2)

named_empty : (place : ℕ) (names : List ℕ) (raw : RawEntry) → named_entry place names ≡ Ok raw → [] ≡ caps_of_raw raw
unfolding named_entry
named_empty place names raw =
    choose (λ r. r ≡ Ok raw → [] ≡ caps_of_raw raw) (is_no_name names) (Err faults.NoName) _ (λ _ e. cc)
    (λ _. choose (λ r. r ≡ Ok raw → [] ≡ caps_of_raw raw) _ (Err faults.TooLong) (Ok (new_entry place names)) (λ _ e. cc)
    (λ _ e. let is : new_entry place names ≡ raw = cc in ap caps_of_raw is))

open_never : (names : List ℕ) (raw : RawEntry) → open_names names ≡ Ok raw → ⊥
open_never names raw = choose (λ r. r ≡ Ok raw → ⊥) (is_no_name names) (Err faults.NoName) (Err faults.OpenField) (λ _ e. cc) (λ _ e. cc)

begun_caps : (line place : ℕ) (raw : RawEntry) (ended : List (List ℕ)) (last : List ℕ) → begun_by place ended last ≡ Ok raw → caps_of_lines (with_lines [] (part_lines line (after_names ended))) ≡ caps_of_raw raw
begun_caps line place raw [] last is = absurd (open_never last raw is)
begun_caps line place raw (names ∷ parts) last is =
    let b = bind_ok (named_entry place names) (λ one. add_cut place one (record { ended = parts; last = last })) raw is in
    cut_caps line place [] b.0 raw (record { ended = parts; last = last }) b.2 (named_empty place names b.0 b.1)

entry_caps : (line place : ℕ) (raw : RawEntry) (text : List ℕ) → entry_on place text ≡ Ok raw → caps_of_lines (with_lines [] (part_lines line (after_names (cut_of text).ended))) ≡ caps_of_raw raw
unfolding entry_on
entry_caps line place raw text is = begun_caps line place raw (cut_of text).ended (cut_of text).last is

-- the whole text

abbrev Tracks : Option RawEntry → List FieldLine → Type 0
Tracks None fields = ⊤
Tracks (Some raw) fields = caps_of_lines fields ≡ caps_of_raw raw

abbrev open_caps : Option RawEntry → List FieldLine → List FieldLine → List (List (Option ℕ))
open_caps None fields ahead = []
open_caps (Some raw) fields ahead = caps_of_lines (with_lines fields ahead) ∷ []

abbrev firsts_caps : List FieldLine → List (Option ℕ)
firsts_caps fields = caps_of_lines (firsts fields)

-- the capabilities of all entries, if those of the open one so far are these
abbrev all_caps : Progress → List FieldLine → Blocks → List (List (Option ℕ))
all_caps progress fields blocks = map caps_of_raw progress.done ++ (open_caps progress.open_entry fields blocks.ahead ++ map firsts_caps blocks.entries)

abbrev AllTold : ℕ → List (List ℕ) → Blocks → Type 0
AllTold number lines blocks = (progress : Progress) (fields : List FieldLine) (raws : List RawEntry) → Tracks progress.open_entry fields → read_lines number lines progress ≡ Ok raws → map caps_of_raw raws ≡ all_caps progress fields blocks

ended_caps : (done : List RawEntry) (o : Option RawEntry) (fields : List FieldLine) → Tracks o fields → map caps_of_raw (done ++ option_to_list o) ≡ map caps_of_raw done ++ (open_caps o fields [] ++ [])
ended_caps done None fields t = ap (map caps_of_raw) (append-nil done) ∙ sym (append-nil (map caps_of_raw done))
ended_caps done (Some raw) fields t = map_push caps_of_raw done raw ∙ ap (λ cs. map caps_of_raw done ++ cs ∷ []) (sym (ap caps_of_lines (with_none fields) ∙ t))

behind_ok : (number : ℕ) (r : Result Progress FaultKind) (next : Progress → Result (List RawEntry) SourceFault) (raws : List RawEntry) → lines_behind number r next ≡ Ok raws → (p : Progress) × (r ≡ Ok p) × (next p ≡ Ok raws)
behind_ok number (Ok p) next raws is = (p, refl, is)
behind_ok number (Err kind) next raws is = cc

further_told : (number : ℕ) (line : List ℕ) (lines : List (List ℕ)) (behind : Blocks) (progress : Progress) (o : Option RawEntry) (fields : List FieldLine) (raws : List RawEntry) → AllTold (number + 1) lines behind → Tracks o fields → lines_behind number (continued number line progress o) (read_lines (number + 1) lines) ≡ Ok raws → map caps_of_raw raws ≡ all_caps (record { done = progress.done; open_entry = o }) fields (onto_blocks (part_lines number (cut_of line).ended) behind)
further_told number line lines behind progress None fields raws law tracks is = cc
further_told number line lines behind progress (Some raw) fields raws law tracks is =
    let parts = part_lines number (cut_of line).ended in
    let after : RawEntry → Progress = λ next. record { done = progress.done; open_entry = Some next } in
    let outer = behind_ok number (continued number line progress (Some raw)) (read_lines (number + 1) lines) raws is in
    let inner = bind_ok (add_cut number raw (cut_of line)) (λ next. Ok (after next)) outer.0 outer.1 in
    let went : after inner.0 ≡ outer.0 = let e = inner.2 in cc in
    law (after inner.0) (with_lines fields parts) raws (cut_caps number number fields raw inner.0 (cut_of line) inner.1 tracks) (ap (read_lines (number + 1) lines) went ∙ outer.2)
    ∙ ap (λ fs. map caps_of_raw progress.done ++ ((caps_of_lines fs ∷ []) ++ map firsts_caps behind.entries)) (sym (with_more fields parts behind.ahead))

begun_told : (number : ℕ) (line : List ℕ) (lines : List (List ℕ)) (behind : Blocks) (progress : Progress) (fields : List FieldLine) (raws : List RawEntry) → AllTold (number + 1) lines behind → Tracks progress.open_entry fields → lines_behind number (begun number line progress) (read_lines (number + 1) lines) ≡ Ok raws → map caps_of_raw raws ≡ all_caps progress fields (begin_block (part_lines number (after_names (cut_of line).ended)) behind)
begun_told number line lines behind progress fields raws law tracks is =
    let parts = part_lines number (after_names (cut_of line).ended) in
    let after : RawEntry → Progress = λ raw. record { done = all_of progress; open_entry = Some raw } in
    let outer = behind_ok number (begun number line progress) (read_lines (number + 1) lines) raws is in
    let inner = bind_ok (entry_on number line) (λ raw. Ok (after raw)) outer.0 outer.1 in
    let went : after inner.0 ≡ outer.0 = let e = inner.2 in cc in
    let told = law (after inner.0) (with_lines [] parts) raws (entry_caps number number inner.0 line inner.1) (ap (read_lines (number + 1) lines) went ∙ outer.2) in
    let done = map caps_of_raw progress.done in
    let before = open_caps progress.open_entry fields [] in
    let rest : List FieldLine → List (List (Option ℕ)) = λ fs. caps_of_lines fs ∷ map firsts_caps behind.entries in
    let all : List FieldLine = with_lines (with_lines [] parts) behind.ahead in
    told
    ∙ (ap (λ ds. ds ++ rest all) (ended_caps progress.done progress.open_entry fields tracks ∙ ap (λ os. done ++ os) (append-nil before))
    ∙ (append_assoc done before (rest all) ∙ ap (λ fs. done ++ (before ++ rest fs)) (sym (with_more [] parts behind.ahead) ∙ with_all (parts ++ behind.ahead))))

abbrev read_as : Bool → Bool → ℕ → List ℕ → Progress → Result Progress FaultKind
read_as passed white number line progress = if passed then Ok progress else (if white then continued number line progress progress.open_entry else begun number line progress)

abbrev blocks_as : Bool → Bool → ℕ → List ℕ → Blocks → Blocks
blocks_as passed white number line behind =
    if not passed && not white then begin_block (part_lines number (after_names (cut_of line).ended)) behind
    else (if not passed && white then onto_blocks (part_lines number (cut_of line).ended) behind else behind)

line_told : (number : ℕ) (line : List ℕ) (lines : List (List ℕ)) (behind : Blocks) (progress : Progress) (fields : List FieldLine) (raws : List RawEntry) (passed white : Bool) → AllTold (number + 1) lines behind → Tracks progress.open_entry fields → lines_behind number (read_as passed white number line progress) (read_lines (number + 1) lines) ≡ Ok raws → map caps_of_raw raws ≡ all_caps progress fields (blocks_as passed white number line behind)
line_told number line lines behind progress fields raws true white law tracks is = law progress fields raws tracks is
line_told number line lines behind progress fields raws false true law tracks is = further_told number line lines behind progress progress.open_entry fields raws law tracks is
line_told number line lines behind progress fields raws false false law tracks is = begun_told number line lines behind progress fields raws law tracks is

all_told : (number : ℕ) (lines : List (List ℕ)) → AllTold number lines (blocks_from number lines)
unfolding read_line line_blocks
all_told number [] progress fields raws tracks is =
    let e : all_of progress ≡ raws = cc in
    ap (map caps_of_raw) (sym e) ∙ ended_caps progress.done progress.open_entry fields tracks
all_told number (line ∷ lines) progress fields raws tracks is =
    line_told number line lines (blocks_from (number + 1) lines) progress fields raws (is_passed line) (begins_white line) (all_told (number + 1) lines) tracks is

text_told : (text : List ℕ) (raws : List RawEntry) → source_of text ≡ Ok raws → map caps_of_raw raws ≡ map firsts_caps (blocks_from 1 (lines_of text)).entries
unfolding source_of
text_told text raws =
    choose (λ r. r ≡ Ok raws → map caps_of_raw raws ≡ map firsts_caps (blocks_from 1 (lines_of text)).entries) _ (Err (fault_at 0 faults.TooLong)) (read_lines 1 (lines_of text) no_progress) (λ _ e. cc)
    (λ _ is. all_told 1 (lines_of text) no_progress [] raws tt is)

firsts_told : (o : Option (List FieldLine)) (caps : List (Option ℕ)) → option_map firsts_caps o ≡ Some caps → caps_of_lines (firsts_in o) ≡ caps
firsts_told None caps e = cc
firsts_told (Some fields) caps e = cc

pub lines_are_of_fields : LinesAreOfFields
lines_are_of_fields text raws entry raw is there =
    let blocks = (blocks_from 1 (lines_of text)).entries in
    let block = slice_get blocks entry in
    let told : option_map firsts_caps block ≡ Some (caps_of_raw raw) =
    sym (slice_get-map firsts_caps blocks entry)
    ∙ (ap (λ cs. slice_get cs entry) (sym (text_told text raws is)) ∙ (slice_get-map caps_of_raw raws entry ∙ ap (option_map caps_of_raw) there)) in
    ap caps_of_lines (lines_at text entry block refl) ∙ firsts_told block (caps_of_raw raw) told
