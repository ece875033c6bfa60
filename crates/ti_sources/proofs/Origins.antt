-- The bytes of joined lines, and those at their places in the text.
use Rattle.std.proofs.Common.{◌≡◌, ◌<◌, ◌≤◌, ◌+◌, ◌-◌, ◌∙◌, ◌++◌, ℕ, zero, suc, Bool, true, false, List, [], ◌∷◌, Option, Some, None, ap, arith, drop, length, length-append, refl, sym, Bor, get_or, map, take}
use Rattle.std.specs.Prelude.{if◌then◌else◌, nat_lt, slice_get}
use Rattle.std.proofs.lemmas.Bool.{cond-true, cond-false, lt-ltb, le-ltb, ltb-true, ltb-false}
use Rattle.std.proofs.lemmas.List.{drop-map, take_rest}
use Rattle.std.proofs.lemmas.Option.{slice_get_within}
use Rattle.ti_sources.specs.Joins.{Lines, before, continues, joined_from, joined_lines, with_blank}
use Rattle.ti_sources.specs.JoinedPlaces.{byte_at, or_none, place_behind, place_from, place_of}
use Rattle.ti_sources.specs.declared.joined_places.Place.{Place}
use Rattle.ti_source.specs.Layout.{is_white, skip_white}

-- ---- elements of lists

get_front : (xs ys : List ℕ) (i : ℕ) → i < length xs → slice_get (xs ++ ys) i ≡ slice_get xs i
get_front [] ys i l = absurd (omega (arith, l))
get_front (x ∷ xs) ys zero l = refl
get_front (x ∷ xs) ys (suc i) l = get_front xs ys i (omega (arith, l))

get_back : (xs ys : List ℕ) (i : ℕ) → slice_get (xs ++ ys) (length xs + i) ≡ slice_get ys i
get_back [] ys i = let e : 0 + i ≡ i = omega arith in ap (λ n. slice_get ys n) e
get_back (x ∷ xs) ys i =
    let e : length (x ∷ xs) + i ≡ suc (length xs + i) = omega arith in
    ap (λ n. slice_get ((x ∷ xs) ++ ys) n) e ∙ get_back xs ys i

get_drop : (k : ℕ) (lines : List (List ℕ)) (i : ℕ) → slice_get (drop k lines) i ≡ slice_get lines (k + i)
get_drop zero lines i = let e : i ≡ 0 + i = omega arith in ap (λ n. slice_get lines n) e
get_drop (suc k) [] i = refl
get_drop (suc k) (line ∷ lines) i =
    let e : suc (k + i) ≡ suc k + i = omega arith in
    get_drop k lines i ∙ ap (λ n. slice_get (line ∷ lines) n) e

-- ---- the bytes of joined lines

-- the byte with this many others before it, behind a line
abbrev val_behind : ℕ → List (List ℕ) → Option ℕ
val_behind past [] = None
val_behind past (next ∷ behind) =
    if nat_lt past (length (skip_white next)) then slice_get (skip_white next) past
    else val_behind (past - length (skip_white next)) behind

abbrev val_from : ℕ → List ℕ → List (List ℕ) → Option ℕ
val_from at line behind = if nat_lt at (length line) then slice_get line at else val_behind (at - length line) behind

abbrev val_of : ℕ → List (List ℕ) → Option ℕ
val_of at [] = None
val_of at (line ∷ behind) = val_from at line behind

-- what was taken up is behind the line
grown : (acc w : List ℕ) (behind : List (List ℕ)) (at : ℕ)
    → val_from at (acc ++ w) behind ≡ (if nat_lt at (length acc) then slice_get acc at else (if nat_lt (at - length acc) (length w) then slice_get w (at - length acc) else val_behind ((at - length acc) - length w) behind))
grown acc w behind at = by (nat_lt at (length acc)) refl
  where
    taken : Option ℕ
    taken = if nat_lt (at - length acc) (length w) then slice_get w (at - length acc) else val_behind ((at - length acc) - length w) behind

    later : (u : Bool) → length acc ≤ at → nat_lt (at - length acc) (length w) ≡ u → val_from at (acc ++ w) behind ≡ (if u then slice_get w (at - length acc) else val_behind ((at - length acc) - length w) behind)
    later true g f =
        let l : at - length acc < length w = ltb-true (at - length acc) (length w) f in
        let m : at < length (acc ++ w) = rw (length-append acc w) (omega (arith, l, g)) in
        let e : at ≡ length acc + (at - length acc) = omega (arith, g) in
        cond-true (nat_lt at (length (acc ++ w))) (slice_get (acc ++ w) at) (val_behind (at - length (acc ++ w)) behind) (lt-ltb at (length (acc ++ w)) m)
        ∙ (ap (λ n. slice_get (acc ++ w) n) e ∙ get_back acc w (at - length acc))
    later false g f =
        let l : length w ≤ at - length acc = ltb-false (at - length acc) (length w) f in
        let m : length (acc ++ w) ≤ at = rw (length-append acc w) (omega (arith, l, g)) in
        let e : at - length (acc ++ w) ≡ (at - length acc) - length w = rw (length-append acc w) (omega arith) in
        cond-false (nat_lt at (length (acc ++ w))) (slice_get (acc ++ w) at) (val_behind (at - length (acc ++ w)) behind) (le-ltb at (length (acc ++ w)) m)
        ∙ ap (λ n. val_behind n behind) e

    by : (t : Bool) → nat_lt at (length acc) ≡ t → val_from at (acc ++ w) behind ≡ (if nat_lt at (length acc) then slice_get acc at else taken)
    by true e =
        let l : at < length acc = ltb-true at (length acc) e in
        let m : at < length (acc ++ w) = rw (length-append acc w) (omega (arith, l)) in
        cond-true (nat_lt at (length (acc ++ w))) (slice_get (acc ++ w) at) (val_behind (at - length (acc ++ w)) behind) (lt-ltb at (length (acc ++ w)) m)
        ∙ (get_front acc w at l ∙ sym (cond-true (nat_lt at (length acc)) (slice_get acc at) taken e))
    by false e =
        later (nat_lt (at - length acc) (length w)) (ltb-false at (length acc) e) refl ∙ sym (cond-false (nat_lt at (length acc)) (slice_get acc at) taken e)

abbrev either : List ℕ → List ℕ → List (List ℕ) → Bool → Lines
either acc next behind t = if t then with_blank (joined_from (acc ++ skip_white next) behind) else before acc (joined_from next behind)

within : (at : ℕ) (line : List ℕ) (behind : List (List ℕ)) → at < length line → slice_get line at ≡ val_from at line behind
within at line behind l = sym (cond-true (nat_lt at (length line)) (slice_get line at) (val_behind (at - length line) behind) (lt-ltb at (length line) l))

first_by : (acc next : List ℕ) (behind : List (List ℕ)) (at : ℕ)
    → (at < length (joined_from (acc ++ skip_white next) behind).first → slice_get (joined_from (acc ++ skip_white next) behind).first at ≡ val_from at (acc ++ skip_white next) behind)
    → (t : Bool) → at < length (either acc next behind t).first → slice_get (either acc next behind t).first at ≡ val_from at acc (next ∷ behind)
first_by acc next behind at ih true l = ih l ∙ grown acc (skip_white next) behind at
first_by acc next behind at ih false l = within at acc (next ∷ behind) l

first_byte : (acc : List ℕ) (behind : List (List ℕ)) (at : ℕ) → at < length (joined_from acc behind).first → slice_get (joined_from acc behind).first at ≡ val_from at acc behind
first_byte acc [] at l = within at acc [] l
first_byte acc (next ∷ behind) at l = first_by acc next behind at (first_byte (acc ++ skip_white next) behind at) (continues acc next) l

abbrev HasOthers : List ℕ → List (List ℕ) → ℕ → Lines → Type 0
HasOthers acc behind at lines = (k : ℕ) → at < length (or_none (slice_get lines.others k)) → slice_get (or_none (slice_get lines.others k)) at ≡ val_of at (drop k behind)

others_by : (acc next : List ℕ) (behind : List (List ℕ)) (at : ℕ) → HasOthers (acc ++ skip_white next) behind at (joined_from (acc ++ skip_white next) behind) → HasOthers next behind at (joined_from next behind)
    → (t : Bool) → HasOthers acc (next ∷ behind) at (either acc next behind t)
others_by acc next behind at taken begun true zero l = absurd (omega (arith, l))
others_by acc next behind at taken begun true (suc k) l = taken k l
others_by acc next behind at taken begun false zero l = first_byte next behind at l
others_by acc next behind at taken begun false (suc k) l = begun k l

others_byte : (acc : List ℕ) (behind : List (List ℕ)) (at : ℕ) → HasOthers acc behind at (joined_from acc behind)
others_byte acc [] at k l = absurd (none_there k l)
  where
    none_there : (k : ℕ) → at < length (or_none (slice_get [] k)) → ⊥
    none_there k l = omega (arith, l)
others_byte acc (next ∷ behind) at k l =
    others_by acc next behind at (others_byte (acc ++ skip_white next) behind at) (others_byte next behind at) (continues acc next) k l

joined_byte : (lines : List (List ℕ)) (k at : ℕ) → at < length (or_none (slice_get (joined_lines lines) k)) → slice_get (or_none (slice_get (joined_lines lines) k)) at ≡ val_of at (drop k lines)
joined_byte [] k at l = absurd (omega (arith, l))
joined_byte (line ∷ behind) zero at l = first_byte line behind at l
joined_byte (line ∷ behind) (suc k) at l = others_byte line behind at k l

-- ---- the bytes at places

shorter_by : (b : ℕ) (rest : List ℕ) → length (skip_white rest) ≤ length rest → (t : Bool) → length (if t then skip_white rest else b ∷ rest) ≤ length (b ∷ rest)
shorter_by b rest was true = omega (arith, was)
shorter_by b rest was false = omega arith

pub skip_shorter : (line : List ℕ) → length (skip_white line) ≤ length line
skip_shorter [] = omega arith
skip_shorter (b ∷ rest) = shorter_by b rest (skip_shorter rest) (is_white b)

-- behind the white space before it a line is the same
white_by : (b : ℕ) (rest : List ℕ) (past : ℕ) → slice_get rest ((length rest - length (skip_white rest)) + past) ≡ slice_get (skip_white rest) past
    → (t : Bool) → slice_get (b ∷ rest) ((length (b ∷ rest) - length (if t then skip_white rest else b ∷ rest)) + past) ≡ slice_get (if t then skip_white rest else b ∷ rest) past
white_by b rest past ih true =
    let l = skip_shorter rest in
    let e : (length (b ∷ rest) - length (skip_white rest)) + past ≡ suc ((length rest - length (skip_white rest)) + past) = omega (arith, l) in
    ap (λ n. slice_get (b ∷ rest) n) e ∙ ih
white_by b rest past ih false =
    let e : (length (b ∷ rest) - length (b ∷ rest)) + past ≡ past = omega arith in
    ap (λ n. slice_get (b ∷ rest) n) e

white_get : (line : List ℕ) (past : ℕ) → slice_get line ((length line - length (skip_white line)) + past) ≡ slice_get (skip_white line) past
white_get [] past = ap (λ n. slice_get [] n) (white_none past)
  where
    white_none : (past : ℕ) → (0 - 0) + past ≡ past
    white_none past = omega arith
white_get (b ∷ rest) past = white_by b rest past (white_get rest past) (is_white b)

-- a byte is at a place of lines, of which the first has a number
record IsThere (number : ℕ) (lines : List (List ℕ)) (byte : ℕ) (place : Place) : Type 0 where
  later : number ≤ place.line
  found : slice_get (or_none (slice_get lines (place.line - number))) (place.column - 1) ≡ Some byte

here : (number column byte : ℕ) (line : List ℕ) (behind : List (List ℕ)) → slice_get line column ≡ Some byte → IsThere number (line ∷ behind) byte (record { line = number; column = column + 1 })
here number column byte line behind is = record {
  later = omega arith;
  found =
      let e : number - number ≡ 0 = omega arith in
      let f : (column + 1) - 1 ≡ column = omega arith in
      ap (λ n. slice_get (or_none (slice_get (line ∷ behind) n)) ((column + 1) - 1)) e ∙ (ap (λ n. slice_get line n) f ∙ is);
}

further : (number byte : ℕ) (line : List ℕ) (behind : List (List ℕ)) (place : Place) → IsThere (number + 1) behind byte place → IsThere number (line ∷ behind) byte place
further number byte line behind place is = record {
  later = let l = is.later in omega (arith, l);
  found =
      let l = is.later in
      let e : place.line - number ≡ suc (place.line - (number + 1)) = omega (arith, l) in
      ap (λ n. slice_get (or_none (slice_get (line ∷ behind) n)) (place.column - 1)) e ∙ is.found;
}

behind_by : (number past byte : ℕ) (next : List ℕ) (behind : List (List ℕ)) → (val_behind (past - length (skip_white next)) behind ≡ Some byte → IsThere (number + 1) behind byte (place_behind (number + 1) (past - length (skip_white next)) behind))
    → (t : Bool) → (if t then slice_get (skip_white next) past else val_behind (past - length (skip_white next)) behind) ≡ Some byte
    → IsThere number (next ∷ behind) byte (if t then record { line = number; column = (length next - length (skip_white next)) + past + 1 } else place_behind (number + 1) (past - length (skip_white next)) behind)
behind_by number past byte next behind ih true is = here number ((length next - length (skip_white next)) + past) byte next behind (white_get next past ∙ is)
behind_by number past byte next behind ih false is = further number byte next behind (place_behind (number + 1) (past - length (skip_white next)) behind) (ih is)

behind_there : (number past byte : ℕ) (behind : List (List ℕ)) → val_behind past behind ≡ Some byte → IsThere number behind byte (place_behind number past behind)
behind_there number past byte [] is = absurd (none_some is)
  where
    none_some : None ≡ Some byte → ⊥
    none_some is = cc
behind_there number past byte (next ∷ behind) is =
    behind_by number past byte next behind (behind_there (number + 1) (past - length (skip_white next)) byte behind) (nat_lt past (length (skip_white next))) is

from_by : (number at byte : ℕ) (line : List ℕ) (behind : List (List ℕ)) (t : Bool) → (if t then slice_get line at else val_behind (at - length line) behind) ≡ Some byte
    → IsThere number (line ∷ behind) byte (if t then record { line = number; column = at + 1 } else place_behind (number + 1) (at - length line) behind)
from_by number at byte line behind true is = here number at byte line behind is
from_by number at byte line behind false is =
    further number byte line behind (place_behind (number + 1) (at - length line) behind) (behind_there (number + 1) (at - length line) byte behind is)

from_there : (number at byte : ℕ) (lines : List (List ℕ)) → val_of at lines ≡ Some byte → IsThere number lines byte (place_from number at lines)
from_there number at byte [] is = absurd (none_some is)
  where
    none_some : None ≡ Some byte → ⊥
    none_some is = cc
from_there number at byte (line ∷ behind) is = from_by number at byte line behind (nat_lt at (length line)) is

pub bytes_kept : (lines : List (List ℕ)) (place : Place) (byte : ℕ) → 1 ≤ place.line → byte_at (joined_lines lines) place ≡ Some byte → byte_at lines (place_of lines place) ≡ Some byte
unfolding place_of
bytes_kept lines place byte one is =
    let k = place.line - 1 in
    let at = place.column - 1 in
    let there = slice_get_within (or_none (slice_get (joined_lines lines) k)) at byte is in
    let found = from_there place.line at byte (drop k lines) (sym (joined_byte lines k at there) ∙ is) in
    let to = place_from place.line at (drop k lines) in
    let later : place.line ≤ to.line = found.later in
    let e : k + (to.line - place.line) ≡ to.line - 1 = omega (arith, one, later) in
    sym (ap (λ (line : Option (List ℕ)). slice_get (or_none line) (to.column - 1)) (get_drop k lines (to.line - place.line) ∙ ap (λ n. slice_get lines n) e)) ∙ found.found

-- ---- the code: lines that are lent

pub lines_behind : (lines : List (Bor (List ℕ))) (count : ℕ) → map (λ line. line.now) (take (length lines - count) (drop count lines)) ≡ drop count (map (λ line. line.now) lines)
lines_behind lines count =
    let now = λ (line : Bor (List ℕ)). line.now in
    ap (map now) (take_rest lines count) ∙ sym (drop-map now count lines)

pub cut_lines : (lines rest : List (Bor (List ℕ))) (first : Bor (List ℕ)) → lines ≡ first ∷ rest → map (λ line. line.now) lines ≡ first.now ∷ map (λ line. line.now) rest
cut_lines lines rest first cut = ap (map (λ (line : Bor (List ℕ)). line.now)) cut

pub no_lines : (lines : List (Bor (List ℕ))) → length lines ≡ 0 → map (λ line. line.now) lines ≡ []
no_lines [] none = refl
no_lines (line ∷ lines) none = absurd (omega (arith, none))

pub there : (lines : List (Bor (List ℕ))) (at : ℕ) (d : Bor (List ℕ)) → at < length lines → drop at (map (λ line. line.now) lines) ≡ (get_or lines at d).now ∷ drop (at + 1) (map (λ line. line.now) lines)
there [] at d l = absurd (omega (arith, l))
there (line ∷ lines) zero d l = refl
there (line ∷ lines) (suc at) d l =
    let e : suc (at + 1) ≡ suc at + 1 = omega arith in
    there lines at d (omega (arith, l))
    ∙ ap (λ (n : ℕ). (get_or lines at d).now ∷ drop n (map (λ (l : Bor (List ℕ)). l.now) (line ∷ lines))) e

pub all_behind : (lines : List (Bor (List ℕ))) (at : ℕ) → length lines ≤ at → drop at (map (λ line. line.now) lines) ≡ []
all_behind [] zero l = refl
all_behind [] (suc at) l = refl
all_behind (line ∷ lines) zero l = absurd (omega (arith, l))
all_behind (line ∷ lines) (suc at) l = all_behind lines at (omega (arith, l))

-- ---- the code: steps to the place

pub on_none : (number at : ℕ) (lines : List (List ℕ)) → lines ≡ [] → record { line = number; column = at + 1 } ≡ place_from number at lines
on_none number at lines none = sym (ap (place_from number at) none)

pub on_first : (number at : ℕ) (line : List ℕ) (lines behind : List (List ℕ)) → lines ≡ line ∷ behind → at < length line → record { line = number; column = at + 1 } ≡ place_from number at lines
on_first number at line lines behind cut l =
    sym (ap (place_from number at) cut
    ∙ cond-true (nat_lt at (length line)) (record { line = number; column = at + 1 }) (place_behind (number + 1) (at - length line) behind) (lt-ltb at (length line) l))

pub behind_first : (number at : ℕ) (line : List ℕ) (lines behind : List (List ℕ)) → lines ≡ line ∷ behind → length line ≤ at → place_behind (number + 1) (at - length line) behind ≡ place_from number at lines
behind_first number at line lines behind cut l =
    sym (ap (place_from number at) cut
    ∙ cond-false (nat_lt at (length line)) (record { line = number; column = at + 1 }) (place_behind (number + 1) (at - length line) behind) (le-ltb at (length line) l))

pub behind_all : (number past : ℕ) (rest : List (List ℕ)) (whole : Place) → rest ≡ [] → place_behind number past rest ≡ whole → record { line = number; column = past + 1 } ≡ whole
behind_all number past rest whole none was = sym (ap (place_behind number past) none) ∙ was

next_is : (number past : ℕ) (next own : List ℕ) (behind : List (List ℕ)) → own ≡ skip_white next
    → place_behind number past (next ∷ behind) ≡ (if nat_lt past (length own) then record { line = number; column = (length next - length own) + past + 1 } else place_behind (number + 1) (past - length own) behind)
next_is number past next own behind is =
    ap (λ (o : List ℕ). if nat_lt past (length o) then record { line = number; column = (length next - length o) + past + 1 } else place_behind (number + 1) (past - length o) behind) (sym is)

pub on_next : (number past : ℕ) (next own : List ℕ) (rest behind : List (List ℕ)) (whole : Place) → rest ≡ next ∷ behind → own ≡ skip_white next → past < length own → place_behind number past rest ≡ whole
    → record { line = number; column = (length next - length own) + past + 1 } ≡ whole
on_next number past next own rest behind whole cut is l was =
    sym (ap (place_behind number past) cut ∙ (next_is number past next own behind is
    ∙ cond-true (nat_lt past (length own)) (record { line = number; column = (length next - length own) + past + 1 }) (place_behind (number + 1) (past - length own) behind) (lt-ltb past (length own) l))) ∙ was

pub behind_next : (number past : ℕ) (next own : List ℕ) (rest behind : List (List ℕ)) (whole : Place) → rest ≡ next ∷ behind → own ≡ skip_white next → length own ≤ past → place_behind number past rest ≡ whole
    → place_behind (number + 1) (past - length own) behind ≡ whole
behind_next number past next own rest behind whole cut is l was =
    sym (ap (place_behind number past) cut ∙ (next_is number past next own behind is
    ∙ cond-false (nat_lt past (length own)) (record { line = number; column = (length next - length own) + past + 1 }) (place_behind (number + 1) (past - length own) behind) (le-ltb past (length own) l))) ∙ was
