-- Entries of several files put together.
use Rattle.std.proofs.Common.{◌≡◌, ◌∙◌, ◌<◌, ◌≤◌, ◌+◌, ℕ, Bool, true, false, List, [], ◌∷◌, ◌++◌, Some, length, refl, sym, ap, append-nil, append_assoc, arith, cond, not, suc, zero}
use Rattle.std.specs.Prelude.{◌-◌, if◌then◌else◌, map, nat_lt, slice_get, slice_index_or}
use Rattle.std.specs.List.{position, position_or_len}
use Rattle.std.proofs.lemmas.Bool.{ltb-true}
use Rattle.std.proofs.lemmas.List.{length-append}
use Rattle.std.proofs.lemmas.Option.{cond_some}
use Rattle.std.proofs.lemmas.Bool.Decides.{nat_tests}
use Rattle.ti_sources.specs.Files.{together}
use Rattle.ti_sources.specs.FurtherLaws.{AloneStays, OwnComeFirst, SpotsAreRight, entry_at}
use Rattle.ti_sources.specs.Spots.{spot_at, spot_from, spot_of}
use Rattle.ti_resolve.specs.Uses.{is_name_in, place_named}
use Rattle.ti_source.specs.declared.types.RawEntry.{RawEntry}

pub alone_stays : AloneStays
alone_stays own = append-nil own

-- ---- the first entry with a name

-- the first of one list, whose head passes or not
first_by : (b : Bool) (n m whole : ℕ) → cond (not b) (1 + n) 0 < suc whole → (n < whole → m ≡ n) → cond (not b) (1 + m) 0 ≡ cond (not b) (1 + n) 0
first_by true n m whole inside same = refl
first_by false n m whole inside same = ap (λ (k : ℕ). 1 + k) (same (omega (arith, inside)))

first_stays : {X : Type 0} (test : X → Bool) (xs ys : List X) → position_or_len test xs < length xs → position_or_len test (xs ++ ys) ≡ position_or_len test xs
first_stays test [] ys inside = absurd (omega (arith, inside))
first_stays test (x ∷ xs) ys inside =
    first_by (test x) (position_or_len test xs) (position_or_len test (xs ++ ys)) (length xs) inside (λ i. first_stays test xs ys i)

within : (n m : ℕ) → n < m → nat_lt n m ≡ true
within n m l = grind (arith, nat_tests)

-- `position` in a list, and in a longer one
position_before : {X : Type 0} (test : X → Bool) (xs ys : List X) (i : ℕ) → position test xs ≡ Some i → position test (xs ++ ys) ≡ Some i
position_before test xs ys i found =
    let parts = cond_some (nat_lt (position_or_len test xs) (length xs)) (position_or_len test xs) i found in
    let inside : position_or_len test xs < length xs = ltb-true _ _ parts.0 in
    let longer : position_or_len test xs < length (xs ++ ys) = omega (arith, inside, length-append xs ys) in
    rw (first_stays test xs ys inside, within _ _ longer) (ap Some parts.1)

pub own_come_first : OwnComeFirst
unfolding place_named
own_come_first own further name place found = position_before (λ raw. is_name_in raw.names name) own further place found

-- ---- the file of an entry

pub less : (n m : ℕ) → nat_lt n m ≡ true → n < m
less n m e = grind (arith, nat_tests)

pub past : (n m : ℕ) → nat_lt n m ≡ false → m ≤ n
past n m e = grind (arith, nat_tests)

pub get_left : {X : Type 0} (xs ys : List X) (i : ℕ) → i < length xs → slice_get (xs ++ ys) i ≡ slice_get xs i
get_left [] ys i inside = absurd (omega (arith, inside))
get_left (x ∷ xs) ys zero inside = refl
get_left (x ∷ xs) ys (suc i) inside = get_left xs ys i (omega (arith, inside))

pub get_right : {X : Type 0} (xs ys : List X) (i : ℕ) → length xs ≤ i → slice_get (xs ++ ys) i ≡ slice_get ys (i - length xs)
get_right [] ys i behind = ap (slice_get ys) (omega arith)
get_right (x ∷ xs) ys zero behind = absurd (omega (arith, behind))
get_right (x ∷ xs) ys (suc i) behind = get_right xs ys i (omega (arith, behind)) ∙ ap (slice_get ys) (omega arith)

-- the list behind these others
seam : (before : List (List RawEntry)) (raws : List RawEntry) (lists : List (List RawEntry)) → slice_index_or (before ++ raws ∷ lists) (length before) [] ≡ raws
seam [] raws lists = refl
seam (first ∷ before) raws lists = seam before raws lists

spot_by : (before lists : List (List RawEntry)) (raws : List RawEntry) (place : ℕ) (b : Bool) → nat_lt place (length raws) ≡ b
    → slice_get (together lists) (place - length raws) ≡ entry_at (before ++ raws ∷ lists) (spot_from (length before + 1) (map length lists) (place - length raws))
    → slice_get (raws ++ together lists) place ≡ entry_at (before ++ raws ∷ lists) (if b then Some (spot_at (length before) place) else spot_from (length before + 1) (map length lists) (place - length raws))
spot_by before lists raws place true e later =
    get_left raws (together lists) place (less place (length raws) e) ∙ ap (λ (l : List RawEntry). slice_get l place) (sym (seam before raws lists))
spot_by before lists raws place false e later = get_right raws (together lists) place (past place (length raws) e) ∙ later

-- files from a number on, behind as many others
spot_shifted : (before lists : List (List RawEntry)) (place : ℕ) → slice_get (together lists) place ≡ entry_at (before ++ lists) (spot_from (length before) (map length lists) place)
spot_shifted before [] place = refl
spot_shifted before (raws ∷ lists) place =
    let rest = place - length raws in
    spot_by before lists raws place (nat_lt place (length raws)) refl
    (spot_shifted (before ++ raws ∷ []) lists rest
    ∙ (ap (λ (ls : List (List RawEntry)). entry_at ls (spot_from (length (before ++ raws ∷ [])) (map length lists) rest)) (append_assoc before (raws ∷ []) lists)
    ∙ ap (λ (n : ℕ). entry_at (before ++ raws ∷ lists) (spot_from n (map length lists) rest)) (length-append before (raws ∷ []))))

pub spots_are_right : SpotsAreRight
unfolding spot_of
spots_are_right lists place = spot_shifted [] lists place
