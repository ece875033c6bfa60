-- One more string in its capability's group.
use Rattle.std.proofs.Common.{◌≡◌, ◌≢◌, ◌⊎◌, ◌<◌, ◌+◌, ◌==◌, ℕ, zero, suc, Bool, true, false, if◌then◌else◌, ◌||◌, List, [], ◌∷◌, ◌++◌, length, length-append, slice_index_or, slice_set, Option, Some, None, inl, inr, refl, sym, ap, ◌∙◌, subst, arith, not}
use Rattle.std.specs.List.{slice_get, sum_by}
use Rattle.std.proofs.lemmas.List.Sums.{sum_by-set, sum_by-append}
use Rattle.std.proofs.lemmas.List.{get_or-set_same, get_or-set_other}
use Rattle.std.proofs.lemmas.Bool.{true≢false}
use Rattle.std.proofs.lemmas.Bool.Decides.{nat_tests}
use Rattle.std.specs.Prelude.{replicate}
use Rattle.vt_term.specs.Size.{IsSize}
use Rattle.ti_rows.specs.Names.{HasFirst, capabilities}
use Rattle.ti_rows.specs.Lists.{IsFirst}
use Rattle.ti_rows.proofs.NameFacts.{firsts_in_order}
use Rattle.ti_rows.proofs.ListFacts.{firsts_in_range}
use Rattle.ti_conforms.specs.Agreement.{SomeLine}
use Rattle.std.proofs.lemmas.Option.{slice_get_within, same_Some, none-some}
use Rattle.ti_rows.specs.declared.rows.Row.{Row}
use Rattle.ti_rows.specs.Names.{order}
use Rattle.ti_rows.specs.Lists.{rank}
use Rattle.ti_rows.proofs.NameFacts.{orders_small}
use Rattle.ti_rows.proofs.ListFacts.{one_of_rank}
use Rattle.ti_cert.specs.Strings.{Strings, allows, group_at, row_string, has_group, total, Adds}
use Rattle.ti_cert.proofs.Ranges.{in_range, is_allowed, is_less}

pub get_more : {A : Type 0} (xs : List A) (x y : A) (k : ℕ) → slice_get (xs ++ x ∷ []) k ≡ Some y → (slice_get xs k ≡ Some y) ⊎ ((k ≡ length xs) × (y ≡ x))
get_more [] x y zero h = inr (refl, sym (same_Some x y h))
get_more [] x y (suc k) h = cc
get_more (z ∷ zs) x y zero h = inl h
get_more (z ∷ zs) x y (suc k) h = further (get_more zs x y k h)
  where
    further : (slice_get zs k ≡ Some y) ⊎ ((k ≡ length zs) × (y ≡ x)) → (slice_get zs k ≡ Some y) ⊎ ((suc k ≡ suc (length zs)) × (y ≡ x))
    further (inl e) = inl e
    further (inr e) = inr (ap suc e.0, e.1)

get_front : {A : Type 0} (xs : List A) (x y : A) (k : ℕ) → slice_get xs k ≡ Some y → slice_get (xs ++ x ∷ []) k ≡ Some y
get_front [] x y k h = absurd (none-some y h)
get_front (z ∷ zs) x y zero h = h
get_front (z ∷ zs) x y (suc k) h = get_front zs x y k h

pub get_last : {A : Type 0} (xs : List A) (x : A) → slice_get (xs ++ x ∷ []) (length xs) ≡ Some x
get_last [] x = refl
get_last (z ∷ zs) x = get_last zs x

pub if_some : {A : Type 0} (b : Bool) (o : Option A) (x : A) → (if b then o else None) ≡ Some x → (b ≡ true) × (o ≡ Some x)
if_some true o x h = (refl, h)
if_some false o x h = cc

pub if_true : {A : Type 0} (b : Bool) (o : Option A) → b ≡ true → (if b then o else None) ≡ o
if_true true o h = refl
if_true false o h = cc

same_or_not : (a b : ℕ) (t : Bool) → (a == b) ≡ t → (a ≡ b) ⊎ (a ≢ b)
same_or_not a b true h = inl (grind (arith, nat_tests))
same_or_not a b false h = inr (λ e. grind (arith, nat_tests))

pub there_within : (s : Strings) (row : Row) (bytes : List ℕ) → row_string s row ≡ Some bytes → rank s.rows s.cols row < length (group_at s (order row))
there_within s row bytes h =
    let p = if_some (allows s.rows s.cols row) (slice_get (group_at s (order row)) (rank s.rows s.cols row)) bytes h in
    slice_get_within (group_at s (order row)) (rank s.rows s.cols row) bytes p.1

pub not_zero : (n k : ℕ) → k < n → not (n == 0) ≡ true
not_zero zero k h = let wrong : ⊥ = omega arith in absurd wrong
not_zero (suc n) k h = not_false (suc n == 0) (grind (arith, nat_tests))
  where
    not_false : (b : Bool) → b ≡ false → not b ≡ true
    not_false true e = absurd (true≢false e)
    not_false false e = refl

pub there_some : (s : Strings) (row : Row) (bytes : List ℕ) → row_string s row ≡ Some bytes → has_group s row ≡ true
there_some s row bytes h = not_zero (length (group_at s (order row))) (rank s.rows s.cols row) (there_within s row bytes h)

not_empty : (xs : List (List ℕ)) (x : List ℕ) → not (length (xs ++ x ∷ []) == 0) ≡ true
not_empty xs x = not_zero (length (xs ++ x ∷ [])) 0 (omega (arith, length-append xs (x ∷ [])))

same_places : (a b : ℕ) → (a == b) ≡ true → a ≡ b
same_places a b h = grind (arith, nat_tests)

other_places : (a b : ℕ) → (a == b) ≡ false → a ≢ b
other_places a b h = λ e. grind (arith, nat_tests)

pub adds : (rows cols : ℕ) (groups : List (List (List ℕ))) (row : Row) (bytes : List ℕ) (g : List (List ℕ)) → length groups ≡ capabilities → allows rows cols row ≡ true
    → rank rows cols row ≡ length (slice_index_or groups (order row) []) → g ≡ slice_index_or groups (order row) [] ++ bytes ∷ []
    → Adds (record { rows = rows; cols = cols; groups = groups }) (record { rows = rows; cols = cols; groups = slice_set groups (order row) g }) row bytes
adds rows cols groups row bytes g many fits place made = record {
  rows_kept = refl;
  cols_kept = refl;
  only = only_that;
  there = if_true (allows rows cols row) (slice_get (group_at new (order row)) (rank rows cols row)) fits
      ∙ (ap (λ (xs : List (List ℕ)). slice_get xs (rank rows cols row)) (here ∙ made) ∙ (ap (λ (k : ℕ). slice_get (before ++ bytes ∷ []) k) place ∙ get_last before bytes));
  kept = kept_that;
  later = λ other found h same.
      let w = there_within old other found h in
      let w2 : rank rows cols other < length before = subst (λ (n : ℕ). rank rows cols other < length (slice_index_or groups n [])) same w in
      is_less (rank rows cols other) (rank rows cols row) (omega (arith, w2, place));
  groups = λ other. joined other (order other == order row) refl;
  total_is = more;
}
  where
    old : Strings
    old = record { rows = rows; cols = cols; groups = groups }

    new : Strings
    new = record { rows = rows; cols = cols; groups = slice_set groups (order row) g }

    before : List (List ℕ)
    before = slice_index_or groups (order row) []

    here : slice_index_or (slice_set groups (order row) g) (order row) [] ≡ g
    here = get_or-set_same groups (order row) g [] (subst (λ (n : ℕ). order row < n) (sym many) (orders_small row))

    bytes_of : List (List ℕ) → ℕ
    bytes_of xs = sum_by (λ b. length b) xs

    more : total new ≡ total old + length bytes
    more =
        let set : total new + bytes_of before ≡ total old + bytes_of g = sum_by-set (λ xs. sum_by (λ b. length b) xs) groups (order row) g [] (subst (λ (n : ℕ). order row < n) (sym many) (orders_small row)) in
        let single : bytes_of (bytes ∷ []) ≡ length bytes = omega arith in
        let one : bytes_of g ≡ bytes_of before + bytes_of (bytes ∷ []) = ap (λ (xs : List (List ℕ)). sum_by (λ b. length b) xs) made ∙ sum_by-append (λ b. length b) before (bytes ∷ []) in
        omega (arith, set, one, single)

    joined : (other : Row) (b : Bool) → (order other == order row) ≡ b → has_group new other ≡ (b || has_group old other)
    joined other true e = ap (λ (n : ℕ). not (length (slice_index_or (slice_set groups (order row) g) n []) == 0)) (same_places (order other) (order row) e)
        ∙ (ap (λ (xs : List (List ℕ)). not (length xs == 0)) (here ∙ made) ∙ not_empty before bytes)
    joined other false e = ap (λ (xs : List (List ℕ)). not (length xs == 0)) (get_or-set_other groups (order row) (order other) g [] (other_places (order other) (order row) e))

    kept_that : (other : Row) (found : List ℕ) → row_string old other ≡ Some found → row_string new other ≡ Some found
    kept_that other found h =
        let p = if_some (allows rows cols other) (slice_get (group_at old (order other)) (rank rows cols other)) found h in
        if_true (allows rows cols other) (slice_get (group_at new (order other)) (rank rows cols other)) p.0 ∙ by_place p.1 (same_or_not (order other) (order row) (order other == order row) refl)
      where
        by_place : slice_get (group_at old (order other)) (rank rows cols other) ≡ Some found → (order other ≡ order row) ⊎ (order other ≢ order row) → slice_get (group_at new (order other)) (rank rows cols other) ≡ Some found
        by_place e (inl same) = ap (λ (n : ℕ). slice_get (slice_index_or (slice_set groups (order row) g) n []) (rank rows cols other)) same
            ∙ (ap (λ (xs : List (List ℕ)). slice_get xs (rank rows cols other)) (here ∙ made)
            ∙ get_front before bytes found (rank rows cols other) (ap (λ (n : ℕ). slice_get (slice_index_or groups n []) (rank rows cols other)) (sym same) ∙ e))
        by_place e (inr differ) = ap (λ (xs : List (List ℕ)). slice_get xs (rank rows cols other)) (get_or-set_other groups (order row) (order other) g [] differ) ∙ e

    in_group : (other : Row) (found : List ℕ) → allows rows cols other ≡ true → order other ≡ order row
        → (slice_get before (rank rows cols other) ≡ Some found) ⊎ ((rank rows cols other ≡ length before) × (found ≡ bytes)) → (row_string old other ≡ Some found) ⊎ ((other ≡ row) × (found ≡ bytes))
    in_group other found ok same (inl e) = inl (if_true (allows rows cols other) (slice_get (group_at old (order other)) (rank rows cols other)) ok ∙ (ap (λ (n : ℕ). slice_get (slice_index_or groups n []) (rank rows cols other)) same ∙ e))
    in_group other found ok same (inr e) = inr (one_of_rank rows cols other row (in_range rows cols other ok) (in_range rows cols row fits) same (e.0 ∙ sym place), e.1)

    decided : (other : Row) (found : List ℕ) → allows rows cols other ≡ true → slice_get (group_at new (order other)) (rank rows cols other) ≡ Some found
        → (order other ≡ order row) ⊎ (order other ≢ order row) → (row_string old other ≡ Some found) ⊎ ((other ≡ row) × (found ≡ bytes))
    decided other found ok h (inl same) = in_group other found ok same (get_more before bytes found (rank rows cols other)
        (ap (λ (xs : List (List ℕ)). slice_get xs (rank rows cols other)) (sym (ap (λ (n : ℕ). slice_index_or (slice_set groups (order row) g) n []) same ∙ (here ∙ made))) ∙ h))
    decided other found ok h (inr differ) = inl (if_true (allows rows cols other) (slice_get (group_at old (order other)) (rank rows cols other)) ok
        ∙ (ap (λ (xs : List (List ℕ)). slice_get xs (rank rows cols other)) (sym (get_or-set_other groups (order row) (order other) g [] differ)) ∙ h))

    only_that : (other : Row) (found : List ℕ) → row_string new other ≡ Some found → (row_string old other ≡ Some found) ⊎ ((other ≡ row) × (found ≡ bytes))
    only_that other found h =
        let p = if_some (allows rows cols other) (slice_get (group_at new (order other)) (rank rows cols other)) found h in
        decided other found p.0 p.1 (same_or_not (order other) (order row) (order other == order row) refl)

-- one more string, for any strings equal to these
pub adds_to : (old : Strings) (rows cols : ℕ) (groups : List (List (List ℕ))) (row : Row) (bytes : List ℕ) (n : ℕ) (g : List (List ℕ)) → record { rows = rows; cols = cols; groups = groups } ≡ old → n ≡ order row
    → length groups ≡ capabilities → allows old.rows old.cols row ≡ true → rank old.rows old.cols row ≡ length (group_at old (order row)) → g ≡ slice_index_or groups n [] ++ bytes ∷ []
    → Adds old (record { rows = rows; cols = cols; groups = slice_set groups n g }) row bytes
adds_to old rows cols groups row bytes n g is place many = subst (λ (s : Strings). allows s.rows s.cols row ≡ true → rank s.rows s.cols row ≡ length (group_at s (order row)) → g ≡ slice_index_or groups n [] ++ bytes ∷ []
    → Adds s (record { rows = rows; cols = cols; groups = slice_set groups n g }) row bytes) is
    (λ fits ranked made. subst (λ (k : ℕ). Adds (record { rows = rows; cols = cols; groups = groups }) (record { rows = rows; cols = cols; groups = slice_set groups k g }) row bytes) (sym place)
    (adds rows cols groups row bytes g many fits ranked (made ∙ ap (λ (k : ℕ). slice_index_or groups k [] ++ bytes ∷ []) place)))

pub first_string : (g : List (List ℕ)) → not (length g == 0) ≡ true → (x : List ℕ) × (slice_get g 0 ≡ Some x)
first_string [] h = absurd (true≢false (sym h))
first_string (x ∷ xs) h = (x, refl)

-- a capability that has strings has the first
pub some_line : (s : Strings) (row : Row) → IsSize s.rows s.cols → has_group s row ≡ true → SomeLine (λ r. row_string s r) (order row)
some_line s row size h =
    let f : HasFirst (order row) = firsts_in_order (order row) (orders_small row) in
    let g : IsFirst s.rows s.cols f.row = firsts_in_range s.rows s.cols (order row) f.row size f.is_first in
    let x = first_string (group_at s (order row)) h in
    record {
      row = f.row;
      of_cap = f.ordered;
      bytes = x.0;
      there = if_true (allows s.rows s.cols f.row) (slice_get (group_at s (order f.row)) (rank s.rows s.cols f.row)) (is_allowed s.rows s.cols f.row g.range)
          ∙ (ap (λ (k : ℕ). slice_get (group_at s (order f.row)) k) g.rank_zero ∙ (ap (λ (n : ℕ). slice_get (group_at s n) 0) f.ordered ∙ x.1));
    }

none_of_none : {A : Type 0} (b : Bool) (o : Option A) → o ≡ None → (if b then o else None) ≡ None
none_of_none true o h = h
none_of_none false o h = refl

no_string : (g : List (List ℕ)) (k : ℕ) → not (length g == 0) ≡ false → slice_get g k ≡ None
no_string [] k h = refl
no_string (x ∷ xs) k h = absurd (true≢false (sym (not_zero (length (x ∷ xs)) 0 (omega arith)) ∙ h))

pub no_line : (s : Strings) (row : Row) → has_group s row ≡ false → (other : Row) → order other ≡ order row → row_string s other ≡ None
no_line s row h other same = none_of_none (allows s.rows s.cols other) (slice_get (group_at s (order other)) (rank s.rows s.cols other))
    (no_string (group_at s (order other)) (rank s.rows s.cols other) (ap (λ (n : ℕ). not (length (group_at s n) == 0)) same ∙ h))

pub empty_group : (m n : ℕ) → slice_index_or (replicate {A = List (List ℕ)} m []) n [] ≡ []
empty_group zero n = refl
empty_group (suc m) zero = refl
empty_group (suc m) (suc n) = empty_group m n

pub none_at_first : (rows cols : ℕ) (row : Row) (bytes : List ℕ) → row_string (record { rows = rows; cols = cols; groups = replicate capabilities [] }) row ≡ Some bytes → ⊥
none_at_first rows cols row bytes h =
    let p = if_some (allows rows cols row) (slice_get (slice_index_or (replicate {A = List (List ℕ)} capabilities []) (order row) []) (rank rows cols row)) bytes h in
    none-some bytes (ap (λ (g : List (List ℕ)). slice_get g (rank rows cols row)) (sym (empty_group capabilities (order row))) ∙ p.1)

pub any_default : {A : Type 0} (xs : List A) (i : ℕ) (a b : A) → i < length xs → slice_index_or xs i a ≡ slice_index_or xs i b
any_default [] i a b h = let wrong : ⊥ = omega (arith, h) in absurd wrong
any_default (x ∷ xs) zero a b h = refl
any_default (x ∷ xs) (suc i) a b h = any_default xs i a b (omega (arith, h))
