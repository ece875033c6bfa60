-- One more sequence is counted.
use Rattle.std.proofs.Common.{◌≡◌, ℕ, ◌+◌, ◌<◌, ◌≤◌, ◌||◌, not, bytes_eq, Bool, true, false, if◌then◌else◌, List, [], ◌∷◌, ◌++◌, length, map, take, set, get_or, zero, suc, refl, sym, ap, subst, ◌∙◌, arith, length-append, inl, inr, ◌⊎◌}
use Rattle.std.specs.List.{count_by, filter, list_any}
use Rattle.std.proofs.lemmas.Bool.{or_parts, false_from_ne_true}
use Rattle.std.proofs.lemmas.List.{map-append, length-map, take_all, take-append-le, length-take}
use Rattle.std.proofs.lemmas.List.Elements.{filter-append}
use Rattle.std.proofs.lemmas.List.Recursion.{is_count_by}
use Rattle.std.proofs.lemmas.List.Sums.{sum_by-set, sum_by_push}
use Rattle.std.proofs.lemmas.Slice.Eq.{bytes_eq-Decides}
use Rattle.vt_states.specs.Kinds.{distinct, most_kinds, Counted, counted, all_times, Counts, Count, place_in}

same_self : (k : List ℕ) → bytes_eq k k ≡ true
same_self k = (bytes_eq-Decides k k).1 refl

same_is : (j k : List ℕ) → bytes_eq j k ≡ true → j ≡ k
same_is j k e = (bytes_eq-Decides j k).0 e

turned : (j k : List ℕ) → bytes_eq j k ≡ false → bytes_eq k j ≡ false
turned j k e = false_from_ne_true (bytes_eq k j) (λ t. let same : j ≡ k = sym (same_is k j t) in let yes : bytes_eq j k ≡ true = (bytes_eq-Decides j k).1 same in absurd (cc))

abbrev has : List ℕ → List (List ℕ) → Bool
has k ks = list_any (bytes_eq k) ks

split : (b : Bool) → (b ≡ true) ⊎ (b ≡ false)
split true = inl refl
split false = inr refl

abbrev others_than : List ℕ → List (List ℕ) → List (List ℕ)
others_than k ks = filter (λ other. not (bytes_eq k other)) ks

kept_one : (k x : List ℕ) (ks : List (List ℕ)) (c : Bool) → bytes_eq x k ≡ c → others_than x (k ∷ ks) ≡ (if c then others_than x ks else k ∷ others_than x ks)
kept_one k x ks true e = rw (e) refl
kept_one k x ks false e = rw (e) refl

-- what is another than x stays
has_others : (k x : List ℕ) (ks : List (List ℕ)) → bytes_eq x k ≡ false → has k (others_than x ks) ≡ has k ks
has_others k x [] e = refl
has_others k x (y ∷ ks) e = elim (split (bytes_eq x y)) [
  | inl t ↦ (let same : x ≡ y = same_is x y t in
      let no : bytes_eq k y ≡ false = subst (λ (z : List ℕ). bytes_eq k z ≡ false) same (turned x k e) in
      ap (has k) (kept_one y x ks true t) ∙ has_others k x ks e ∙ sym (ap (λ (b : Bool). b || has k ks) no))
  | inr f ↦ ap (has k) (kept_one y x ks false f) ∙ ap (λ (b : Bool). bytes_eq k y || b) (has_others k x ks e)
]

has_distinct : (k : List ℕ) (ks : List (List ℕ)) → has k (distinct ks) ≡ has k ks
has_distinct k [] = refl
has_distinct k (x ∷ ks) = elim (split (bytes_eq x k)) [
  | inl t ↦ (let yes : bytes_eq k x ≡ true = subst (λ (z : List ℕ). bytes_eq k z ≡ true) (sym (same_is x k t)) (same_self k) in
      ap (λ (b : Bool). b || has k (others_than x (distinct ks))) yes ∙ sym (ap (λ (b : Bool). b || has k ks) yes))
  | inr f ↦ ap (λ (b : Bool). bytes_eq k x || b) (has_others k x (distinct ks) f ∙ has_distinct k ks)
]

distinct_new : (k : List ℕ) (ks : List (List ℕ)) → has k ks ≡ false → distinct (ks ++ k ∷ []) ≡ distinct ks ++ k ∷ []
distinct_new k [] e = refl
distinct_new k (x ∷ ks) e =
    let parts = or_parts (bytes_eq k x) (has k ks) e in
    ap (λ (l : List (List ℕ)). x ∷ others_than x l) (distinct_new k ks parts.1)
    ∙ ap (λ (l : List (List ℕ)). x ∷ l) (filter-append (λ other. not (bytes_eq x other)) (distinct ks) (k ∷ []) ∙ ap (λ (l : List (List ℕ)). others_than x (distinct ks) ++ l) (kept_one k x [] false (turned k x parts.0)))

distinct_known : (k : List ℕ) (ks : List (List ℕ)) → has k ks ≡ true → distinct (ks ++ k ∷ []) ≡ distinct ks
distinct_known k [] e = absurd (cc)
distinct_known k (x ∷ ks) e = elim (split (has k ks)) [
  | inl t ↦ ap (λ (l : List (List ℕ)). x ∷ others_than x l) (distinct_known k ks t)
  | inr f ↦ (let first : bytes_eq k x ≡ true = or_first (bytes_eq k x) (has k ks) e f in
      let same : bytes_eq x k ≡ true = subst (λ (z : List ℕ). bytes_eq x z ≡ true) (sym (same_is k x first)) (same_self x) in
      ap (λ (l : List (List ℕ)). x ∷ others_than x l) (distinct_new k ks f)
      ∙ ap (λ (l : List (List ℕ)). x ∷ l) (filter-append (λ other. not (bytes_eq x other)) (distinct ks) (k ∷ []) ∙ ap (λ (l : List (List ℕ)). others_than x (distinct ks) ++ l) (kept_one k x [] true same) ∙ append_nothing (others_than x (distinct ks))))
]
  where
    or_first : (a b : Bool) → (a || b) ≡ true → b ≡ false → a ≡ true
    or_first true b h e = refl
    or_first false b h e = cc

    append_nothing : (xs : List (List ℕ)) → xs ++ [] ≡ xs
    append_nothing [] = refl
    append_nothing (x ∷ xs) = ap (λ (l : List (List ℕ)). x ∷ l) (append_nothing xs)

-- no kind is there twice
AllOnce : List (List ℕ) → Type 0
AllOnce [] = Unit {0}
AllOnce (x ∷ xs) = (has x xs ≡ false) × AllOnce xs

none_kept : (k : List ℕ) (p : List ℕ → Bool) (ks : List (List ℕ)) → has k ks ≡ false → has k (filter p ks) ≡ false
none_kept k p [] e = refl
none_kept k p (x ∷ ks) e = by_test (p x) (or_parts (bytes_eq k x) (has k ks) e).0 (none_kept k p ks (or_parts (bytes_eq k x) (has k ks) e).1)
  where
    by_test : (b : Bool) → bytes_eq k x ≡ false → has k (filter p ks) ≡ false → has k (if b then x ∷ filter p ks else filter p ks) ≡ false
    by_test true h f = ap (λ (c : Bool). c || has k (filter p ks)) h ∙ f
    by_test false h f = f

once_kept : (p : List ℕ → Bool) (ks : List (List ℕ)) → AllOnce ks → AllOnce (filter p ks)
unfolding AllOnce
once_kept p [] h = tt
once_kept p (x ∷ ks) h = by_test (p x) (none_kept x p ks h.0) (once_kept p ks h.1)
  where
    by_test : (b : Bool) → has x (filter p ks) ≡ false → AllOnce (filter p ks) → AllOnce (if b then x ∷ filter p ks else filter p ks)
    by_test true n o = (n, o)
    by_test false n o = o

none_same : (x : List ℕ) (ks : List (List ℕ)) → has x (others_than x ks) ≡ false
none_same x [] = refl
none_same x (y ∷ ks) = elim (split (bytes_eq x y)) [
  | inl t ↦ ap (has x) (kept_one y x ks true t) ∙ none_same x ks
  | inr f ↦ ap (has x) (kept_one y x ks false f) ∙ ap (λ (b : Bool). b || has x (others_than x ks)) f ∙ none_same x ks
]

distinct_once : (ks : List (List ℕ)) → AllOnce (distinct ks)
unfolding AllOnce
distinct_once [] = tt
distinct_once (x ∷ ks) = (none_same x (distinct ks), once_kept (λ other. not (bytes_eq x other)) (distinct ks) (distinct_once ks))

none_taken : (k : List ℕ) (n : ℕ) (ks : List (List ℕ)) → has k ks ≡ false → has k (take n ks) ≡ false
none_taken k zero ks e = refl
none_taken k (suc n) [] e = refl
none_taken k (suc n) (x ∷ ks) e = let parts = or_parts (bytes_eq k x) (has k ks) e in ap (λ (b : Bool). b || has k (take n ks)) parts.0 ∙ none_taken k n ks parts.1

once_taken : (n : ℕ) (ks : List (List ℕ)) → AllOnce ks → AllOnce (take n ks)
unfolding AllOnce
once_taken zero ks h = tt
once_taken (suc n) [] h = tt
once_taken (suc n) (x ∷ ks) h = (none_taken x n ks h.0, once_taken n ks h.1)

-- ---- how often a kind came

times_more : (x k : List ℕ) (all : List (List ℕ)) (c : Bool) → bytes_eq x k ≡ c → count_by (bytes_eq x) (all ++ k ∷ []) ≡ count_by (bytes_eq x) all + (if c then 1 else 0)
times_more x k all true e = sum_by_push (λ y. if bytes_eq x y then 1 else 0) all k ∙ ap (λ (b : Bool). count_by (bytes_eq x) all + (if b then 1 else 0)) e
times_more x k all false e = sum_by_push (λ y. if bytes_eq x y then 1 else 0) all k ∙ ap (λ (b : Bool). count_by (bytes_eq x) all + (if b then 1 else 0)) e

times_of : List ℕ → List (List ℕ) → ℕ
times_of k [] = 0
times_of k (x ∷ all) = if bytes_eq k x then 1 + times_of k all else times_of k all

times_counted : (k : List ℕ) (all : List (List ℕ)) → times_of k all ≡ count_by (bytes_eq k) all
unfolding times_of
times_counted k all = is_count_by (times_of k) (bytes_eq k) refl (λ x more. refl) all

no_times : (k : List ℕ) (all : List (List ℕ)) → has k all ≡ false → times_of k all ≡ 0
unfolding times_of
no_times k [] e = refl
no_times k (x ∷ all) e = let parts = or_parts (bytes_eq k x) (has k all) e in ap (λ (b : Bool). if b then 1 + times_of k all else times_of k all) parts.0 ∙ no_times k all parts.1

never : (k : List ℕ) (all : List (List ℕ)) → has k all ≡ false → count_by (bytes_eq k) all ≡ 0
never k all e = sym (times_counted k all) ∙ no_times k all e

same_counted : (x k : List ℕ) (all : List (List ℕ)) → bytes_eq x k ≡ false → counted all x ≡ counted (all ++ k ∷ []) x
same_counted x k all e = ap (λ (n : ℕ). record { sequence = x; times = n }) (let t : count_by (bytes_eq x) all ≡ count_by (bytes_eq x) (all ++ k ∷ []) = omega (arith, times_more x k all false e) in t)

all_same : (k : List ℕ) (all ds : List (List ℕ)) → has k ds ≡ false → map (counted all) ds ≡ map (counted (all ++ k ∷ [])) ds
all_same k all [] e = refl
all_same k all (x ∷ ds) e =
    let parts = or_parts (bytes_eq k x) (has k ds) e in
    ap (λ (c : Counted). c ∷ map (counted all) ds) (same_counted x k all (turned k x parts.0)) ∙ ap (λ (l : List Counted). counted (all ++ k ∷ []) x ∷ l) (all_same k all ds parts.1)

-- ---- the place of a kind

abbrev raised : Counted → Counted
raised c = record c { times = c.times + 1 }

place_known : (k : List ℕ) (all ds : List (List ℕ)) → place_in k (map (counted all) ds) < length ds → has k ds ≡ true
place_known k all [] lt = absurd (omega arith)
place_known k all (x ∷ ds) lt = by_first (bytes_eq x k) refl (λ l. place_known k all ds l) lt
  where
    by_first : (b : Bool) → bytes_eq x k ≡ b → (place_in k (map (counted all) ds) < length ds → has k ds ≡ true) → (if b then 0 else 1 + place_in k (map (counted all) ds)) < length (x ∷ ds) → has k (x ∷ ds) ≡ true
    by_first true e more l = ap (λ (b : Bool). b || has k ds) (subst (λ (z : List ℕ). bytes_eq k z ≡ true) (sym (same_is x k e)) (same_self k))
    by_first false e more l = ap (λ (b : Bool). b || has k ds) (turned x k e) ∙ more (omega (arith, l))

place_new : (k : List ℕ) (all ds : List (List ℕ)) → length ds ≤ place_in k (map (counted all) ds) → has k ds ≡ false
place_new k all [] le = refl
place_new k all (x ∷ ds) le = by_first (bytes_eq x k) refl (λ l. place_new k all ds l) le
  where
    by_first : (b : Bool) → bytes_eq x k ≡ b → (length ds ≤ place_in k (map (counted all) ds) → has k ds ≡ false) → length (x ∷ ds) ≤ (if b then 0 else 1 + place_in k (map (counted all) ds)) → has k (x ∷ ds) ≡ false
    by_first true e more l = absurd (omega (arith, l))
    by_first false e more l = ap (λ (b : Bool). b || has k ds) (turned x k e) ∙ more (omega (arith, l))

-- the kind at its place came once more
raised_there : (k : List ℕ) (all ds : List (List ℕ)) (d : Counted) → AllOnce ds → place_in k (map (counted all) ds) < length ds
    → set (map (counted all) ds) (place_in k (map (counted all) ds)) (raised (get_or (map (counted all) ds) (place_in k (map (counted all) ds)) d)) ≡ map (counted (all ++ k ∷ [])) ds
unfolding AllOnce
raised_there k all [] d h lt = absurd (omega arith)
raised_there k all (x ∷ ds) d h lt = by_first (bytes_eq x k) refl (λ l. raised_there k all ds d h.1 l) lt
  where
    by_first : (b : Bool) → bytes_eq x k ≡ b
        → (place_in k (map (counted all) ds) < length ds → set (map (counted all) ds) (place_in k (map (counted all) ds)) (raised (get_or (map (counted all) ds) (place_in k (map (counted all) ds)) d)) ≡ map (counted (all ++ k ∷ [])) ds)
        → (if b then 0 else 1 + place_in k (map (counted all) ds)) < length (x ∷ ds)
        → set (map (counted all) (x ∷ ds)) (if b then 0 else 1 + place_in k (map (counted all) ds)) (raised (get_or (map (counted all) (x ∷ ds)) (if b then 0 else 1 + place_in k (map (counted all) ds)) d)) ≡ map (counted (all ++ k ∷ [])) (x ∷ ds)
    by_first true e more l =
        let none : has k ds ≡ false = subst (λ (z : List ℕ). has z ds ≡ false) (same_is x k e) h.0 in
        ap (λ (n : ℕ). record { sequence = x; times = n } ∷ map (counted all) ds) (sym (times_more x k all true e)) ∙ ap (λ (l : List Counted). counted (all ++ k ∷ []) x ∷ l) (all_same k all ds none)
    by_first false e more l =
        let at : 1 + place_in k (map (counted all) ds) ≡ suc (place_in k (map (counted all) ds)) = omega arith in
        rw (at) (ap (λ (c : Counted). c ∷ set (map (counted all) ds) (place_in k (map (counted all) ds)) (raised (get_or (map (counted all) ds) (place_in k (map (counted all) ds)) d))) (same_counted x k all e) ∙ ap (λ (l : List Counted). counted (all ++ k ∷ []) x ∷ l) (more (omega (arith, l))))

-- all of them as often as before, and one at its place once more
times_raised : (told : List Counted) (i : ℕ) (d : Counted) → i < length told → all_times (set told i (raised (get_or told i d))) ≡ all_times told + 1
times_raised told i d lt = omega (arith, sum_by-set (λ (c : Counted). c.times) told i (raised (get_or told i d)) d lt)

-- ---- the three cases

pub counted_known : (all : List (List ℕ)) (counts : Counts) (k : List ℕ) (d : Counted) → Count all counts → place_in k counts.told < length counts.told
    → Count (all ++ k ∷ []) (record counts { told = set counts.told (place_in k counts.told) (raised (get_or counts.told (place_in k counts.told) d)) })
counted_known all counts k d h lt =
    let ds : List (List ℕ) = take most_kinds (distinct all) in
    let at : place_in k (map (counted all) (take most_kinds (distinct all))) < length (take most_kinds (distinct all)) =
    omega (arith, lt, ap (λ (t : List Counted). place_in k t) h.told, ap length h.told, length-map {B = Counted} (take most_kinds (distinct all)) (counted all)) in
    let known : has k all ≡ true = taken_known k (place_known k all (take most_kinds (distinct all)) at) in
    record {
      told = ap (λ (t : List Counted). set t (place_in k t) (raised (get_or t (place_in k t) d))) h.told
          ∙ raised_there k all (take most_kinds (distinct all)) d (once_taken most_kinds (distinct all) (distinct_once all)) at
          ∙ ap (λ (l : List (List ℕ)). map (counted (all ++ k ∷ [])) (take most_kinds l)) (sym (distinct_known k all known));
      all = omega (arith, h.all, times_raised counts.told (place_in k counts.told) d lt, length-append all (k ∷ []));
    }
  where
    taken_known : (k : List ℕ) → has k (take most_kinds (distinct all)) ≡ true → has k all ≡ true
    taken_known k e = elim (split (has k all)) [
      | inl t ↦ t
      | inr f ↦ (let none : has k (take most_kinds (distinct all)) ≡ false = none_taken k most_kinds (distinct all) (has_distinct k all ∙ f) in absurd (cc))
    ]

pub counted_new : (all : List (List ℕ)) (counts : Counts) (k : List ℕ) → Count all counts → length counts.told ≤ place_in k counts.told → length counts.told < most_kinds
    → Count (all ++ k ∷ []) (record counts { told = counts.told ++ record { sequence = k; times = 1 } ∷ [] })
counted_new all counts k h le few =
    let n : length counts.told ≡ length (take most_kinds (distinct all)) = ap length h.told ∙ length-map {B = Counted} (take most_kinds (distinct all)) (counted all) in
    let short : length (distinct all) < most_kinds = omega (arith, n, few, length-take most_kinds (distinct all)) in
    let all_taken : take most_kinds (distinct all) ≡ distinct all = take_all most_kinds (distinct all) (omega (arith, short)) in
    let told : counts.told ≡ map (counted all) (distinct all) = h.told ∙ ap (map (counted all)) all_taken in
    let none : has k (distinct all) ≡ false = place_new k all (distinct all) (omega (arith, le, n, ap length all_taken, ap (λ (t : List Counted). place_in k t) told)) in
    let new : has k all ≡ false = sym (has_distinct k all) ∙ none in
    let one : count_by (bytes_eq k) (all ++ k ∷ []) ≡ 1 = omega (arith, times_more k k all true (same_self k), never k all new) in
    record {
      told = ap (λ (t : List Counted). t ++ record { sequence = k; times = 1 } ∷ []) (told ∙ all_same k all (distinct all) none)
          ∙ ap (λ (m : ℕ). map (counted (all ++ k ∷ [])) (distinct all) ++ record { sequence = k; times = m } ∷ []) (sym one)
          ∙ sym (map-append (counted (all ++ k ∷ [])) (distinct all) (k ∷ []))
          ∙ ap (map (counted (all ++ k ∷ []))) (sym (distinct_new k all new) ∙ sym (take_all most_kinds (distinct (all ++ k ∷ [])) (omega (arith, short, ap length (distinct_new k all new), length-append (distinct all) (k ∷ [])))));
      all = omega (arith, h.all, sum_by_push (λ (c : Counted). c.times) counts.told (record { sequence = k; times = 1 }), length-append all (k ∷ []));
    }

pub counted_further : (all : List (List ℕ)) (counts : Counts) (k : List ℕ) → Count all counts → length counts.told ≤ place_in k counts.told → most_kinds ≤ length counts.told
    → Count (all ++ k ∷ []) (record counts { others = counts.others + 1 })
counted_further all counts k h le full =
    let n : length counts.told ≡ length (take most_kinds (distinct all)) = ap length h.told ∙ length-map {B = Counted} (take most_kinds (distinct all)) (counted all) in
    let none : has k (take most_kinds (distinct all)) ≡ false = place_new k all (take most_kinds (distinct all)) (omega (arith, le, n, ap (λ (t : List Counted). place_in k t) h.told)) in
    let long : most_kinds ≤ length (distinct all) = omega (arith, n, full, length-take most_kinds (distinct all)) in
    record {
      told = h.told ∙ all_same k all (take most_kinds (distinct all)) none ∙ ap (map (counted (all ++ k ∷ []))) (sym (same_first_kinds k long));
      all = omega (arith, h.all, length-append all (k ∷ []));
    }
  where
    same_first_kinds : (k : List ℕ) → most_kinds ≤ length (distinct all) → take most_kinds (distinct (all ++ k ∷ [])) ≡ take most_kinds (distinct all)
    same_first_kinds k long = elim (split (has k all)) [
      | inl t ↦ ap (take most_kinds) (distinct_known k all t)
      | inr f ↦ ap (take most_kinds) (distinct_new k all f) ∙ take-append-le most_kinds (distinct all) (k ∷ []) long
    ]

pub nothing_counted : Count [] (record { told = []; others = 0 })
nothing_counted = record { told = refl; all = refl }

-- ---- as the code has them: its own place, and slices that hold the kinds and the new one

place_is : (told t : List Counted) (place : ℕ) (k s : List ℕ) → s ≡ k → t ≡ told → place ≡ place_in s t → place ≡ place_in k told
place_is told t place k s es et ep = ep ∙ ap (λ (u : List ℕ). place_in u t) es ∙ ap (place_in k) et

pub known_counted : (came : List (List ℕ)) (old : Counts) (told : List Counted) (others place : ℕ) (k s : List ℕ) (t : List Counted) (x y : Counted) → old ≡ record { told = told; others = others } → s ≡ k → t ≡ told → place ≡ place_in s t
    → place < length told → x ≡ get_or told place x → y ≡ record x { times = x.times + 1 } → Count came old → Count (came ++ k ∷ []) (record { told = set told place y; others = others })
known_counted came old told others place k s t x y o es et ep lt ex ey h =
    let p : place ≡ place_in k told = place_is told t place k s es et ep in
    let e : set told place y ≡ set told (place_in k told) (raised (get_or told (place_in k told) x)) =
    ap (λ (n : ℕ). set told n y) p ∙ ap (set told (place_in k told)) (ey ∙ ap raised (ex ∙ ap (λ (n : ℕ). get_or told n x) p)) in
    subst (λ (l : List Counted). Count (came ++ k ∷ []) (record { told = l; others = others })) (sym e)
    (counted_known came (record { told = told; others = others }) k x (subst (Count came) o h) (omega (arith, lt, p)))

pub new_counted : (came : List (List ℕ)) (old : Counts) (told : List Counted) (others place : ℕ) (k s : List ℕ) (t : List Counted) → old ≡ record { told = told; others = others } → s ≡ k → t ≡ told → place ≡ place_in s t
    → length told ≤ place → place ≤ length told → place < most_kinds → Count came old → Count (came ++ k ∷ []) (record { told = told ++ record { sequence = k; times = 1 } ∷ []; others = others })
new_counted came old told others place k s t o es et ep le ge few h =
    let p : place ≡ place_in k told = place_is told t place k s es et ep in
    counted_new came (record { told = told; others = others }) k (subst (Count came) o h) (omega (arith, le, p)) (omega (arith, le, ge, few))

pub further_counted : (came : List (List ℕ)) (old : Counts) (told : List Counted) (others place : ℕ) (k s : List ℕ) (t : List Counted) → old ≡ record { told = told; others = others } → s ≡ k → t ≡ told → place ≡ place_in s t
    → length told ≤ place → place ≤ length told → most_kinds ≤ place → Count came old → Count (came ++ k ∷ []) (record { told = told; others = others + 1 })
further_counted came old told others place k s t o es et ep le ge full h =
    let p : place ≡ place_in k told = place_is told t place k s es et ep in
    counted_further came (record { told = told; others = others }) k (subst (Count came) o h) (omega (arith, le, p)) (omega (arith, le, ge, full))
