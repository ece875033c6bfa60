-- The rows of an entry, one by one, and the bytes written for them.
use Rattle.std.proofs.Common.{◌≡◌, ℕ, ◌+◌, ◌<◌, ◌≤◌, zero, suc, Bool, true, false, ◌||◌, List, [], ◌∷◌, ◌++◌, length, get_or, take, drop, refl, ap, sym, ◌∙◌, arith, Option, Some, None, nat_eq}
use Rattle.std.specs.Prelude.{map, flat_map, if◌then◌else◌, is_some}
use Rattle.std.specs.List.{list_any}
use Rattle.std.proofs.lemmas.Bool.Decides.{nat_tests}
use Rattle.std.proofs.lemmas.List.{take_more, take-take, append_assoc, append-nil, length-take-le, length-take, length-drop, length-map, length-append, take_all, take-append-drop, get_or-take, get_or-drop}
use Rattle.std.proofs.lemmas.List.Concat.{flat_map-append}
use Rattle.ti_caps.specs.Entry.{Content, value_at, has_flag, number_in, string_in, flag_at, number_at, string_at}
use Rattle.ti_caps.specs.Table.{count_of}
use Rattle.ti_caps.specs.declared.types.Kind.{Kind}
use Rattle.ti_caps.specs.declared.types.Kind.TheVariants.{Flag, Number, String}
use Rattle.ti_compiled.specs.Written.{flags_of, numbers_of, strings_of, kept, trimmed, itself, string_cell, table_of, offsets_from, has_at, count_for}

mapped : {A B : Type 0} (f : A → B) (xs : List A) (i : ℕ) (d : A) → get_or (map f xs) i (f d) ≡ f (get_or xs i d)
mapped f [] i d = refl
mapped f (x ∷ xs) zero d = refl
mapped f (x ∷ xs) (suc i) d = mapped f xs i d

pub flag_row_at : (entry : Content) (cap i : ℕ) → cap ≡ 0 + i → i < 44 → flag_at entry cap ≡ get_or (flags_of entry) i false
unfolding flags_of value_at
flag_row_at entry cap i e h =
    let place : cap ≡ i = omega arith in
    ap (λ k. has_flag (get_or entry.values k None)) place
    ∙ ap has_flag (sym (get_or-take 44 entry.values i None h)) ∙ sym (mapped has_flag (take 44 entry.values) i None)

pub number_row_at : (entry : Content) (cap i : ℕ) → cap ≡ 44 + i → i < 39 → number_at entry cap ≡ get_or (numbers_of entry) i None
unfolding numbers_of value_at
number_row_at entry cap i e h =
    ap (λ k. number_in (get_or entry.values k None)) e
    ∙ ap number_in (sym (get_or-drop 44 entry.values i None)) ∙ ap number_in (sym (get_or-take 39 (drop 44 entry.values) i None h))
    ∙ sym (mapped number_in (take 39 (drop 44 entry.values)) i None)

pub string_row_at : (entry : Content) (cap i : ℕ) → cap ≡ 83 + i → string_at entry cap ≡ get_or (strings_of entry) i None
unfolding strings_of value_at
string_row_at entry cap i e =
    ap (λ k. string_in (get_or entry.values k None)) e
    ∙ ap string_in (sym (get_or-drop 83 entry.values i None)) ∙ sym (mapped string_in (drop 83 entry.values) i None)

pub flags_length : (entry : Content) → length entry.values ≡ 497 → length (flags_of entry) ≡ 44
unfolding flags_of
flags_length entry e = simp (length-map, length-take) (omega arith)

pub numbers_length : (entry : Content) → length entry.values ≡ 497 → length (numbers_of entry) ≡ 39
unfolding numbers_of
numbers_length entry e = simp (length-map, length-take, length-drop) (omega arith)

pub strings_length : (entry : Content) → length entry.values ≡ 497 → length (strings_of entry) ≡ 414
unfolding strings_of
strings_length entry e = simp (length-map, length-drop) (omega arith)

-- dropping absent items at the end
kept_full : {A : Type 0} (there : A → Bool) (y : A) (ys : List A) (x : A) → kept there y (ys ++ x ∷ []) ≡ y ∷ (ys ++ x ∷ [])
kept_full there y [] x = refl
kept_full there y (z ∷ zs) x = refl

push_yes : {A : Type 0} (there : A → Bool) (xs : List A) (x : A) → there x ≡ true → trimmed there (xs ++ x ∷ []) ≡ xs ++ x ∷ []
push_yes there [] x e = rw e refl
push_yes there (y ∷ ys) x e = ap (kept there y) (push_yes there ys x e) ∙ kept_full there y ys x

push_no : {A : Type 0} (there : A → Bool) (xs : List A) (x : A) → there x ≡ false → trimmed there (xs ++ x ∷ []) ≡ trimmed there xs
push_no there [] x e = rw e refl
push_no there (y ∷ ys) x e = ap (kept there y) (push_no there ys x e)

-- counting up to the last one that isn't absent
pub count_step : {A : Type 0} (there : A → Bool) (xs : List A) (i : ℕ) (d : A) (count : ℕ) (t : Bool) → i < length xs → count ≡ length (trimmed there (take i xs))
    → t ≡ there (get_or xs i d) → (if t then i + 1 else count) ≡ length (trimmed there (take (i + 1) xs))
count_step there xs i d count true h before e =
    let front : length (take i xs) ≡ i = length-take-le i xs (omega arith) in
    sym (ap (λ ys. length (trimmed there ys)) (take_more xs i d h) ∙ ap length (push_yes there (take i xs) (get_or xs i d) (sym e))
    ∙ length-append (take i xs) (get_or xs i d ∷ []) ∙ ap (λ n. n + 1) front)
count_step there xs i d count false h before e =
    before ∙ sym (ap (λ ys. length (trimmed there ys)) (take_more xs i d h) ∙ ap length (push_no there (take i xs) (get_or xs i d) (sym e)))

pub count_end : {A : Type 0} (there : A → Bool) (xs : List A) (i count : ℕ) → length xs ≤ i → count ≡ length (trimmed there (take i xs)) → count ≡ length (trimmed there xs)
count_end there xs i count h e = e ∙ ap (λ ys. length (trimmed there ys)) (take_all i xs h)

kept_small : {A : Type 0} (there : A → Bool) (x : A) (ys : List A) (t : Bool) → there x ≡ t → length (kept there x ys) ≤ suc (length ys)
kept_small there x [] true e = rw e (omega arith)
kept_small there x [] false e = rw e (omega arith)
kept_small there x (y ∷ ys) t e = omega arith

pub trimmed_small : {A : Type 0} (there : A → Bool) (xs : List A) → length (trimmed there xs) ≤ length xs
trimmed_small there [] = omega arith
trimmed_small there (x ∷ xs) = let more = trimmed_small there xs in let one = kept_small there x (trimmed there xs) (there x) refl in omega arith

-- how many items of a kind there are up to the last of the first `i` that isn't absent
abbrev pub counted_to : Kind → Content → ℕ → ℕ
counted_to Flag entry i = length (trimmed itself (take i (flags_of entry)))
counted_to Number entry i = length (trimmed is_some (take i (numbers_of entry)))
counted_to String entry i = length (trimmed is_some (take i (strings_of entry)))

pub counted_more : (kind : Kind) (entry : Content) (i count : ℕ) (t : Bool) → length entry.values ≡ 497 → i < count_of kind → count ≡ counted_to kind entry i
    → t ≡ has_at kind entry i → (if t then i + 1 else count) ≡ counted_to kind entry (i + 1)
counted_more Flag entry i count t size h = count_step itself (flags_of entry) i false count t (omega (arith, flags_length entry size))
counted_more Number entry i count t size h = count_step is_some (numbers_of entry) i None count t (omega (arith, numbers_length entry size))
counted_more String entry i count t size h = count_step is_some (strings_of entry) i None count t (omega (arith, strings_length entry size))

pub counted_all : (kind : Kind) (entry : Content) (i count : ℕ) → length entry.values ≡ 497 → count_of kind ≤ i → count ≡ counted_to kind entry i → count ≡ count_for kind entry
counted_all Flag entry i count size h = count_end itself (flags_of entry) i count (omega (arith, flags_length entry size))
counted_all Number entry i count size h = count_end is_some (numbers_of entry) i count (omega (arith, numbers_length entry size))
counted_all String entry i count size h = count_end is_some (strings_of entry) i count (omega (arith, strings_length entry size))

pub count_small : (kind : Kind) (entry : Content) → length entry.values ≡ 497 → count_for kind entry ≤ count_of kind
count_small Flag entry size = omega (arith, trimmed_small itself (flags_of entry), flags_length entry size)
count_small Number entry size = omega (arith, trimmed_small is_some (numbers_of entry), numbers_length entry size)
count_small String entry size = omega (arith, trimmed_small is_some (strings_of entry), strings_length entry size)

kept_take : {A : Type 0} (there : A → Bool) (x : A) (xs ys : List A) (t : Bool) → there x ≡ t → take (length ys) xs ≡ ys → take (length (kept there x ys)) (x ∷ xs) ≡ kept there x ys
kept_take there x xs [] true e h = rw e refl
kept_take there x xs [] false e h = rw e refl
kept_take there x xs (y ∷ ys) t e h = ap (λ zs. x ∷ zs) h

pub trimmed_take : {A : Type 0} (there : A → Bool) (xs : List A) → take (length (trimmed there xs)) xs ≡ trimmed there xs
trimmed_take there [] = refl
trimmed_take there (x ∷ xs) = kept_take there x xs (trimmed there xs) (there x) refl (trimmed_take there xs)

-- a test of all items
or_right : (a : Bool) {b : Bool} → b ≡ true → (a || b) ≡ true
or_right true h = refl
or_right false h = h

pub any_yes : {A : Type 0} (p : A → Bool) (xs : List A) (k : ℕ) (d : A) → k < length xs → p (get_or xs k d) ≡ true → list_any p xs ≡ true
any_yes p [] k d h e = absurd (omega arith)
any_yes p (x ∷ xs) zero d h e = rw e refl
any_yes p (x ∷ xs) (suc k) d h e = or_right (p x) (any_yes p xs k d (omega arith) e)

pub any_no : {A : Type 0} (p : A → Bool) (xs : List A) (d : A) → ((k : ℕ) → k < length xs → p (get_or xs k d) ≡ false) → list_any p xs ≡ false
any_no p [] d h = refl
any_no p (x ∷ xs) d h = rw (h 0 (omega arith)) (any_no p xs d (λ k below. h (suc k) (omega arith)))

-- writing one more item, and all items
pub flat_more : {A : Type 0} (f : A → List ℕ) (xs : List A) (i : ℕ) (d : A) → i < length xs → flat_map f (take (i + 1) xs) ≡ flat_map f (take i xs) ++ f (get_or xs i d)
flat_more f xs i d h =
    ap (flat_map f) (take_more xs i d h) ∙ flat_map-append f (take i xs) (get_or xs i d ∷ [])
    ∙ ap (λ ys. flat_map f (take i xs) ++ ys) (append-nil (f (get_or xs i d)))

pub put_step : {A : Type 0} (f : A → List ℕ) (xs : List A) (i : ℕ) (d : A) (base out new : List ℕ) → i < length xs → out ≡ base ++ flat_map f (take i xs)
    → new ≡ out ++ f (get_or xs i d) → new ≡ base ++ flat_map f (take (i + 1) xs)
put_step f xs i d base out new h before now =
    now ∙ ap (λ o. o ++ f (get_or xs i d)) before ∙ append_assoc base (flat_map f (take i xs)) (f (get_or xs i d))
    ∙ ap (λ ys. base ++ ys) (sym (flat_more f xs i d h))

pub put_end : {A : Type 0} (f : A → List ℕ) (there : A → Bool) (xs : List A) (i count : ℕ) (base out : List ℕ) → out ≡ base ++ flat_map f (take i xs)
    → i ≡ count → count ≡ length (trimmed there xs) → out ≡ base ++ flat_map f (trimmed there xs)
put_end f there xs i count base out written at e = written ∙ ap (λ n. base ++ flat_map f (take n xs)) (at ∙ e) ∙ ap (λ ys. base ++ flat_map f ys) (trimmed_take there xs)

-- the table and the offsets
pub size_step : (xs : List (Option (List ℕ))) (i size more : ℕ) → i < length xs → size ≡ length (table_of (take i xs)) → more ≡ length (string_cell (get_or xs i None))
    → size + more ≡ length (table_of (take (i + 1) xs))
size_step xs i size more h before e =
    ap (λ n. n + more) before ∙ ap (λ n. length (table_of (take i xs)) + n) e
    ∙ sym (ap length (flat_more string_cell xs i None h) ∙ length-append (table_of (take i xs)) (string_cell (get_or xs i None)))

pub size_end : (xs : List (Option (List ℕ))) (i count size : ℕ) → size ≡ length (table_of (take i xs)) → i ≡ count → count ≡ length (trimmed is_some xs) → size ≡ length (table_of (trimmed is_some xs))
size_end xs i count size e at c = e ∙ ap (λ n. length (table_of (take n xs))) (at ∙ c) ∙ ap (λ ys. length (table_of ys)) (trimmed_take is_some xs)

offset_of : ℕ → Option (List ℕ) → ℕ
offset_of place None = 65535
offset_of place (Some bytes) = place

offsets_push : (place : ℕ) (xs : List (Option (List ℕ))) (x : Option (List ℕ)) → offsets_from place (xs ++ x ∷ []) ≡ offsets_from place xs ++ offset_of (place + length (table_of xs)) x ∷ []
unfolding offset_of
offsets_push place [] None = refl
offsets_push place [] (Some bytes) = let e : place ≡ place + 0 = omega arith in ap (λ n. n ∷ []) e
offsets_push place (None ∷ xs) x = ap (λ ns. 65535 ∷ ns) (offsets_push place xs x)
offsets_push place (Some bytes ∷ xs) x =
    let size : length ((bytes ++ 0 ∷ []) ++ table_of xs) ≡ length bytes + 1 + length (table_of xs) = length-append (bytes ++ 0 ∷ []) (table_of xs) ∙ ap (λ n. n + length (table_of xs)) (length-append bytes (0 ∷ [])) in
    let e : place + length bytes + 1 + length (table_of xs) ≡ place + length ((bytes ++ 0 ∷ []) ++ table_of xs) = omega arith in
    ap (λ ns. place ∷ ns) (offsets_push (place + length bytes + 1) xs x ∙ ap (λ n. offsets_from (place + length bytes + 1) xs ++ offset_of n x ∷ []) e)

offset_written : (place : ℕ) (x : Option (List ℕ)) → (if nat_eq (length (string_cell x)) 0 then 65535 else place) ≡ offset_of place x
unfolding offset_of
offset_written place None = refl
offset_written place (Some bytes) =
    let size : length (bytes ++ 0 ∷ []) ≡ suc (length bytes) = length-append bytes (0 ∷ []) ∙ omega arith in
    let test : nat_eq (suc (length bytes)) 0 ≡ false = grind (arith, nat_tests) in
    ap (λ n. if nat_eq n 0 then 65535 else place) size ∙ ap (λ b. if b then 65535 else place) test

pub offsets_step : (word : ℕ → List ℕ) (xs : List (Option (List ℕ))) (i place size offset : ℕ) (base out new : List ℕ) → i < length xs → place ≡ length (table_of (take i xs))
    → size ≡ length (string_cell (get_or xs i None)) → offset ≡ (if nat_eq size 0 then 65535 else place)
    → out ≡ base ++ flat_map word (offsets_from 0 (take i xs)) → new ≡ out ++ word offset → new ≡ base ++ flat_map word (offsets_from 0 (take (i + 1) xs))
offsets_step word xs i place size offset base out new h at s o before now =
    let x : Option (List ℕ) = get_or xs i None in
    let zero_place : place ≡ 0 + length (table_of (take i xs)) = omega arith in
    let told : offset ≡ offset_of (0 + length (table_of (take i xs))) x = o ∙ ap (λ n. if nat_eq n 0 then 65535 else place) s ∙ offset_written place x ∙ ap (λ n. offset_of n x) zero_place in
    now ∙ ap (λ n. out ++ word n) told ∙ ap (λ ys. ys ++ word (offset_of (0 + length (table_of (take i xs))) x)) before
    ∙ append_assoc base (flat_map word (offsets_from 0 (take i xs))) (word (offset_of (0 + length (table_of (take i xs))) x))
    ∙ ap (λ ys. base ++ ys) (sym (ap (flat_map word) (ap (offsets_from 0) (take_more xs i None h) ∙ offsets_push 0 (take i xs) x)
    ∙ flat_map-append word (offsets_from 0 (take i xs)) (offset_of (0 + length (table_of (take i xs))) x ∷ [])
    ∙ ap (λ ys. flat_map word (offsets_from 0 (take i xs)) ++ ys) (append-nil (word (offset_of (0 + length (table_of (take i xs))) x)))))

pub offsets_end : (word : ℕ → List ℕ) (xs : List (Option (List ℕ))) (i count : ℕ) (base out : List ℕ) → out ≡ base ++ flat_map word (offsets_from 0 (take i xs))
    → i ≡ count → count ≡ length (trimmed is_some xs) → out ≡ base ++ flat_map word (offsets_from 0 (trimmed is_some xs))
offsets_end word xs i count base out e at c = e ∙ ap (λ n. base ++ flat_map word (offsets_from 0 (take n xs))) (at ∙ c) ∙ ap (λ ys. base ++ flat_map word (offsets_from 0 ys)) (trimmed_take is_some xs)

-- a place of the table is within it
pub place_small : (xs : List (Option (List ℕ))) (i count place : ℕ) → i < count → count ≡ length (trimmed is_some xs) → place ≡ length (table_of (take i xs)) → place ≤ length (table_of (trimmed is_some xs))
place_small xs i count place h c e =
    let whole = trimmed_take is_some xs in
    let below : i ≤ length (trimmed is_some xs) = omega arith in
    let same : take i xs ≡ take i (trimmed is_some xs) = sym (take-take i (length (trimmed is_some xs)) xs below) ∙ ap (take i) whole in
    let parts : table_of (trimmed is_some xs) ≡ table_of (take i (trimmed is_some xs)) ++ table_of (drop i (trimmed is_some xs)) = ap table_of (sym (take-append-drop i (trimmed is_some xs))) ∙ flat_map-append string_cell (take i (trimmed is_some xs)) (drop i (trimmed is_some xs)) in
    let size : length (table_of (trimmed is_some xs)) ≡ length (table_of (take i (trimmed is_some xs))) + length (table_of (drop i (trimmed is_some xs))) = ap length parts ∙ length-append (table_of (take i (trimmed is_some xs))) (table_of (drop i (trimmed is_some xs))) in
    let here : place ≡ length (table_of (take i (trimmed is_some xs))) = e ∙ ap (λ ys. length (table_of ys)) same in
    omega arith
