-- The parameters of a row, and the row that they give.
use Rattle.std.proofs.Common.{◌≡◌, ℕ, ◌<◌, ◌==◌, ◌&&◌, nat_le, nat_lt, Bool, true, false, if◌then◌else◌, zero, suc, List, [], ◌∷◌, length, Option, Some, None, refl, sym, ap, ◌∙◌, subst, arith}
use Rattle.std.specs.Option.{option_map, option_and_then}
use Rattle.std.proofs.lemmas.Option.{same_Some, none-some}
use Rattle.std.proofs.lemmas.Bool.{and_parts, ltb-true, leb-true, eqb-true}
use Rattle.vt_term.specs.Color.{Color, color, color_number, Black}
use Rattle.ti_rows.specs.Bits.{bit}
use Rattle.ti_rows.specs.Names.{order, first_in_order}
use Rattle.ti_rows.specs.Params.{params, without_numbers, only_number, two_numbers, only_color, are_bits, ends_bits, nine_bits, with_params, HasParams, FindsParams, ParamsFound, SameCount}
use Rattle.ti_rows.specs.Rows.{Attributes, Row, Clear, Cup, Hpa, Vpa, Cub, Cuf, Cuu, Cud, Ech, Sgr, Setaf, Setab, Csr}

-- the one shape of list that each reader takes
map_some : {A : Type 0} (make : A → Row) (o : Option A) (other : Row) → option_map make o ≡ Some other → (x : A) × (o ≡ Some x) × (make x ≡ other)
map_some make None other h = absurd (none-some other h)
map_some make (Some x) other h = (x, refl, same_Some (make x) other h)

no_number : {A : Type 0} (P : Type 0) (x : A) → None ≡ Some x → P
no_number P x h = absurd (none-some x h)

one_shape : (numbers : List ℕ) (n : ℕ) → only_number numbers ≡ Some n → n ∷ [] ≡ numbers
one_shape [] n h = no_number _ n h
one_shape (x ∷ []) n h = ap (λ (k : ℕ). k ∷ []) (sym (same_Some x n h))
one_shape (x ∷ y ∷ more) n h = no_number _ n h

two_shape : (numbers : List ℕ) (p : ℕ × ℕ) → two_numbers numbers ≡ Some p → p.0 ∷ p.1 ∷ [] ≡ numbers
two_shape [] p h = no_number _ p h
two_shape (x ∷ []) p h = no_number _ p h
two_shape (x ∷ y ∷ []) p h = ap (λ (q : ℕ × ℕ). q.0 ∷ q.1 ∷ []) (sym (same_Some (x, y) p h))
two_shape (x ∷ y ∷ z ∷ more) p h = no_number _ p h

none_shape : (row other : Row) (numbers : List ℕ) → without_numbers row numbers ≡ Some other → (row ≡ other) × ([] ≡ numbers)
none_shape row other [] h = (same_Some row other h, refl)
none_shape row other (x ∷ more) h = no_number _ other h

if_there : {A : Type 0} (b : Bool) (x y : A) → (if b then Some x else None) ≡ Some y → (b ≡ true) × (x ≡ y)
if_there true x y h = (refl, same_Some x y h)
if_there false x y h = no_number _ y h

pub color_back : (c : Color) → color (color_number c) ≡ c
color_back Black = refl
color_back c = refl

pub color_small : (c : Color) → color_number c < 8
color_small Black = omega arith
color_small c = omega arith

pub number_back : (n : ℕ) → n < 8 → color_number (color n) ≡ n
number_back zero lt = refl
number_back (suc zero) lt = refl
number_back (suc (suc zero)) lt = refl
number_back (suc (suc (suc zero))) lt = refl
number_back (suc (suc (suc (suc zero)))) lt = refl
number_back (suc (suc (suc (suc (suc zero))))) lt = refl
number_back (suc (suc (suc (suc (suc (suc zero)))))) lt = refl
number_back (suc (suc (suc (suc (suc (suc (suc zero))))))) lt = refl
number_back (suc (suc (suc (suc (suc (suc (suc (suc n)))))))) lt = absurd (omega (arith, lt))

color_shape : (numbers : List ℕ) (c : Color) → only_color numbers ≡ Some c → color_number c ∷ [] ≡ numbers
color_shape [] c h = no_number _ c h
color_shape (n ∷ []) c h = let p = if_there (nat_lt n 8) (color n) c h in
    ap (λ (k : ℕ). k ∷ []) (ap color_number (sym p.1) ∙ number_back n (ltb-true n 8 p.0))
color_shape (x ∷ y ∷ more) c h = no_number _ c h

bit_of : (n : ℕ) → nat_le n 1 ≡ true → bit (n == 1) ≡ n
bit_of zero h = refl
bit_of (suc zero) h = refl
bit_of (suc (suc n)) h = absurd (omega (arith, leb-true (suc (suc n)) 1 h))

bit_small : (b : Bool) → nat_le (bit b) 1 ≡ true
bit_small true = refl
bit_small false = refl

bit_back : (b : Bool) → (bit b == 1) ≡ b
bit_back true = refl
bit_back false = refl

nine_shape : (s u r k d b i x y : ℕ) (a : Attributes) → nine_bits (s ∷ u ∷ r ∷ k ∷ d ∷ b ∷ i ∷ x ∷ y ∷ []) ≡ Some a → params (Sgr a) ≡ s ∷ u ∷ r ∷ k ∷ d ∷ b ∷ i ∷ x ∷ y ∷ []
nine_shape s u r k d b i x y a h =
    let p = if_there (are_bits s u r && (are_bits k d b && ends_bits i x y)) _ a h in
    let q = and_parts (are_bits s u r) (are_bits k d b && ends_bits i x y) p.0 in
    let v = and_parts (are_bits k d b) (ends_bits i x y) q.1 in
    let sur = and_parts (nat_le s 1) (nat_le u 1 && nat_le r 1) q.0 in
    let ur = and_parts (nat_le u 1) (nat_le r 1) sur.1 in
    let kdb = and_parts (nat_le k 1) (nat_le d 1 && nat_le b 1) v.0 in
    let db = and_parts (nat_le d 1) (nat_le b 1) kdb.1 in
    let ixy = and_parts (nat_le i 1) ((x == 0) && (y == 0)) v.1 in
    let xy = and_parts (x == 0) (y == 0) ixy.1 in
    ap (λ (z : Attributes). params (Sgr z)) (sym p.1)
    ∙ nine_same (bit_of s sur.0) (bit_of u ur.0) (bit_of r ur.1) (bit_of k kdb.0) (bit_of d db.0) (bit_of b db.1) (bit_of i ixy.0) (sym (eqb-true x 0 xy.0)) (sym (eqb-true y 0 xy.1))
  where
    nine_same : {s s' u u' r r' k k' d d' b b' i i' x x' y y' : ℕ} → s ≡ s' → u ≡ u' → r ≡ r' → k ≡ k' → d ≡ d' → b ≡ b' → i ≡ i' → x ≡ x' → y ≡ y'
        → s ∷ u ∷ r ∷ k ∷ d ∷ b ∷ i ∷ x ∷ y ∷ [] ≡ s' ∷ u' ∷ r' ∷ k' ∷ d' ∷ b' ∷ i' ∷ x' ∷ y' ∷ []
    nine_same a b c d e f g h i = cc

bits_shape : (numbers : List ℕ) (a : Attributes) → nine_bits numbers ≡ Some a → params (Sgr a) ≡ numbers
bits_shape [] a h = no_number _ a h
bits_shape (s ∷ []) a h = no_number _ a h
bits_shape (s ∷ u ∷ []) a h = no_number _ a h
bits_shape (s ∷ u ∷ r ∷ []) a h = no_number _ a h
bits_shape (s ∷ u ∷ r ∷ k ∷ []) a h = no_number _ a h
bits_shape (s ∷ u ∷ r ∷ k ∷ d ∷ []) a h = no_number _ a h
bits_shape (s ∷ u ∷ r ∷ k ∷ d ∷ b ∷ []) a h = no_number _ a h
bits_shape (s ∷ u ∷ r ∷ k ∷ d ∷ b ∷ i ∷ []) a h = no_number _ a h
bits_shape (s ∷ u ∷ r ∷ k ∷ d ∷ b ∷ i ∷ x ∷ []) a h = no_number _ a h
bits_shape (s ∷ u ∷ r ∷ k ∷ d ∷ b ∷ i ∷ x ∷ y ∷ []) a h = nine_shape s u r k d b i x y a h
bits_shape (s ∷ u ∷ r ∷ k ∷ d ∷ b ∷ i ∷ x ∷ y ∷ z ∷ more) a h = no_number _ a h

-- the row found is of the same capability, with just these parameters
found : (row other made : Row) (numbers : List ℕ) → made ≡ other → order made ≡ order row → params made ≡ numbers → HasParams row other numbers
found row other made numbers e o p = subst (λ (x : Row). HasParams row x numbers) e (record { same_order = o; has = p })

pub finds_params : FindsParams
finds_params (Cup row col) other numbers h = let p = map_some (λ (p : ℕ × ℕ). Cup p.0 p.1) (two_numbers numbers) other h in found (Cup row col) other (Cup p.0.0 p.0.1) numbers p.2 refl (two_shape numbers p.0 p.1)
finds_params (Hpa col) other numbers h = let p = map_some (λ (n : ℕ). Hpa n) (only_number numbers) other h in found (Hpa col) other (Hpa p.0) numbers p.2 refl (one_shape numbers p.0 p.1)
finds_params (Vpa row) other numbers h = let p = map_some (λ (n : ℕ). Vpa n) (only_number numbers) other h in found (Vpa row) other (Vpa p.0) numbers p.2 refl (one_shape numbers p.0 p.1)
finds_params (Cub n) other numbers h = let p = map_some (λ (n : ℕ). Cub n) (only_number numbers) other h in found (Cub n) other (Cub p.0) numbers p.2 refl (one_shape numbers p.0 p.1)
finds_params (Cuf n) other numbers h = let p = map_some (λ (n : ℕ). Cuf n) (only_number numbers) other h in found (Cuf n) other (Cuf p.0) numbers p.2 refl (one_shape numbers p.0 p.1)
finds_params (Cuu n) other numbers h = let p = map_some (λ (n : ℕ). Cuu n) (only_number numbers) other h in found (Cuu n) other (Cuu p.0) numbers p.2 refl (one_shape numbers p.0 p.1)
finds_params (Cud n) other numbers h = let p = map_some (λ (n : ℕ). Cud n) (only_number numbers) other h in found (Cud n) other (Cud p.0) numbers p.2 refl (one_shape numbers p.0 p.1)
finds_params (Ech n) other numbers h = let p = map_some (λ (n : ℕ). Ech n) (only_number numbers) other h in found (Ech n) other (Ech p.0) numbers p.2 refl (one_shape numbers p.0 p.1)
finds_params (Sgr a) other numbers h = let p = map_some (λ (a : Attributes). Sgr a) (nine_bits numbers) other h in found (Sgr a) other (Sgr p.0) numbers p.2 refl (bits_shape numbers p.0 p.1)
finds_params (Setaf c) other numbers h = let p = map_some (λ (c : Color). Setaf c) (only_color numbers) other h in found (Setaf c) other (Setaf p.0) numbers p.2 refl (color_shape numbers p.0 p.1)
finds_params (Setab c) other numbers h = let p = map_some (λ (c : Color). Setab c) (only_color numbers) other h in found (Setab c) other (Setab p.0) numbers p.2 refl (color_shape numbers p.0 p.1)
finds_params (Csr top bottom) other numbers h = let p = map_some (λ (p : ℕ × ℕ). Csr p.0 p.1) (two_numbers numbers) other h in found (Csr top bottom) other (Csr p.0.0 p.0.1) numbers p.2 refl (two_shape numbers p.0 p.1)
finds_params row other numbers h = let p = none_shape row other numbers h in found row other row numbers p.0 refl p.1

-- a row is found again by its own parameters
bits_back : (a : Attributes) → nine_bits (params (Sgr a)) ≡ Some a
bits_back a = simp (bit_small, bit_back)

color_read : (make : Color → Row) (c : Color) → option_map make (only_color (color_number c ∷ [])) ≡ Some (make c)
color_read make Black = refl
color_read make c = refl

own_params : (row : Row) → with_params row (params row) ≡ Some row
own_params (Sgr a) = ap (λ (o : Option Attributes). option_map (λ b. Sgr b) o) (bits_back a)
own_params (Setaf c) = color_read (λ x. Setaf x) c
own_params (Setab c) = color_read (λ x. Setab x) c
own_params row = refl

-- a reader depends on the capability alone
abbrev with_first : ℕ → List ℕ → Option Row
with_first n numbers = option_and_then (λ row. with_params row numbers) (first_in_order n)

by_first : (row : Row) (numbers : List ℕ) → with_params row numbers ≡ with_first (order row) numbers
unfolding first_in_order
by_first Clear numbers = refl
by_first row numbers = refl

pub params_found : ParamsFound
params_found row other same = by_first row (params other) ∙ ap (λ (n : ℕ). with_first n (params other)) same ∙ sym (by_first other (params other)) ∙ own_params other

-- all rows of a capability have the same number of parameters
abbrev first_count : Option Row → ℕ
first_count None = 0
first_count (Some row) = length (params row)

count_by_first : (row : Row) → length (params row) ≡ first_count (first_in_order (order row))
unfolding first_in_order
count_by_first Clear = refl
count_by_first row = refl

pub same_count : SameCount
same_count row other same = count_by_first row ∙ ap (λ (n : ℕ). first_count (first_in_order n)) same ∙ sym (count_by_first other)

-- the forms of a row of the same capability
pub same_plain : (row other : Row) → ((numbers : List ℕ) → with_params row numbers ≡ without_numbers row numbers) → order row ≡ order other → row ≡ other
same_plain row other plain same = (none_shape row other (params other) (sym (plain (params other)) ∙ params_found row other same)).0

pub record Same {A : Type 0} (make : A → Row) (other : Row) : Type 0 where
  pub inside : A
  pub is : make inside ≡ other

pub same_made : {A : Type 0} (make : A → Row) (read : List ℕ → Option A) (row other : Row) → ((numbers : List ℕ) → with_params row numbers ≡ option_map make (read numbers)) → order row ≡ order other → Same make other
same_made make read row other reads same = let p = map_some make (read (params other)) other (sym (reads (params other)) ∙ params_found row other same) in record { inside = p.0; is = p.2 }
