-- Screens that are half new.
use Rattle.std.proofs.Common.{◌≡◌, ℕ, ◌+◌, ◌-◌, ◌*◌, ◌<◌, ◌≤◌, inl, inr, Bool, true, false, if◌then◌else◌, zero, suc, refl, sym, ap, subst, ◌∙◌, arith}
use Rattle.std.proofs.lemmas.Bool.Decides.{nat_tests}
use Rattle.std.proofs.lemmas.Bool.{cases_lt}
use Rattle.cur_steps.specs.Inks.{same, mixed, put_at, blank_ink}
use Rattle.cur_steps.specs.Gaps.{BeginsAs, IsAlike}
use Rattle.cur_moves.specs.Erasures.{erased}
use Rattle.cur_moves.specs.declared.erasures.ErasedPart.TheVariants.{Head, Part, Tail, Rest}
use Rattle.cur_paint.specs.Differ.{differs, span, all_differ}
use Rattle.cur_paint.specs.Blanks.{IsBlankFrom}
use Rattle.ti_conforms.specs.Certified.{Table}
use Rattle.cur_steps.specs.Beliefs.{Agrees}
use Rattle.cur_steps.specs.declared.beliefs.Belief.{Belief}
use Rattle.vt_term.specs.Screen.{State}
use Rattle.cur_steps.proofs.Sameness.{same_equal}
use Rattle.cur_steps.specs.declared.inks.Ink.{Ink}

-- a state agrees with equal cells in other words
pub agrees_as : (t : Table) (g h : ℕ → ℕ → Ink) (b : Belief) → ((i j : ℕ) → i < t.rows → j < t.cols → g i j ≡ h i j) → (s : State) → Agrees t g b s → Agrees t h b s
agrees_as t g h b e s a = record { ready = a.ready; cells = λ i j li lj. rw (← e i j li lj) (a.cells i j li lj); place = a.place; brush = a.brush; colored = a.colored; set = a.set; seen = a.seen }

-- one more place
pub mixed_put : (old new : ℕ → ℕ → Ink) (r c i j : ℕ) → put_at r c (new r c) (mixed old new r c) i j ≡ mixed old new r (c + 1) i j
mixed_put old new r c i j = grind (arith, nat_tests)

pub mixed_same : (old new : ℕ → ℕ → Ink) (r c i j : ℕ) → old r c ≡ new r c → mixed old new r c i j ≡ mixed old new r (c + 1) i j
mixed_same old new r c i j e = grind (arith, nat_tests)

pub mixed_blank : (old new : ℕ → ℕ → Ink) (r c cols i j : ℕ) → j < cols → ((k : ℕ) → c ≤ k → k < cols → new r k ≡ blank_ink) → erased Tail r c (mixed old new r c) i j ≡ mixed old new r cols i j
mixed_blank old new r c cols i j lt h = grind (arith, nat_tests, h j)

-- the line is new up to the place
pub mixed_before : (old new : ℕ → ℕ → Ink) (r c : ℕ) → BeginsAs (mixed old new r c) new r c
mixed_before old new r c k lt = grind (arith, nat_tests)

-- if a line's first columns are right already, mending may begin after them
pub mixed_front : (old new : ℕ → ℕ → Ink) (r c i j : ℕ) → ((k : ℕ) → k < c → old r k ≡ new r k) → mixed old new r 0 i j ≡ mixed old new r c i j
mixed_front old new r c i j h = grind (arith, nat_tests, h j)

pub mixed_rest : (old new : ℕ → ℕ → Ink) (r c cols i j : ℕ) → j < cols → ((k : ℕ) → c ≤ k → k < cols → old r k ≡ new r k) → mixed old new r c i j ≡ mixed old new r cols i j
mixed_rest old new r c cols i j lt h = grind (arith, nat_tests, h j)

pub mixed_row : (old new : ℕ → ℕ → Ink) (r cols i j : ℕ) → j < cols → mixed old new r cols i j ≡ mixed old new (r + 1) 0 i j
mixed_row old new r cols i j lt = grind (arith, nat_tests)

pub put_new : (old new : ℕ → ℕ → Ink) (r c : ℕ) (x : Ink) → x ≡ new r c → (i j : ℕ) → put_at r c x (mixed old new r c) i j ≡ mixed old new r (c + 1) i j
put_new old new r c x e i j = ap (λ (y : Ink). put_at r c y (mixed old new r c) i j) e ∙ mixed_put old new r c i j

pub found_same : (old new : ℕ → ℕ → Ink) (r c : ℕ) (a b : Ink) → a ≡ old r c → b ≡ new r c → true ≡ same a b → old r c ≡ new r c
found_same old new r c a b p q e = sym p ∙ same_equal a b (sym e) ∙ q

pub found_different : (old new : ℕ → ℕ → Ink) (r c : ℕ) (b : Ink) → b ≡ new r c → false ≡ same (old r c) b → differs old new r c ≡ 1
found_different old new r c b q e =
    let f : same (old r c) (new r c) ≡ false = ap (λ (x : Ink). same (old r c) x) (sym q) ∙ sym e in
    ap (λ (x : Bool). if x then 0 else 1) f

pub span_more : (old new : ℕ → ℕ → Ink) (i from n : ℕ) → span old new i from (n + 1) ≡ span old new i from n + differs old new i (from + n)
span_more old new i from n = let same : suc n ≡ n + 1 = omega arith in let P : ℕ → Type 0 = λ m. span old new i from m ≡ span old new i from n + differs old new i (from + n) in subst P same refl

-- the count of a line from its start on, and one more place
pub span_next : (old new : ℕ → ℕ → Ink) (i n count one : ℕ) → count ≡ span old new i 0 n → one ≡ differs old new i n → count + one ≡ span old new i 0 (n + 1)
span_next old new i n count one e f =
    let there : 0 + n ≡ n = omega arith in
    let d : differs old new i (0 + n) ≡ differs old new i n = ap (λ (m : ℕ). differs old new i m) there in
    omega (arith, e, f, d, span_more old new i 0 n)

pub span_grows : (old new : ℕ → ℕ → Ink) (i from n m : ℕ) → n ≤ m → span old new i from n ≤ span old new i from m
span_grows old new i from n zero le = let P : ℕ → Type 0 = λ k. span old new i from k ≤ 0 in let same : 0 ≡ n = omega arith in subst P same (omega arith)
span_grows old new i from n (suc m) le = elim (cases_lt n (suc m)) [
  | inl lt ↦ (let h : span old new i from n ≤ span old new i from m = span_grows old new i from n m (omega arith) in omega (arith, h))
  | inr ge ↦ (let P : ℕ → Type 0 = λ k. span old new i from k ≤ span old new i from (suc m) in let same : suc m ≡ n = omega arith in subst P same (omega arith))
]

pub times_grows : (a b l : ℕ) → a ≤ b → a * l ≤ b * l
times_grows a b l le = grind arith

pub sum_limit : (a b c l : ℕ) → c ≡ a + b → a * l + b * l ≤ c * l
sum_limit a b c l e = let P : ℕ → Type 0 = λ n. a * l + b * l ≤ n * l in subst P (sym e) (grind arith)

pub span_join : (old new : ℕ → ℕ → Ink) (i from a n : ℕ) → span old new i from a + span old new i (from + a) n ≡ span old new i from (a + n)
span_join old new i from a zero = let same : a ≡ a + zero = omega arith in let P : ℕ → Type 0 = λ m. span old new i from a + 0 ≡ span old new i from m in subst P same (omega arith)
span_join old new i from a (suc n) =
    let h : span old new i from a + span old new i (from + a) n ≡ span old new i from (a + n) = span_join old new i from a n in
    let same : suc (a + n) ≡ a + suc n = omega arith in
    let place : from + a + n ≡ from + (a + n) = omega arith in
    let d : differs old new i (from + a + n) ≡ differs old new i (from + (a + n)) = ap (λ (m : ℕ). differs old new i m) place in
    let P : ℕ → Type 0 = λ m. span old new i from a + (span old new i (from + a) n + differs old new i (from + a + n)) ≡ span old new i from m in
    subst P same (omega (arith, h, d))

-- two parts of a line
pub span_parts : (old new : ℕ → ℕ → Ink) (i a cols : ℕ) → a ≤ cols → span old new i 0 a + span old new i a (cols - a) ≡ span old new i 0 cols
span_parts old new i a cols le =
    let same : a + (cols - a) ≡ cols = omega arith in
    let zeroth : 0 + a ≡ a = omega arith in
    let P : ℕ → Type 0 = λ m. span old new i 0 a + span old new i a (cols - a) ≡ span old new i 0 m in
    let Q : ℕ → Type 0 = λ m. span old new i 0 a + span old new i m (cols - a) ≡ span old new i 0 (a + (cols - a)) in
    subst P same (subst Q zeroth (span_join old new i 0 a (cols - a)))

-- two parts of a line from a column on
pub span_split : (old new : ℕ → ℕ → Ink) (i from a cols : ℕ) → from ≤ a → a ≤ cols → span old new i from (a - from) + span old new i a (cols - a) ≡ span old new i from (cols - from)
span_split old new i from a cols le more =
    let there : from + (a - from) ≡ a = omega arith in
    let same : (a - from) + (cols - a) ≡ cols - from = omega arith in
    let P : ℕ → Type 0 = λ m. span old new i from (a - from) + span old new i a (cols - a) ≡ span old new i from m in
    let Q : ℕ → Type 0 = λ m. span old new i from (a - from) + span old new i m (cols - a) ≡ span old new i from ((a - from) + (cols - a)) in
    subst P same (subst Q there (span_join old new i from (a - from) (cols - a)))

pub all_more : (old new : ℕ → ℕ → Ink) (cols n : ℕ) → all_differ old new cols (n + 1) ≡ all_differ old new cols n + span old new n 0 cols
all_more old new cols n = let same : suc n ≡ n + 1 = omega arith in let P : ℕ → Type 0 = λ m. all_differ old new cols m ≡ all_differ old new cols n + span old new n 0 cols in subst P same refl

pub all_grows : (old new : ℕ → ℕ → Ink) (cols n m : ℕ) → n ≤ m → all_differ old new cols n ≤ all_differ old new cols m
all_grows old new cols n zero le = let P : ℕ → Type 0 = λ k. all_differ old new cols k ≤ 0 in let same : 0 ≡ n = omega arith in subst P same (omega arith)
all_grows old new cols n (suc m) le = elim (cases_lt n (suc m)) [
  | inl lt ↦ (let h : all_differ old new cols n ≤ all_differ old new cols m = all_grows old new cols n m (omega arith) in omega (arith, h))
  | inr ge ↦ (let P : ℕ → Type 0 = λ k. all_differ old new cols k ≤ all_differ old new cols (suc m) in let same : suc m ≡ n = omega arith in subst P same (omega arith))
]

-- a test that adds nothing to the count holds
zero_same : (b : Bool) → ◌≡◌ {A = ℕ} (if b then 0 else 1) 0 → b ≡ true
zero_same true e = refl
zero_same false e = absurd (omega (arith, e))

-- the screens are the same where no place differs
pub all_same : (old new : ℕ → ℕ → Ink) (cols rows : ℕ) → all_differ old new cols rows ≡ 0 → (i j : ℕ) → i < rows → j < cols → old i j ≡ new i j
all_same old new cols rows e i j li lj =
    let line : span old new i 0 cols ≡ 0 = omega (arith, e, all_grows old new cols (i + 1) rows (omega (arith, li)), all_more old new cols i) in
    let place : differs old new i (0 + j) ≡ 0 = omega (arith, line, span_grows old new i 0 (j + 1) cols (omega (arith, lj)), span_more old new i 0 j) in
    let here : differs old new i (0 + j) ≡ differs old new i j = ap (λ (n : ℕ). differs old new i n) (omega arith) in
    same_equal (old i j) (new i j) (zero_same (same (old i j) (new i j)) (sym here ∙ place))

pub some_times : (n l : ℕ) → 0 < n → l ≤ n * l
some_times n l lt = grind arith

-- a run of blanks that was erased
pub mixed_run : (old new : ℕ → ℕ → Ink) (r c n i j : ℕ) → ((k : ℕ) → c ≤ k → k < c + n → new r k ≡ blank_ink) → erased (Part n) r c (mixed old new r c) i j ≡ mixed old new r (c + n) i j
mixed_run old new r c n i j h = grind (arith, nat_tests, h j)

-- the start of a line, already new up to one column, erased up to another one
pub mixed_head : (old new : ℕ → ℕ → Ink) (r c n i j : ℕ) → 0 < n → ((k : ℕ) → 0 ≤ k → k < c + n → new r k ≡ blank_ink) → erased Head r (c + n - 1) (mixed old new r c) i j ≡ mixed old new r (c + n) i j
mixed_head old new r c n i j some h = grind (arith, nat_tests, h j, some)

-- the rest of a screen, erased from a place on
pub mixed_bottom : (old new : ℕ → ℕ → Ink) (r c i j : ℕ) → (i ≡ r → c ≤ j → new i j ≡ blank_ink) → (r < i → new i j ≡ blank_ink) → erased Rest r c (mixed old new r c) i j ≡ new i j
mixed_bottom old new r c i j h k = grind (arith, nat_tests, h, k)

pub rest_new : (old new : ℕ → ℕ → Ink) (rows cols r c i j : ℕ) → i < rows → j < cols → IsBlankFrom new rows cols r c → erased Rest r c (mixed old new r c) i j ≡ new i j
rest_new old new rows cols r c i j li lj e =
    mixed_bottom old new r c i j (λ same le. (let P : ℕ → Type 0 = λ n. blank_ink ≡ new n j in sym (subst P (sym same) (sym (e.line j le lj))))) (λ lt. e.lines i j lt li lj)

-- a cell that differs is counted
pub one_differs : (old new : ℕ → ℕ → Ink) (i from : ℕ) → differs old new i from ≡ 1 → 0 < span old new i from 1
one_differs old new i from e =
    let more : span old new i from 1 ≡ span old new i from 0 + differs old new i (from + 0) = span_more old new i from 0 in
    let place : from + 0 ≡ from = omega arith in
    let here : differs old new i (from + 0) ≡ differs old new i from = ap (λ (j : ℕ). differs old new i j) place in
    omega (arith, more, here, e)

-- like an ink, except for the character
pub like_alike : (b : Belief) (x y : Ink) (n : ℕ) → IsAlike b y → x ≡ record y { byte = n } → IsAlike b x
like_alike b x y n k f =
    let m : IsAlike b (record y { byte = n }) = record { brush = k.brush; set = k.set } in
    subst (λ (z : Ink). IsAlike b z) (sym f) m
