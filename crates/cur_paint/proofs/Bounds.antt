-- The bound in the words of the promise.
use Rattle.std.proofs.Common.{◌≡◌, ℕ, ◌+◌, ◌*◌, ◌<◌, ◌≤◌, ◌==◌, ◌&&◌, Bool, true, false, zero, suc, length, if◌then◌else◌, Option, Some, None, refl, sym, ap, subst, ◌∙◌, arith}
use Rattle.std.proofs.lemmas.Bool.Decides.{nat_tests}
use Rattle.vt_term.specs.Screen.{State}
use Rattle.ti_conforms.specs.Certified.{Table, cell_limit}
use Rattle.cur_steps.specs.Inks.{same}
use Rattle.cur_steps.specs.Beliefs.{Agrees, moves, changes, same_mode}
use Rattle.cur_steps.specs.declared.beliefs.Belief.{Belief}
use Rattle.cur_steps.specs.declared.beliefs.Place.{Place}
use Rattle.cur_steps.specs.declared.beliefs.Mode.{Mode}
use Rattle.cur_steps.specs.declared.beliefs.Mode.TheVariants.{Hidden, Normal, Prominent}
use Rattle.cur_steps.specs.declared.inks.Ink.{Ink}
use Rattle.cur_steps.proofs.Turns.{stands_at}
use Rattle.cur_paint.specs.Differ.{differs, span, all_differ}
use Rattle.cur_paint.specs.Limits.{IsCursor, IsPlaced, IsWithin, seen_at, last_move, is_settled, paint_limit, renewal_limit, fresh_limit}
use Rattle.cur_paint.specs.Rests.{IsAt}
use Rattle.cur_paint.proofs.Mixtures.{times_grows}

pub once_more : (d l : ℕ) → (d + 1) * l ≡ d * l + l
once_more d l = grind arith

one_most : (b : Bool) (l : ℕ) → (if b then 0 else 1) * l ≤ l
one_most true l = omega arith
one_most false l = omega arith

pub most : (t : Table) (old new : ℕ → ℕ → Ink) (b : Belief) (cursor : Option Place) (mode : Mode) → paint_limit t old new b cursor mode ≤ (all_differ old new t.cols t.rows + 1) * cell_limit t
most t old new b cursor mode =
    let d = all_differ old new t.cols t.rows in
    let h : (if (d == 0) && is_settled t.cols b cursor mode then 0 else 1) * cell_limit t ≤ cell_limit t = one_most ((d == 0) && is_settled t.cols b cursor mode) (cell_limit t) in
    let c : (d + 1) * cell_limit t ≡ d * cell_limit t + cell_limit t = grind arith in
    omega (arith, h, c)

not_moved : (p : Place) → moves p p.row p.col ≡ 0
not_moved p = grind (arith, nat_tests)

-- a cursor at the wanted place needs no move
stays : (cols : ℕ) (now : Place) (cursor : Option Place) → IsPlaced cols cursor now → last_move cols now cursor ≡ 0
stays cols now None h = refl
stays cols now (Some p) h =
    let at : Place = seen_at cols now in
    ap (λ (n : ℕ). moves at n p.col) (sym h.0) ∙ ap (λ (n : ℕ). moves at at.row n) (sym h.1) ∙ not_moved at

-- the cursor is at a place on the screen once it is believed there
pub reached : (cols : ℕ) (p : Place) → p.col < cols → IsPlaced cols (Some p) (record { row = p.row; col = p.col })
reached cols p lt = (refl, sym (stands_at cols p.row p.col lt).1)

pub placed_at : (t : Table) (cursor : Option Place) (now : Place) → IsWithin t cursor → IsAt cursor now → IsPlaced t.cols cursor now
placed_at t None now w e = tt
placed_at t (Some p) now w e = let Q : Place → Type 0 = λ q. IsPlaced t.cols (Some p) q in subst Q (sym e) (reached t.cols p w.1)

pub at_as : (cursor : Option Place) (at now : Place) → cursor ≡ Some at → now ≡ at → IsAt cursor now
at_as cursor at now e f = subst (λ (o : Option Place). IsAt o now) (sym e) f

-- a place that the cursor has in a state that agrees is also its believed place
pub placed_as : (t : Table) (g : ℕ → ℕ → Ink) (b : Belief) (cursor : Option Place) (s : State) → Agrees t g b s → IsCursor cursor s.screen.row s.screen.col → IsPlaced t.cols cursor b.place
placed_as t g b cursor s h k =
    let P : ℕ → Type 0 = λ n. IsCursor cursor n (seen_at t.cols b.place).col in
    let Q : ℕ → Type 0 = λ n. IsCursor cursor s.screen.row n in
    subst P h.place.0 (subst Q h.place.1 k)

same_itself : (m : Mode) → same_mode m m ≡ true
same_itself Hidden = refl
same_itself Normal = refl
same_itself Prominent = refl

unchanged : (now : Option Mode) (m : Mode) → now ≡ Some m → changes now m ≡ 0
unchanged now m e = ap (λ (x : Option Mode). changes x m) e ∙ ap (λ (x : Bool). if x then 0 else 1) (same_itself m)

nothing : (d x y l : ℕ) → d ≡ 0 → x ≡ 0 → y ≡ 0 → d * l + (if (d == 0) && ((x == 0) && (y == 0)) then 0 else 1) * l ≡ 0
nothing d x y l e f h =
    let P : ℕ → Type 0 = λ n. n * l + (if (n == 0) && ((x == 0) && (y == 0)) then 0 else 1) * l ≡ 0 in
    let Q : ℕ → Type 0 = λ n. 0 * l + (if (n == 0) && (y == 0) then 0 else 1) * l ≡ 0 in
    let R : ℕ → Type 0 = λ n. 0 * l + (if (n == 0) then 0 else 1) * l ≡ 0 in
    subst P (sym e) (subst Q (sym f) (subst R (sym h) (omega arith)))

-- the bound has a cell's limit once more if a cell differs, or the cursor must move or change its mode
due : (d l : ℕ) (s : Bool) → ((d == 0) && s) ≡ false → (d + 1) * l ≤ d * l + (if (d == 0) && s then 0 else 1) * l
due d l s e =
    let P : Bool → Type 0 = λ x. (d + 1) * l ≤ d * l + (if x then 0 else 1) * l in
    let c : (d + 1) * l ≡ d * l + l = grind arith in
    subst P (sym e) (omega (arith, c))

refuted : (x y : Bool) → y ≡ false → (x && y) ≡ false
refuted true y e = e
refuted false y e = refl

refuted_first : (x y : Bool) → x ≡ false → (x && y) ≡ false
refuted_first true y e = absurd (cc)
refuted_first false y e = refl

not_none : (n : ℕ) → n ≡ 1 → (n == 0) ≡ false
not_none n e = ap (λ (k : ℕ). k == 0) e

pub due_moved : (t : Table) (old new : ℕ → ℕ → Ink) (b : Belief) (cursor : Option Place) (mode : Mode) → last_move t.cols b.place cursor ≡ 1 → renewal_limit t old new ≤ paint_limit t old new b cursor mode
due_moved t old new b cursor mode e =
    let d = all_differ old new t.cols t.rows in
    due d (cell_limit t) (is_settled t.cols b cursor mode) (refuted (d == 0) (is_settled t.cols b cursor mode) (refuted_first (last_move t.cols b.place cursor == 0) (changes b.mode mode == 0) (not_none _ e)))

pub due_shown : (t : Table) (old new : ℕ → ℕ → Ink) (b : Belief) (cursor : Option Place) (mode : Mode) → changes b.mode mode ≡ 1 → renewal_limit t old new ≤ paint_limit t old new b cursor mode
due_shown t old new b cursor mode e =
    let d = all_differ old new t.cols t.rows in
    due d (cell_limit t) (is_settled t.cols b cursor mode) (refuted (d == 0) (is_settled t.cols b cursor mode) (refuted (last_move t.cols b.place cursor == 0) (changes b.mode mode == 0) (not_none _ e)))

some_left : (n : ℕ) → 0 < n → (n == 0) ≡ false
some_left zero lt = absurd (omega (arith, lt))
some_left (suc n) lt = grind (arith, nat_tests)

pub due_changed : (t : Table) (old new : ℕ → ℕ → Ink) (b : Belief) (cursor : Option Place) (mode : Mode) → 0 < all_differ old new t.cols t.rows → renewal_limit t old new ≤ paint_limit t old new b cursor mode
due_changed t old new b cursor mode lt =
    let d = all_differ old new t.cols t.rows in
    due d (cell_limit t) (is_settled t.cols b cursor mode) (refuted_first (d == 0) (is_settled t.cols b cursor mode) (some_left d lt))

-- the bound is 0 if nothing is to be done
pub none_due : (t : Table) (old new : ℕ → ℕ → Ink) (b : Belief) (cursor : Option Place) (mode : Mode) → all_differ old new t.cols t.rows ≡ 0 → IsPlaced t.cols cursor b.place → b.mode ≡ Some mode → paint_limit t old new b cursor mode ≡ 0
none_due t old new b cursor mode e p k = nothing (all_differ old new t.cols t.rows) (last_move t.cols b.place cursor) (changes b.mode mode) (cell_limit t) e (stays t.cols b.place cursor p) (unchanged b.mode mode k)

pub none : (t : Table) (old new : ℕ → ℕ → Ink) (b : Belief) (cursor : Option Place) (mode : Mode) → all_differ old new t.cols t.rows ≡ 0 → b.mode ≡ Some mode
    → (s : State) → Agrees t old b s → IsCursor cursor s.screen.row s.screen.col → paint_limit t old new b cursor mode ≡ 0
none t old new b cursor mode e k s h at = none_due t old new b cursor mode e (placed_as t old b cursor s h at) k

few : (b : Bool) → (if b then 0 else 1) ≤ 1
few true = omega arith
few false = omega arith

span_few : (old new : ℕ → ℕ → Ink) (i from n : ℕ) → span old new i from n ≤ n
span_few old new i from zero = omega arith
span_few old new i from (suc n) = let h : span old new i from n ≤ n = span_few old new i from n in let k : differs old new i (from + n) ≤ 1 = few (same (old i (from + n)) (new i (from + n))) in omega (arith, h, k)

all_few : (old new : ℕ → ℕ → Ink) (cols n : ℕ) → all_differ old new cols n ≤ n * cols
all_few old new cols zero = omega arith
all_few old new cols (suc n) = let h : all_differ old new cols n ≤ n * cols = all_few old new cols n in let k : span old new n 0 cols ≤ cols = span_few old new n 0 cols in omega (arith, h, k)

pub fresh_enough : (t : Table) (n : ℕ) (old new : ℕ → ℕ → Ink) → n ≤ length t.resync → n + renewal_limit t old new ≤ fresh_limit t
fresh_enough t n old new le =
    let d = all_differ old new t.cols t.rows in
    let a : (d + 1) * cell_limit t ≤ (t.rows * t.cols + 1) * cell_limit t = times_grows (d + 1) (t.rows * t.cols + 1) (cell_limit t) (omega (arith, all_few old new t.cols t.rows)) in
    omega (arith, a, le)

no_less : (n l : ℕ) → 1 ≤ l → n ≤ n * l
no_less n l le = let h : 1 * n ≤ l * n = times_grows 1 l n le in let c : l * n ≡ n * l = grind arith in omega (arith, h, c)

one_more : (d l : ℕ) (settled : Bool) → 0 < d → d * l + l ≤ d * l + (if (d == 0) && settled then 0 else 1) * l
one_more zero l settled lt = absurd (omega (arith, lt))
one_more (suc d) l settled lt =
    let f : (suc d == 0) ≡ false = grind (arith, nat_tests) in
    let P : Bool → Type 0 = λ x. suc d * l + l ≤ suc d * l + (if x && settled then 0 else 1) * l in
    subst P (sym f) (omega arith)

-- the bound is enough for some bytes and a repair that has fewer cells, by more than these bytes
pub fewer_enough : (t : Table) (n : ℕ) (blank old new : ℕ → ℕ → Ink) (b : Belief) (cursor : Option Place) (mode : Mode) → n + all_differ blank new t.cols t.rows < all_differ old new t.cols t.rows
    → n + renewal_limit t blank new ≤ paint_limit t old new b cursor mode
fewer_enough t n blank old new b cursor mode lt =
    let x = all_differ blank new t.cols t.rows in
    let y = all_differ old new t.cols t.rows in
    let l = cell_limit t in
    let a : (n + x) * l ≤ y * l = times_grows (n + x) y l (omega (arith, lt)) in
    let e : (n + x) * l ≡ n * l + x * l = grind arith in
    let k : n ≤ n * l = no_less n l (omega arith) in
    let c : (x + 1) * l ≡ x * l + l = grind arith in
    let m : y * l + l ≤ paint_limit t old new b cursor mode = one_more y l (is_settled t.cols b cursor mode) (omega (arith, lt)) in
    omega (arith, a, e, k, c, m)

-- the bound is enough for a scroll and a repair that has fewer cells, by as many as the scroll counts for
pub scrolled_enough : (t : Table) (k : ℕ) (moved old new : ℕ → ℕ → Ink) (b : Belief) (cursor : Option Place) (mode : Mode) → 0 < k → k + all_differ moved new t.cols t.rows ≤ all_differ old new t.cols t.rows
    → k * cell_limit t + renewal_limit t moved new ≤ paint_limit t old new b cursor mode
scrolled_enough t k moved old new b cursor mode some le =
    let x = all_differ moved new t.cols t.rows in
    let y = all_differ old new t.cols t.rows in
    let l = cell_limit t in
    let a : (k + x) * l ≤ y * l = times_grows (k + x) y l le in
    let e : (k + x) * l ≡ k * l + x * l = grind arith in
    let c : (x + 1) * l ≡ x * l + l = grind arith in
    let m : y * l + l ≤ paint_limit t old new b cursor mode = one_more y l (is_settled t.cols b cursor mode) (omega (arith, le, some)) in
    omega (arith, a, e, c, m)
