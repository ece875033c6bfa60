-- The cells after an effect, if all were alike before it.
use Rattle.std.proofs.Common.{◌≡◌, ℕ, ◌+◌, ◌-◌, ◌<◌, ◌≤◌, ◌==◌, ◌&&◌, ◌||◌, Bool, true, false, if◌then◌else◌, length, inl, inr, refl, sym, ap, subst, ◌∙◌, arith}
use Rattle.std.proofs.lemmas.Bool.{cases_lt, leb-true}
use Rattle.std.proofs.lemmas.List.{get_or-replicate, get_or_past, length-replicate}
use Rattle.std.specs.Prelude.{List, [], nat_le, nat_lt, replicate, slice_index_or}
use Rattle.grids.specs.Grids.{cell_at}
use Rattle.grids.proofs.Drawings.{cell_at-drawn, line_at-drawn, length-line_drawn}
use Rattle.vt_term.specs.Look.{IsPrinted, Look, blank, space}
use Rattle.vt_term.specs.Grid.{Grid, line_at, look_at, uniform, drawn}
use Rattle.vt_effects.specs.declared.effects.Effect.{Effect}
use Rattle.vt_effects.specs.declared.effects.Erasure.{Erasure}
use Rattle.vt_effects.specs.declared.effects.Erasure.TheVariants as erasures
use Rattle.vt_effects.specs.declared.effects.Scroll.{Scroll}
use Rattle.vt_effects.specs.declared.effects.Scroll.TheVariants as scrolls
use Rattle.vt_effects.specs.Effect.{erased, scrolled}
use Rattle.ti_checker.specs.Probes.{CanShow, filled_with, screen_of}
use Rattle.ti_checker.specs.Cells.{is_erased, is_blank_after, becomes_blank, HaveOneGrid}
use Rattle.ti_checker.specs.declared.probes.Probe.{Probe}

line_is : (rows cols i b : ℕ) → i < rows → line_at (uniform rows cols (filled_with b)) i ≡ replicate cols (filled_with b)
line_is rows cols i b lt = get_or-replicate rows i (replicate cols (filled_with b)) [] lt

pub uniform_wide : (rows cols i b : ℕ) → i < rows → length (line_at (uniform rows cols (filled_with b)) i) ≡ cols
uniform_wide rows cols i b lt = ap (λ (l : List Look). length l) (line_is rows cols i b lt) ∙ length-replicate cols (filled_with b)

uniform_at : (rows cols i j b : ℕ) (d : Look) → i < rows → j < cols → cell_at d (uniform rows cols (filled_with b)) i j ≡ filled_with b
uniform_at rows cols i j b d lt near = ap (λ (l : List Look). slice_index_or l j d) (line_is rows cols i b lt) ∙ get_or-replicate cols j (filled_with b) d near

-- each place of a grid whose cells are all alike, and each place beyond it, has a character that can be printed
pub printed_at : (rows cols i j b : ℕ) → 32 ≤ b → b ≤ 126 → IsPrinted (look_at (uniform rows cols (filled_with b)) i j).byte
printed_at rows cols i j b low high = elim (cases_lt i rows) [
  | inl lt ↦ elim (cases_lt j cols) [
    | inl near ↦ subst (λ (x : Look). IsPrinted x.byte) (sym (uniform_at rows cols i j b space lt near)) (low, high)
    | inr far ↦ subst (λ (x : Look). IsPrinted x.byte) (sym (ap (λ (l : List Look). slice_index_or l j space) (line_is rows cols i b lt) ∙ get_or_past (replicate cols (filled_with b)) j space (let e = length-replicate cols (filled_with b) in omega (arith, e, far)))) (omega arith, omega arith)
  ]
  | inr below ↦ subst (λ (l : List Look). IsPrinted (slice_index_or l j space).byte) (sym (get_or_past (uniform rows cols (filled_with b)) i [] (let e = length-replicate rows (replicate cols (filled_with b)) in omega (arith, e, below)))) (subst (λ (x : Look). IsPrinted x.byte) (sym (get_or_past [] j space (omega arith))) (omega arith, omega arith))
]

-- ---- after an erasure

blanked_at : (rows cols i j b : ℕ) (chosen : ℕ → ℕ → Bool) (x d : Look) → i < rows → j < cols
    → cell_at d (drawn (λ y z old. if chosen y z then x else old) (uniform rows cols (filled_with b))) i j ≡ (if chosen i j then x else filled_with b)
blanked_at rows cols i j b chosen x d lt near =
    let F : ℕ → ℕ → Look → Look = λ y z old. if chosen y z then x else old in
    let wide : length (line_at (uniform rows cols (filled_with b)) i) ≡ cols = uniform_wide rows cols i b lt in
    cell_at-drawn F d (uniform rows cols (filled_with b)) i j (omega (arith, wide, near))
    ∙ ap (λ (c : Look). if chosen i j then x else c) (uniform_at rows cols i j b d lt near)

blanked_wide : (rows cols i b : ℕ) (chosen : ℕ → ℕ → Bool) (x : Look) → i < rows
    → length (line_at (drawn (λ y z old. if chosen y z then x else old) (uniform rows cols (filled_with b))) i) ≡ cols
blanked_wide rows cols i b chosen x lt =
    let F : ℕ → ℕ → Look → Look = λ y z old. if chosen y z then x else old in
    ap (λ (l : List Look). length l) (line_at-drawn F (uniform rows cols (filled_with b)) i)
    ∙ (length-line_drawn (F i) 0 (line_at (uniform rows cols (filled_with b)) i) ∙ uniform_wide rows cols i b lt)

erased_at : (rows cols i j b row col : ℕ) (e : Erasure) (x d : Look) → i < rows → j < cols
    → cell_at d (erased e row col x (uniform rows cols (filled_with b))) i j ≡ (if is_erased e row col i j then x else filled_with b)
erased_at rows cols i j b row col erasures.Nothing x d lt near = uniform_at rows cols i j b d lt near
erased_at rows cols i j b row col erasures.Screen x d lt near = blanked_at rows cols i j b (λ y z. true) x d lt near
erased_at rows cols i j b row col erasures.Tail x d lt near = blanked_at rows cols i j b (λ y z. (y == row) && nat_le col z) x d lt near
erased_at rows cols i j b row col erasures.Head x d lt near = blanked_at rows cols i j b (λ y z. (y == row) && nat_le z col) x d lt near
erased_at rows cols i j b row col erasures.Rest x d lt near = blanked_at rows cols i j b (λ y z. nat_lt row y || ((y == row) && nat_le col z)) x d lt near
erased_at rows cols i j b row col (erasures.Next n) x d lt near = blanked_at rows cols i j b (λ y z. (y == row) && (nat_le col z && nat_lt z (col + n))) x d lt near

erased_wide : (rows cols i b row col : ℕ) (e : Erasure) (x : Look) → i < rows → length (line_at (erased e row col x (uniform rows cols (filled_with b))) i) ≡ cols
erased_wide rows cols i b row col erasures.Nothing x lt = uniform_wide rows cols i b lt
erased_wide rows cols i b row col erasures.Screen x lt = blanked_wide rows cols i b (λ y z. true) x lt
erased_wide rows cols i b row col erasures.Tail x lt = blanked_wide rows cols i b (λ y z. (y == row) && nat_le col z) x lt
erased_wide rows cols i b row col erasures.Head x lt = blanked_wide rows cols i b (λ y z. (y == row) && nat_le z col) x lt
erased_wide rows cols i b row col erasures.Rest x lt = blanked_wide rows cols i b (λ y z. nat_lt row y || ((y == row) && nat_le col z)) x lt
erased_wide rows cols i b row col (erasures.Next n) x lt = blanked_wide rows cols i b (λ y z. (y == row) && (nat_le col z && nat_lt z (col + n))) x lt

-- ---- after a scroll

chosen_from : (within moves there here : Bool) (far near x f : Look) → (moves ≡ true → far ≡ (if there then x else f)) → near ≡ (if here then x else f)
    → (if within then (if moves then far else x) else near) ≡ (if (if within then (if moves then there else true) else here) then x else f)
chosen_from true true there here far near x f h k = h refl
chosen_from true false there here far near x f h k = refl
chosen_from false moves there here far near x f h k = k

scrolled_at : (rows cols i j b row col top bottom : ℕ) (e : Erasure) (z : Scroll) (x : Look) → bottom < rows → i < rows → j < cols
    → look_at (scrolled z top bottom x (erased e row col x (uniform rows cols (filled_with b)))) i j ≡ (if is_blank_after z top bottom (λ k. is_erased e row col k j) i then x else filled_with b)
scrolled_at rows cols i j b row col top bottom e scrolls.Still x low lt near = erased_at rows cols i j b row col e x space lt near
scrolled_at rows cols i j b row col top bottom e scrolls.Up x low lt near =
    let g : Grid = erased e row col x (uniform rows cols (filled_with b)) in
    let F : ℕ → ℕ → Look → Look = λ y z old. if nat_le top y && nat_le y bottom then (if nat_le (y + 1) bottom then cell_at old g (y + 1) z else x) else old in
    let wide : length (line_at g i) ≡ cols = erased_wide rows cols i b row col e x lt in
    cell_at-drawn F space g i j (omega (arith, wide, near))
    ∙ chosen_from (nat_le top i && nat_le i bottom) (nat_le (i + 1) bottom) (is_erased e row col (i + 1) j) (is_erased e row col i j) (cell_at (look_at g i j) g (i + 1) j) (look_at g i j) x (filled_with b)
    (λ h. erased_at rows cols (i + 1) j b row col e x (look_at g i j) (omega (arith, leb-true (i + 1) bottom h, low)) near)
    (erased_at rows cols i j b row col e x space lt near)
scrolled_at rows cols i j b row col top bottom e scrolls.Down x low lt near =
    let g : Grid = erased e row col x (uniform rows cols (filled_with b)) in
    let F : ℕ → ℕ → Look → Look = λ y z old. if nat_le top y && nat_le y bottom then (if nat_le (top + 1) y then cell_at old g (y - 1) z else x) else old in
    let wide : length (line_at g i) ≡ cols = erased_wide rows cols i b row col e x lt in
    cell_at-drawn F space g i j (omega (arith, wide, near))
    ∙ chosen_from (nat_le top i && nat_le i bottom) (nat_le (top + 1) i) (is_erased e row col (i - 1) j) (is_erased e row col i j) (cell_at (look_at g i j) g (i - 1) j) (look_at g i j) x (filled_with b)
    (λ h. erased_at rows cols (i - 1) j b row col e x (look_at g i j) (omega (arith, lt)) near)
    (erased_at rows cols i j b row col e x space lt near)

-- ---- two effects

one_choice : (p q : Bool) (x f : Look) → (x ≡ f → ⊥) → (if p then x else f) ≡ (if q then x else f) → p ≡ q
one_choice true true x f apart h = refl
one_choice false false x f apart h = refl
one_choice true false x f apart h = absurd (apart h)
one_choice false true x f apart h = absurd (apart (sym h))

seen : (r : Look) (b : ℕ) → 33 ≤ b → r.byte ≡ 32 → r ≡ filled_with b → ⊥
seen r b le is h = let same : r.byte ≡ b = ap (λ (x : Look). x.byte) h in omega (arith, le, is, same)

-- two effects leave different grids if a place becomes blank by one of them alone
pub grids_apart : (rows cols i j : ℕ) (e f : Effect) (p : Probe) → CanShow rows p → i < rows → j < cols
    → (becomes_blank e p i j ≡ becomes_blank f p i j → ⊥) → HaveOneGrid e f (screen_of rows cols p) → ⊥
grids_apart rows cols i j e f p see lt near apart h =
    let x : Look = blank (screen_of rows cols p).rendition in
    apart (one_choice (becomes_blank e p i j) (becomes_blank f p i j) x (filled_with p.fill) (seen x p.fill see.fill refl)
    (sym (scrolled_at rows cols i j p.fill p.row p.col p.top p.bottom e.erasure e.scroll x see.bottom lt near)
    ∙ (ap (λ (g : Grid). look_at g i j) h ∙ scrolled_at rows cols i j p.fill p.row p.col p.top p.bottom f.erasure f.scroll x see.bottom lt near)))
