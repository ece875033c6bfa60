-- Lines in a ring: what happens to one of them, and to all when they move up by one.
use Rattle.std.proofs.Common.{◌≡◌, ℕ, ◌+◌, ◌-◌, ◌<◌, ◌≤◌, ◌&&◌, ◌⊎◌, List, [], take, drop, length, set, refl, sym, ap, ◌∙◌, inl, inr, arith, if◌then◌else◌, nat_lt, nat_le, replicate}
use Rattle.std.proofs.lemmas.Bool.{cases_eq, cases_lt}
use Rattle.std.proofs.lemmas.Bool.Decides.{nat_tests}
use Rattle.std.proofs.lemmas.List.{ext_get_or, get_or-set_same, get_or-set_other, length-set, get_or_past, get_or_append_left, get_or-append_right, get_or-drop, get_or-take, length-append, length-drop, length-take-le, append-nil}
use Rattle.grids.specs.Grids.{line_at, line_drawn, drawn, line_changed, filled, one, rotated_up, lines_filled, scrolled_up, HasEvenLines}
use Rattle.grids.proofs.Drawings.{line_changed_set, set_is_filled, line_at-drawn, length-drawn, line_kept}
use Rattle.grids.proofs.Parts.{part_in, part_before, part_behind}
use Rattle.grids.proofs.MovedLines.{scrolled_from_moved, line_filled}
use Rattle.vt_screen.specs.Sheets.{ring_place, ring_next}

pub ring_place_within : (s n i : ℕ) → s < n → i < n → ring_place s n i < n
ring_place_within s n i h k = grind (arith, nat_tests)

ring_place_upper : (s n i : ℕ) → i < n - s → ring_place s n i ≡ s + i
ring_place_upper s n i h = grind (arith, nat_tests)

ring_place_lower : (s n i : ℕ) → n - s ≤ i → ring_place s n i ≡ i - (n - s)
ring_place_lower s n i h = grind (arith, nat_tests)

ring_place_same : (s n i r : ℕ) → s < n → i < n → r < n → ring_place s n i ≡ ring_place s n r → i ≡ r
ring_place_same s n i r h k l e = grind (arith, nat_tests)

ring_next_within : (s n : ℕ) → s < n → ring_next s n < n
ring_next_within s n h = grind (arith, nat_tests)

ring_next_place : (s n i : ℕ) → s < n → i + 1 < n → ring_place (ring_next s n) n i ≡ ring_place s n (i + 1)
ring_next_place s n i h k = grind (arith, nat_tests)

ring_next_last : (s n i : ℕ) → s < n → i + 1 ≡ n → ring_place (ring_next s n) n i ≡ s
ring_next_last s n i h k = grind (arith, nat_tests)

ring_place_first : (s n : ℕ) → s < n → ring_place s n 0 ≡ s
ring_place_first s n h = grind (arith, nat_tests)

pub length-rotated_up : {A : Type 0} (s : ℕ) (g : List (List A)) → s ≤ length g → length (rotated_up s g) ≡ length g
length-rotated_up s g h = length-append (drop s g) (take s g) ∙ omega (arith, h, length-drop s g, length-take-le s g h)

pub rotated_up_none : {A : Type 0} (g : List (List A)) → rotated_up 0 g ≡ g
rotated_up_none g = append-nil g

pub line_at-rotated_up : {A : Type 0} (s n i : ℕ) (g : List (List A)) → length g ≡ n → s < n → i < n → line_at (rotated_up s g) i ≡ line_at g (ring_place s n i)
line_at-rotated_up s n i g e h k = elim (cases_lt i (n - s)) [
  | inl upper ↦ get_or_append_left (drop s g) (take s g) [] i (omega (arith, e, upper, length-drop s g))
      ∙ get_or-drop s g i [] ∙ ap (line_at g) (sym (ring_place_upper s n i upper))
  | inr lower ↦ get_or-append_right (drop s g) (take s g) (n - s) i [] (omega (arith, e, length-drop s g)) lower
      ∙ get_or-take s g (i - (n - s)) [] (omega (arith, h, k, lower)) ∙ ap (line_at g) (sym (ring_place_lower s n i lower))
]

-- one line is replaced
rotated_up-set : {A : Type 0} (s n r : ℕ) (l : List A) (g : List (List A)) → length g ≡ n → s < n → r < n → rotated_up s (set g (ring_place s n r) l) ≡ set (rotated_up s g) r l
rotated_up-set {A} s n r l g e h k =
    let p = ring_place s n r in
    let new : List (List A) = set g p l in
    let len : length new ≡ n = length-set g p l ∙ e in
    let turned : length (rotated_up s g) ≡ n = length-rotated_up s g (omega (arith, e, h)) ∙ e in
    let turned_new : length (rotated_up s new) ≡ n = length-rotated_up s new (omega (arith, len, h)) ∙ len in
    ext_get_or [] (rotated_up s new) (set (rotated_up s g) r l) (turned_new ∙ sym turned ∙ sym (length-set (rotated_up s g) r l))
    (λ i lt. (let near : i < n = omega (arith, lt, turned_new) in elim (cases_eq i r) [
      | inl same ↦ rw (same) (line_at-rotated_up s n r new len h k ∙ get_or-set_same g p l [] (omega (arith, e, ring_place_within s n r h k)) ∙ sym (get_or-set_same (rotated_up s g) r l [] (omega (arith, turned, k))))
      | inr other ↦ line_at-rotated_up s n i new len h near
          ∙ get_or-set_other g p (ring_place s n i) l [] (λ q. other (ring_place_same s n i r h near k q))
          ∙ sym (line_at-rotated_up s n i g e h near) ∙ sym (get_or-set_other (rotated_up s g) r i l [] other)
    ]))

-- one line changes, by itself
pub rotated_up-edited : {A : Type 0} (s n r : ℕ) (f : List A → List A) (g : List (List A)) → length g ≡ n → s < n → r < n →
    rotated_up s (set g (ring_place s n r) (f (line_at g (ring_place s n r)))) ≡ set (rotated_up s g) r (f (line_at (rotated_up s g) r))
rotated_up-edited {A} s n r f g e h k = rotated_up-set s n r (f (line_at g (ring_place s n r))) g e h k
    ∙ ap (λ (l : List A). set (rotated_up s g) r (f l)) (sym (line_at-rotated_up s n r g e h k))

pub rotated_up-changed : {A : Type 0} (s n r : ℕ) (f : List A → ℕ → A → A) (g : List (List A)) → length g ≡ n → s < n → r < n →
    rotated_up s (line_changed (ring_place s n r) (f (line_at g (ring_place s n r))) g) ≡ line_changed r (f (line_at (rotated_up s g) r)) (rotated_up s g)
rotated_up-changed {A} s n r f g e h k =
    let turned : length (rotated_up s g) ≡ n = length-rotated_up s g (omega (arith, e, h)) ∙ e in
    sym (ap (rotated_up s) (line_changed_set (ring_place s n r) (f (line_at g (ring_place s n r))) g (omega (arith, e, ring_place_within s n r h k))))
    ∙ rotated_up-edited s n r (λ (l : List A). line_drawn (f l) 0 l) g e h k
    ∙ line_changed_set r (f (line_at (rotated_up s g) r)) (rotated_up s g) (omega (arith, turned, k))

pub rotated_up-filled : {A : Type 0} (s n r c : ℕ) (x : A) (g : List (List A)) → length g ≡ n → s < n → r < n →
    rotated_up s (filled (one (ring_place s n r) c) x g) ≡ filled (one r c) x (rotated_up s g)
rotated_up-filled {A} s n r c x g e h k =
    let turned : length (rotated_up s g) ≡ n = length-rotated_up s g (omega (arith, e, h)) ∙ e in
    sym (ap (rotated_up s) (set_is_filled (ring_place s n r) c x g (omega (arith, e, ring_place_within s n r h k))))
    ∙ rotated_up-edited s n r (λ (l : List A). set l c x) g e h k
    ∙ set_is_filled r c x (rotated_up s g) (omega (arith, turned, k))

-- a line other than the one that is filled
ring_place_other : (s n i : ℕ) → s < n → i < n → 0 < i → (ring_place s n i < s) ⊎ (s + 1 ≤ ring_place s n i)
ring_place_other s n i h k l = elim (cases_lt i (n - s)) [
  | inl upper ↦ inr (omega (arith, l, ring_place_upper s n i upper))
  | inr lower ↦ inl (omega (arith, h, k, lower, ring_place_lower s n i lower))
]

line_beside : {A : Type 0} (s n i : ℕ) (x : A) (g : List (List A)) → s < n → i < n → 0 < i → line_at (lines_filled s (s + 1) x g) (ring_place s n i) ≡ line_at g (ring_place s n i)
line_beside {A} s n i x g h k l =
    let f : ℕ → ℕ → A → A = λ i j old. if nat_le s i && nat_lt i (s + 1) then x else old in
    let p = ring_place s n i in
    line_at-drawn f g p ∙ sym (line_kept (f p) (line_at g p) (λ c old. elim (ring_place_other s n i h k l) [
      | inl low ↦ part_before s (s + 1) p x old low
      | inr high ↦ part_behind s (s + 1) p x old high
    ]))

-- the line at s is filled, and all lines move up by one
pub rotated_up-next : {A : Type 0} (s n b : ℕ) (x : A) (g : List (List A)) → length g ≡ n → s < n → b + 1 ≡ n → HasEvenLines (rotated_up s g) →
    rotated_up (ring_next s n) (lines_filled s (s + 1) x g) ≡ scrolled_up 0 b 1 x (rotated_up s g)
rotated_up-next {A} s n b x g e h whole even =
    let f : ℕ → ℕ → A → A = λ i j old. if nat_le s i && nat_lt i (s + 1) then x else old in
    let new : List (List A) = lines_filled s (s + 1) x g in
    let t = ring_next s n in
    let later : t < n = ring_next_within s n h in
    let len : length new ≡ n = length-drawn f g ∙ e in
    let turned : length (rotated_up s g) ≡ n = length-rotated_up s g (omega (arith, e, h)) ∙ e in
    let turned_new : length (rotated_up t new) ≡ n = length-rotated_up t new (omega (arith, len, later)) ∙ len in
    scrolled_from_moved 0 b 1 1 x (rotated_up s g) (rotated_up t new) (omega (arith, whole)) (omega arith) (omega (arith, turned, whole)) even
    (record {
      len = turned_new ∙ sym turned;
      outside = λ i q. elim q [
        | inl low ↦ absurd (omega (arith, low))
        | inr high ↦ get_or_past (rotated_up t new) i [] (omega (arith, high, turned_new, whole)) ∙ sym (get_or_past (rotated_up s g) i [] (omega (arith, high, turned, whole)))
      ];
      moved = λ i low fits. (let near : i + 1 < n = omega (arith, fits, whole) in
          line_at-rotated_up t n i new len later (omega (arith, near))
          ∙ ap (line_at new) (ring_next_place s n i h near)
          ∙ line_beside s n (i + 1) x g h near (omega arith)
          ∙ sym (line_at-rotated_up s n (i + 1) g e h near));
      new = λ i low high gone. (let last : i + 1 ≡ n = omega (arith, high, gone, whole) in
          line_at-rotated_up t n i new len later (omega (arith, last))
          ∙ ap (line_at new) (ring_next_last s n i h last)
          ∙ line_at-drawn f g s
          ∙ sym (line_filled (f s) x (line_at g s) (λ k old. part_in s (s + 1) s x old (omega arith) (omega arith)))
          ∙ ap (λ (l : List A). replicate (length l) x) (sym (line_at-rotated_up s n 0 g e h (omega (arith, h)) ∙ ap (line_at g) (ring_place_first s n h))));
    })

-- ---- for a sheet: the ring g is shown as v, and `at` is the place of the line of row r

pub shown_within : {A : Type 0} (s r : ℕ) (g v : List (List A)) → rotated_up s g ≡ v → s < length g → r < length v → r < length g
shown_within s r g v e h k = omega (arith, h, k, ap length e, length-rotated_up s g (omega (arith, h)))

pub changed_there : {A : Type 0} (s r at : ℕ) (f : List A → ℕ → A → A) (g v : List (List A)) → rotated_up s g ≡ v → s < length g → r < length v → at ≡ ring_place s (length g) r →
    rotated_up s (line_changed at (f (line_at g at)) g) ≡ line_changed r (f (line_at v r)) v
changed_there s r at f g v e h k p = rw (p, ← e) (rotated_up-changed s (length g) r f g refl h (shown_within s r g v e h k))

pub filled_there : {A : Type 0} (s r at c : ℕ) (x : A) (g v : List (List A)) → rotated_up s g ≡ v → s < length g → r < length v → at ≡ ring_place s (length g) r →
    rotated_up s (filled (one at c) x g) ≡ filled (one r c) x v
filled_there s r at c x g v e h k p = rw (p, ← e) (rotated_up-filled s (length g) r c x g refl h (shown_within s r g v e h k))

pub edited_there : {A : Type 0} (s r at : ℕ) (f : List A → List A) (g v : List (List A)) → rotated_up s g ≡ v → s < length g → r < length v → at ≡ ring_place s (length g) r →
    rotated_up s (set g at (f (line_at g at))) ≡ set v r (f (line_at v r))
edited_there s r at f g v e h k p = rw (p, ← e) (rotated_up-edited s (length g) r f g refl h (shown_within s r g v e h k))

pub start_within : {A : Type 0} (s : ℕ) (f : ℕ → ℕ → A → A) (g : List (List A)) → s < length g → s < length (drawn f g)
start_within s f g h = omega (arith, h, length-drawn f g)

pub first_within : {A : Type 0} (s : ℕ) (f : ℕ → ℕ → A → A) (g : List (List A)) → s < length g → 0 < length (drawn f (rotated_up s g))
first_within s f g h = omega (arith, h, length-drawn f (rotated_up s g), length-rotated_up s g (omega (arith, h)))

pub next_within : {A : Type 0} (s n : ℕ) (f : ℕ → ℕ → A → A) (g : List (List A)) → length g ≡ n → s < n → ring_next s n < length (drawn f g)
next_within s n f g e h = omega (arith, e, length-drawn f g, ring_next_within s n h)
