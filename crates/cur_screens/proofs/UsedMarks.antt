-- The marks of one grid, which is in use or fully marked.
use Rattle.std.proofs.Common.{◌≡◌, ℕ, ◌<◌, ◌≤◌, ◌⊎◌, Bool, true, false, length, get_or, set, refl, sym, ap, ◌∙◌, inl, inr, arith, subst}
use Rattle.std.proofs.lemmas.List.{get_or-set_same, get_or-set_other, get_or_default}
use Rattle.grids.specs.declared.areas.Area.{Area}
use Rattle.cur_drawing.specs.declared.windows.Window.{Window}
use Rattle.cur_screens.specs.Marks.{IsUnmarked, Marking}
use Rattle.cur_screens.specs.declared.slots.Origin.{Origin}
use Rattle.cur_screens.specs.Touched.{Markings, MarksArea, MarksCells, OnGrid, TouchesGrid, full_from, grid_marks}
use Rattle.cur_screens.proofs.Openings.{is_full_at, length_full_from, set_open, used_at}
use Rattle.cur_screens.proofs.Spreading.{unknown}

-- a grid that isn't in use is fully marked
pub all_marked_at : (n : ℕ) (g t : Markings) (k : ℕ) → full_from n g ≡ t → n ≤ k → (grid_marks t k).all ≡ true
all_marked_at n g t k is unused = ap (λ (x : Markings). (grid_marks x k).all) (sym is) ∙ is_full_at n g k unused

pub not_used : (p : Marking → Marking → Type 0) (t : Markings) (root : ℕ) (lies : Bool) → ((m : Marking) → m.all ≡ true → p m m) → (lies ≡ true) ⊎ ((grid_marks t root).all ≡ true) → OnGrid p t t root lies
not_used p t root lies stays side = record {
  grid = λ off lt. elim side [ inl on ↦ absurd (let no : true ≡ false = sym on ∙ off in cc) | inr all ↦ stays (grid_marks t root) all ];
  pad = λ on. refl;
  none = λ past. refl;
  others = λ k apart. refl;
}

pub is_used : (p : Marking → Marking → Type 0) (n : ℕ) (g t : Markings) (root : ℕ) (lies : Bool) (was m : Marking) → full_from n g ≡ t → root < n → root < length g → was ≡ get_or g root was → p was m → lies ≡ false →
    OnGrid p t (full_from n (set g root m)) root lies
is_used p n g t root lies was m is used lt at step off = record {
  grid = λ e near. subst (λ (x : Marking). p x (grid_marks (full_from n (set g root m)) root)) before (subst (λ (x : Marking). p was x) (sym after) step);
  pad = λ on. absurd (let no : true ≡ false = sym on ∙ off in cc);
  none = λ past. absurd (omega (arith, past, lt, ap length is, length_full_from n g));
  others = λ k apart. ap (λ (x : Markings). grid_marks x k) (set_open n g root m used) ∙ get_or-set_other (full_from n g) root k m unknown apart ∙ ap (λ (x : Markings). grid_marks x k) is;
}
  where
    before : was ≡ grid_marks t root
    before = at ∙ get_or_default g root was unknown lt ∙ sym (used_at n g root used) ∙ ap (λ (x : Markings). grid_marks x root) is

    after : grid_marks (full_from n (set g root m)) root ≡ m
    after = used_at n (set g root m) root used ∙ get_or-set_same g root m unknown lt

-- ---- no mark is missing if all is marked
none_unmarked : (m : Marking) (i j : ℕ) → m.all ≡ true → IsUnmarked m i j → ⊥
none_unmarked m i j all off = absurd (let some = off.some in cc)

pub grid_full : (w : Window) (o : Origin) (first : ℕ) (m : Marking) → m.all ≡ true → TouchesGrid m m w o first
grid_full w o first m all = record {
  kept = λ i j u. u;
  lines = λ i j u. absurd (none_unmarked m i j all u);
  all = λ may i j u. none_unmarked m i j all u;
  only = λ i j u off. u;
}

pub cells_full : (o : Origin) (w : Window) (col count : ℕ) (m : Marking) → m.all ≡ true → MarksCells m m o w col count
cells_full o w col count m all = record {
  kept = λ i j u. u;
  cells = λ i j u. absurd (none_unmarked m i j all u);
  only = λ i j u apart. u;
  alone = λ i j side. elim side [ inl before ↦ (before j (omega arith)).unmarked | inr after ↦ (after j (omega arith)).unmarked ];
}

pub area_full : (a : Area) (m : Marking) → m.all ≡ true → MarksArea m m a
area_full a m all = record {
  kept = λ i j u. u;
  cells = λ i j u. absurd (none_unmarked m i j all u);
  only = λ i j side. elim side [ inl before ↦ (before j (omega arith)).unmarked | inr after ↦ (after j (omega arith)).unmarked ];
}
