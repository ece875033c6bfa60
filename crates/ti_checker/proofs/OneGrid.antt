-- An effect that no probe shows wrong leaves the wanted cells, from any start of the row.
use Rattle.std.proofs.Common.{◌≡◌, ◌⊎◌, inl, inr, ℕ, ◌+◌, ◌-◌, ◌<◌, ◌≤◌, ◌==◌, ◌&&◌, ◌||◌, Bool, true, false, if◌then◌else◌, length, refl, sym, ap, subst, ◌∙◌, arith}
use Rattle.std.proofs.lemmas.Bool.{cases_lt, le-leb, lt-leb}
use Rattle.std.proofs.lemmas.Bool.Decides.{nat_tests}
use Rattle.std.specs.Prelude.{nat_le, nat_lt}
use Rattle.grids.proofs.Drawings.{drawn_kept}
use Rattle.vt_term.specs.Grid.{Grid, line_at}
use Rattle.vt_term.specs.Look.{Look}
use Rattle.vt_effects.specs.declared.effects.Erasure.{Erasure}
use Rattle.vt_effects.specs.declared.effects.Erasure.TheVariants as erasures
use Rattle.vt_effects.specs.declared.effects.Scroll.{Scroll}
use Rattle.vt_effects.specs.declared.effects.Scroll.TheVariants as scrolls
use Rattle.vt_effects.specs.Effect.{blanked, erased, scrolled}
use Rattle.vt_effects.specs.Record.{is_still}
use Rattle.vt_effects.proofs.Cells.{drawn_agrees}
use Rattle.ti_rows.proofs.StartFacts.{never}
use Rattle.ti_checker.specs.Cells.{is_erased, is_blank_after}

-- ---- two changes of the cells that agree

-- both make the same places blank if all cells were alike, with the cursor and the margins here
abbrev pub Agree : ℕ → ℕ → Erasure → Scroll → Erasure → Scroll → ℕ → ℕ → ℕ → ℕ → Type 0
Agree rows cols x z y w top bottom row col = (i j : ℕ) → i < rows → j < cols
    → is_blank_after z top bottom (λ k. is_erased x row col k j) i ≡ is_blank_after w top bottom (λ k. is_erased y row col k j) i

-- both leave the same cells, whatever the cells were
pub record SameCells (cols : ℕ) (x : Erasure) (z : Scroll) (y : Erasure) (w : Scroll) : Type 0 where
  pub scroll : z ≡ w
  pub chosen : (row col i j : ℕ) → j < cols → is_erased x row col i j ≡ is_erased y row col i j

erased_as : (x : Erasure) (row col : ℕ) (b : Look) (g : Grid) → erased x row col b g ≡ blanked (λ i j. is_erased x row col i j) b g
erased_as erasures.Nothing row col b g = drawn_kept (λ i j old. if false then b else old) g (λ i j old. refl)
erased_as erasures.Screen row col b g = refl
erased_as erasures.Tail row col b g = refl
erased_as erasures.Head row col b g = refl
erased_as erasures.Rest row col b g = refl
erased_as (erasures.Next n) row col b g = refl

pub same_grid : (cols : ℕ) (x y : Erasure) (z w : Scroll) (top bottom row col : ℕ) (b : Look) (g : Grid) → ((k : ℕ) → k < length g → length (line_at g k) ≤ cols) → SameCells cols x z y w
    → scrolled z top bottom b (erased x row col b g) ≡ scrolled w top bottom b (erased y row col b g)
same_grid cols x y z w top bottom row col b g wide same =
    ap (λ (v : Scroll). scrolled v top bottom b (erased x row col b g)) same.scroll
    ∙ ap (λ (h : Grid). scrolled w top bottom b h)
    (erased_as x row col b g
    ∙ (drawn_agrees _ _ g cols wide (λ i j old lt. ap (λ (c : Bool). if c then b else old) (same.chosen row col i j lt))
    ∙ sym (erased_as y row col b g)))

-- ---- a single change: nothing scrolls, or nothing is erased

abbrev pub IsOne : Erasure → Scroll → Type 0
IsOne x z = (z ≡ scrolls.Still) ⊎ (x ≡ erasures.Nothing)

forms : (P : Erasure → Scroll → Type 0) → ((x : Erasure) → P x scrolls.Still) → P erasures.Nothing scrolls.Up → P erasures.Nothing scrolls.Down → (x : Erasure) (z : Scroll) → IsOne x z → P x z
forms P still up down x scrolls.Still one = still x
forms P still up down x scrolls.Up (inl h) = never (sym (ap is_still h))
forms P still up down x scrolls.Up (inr h) = subst (λ (y : Erasure). P y scrolls.Up) (sym h) up
forms P still up down x scrolls.Down (inl h) = never (sym (ap is_still h))
forms P still up down x scrolls.Down (inr h) = subst (λ (y : Erasure). P y scrolls.Down) (sym h) down

-- ---- places in a region that scrolled

within : (top bottom i : ℕ) → top ≤ i → i ≤ bottom → (nat_le top i && nat_le i bottom) ≡ true
within top bottom i h k = ap (λ (b : Bool). b && nat_le i bottom) (le-leb top i h) ∙ le-leb i bottom k

up_last : (top bottom : ℕ) (f : ℕ → Bool) → top ≤ bottom → is_blank_after scrolls.Up top bottom f bottom ≡ true
up_last top bottom f h =
    ap (λ (b : Bool). if b then (if nat_le (bottom + 1) bottom then f (bottom + 1) else true) else f bottom) (within top bottom bottom h (omega arith))
    ∙ ap (λ (b : Bool). if b then f (bottom + 1) else true) (lt-leb (bottom + 1) bottom (omega arith))

up_at : (top bottom i : ℕ) (f : ℕ → Bool) → top ≤ i → i < bottom → is_blank_after scrolls.Up top bottom f i ≡ f (i + 1)
up_at top bottom i f h k =
    ap (λ (b : Bool). if b then (if nat_le (i + 1) bottom then f (i + 1) else true) else f i) (within top bottom i h (omega (arith, k)))
    ∙ ap (λ (b : Bool). if b then f (i + 1) else true) (le-leb (i + 1) bottom (omega (arith, k)))

down_first : (top bottom : ℕ) (f : ℕ → Bool) → top ≤ bottom → is_blank_after scrolls.Down top bottom f top ≡ true
down_first top bottom f h =
    ap (λ (b : Bool). if b then (if nat_le (top + 1) top then f (top - 1) else true) else f top) (within top bottom top (omega arith) h)
    ∙ ap (λ (b : Bool). if b then f (top - 1) else true) (lt-leb (top + 1) top (omega arith))

down_at : (top bottom i : ℕ) (f : ℕ → Bool) → top < i → i ≤ bottom → is_blank_after scrolls.Down top bottom f i ≡ f (i - 1)
down_at top bottom i f h k =
    ap (λ (b : Bool). if b then (if nat_le (top + 1) i then f (i - 1) else true) else f i) (within top bottom i (omega (arith, h)) k)
    ∙ ap (λ (b : Bool). if b then f (i - 1) else true) (le-leb (top + 1) i (omega (arith, h)))

-- ---- tests of places

far : (cols : ℕ) → 2 ≤ cols → nat_le (cols - 1) 0 ≡ false
far cols two = lt-leb (cols - 1) 0 (omega (arith, two))

far_and : (cols : ℕ) (b : Bool) → 2 ≤ cols → (nat_le (cols - 1) 0 && b) ≡ false
far_and cols b two = ap (λ (x : Bool). x && b) (far cols two)

here : (a b : ℕ) → ((a == a) && nat_le b b) ≡ true
here a b = grind (arith, nat_tests)

here_rest : (a b : ℕ) → (nat_lt a a || ((a == a) && nat_le b b)) ≡ true
here_rest a b = grind (arith, nat_tests)

not_rest : (rows : ℕ) → 2 ≤ rows → (nat_lt (rows - 1) 0 || ((0 == (rows - 1)) && nat_le 0 0)) ≡ false
not_rest rows two = grind (arith, nat_tests)

none_next : (a b n : ℕ) → ((a == a) && (nat_le b b && nat_lt b (b + n))) ≡ false → n ≡ 0
none_next a b n h = grind (arith, nat_tests)

some_next : (n : ℕ) → 1 ≤ n → (nat_le 0 0 && nat_lt 0 (0 + n)) ≡ true
some_next n h = grind (arith, nat_tests)

reaches : (n cols : ℕ) → 2 ≤ cols → (nat_le 0 (cols - 1) && nat_lt (cols - 1) (0 + n)) ≡ nat_le 0 (cols - 1) → cols ≤ n
reaches n cols two h = grind (arith, nat_tests)

to_end : (row col i j n cols : ℕ) → cols ≤ n → j < cols → ((i == row) && (nat_le col j && nat_lt j (col + n))) ≡ ((i == row) && nat_le col j)
to_end row col i j n cols h lt = grind (arith, nat_tests)

nowhere : (row col i j n : ℕ) → n ≡ 0 → ((i == row) && (nat_le col j && nat_lt j (col + n))) ≡ false
nowhere row col i j n h = grind (arith, nat_tests)

-- ---- the cells must stay

none_still : (rows cols top bottom row col : ℕ) → row < rows → col < cols → (x : Erasure) → Agree rows cols x scrolls.Still erasures.Nothing scrolls.Still top bottom row col → SameCells cols x scrolls.Still erasures.Nothing scrolls.Still
none_still rows cols top bottom row col r c erasures.Nothing a = record { scroll = refl; chosen = λ row col i j lt. refl }
none_still rows cols top bottom row col r c erasures.Screen a = never (a row col r c)
none_still rows cols top bottom row col r c erasures.Tail a = never (sym (here row col) ∙ a row col r c)
none_still rows cols top bottom row col r c erasures.Head a = never (sym (here row col) ∙ a row col r c)
none_still rows cols top bottom row col r c erasures.Rest a = never (sym (here_rest row col) ∙ a row col r c)
none_still rows cols top bottom row col r c (erasures.Next n) a = record { scroll = refl; chosen = λ y z i j lt. nowhere y z i j n (none_next row col n (a row col r c)) }

pub none_cells : (rows cols top bottom row col : ℕ) → row < rows → col < cols → top < bottom → bottom < rows → (x : Erasure) (z : Scroll) → IsOne x z → Agree rows cols x z erasures.Nothing scrolls.Still top bottom row col → SameCells cols x z erasures.Nothing scrolls.Still
none_cells rows cols top bottom row col r c t b x z one =
    forms (λ y v. Agree rows cols y v erasures.Nothing scrolls.Still top bottom row col → SameCells cols y v erasures.Nothing scrolls.Still)
    (none_still rows cols top bottom row col r c)
    (λ a. never (sym (up_last top bottom (λ k. false) (omega (arith, t))) ∙ a bottom col b c))
    (λ a. never (sym (down_first top bottom (λ k. false) (omega (arith, t))) ∙ a top col (omega (arith, t, b)) c)) x z one

-- ---- cells that must be erased, seen from the first place, the last line and the last column

abbrev pub AgreeHome : ℕ → ℕ → Erasure → Scroll → Erasure → Type 0
AgreeHome rows cols x z y = Agree rows cols x z y scrolls.Still 0 (rows - 1) 0 0

abbrev pub AgreeLow : ℕ → ℕ → Erasure → Scroll → Erasure → Type 0
AgreeLow rows cols x z y = Agree rows cols x z y scrolls.Still 0 (rows - 1) (rows - 1) 0

abbrev pub AgreeRight : ℕ → ℕ → Erasure → Scroll → Erasure → Type 0
AgreeRight rows cols x z y = Agree rows cols x z y scrolls.Still 0 (rows - 1) 0 (cols - 1)

pub record Corners (rows cols : ℕ) (x : Erasure) (z : Scroll) (y : Erasure) : Type 0 where
  pub tall : 2 ≤ rows
  pub wide : 2 ≤ cols
  pub home : AgreeHome rows cols x z y
  pub low : AgreeLow rows cols x z y
  pub right : AgreeRight rows cols x z y

abbrev Erases : ℕ → ℕ → Erasure → Erasure → Scroll → Type 0
Erases rows cols y x z = Corners rows cols x z y → SameCells cols x z y scrolls.Still

-- the first place isn't blank after the region moved up, and the place below it isn't after the region moved down
not_up : (rows : ℕ) → 2 ≤ rows → is_blank_after scrolls.Up 0 (rows - 1) (λ k. false) 0 ≡ false
not_up rows two = up_at 0 (rows - 1) 0 (λ k. false) (omega arith) (omega (arith, two))

not_down : (rows : ℕ) → 2 ≤ rows → is_blank_after scrolls.Down 0 (rows - 1) (λ k. false) 1 ≡ false
not_down rows two = down_at 0 (rows - 1) 1 (λ k. false) (omega arith) (omega (arith, two))

is_down : (rows : ℕ) → is_blank_after scrolls.Down 0 (rows - 1) (λ k. false) 0 ≡ true
is_down rows = down_first 0 (rows - 1) (λ k. false) (omega arith)

first : (n : ℕ) → 2 ≤ n → 0 < n
first n h = omega (arith, h)

second : (n : ℕ) → 2 ≤ n → 1 < n
second n h = omega (arith, h)

last : (n : ℕ) → 2 ≤ n → n - 1 < n
last n h = omega (arith, h)

screen_still : (rows cols : ℕ) (x : Erasure) → Erases rows cols erasures.Screen x scrolls.Still
screen_still rows cols erasures.Nothing c = never (sym (c.home 0 0 (first rows c.tall) (first cols c.wide)))
screen_still rows cols erasures.Screen c = record { scroll = refl; chosen = λ row col i j lt. refl }
screen_still rows cols erasures.Tail c = never (sym (c.home 1 0 (second rows c.tall) (first cols c.wide)))
screen_still rows cols erasures.Head c = never (sym (c.home 1 0 (second rows c.tall) (first cols c.wide)))
screen_still rows cols erasures.Rest c = never (sym (c.low 0 0 (first rows c.tall) (first cols c.wide)) ∙ not_rest rows c.tall)
screen_still rows cols (erasures.Next n) c = never (sym (c.home 1 0 (second rows c.tall) (first cols c.wide)))

pub screen_cells : (rows cols : ℕ) (x : Erasure) (z : Scroll) → IsOne x z → Erases rows cols erasures.Screen x z
screen_cells rows cols = forms (Erases rows cols erasures.Screen) (screen_still rows cols)
    (λ c. never (sym (c.home 0 0 (first rows c.tall) (first cols c.wide)) ∙ not_up rows c.tall))
    (λ c. never (sym (c.home 1 0 (second rows c.tall) (first cols c.wide)) ∙ not_down rows c.tall))

tail_still : (rows cols : ℕ) (x : Erasure) → Erases rows cols erasures.Tail x scrolls.Still
tail_still rows cols erasures.Nothing c = never (sym (c.home 0 0 (first rows c.tall) (first cols c.wide)))
tail_still rows cols erasures.Screen c = never (c.home 1 0 (second rows c.tall) (first cols c.wide))
tail_still rows cols erasures.Tail c = record { scroll = refl; chosen = λ row col i j lt. refl }
tail_still rows cols erasures.Head c = never (sym (c.home 0 1 (first rows c.tall) (second cols c.wide)))
tail_still rows cols erasures.Rest c = never (c.home 1 0 (second rows c.tall) (first cols c.wide))
tail_still rows cols (erasures.Next n) c = record { scroll = refl; chosen = λ row col i j lt. to_end row col i j n cols (reaches n cols c.wide (c.home 0 (cols - 1) (first rows c.tall) (last cols c.wide))) lt }

pub tail_cells : (rows cols : ℕ) (x : Erasure) (z : Scroll) → IsOne x z → Erases rows cols erasures.Tail x z
tail_cells rows cols = forms (Erases rows cols erasures.Tail) (tail_still rows cols)
    (λ c. never (sym (c.home 0 0 (first rows c.tall) (first cols c.wide)) ∙ not_up rows c.tall))
    (λ c. never (sym (is_down rows) ∙ (c.right 0 0 (first rows c.tall) (first cols c.wide) ∙ far cols c.wide)))

head_still : (rows cols : ℕ) (x : Erasure) → Erases rows cols erasures.Head x scrolls.Still
head_still rows cols erasures.Nothing c = never (sym (c.home 0 0 (first rows c.tall) (first cols c.wide)))
head_still rows cols erasures.Screen c = never (c.home 1 0 (second rows c.tall) (first cols c.wide))
head_still rows cols erasures.Tail c = never (c.home 0 1 (first rows c.tall) (second cols c.wide))
head_still rows cols erasures.Head c = record { scroll = refl; chosen = λ row col i j lt. refl }
head_still rows cols erasures.Rest c = never (c.home 0 1 (first rows c.tall) (second cols c.wide))
head_still rows cols (erasures.Next n) c = never (sym (le-leb 0 (cols - 1) (omega arith)) ∙ (sym (c.right 0 0 (first rows c.tall) (first cols c.wide)) ∙ far_and cols (nat_lt 0 (cols - 1 + n)) c.wide))

pub head_cells : (rows cols : ℕ) (x : Erasure) (z : Scroll) → IsOne x z → Erases rows cols erasures.Head x z
head_cells rows cols = forms (Erases rows cols erasures.Head) (head_still rows cols)
    (λ c. never (sym (c.home 0 0 (first rows c.tall) (first cols c.wide)) ∙ not_up rows c.tall))
    (λ c. never (sym (is_down rows) ∙ c.home 0 1 (first rows c.tall) (second cols c.wide)))

rest_still : (rows cols : ℕ) (x : Erasure) → Erases rows cols erasures.Rest x scrolls.Still
rest_still rows cols erasures.Nothing c = never (sym (c.home 0 0 (first rows c.tall) (first cols c.wide)))
rest_still rows cols erasures.Screen c = never (c.low 0 0 (first rows c.tall) (first cols c.wide) ∙ not_rest rows c.tall)
rest_still rows cols erasures.Tail c = never (sym (c.home 1 0 (second rows c.tall) (first cols c.wide)))
rest_still rows cols erasures.Head c = never (sym (c.home 1 0 (second rows c.tall) (first cols c.wide)))
rest_still rows cols erasures.Rest c = record { scroll = refl; chosen = λ row col i j lt. refl }
rest_still rows cols (erasures.Next n) c = never (sym (c.home 1 0 (second rows c.tall) (first cols c.wide)))

pub rest_cells : (rows cols : ℕ) (x : Erasure) (z : Scroll) → IsOne x z → Erases rows cols erasures.Rest x z
rest_cells rows cols = forms (Erases rows cols erasures.Rest) (rest_still rows cols)
    (λ c. never (sym (c.home 0 0 (first rows c.tall) (first cols c.wide)) ∙ not_up rows c.tall))
    (λ c. never (sym (c.home 1 0 (second rows c.tall) (first cols c.wide)) ∙ not_down rows c.tall))

-- erasures by a count of cells
shifted : (n m row col i j : ℕ) → col ≤ j → (nat_le 0 (j - col) && nat_lt (j - col) (0 + n)) ≡ (nat_le 0 (j - col) && nat_lt (j - col) (0 + m)) → ((i == row) && (nat_le col j && nat_lt j (col + n))) ≡ ((i == row) && (nat_le col j && nat_lt j (col + m)))
shifted n m row col i j le h = grind (arith, nat_tests)

behind : (n m row col i j : ℕ) → j < col → ((i == row) && (nat_le col j && nat_lt j (col + n))) ≡ ((i == row) && (nat_le col j && nat_lt j (col + m)))
behind n m row col i j lt = grind (arith, nat_tests)

next_again : (rows cols n m : ℕ) → 2 ≤ rows → AgreeHome rows cols (erasures.Next n) scrolls.Still (erasures.Next m) → (row col i j : ℕ) → j < cols
    → is_erased (erasures.Next n) row col i j ≡ is_erased (erasures.Next m) row col i j
next_again rows cols n m tall home row col i j lt = elim (cases_lt j col) [
  | inl before ↦ behind n m row col i j before
  | inr after ↦ shifted n m row col i j after (home 0 (j - col) (first rows tall) (omega (arith, lt)))
]

next_still : (rows cols m : ℕ) → 1 ≤ m → (x : Erasure) → Erases rows cols (erasures.Next m) x scrolls.Still
next_still rows cols m one erasures.Nothing c = never (sym (some_next m one) ∙ sym (c.home 0 0 (first rows c.tall) (first cols c.wide)))
next_still rows cols m one erasures.Screen c = never (c.home 1 0 (second rows c.tall) (first cols c.wide))
next_still rows cols m one erasures.Tail c = record { scroll = refl; chosen = λ row col i j lt. sym (to_end row col i j m cols (reaches m cols c.wide (sym (c.home 0 (cols - 1) (first rows c.tall) (last cols c.wide)))) lt) }
next_still rows cols m one erasures.Head c = never (sym (le-leb 0 (cols - 1) (omega arith)) ∙ (c.right 0 0 (first rows c.tall) (first cols c.wide) ∙ far_and cols (nat_lt 0 (cols - 1 + m)) c.wide))
next_still rows cols m one erasures.Rest c = never (c.home 1 0 (second rows c.tall) (first cols c.wide))
next_still rows cols m one (erasures.Next n) c = record { scroll = refl; chosen = next_again rows cols n m c.tall c.home }

pub next_cells : (rows cols m : ℕ) → 1 ≤ m → (x : Erasure) (z : Scroll) → IsOne x z → Erases rows cols (erasures.Next m) x z
next_cells rows cols m one = forms (Erases rows cols (erasures.Next m)) (next_still rows cols m one)
    (λ c. never (sym (some_next m one) ∙ (sym (c.home 0 0 (first rows c.tall) (first cols c.wide)) ∙ not_up rows c.tall)))
    (λ c. never (sym (is_down rows) ∙ (c.right 0 0 (first rows c.tall) (first cols c.wide) ∙ far_and cols (nat_lt 0 (cols - 1 + m)) c.wide)))

-- ---- a region that must move up, seen from its last line, the second one, in the first column and in the last

pub record Rises (rows cols : ℕ) (x : Erasure) (z : Scroll) : Type 0 where
  pub tall : 2 ≤ rows
  pub wide : 2 ≤ cols
  pub left : Agree rows cols x z erasures.Nothing scrolls.Up 0 1 1 0
  pub right : Agree rows cols x z erasures.Nothing scrolls.Up 0 1 1 (cols - 1)

abbrev GoesUp : ℕ → ℕ → Erasure → Scroll → Type 0
GoesUp rows cols x z = Rises rows cols x z → SameCells cols x z erasures.Nothing scrolls.Up

up_still : (rows cols : ℕ) (x : Erasure) → GoesUp rows cols x scrolls.Still
up_still rows cols erasures.Nothing c = never (sym (c.left 1 0 (second rows c.tall) (first cols c.wide)))
up_still rows cols erasures.Screen c = never (c.left 0 0 (first rows c.tall) (first cols c.wide))
up_still rows cols erasures.Tail c = never (sym (c.right 1 0 (second rows c.tall) (first cols c.wide)) ∙ far cols c.wide)
up_still rows cols erasures.Head c = never (sym (c.left 1 1 (second rows c.tall) (second cols c.wide)))
up_still rows cols erasures.Rest c = never (sym (c.right 1 0 (second rows c.tall) (first cols c.wide)) ∙ far cols c.wide)
up_still rows cols (erasures.Next n) c = never (sym (c.right 1 0 (second rows c.tall) (first cols c.wide)) ∙ far_and cols (nat_lt 0 (cols - 1 + n)) c.wide)

pub up_cells : (rows cols : ℕ) (x : Erasure) (z : Scroll) → IsOne x z → GoesUp rows cols x z
up_cells rows cols = forms (GoesUp rows cols) (up_still rows cols)
    (λ c. record { scroll = refl; chosen = λ row col i j lt. refl })
    (λ c. never (c.left 0 0 (first rows c.tall) (first cols c.wide)))

-- ---- a region that must move down, seen from its first line

pub record Sinks (rows cols : ℕ) (x : Erasure) (z : Scroll) : Type 0 where
  pub tall : 2 ≤ rows
  pub wide : 2 ≤ cols
  pub left : Agree rows cols x z erasures.Nothing scrolls.Down 0 (rows - 1) 0 0
  pub right : Agree rows cols x z erasures.Nothing scrolls.Down 0 (rows - 1) 0 (cols - 1)

abbrev GoesDown : ℕ → ℕ → Erasure → Scroll → Type 0
GoesDown rows cols x z = Sinks rows cols x z → SameCells cols x z erasures.Nothing scrolls.Down

down_still : (rows cols : ℕ) (x : Erasure) → GoesDown rows cols x scrolls.Still
down_still rows cols erasures.Nothing c = never (sym (is_down rows) ∙ sym (c.left 0 0 (first rows c.tall) (first cols c.wide)))
down_still rows cols erasures.Screen c = never (c.left 1 0 (second rows c.tall) (first cols c.wide) ∙ not_down rows c.tall)
down_still rows cols erasures.Tail c = never (sym (is_down rows) ∙ (sym (c.right 0 0 (first rows c.tall) (first cols c.wide)) ∙ far cols c.wide))
down_still rows cols erasures.Head c = never (sym (is_down rows) ∙ sym (c.left 0 1 (first rows c.tall) (second cols c.wide)))
down_still rows cols erasures.Rest c = never (sym (is_down rows) ∙ (sym (c.right 0 0 (first rows c.tall) (first cols c.wide)) ∙ far cols c.wide))
down_still rows cols (erasures.Next n) c = never (sym (is_down rows) ∙ (sym (c.right 0 0 (first rows c.tall) (first cols c.wide)) ∙ far_and cols (nat_lt 0 (cols - 1 + n)) c.wide))

pub down_cells : (rows cols : ℕ) (x : Erasure) (z : Scroll) → IsOne x z → GoesDown rows cols x z
down_cells rows cols = forms (GoesDown rows cols) (down_still rows cols)
    (λ c. never (sym (is_down rows) ∙ (sym (c.left 0 0 (first rows c.tall) (first cols c.wide)) ∙ not_up rows c.tall)))
    (λ c. record { scroll = refl; chosen = λ row col i j lt. refl })
