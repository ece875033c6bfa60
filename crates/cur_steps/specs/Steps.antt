-- (Serves the code alone.) The promise of a single step: its bytes lead from the cells shown and the belief before it
-- to those after it.
use Rattle.std.specs.Prelude.{ℕ, ◌<◌, List, Result}
use Rattle.cur_steps.specs.WireSteps.{Spells, Steps}
use Rattle.ti_conforms.specs.Certified.{Table, IsChecked, IsPiece, IsLost}
use Rattle.cur_steps.specs.Beliefs.{Agrees, Belief, Place}
use Rattle.cur_steps.specs.Pieces.{IsPaint}
use Rattle.cur_steps.specs.Gaps.{BeginsAs}
use Rattle.cur_steps.specs.declared.inks.Ink.{Ink}
use Rattle.cur_steps.specs.declared.pens.Pen.{Pen}

-- the end of a step: the certificate is verified, and the place is on its screen
pub record IsGoal (t : Table) (at : Place) : Type 0 where
  pub checked : IsChecked t
  pub row : at.row < t.rows
  pub col : at.col < t.cols

-- A step from a terminal that shows the cells g to one that shows h. It sends only bytes that paint, at most `limit` of
-- them.
abbrev pub Acts : {W T E : Type 0} → (W → W → List ℕ → Type 0) → (W → ℕ) → W → W → Result T E → Table → ℕ
    → (ℕ → ℕ → Ink) → (ℕ → ℕ → Ink) → Belief → Belief → Type 0
Acts went failures before after answer t limit g h b c =
    Steps went failures before after answer (IsPaint t) limit (IsLost t) (Agrees t g b) (Agrees t h c)

-- exactly this text goes out if nothing fails, and all cells stay, whatever they are
abbrev pub KeepsText : {W T E : Type 0} → (W → W → List ℕ → Type 0) → (W → ℕ) → W → W → Result T E → Table → ℕ
    → List ℕ → Belief → Belief → Type 0
KeepsText went failures before after answer t limit text b c =
    (g : ℕ → ℕ → Ink)
    → Spells went failures before after answer text (IsPiece t) limit (IsLost t) (Agrees t g b) (Agrees t g c)

-- A pen's step from cells g to cells h, by its belief and wire before and after.
abbrev pub ActsWith : {W T E : Type 0} → (W → W → List ℕ → Type 0) → (W → ℕ) → Pen W → Pen W → Result T E → Table → ℕ
    → (ℕ → ℕ → Ink) → (ℕ → ℕ → Ink) → Type 0
ActsWith went failures before after answer t limit g h =
    Acts went failures before.wire after.wire answer t limit g h before.belief after.belief

-- all cells stay, whatever they are
abbrev pub Keeps : {W T E : Type 0} → (W → W → List ℕ → Type 0) → (W → ℕ) → Pen W → Pen W → Result T E → Table → ℕ
    → Type 0
Keeps went failures before after answer t limit =
    (g : ℕ → ℕ → Ink) → ActsWith went failures before after answer t limit g g

-- all cells stay, whatever they are, within a limit that the table sets
abbrev pub KeepsWithin : {W T E : Type 0} → (W → W → List ℕ → Type 0) → (W → ℕ) → Pen W → Pen W → Result T E → Table
    → (Table → ℕ) → Type 0
KeepsWithin went failures before after answer t limit = Keeps went failures before after answer t (limit t)

-- all cells stay, whatever they are, and exactly this text goes out if nothing fails
abbrev pub KeepsBy : {W T E : Type 0} → (W → W → List ℕ → Type 0) → (W → ℕ) → Pen W → Pen W → Result T E → Table → ℕ
    → List ℕ → Type 0
KeepsBy went failures before after answer t limit text =
    KeepsText went failures before.wire after.wire answer t limit text before.belief after.belief

-- the cells change, whatever they are
abbrev pub Makes : {W T E : Type 0} → (W → W → List ℕ → Type 0) → (W → ℕ) → Pen W → Pen W → Result T E → Table → ℕ
    → ((ℕ → ℕ → Ink) → ℕ → ℕ → Ink) → Type 0
Makes went failures before after answer t limit change =
    (g : ℕ → ℕ → Ink) → ActsWith went failures before after answer t limit g (change g)

-- no cell changes, provided the cells left of the place already show the target
abbrev pub KeepsFrom : {W T E : Type 0} → (W → W → List ℕ → Type 0) → (W → ℕ) → Pen W → Pen W → Result T E → Table
    → ℕ → (ℕ → ℕ → Ink) → Place → Type 0
KeepsFrom went failures before after answer t limit shown at =
    (g : ℕ → ℕ → Ink) → BeginsAs g shown at.row at.col → ActsWith went failures before after answer t limit g g

-- the cells change, provided the cells left of the place already show the target
abbrev pub MakesFrom : {W T E : Type 0} → (W → W → List ℕ → Type 0) → (W → ℕ) → Pen W → Pen W → Result T E → Table
    → ℕ → (ℕ → ℕ → Ink) → Place → ((ℕ → ℕ → Ink) → ℕ → ℕ → Ink) → Type 0
MakesFrom went failures before after answer t limit shown at change =
    (g : ℕ → ℕ → Ink) → BeginsAs g shown at.row at.col → ActsWith went failures before after answer t limit g (change g)
