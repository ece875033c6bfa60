-- Laws of strings that lead a terminal out of an unknown state, and of strings that are cut off.
use Rattle.std.specs.Prelude.{ℕ, ◌-◌, ◌≡◌, Bool, true, false, List, [], ◌∷◌, ◌++◌, Option}
use Rattle.vt_term.specs.Look.{Rendition, plain}
use Rattle.vt_term.specs.Screen.{State, IsOfSize, Charset, is_graphic}
use Rattle.vt_effects.specs.declared.effects.Effect.{Effect}
use Rattle.vt_effects.specs.declared.starts.Start.{Start}
use Rattle.vt_effects.specs.Effect.{rendered, designated}
use Rattle.vt_effects.specs.Settings.{IsTame, SameMargins}
use Rattle.ti_rows.specs.declared.rows.Row.{Row}
use Rattle.ti_rows.specs.declared.rows.Row.TheVariants.{Clear, Csr, Enacs, Rmacs, Sgr0, Smcup}
use Rattle.ti_conforms.specs.Table.{or_nothing}
use Rattle.ti_conforms.specs.Lost.{IsLost, IsCleared}
use Rattle.vt_term.specs.Ends.{Ends}
use Rattle.ti_conforms.specs.Lines.{HasLine, free_start, IsQuiet, Clears, MayWiden, MayBeCut}

-- between two tokens, with this rendition, this charset, and all other settings as before
pub record Settled (rows cols : ℕ) (r : Rendition) (c : Charset) (s t : State) : Type 0 where
  pub rest : t.rest ≡ []
  pub size : IsOfSize rows cols t
  pub tame : IsTame t.screen
  pub rendition : t.screen.rendition ≡ r
  pub charset : t.screen.charset ≡ c
  pub visible : t.screen.visible ≡ s.screen.visible
  pub margins : SameMargins s.screen t.screen

-- `bytes` change rendition and charset by `R` and `C`, from every state between two tokens, and keep the other settings
abbrev pub Settles : ℕ → ℕ → List ℕ → (Rendition → Rendition) → (Charset → Charset) → Type 0
Settles rows cols bytes R C = (s : State) → s.rest ≡ [] → IsOfSize rows cols s → IsTame s.screen
    → Ends s bytes (Settled rows cols (R s.screen.rendition) (C s.screen.charset) s)

abbrev pub QuietSettles : Type 0
QuietSettles =
    (rows cols : ℕ) (start : Start) (bytes : List ℕ) (e : Effect) → HasLine rows cols start bytes e → IsQuiet e
    → Settles rows cols bytes (λ r. rendered e.rendition r) (λ c. designated e.charset c)

abbrev pub NothingSettles : Type 0
NothingSettles = (rows cols : ℕ) → Settles rows cols [] (λ r. r) (λ c. c)

abbrev pub SettlingJoins : Type 0
SettlingJoins =
    (rows cols : ℕ) (a b : List ℕ) (Q R : Rendition → Rendition) (B C : Charset → Charset) → Settles rows cols a Q B
    → Settles rows cols b R C → Settles rows cols (a ++ b) (λ r. R (Q r)) (λ c. C (B c))

-- If its lines have these properties, a resynchronization leads from every lost state to a blank screen.
abbrev pub ResyncLeads : Type 0
ResyncLeads =
    (rows cols : ℕ) (sets_margins shows : Bool) (front csr clear more : List ℕ) (R : Rendition → Rendition)
    (C : Charset → Charset) (reached : Charset → Bool) (e : Effect)
    → front ++ (csr ++ clear) ≡ 27 ∷ more → Settles rows cols front R C → ((r : Rendition) → R r ≡ plain)
    → ((c : Charset) → reached c ≡ true → is_graphic (C c) ≡ false)
    → MayWiden rows cols csr sets_margins → HasLine rows cols (free_start rows cols) clear e → Clears e
    → (s : State) → IsLost rows cols sets_margins shows reached s
    → Ends s (front ++ (csr ++ clear)) (IsCleared rows cols s.screen.visible)

-- A line that is cut off anywhere leads from a lost state between two tokens to a lost state; after the whole line no
-- sequence is open.
abbrev pub FrontsStay : Type 0
FrontsStay =
    (rows cols : ℕ) (sets_margins shows : Bool) (reached : Charset → Bool) (bytes : List ℕ)
    → MayBeCut rows sets_margins shows reached bytes
    → (s : State) → s.rest ≡ [] → IsLost rows cols sets_margins shows reached s → (front back : List ℕ)
    → bytes ≡ front ++ back → Ends s front (IsLost rows cols sets_margins shows reached)

pub record IsLostAndClosed (rows cols : ℕ) (sets_margins shows : Bool) (reached : Charset → Bool)
    (s : State) : Type 0 where
  pub rest : s.rest ≡ []
  pub lost : IsLost rows cols sets_margins shows reached s

abbrev pub WholesStay : Type 0
WholesStay =
    (rows cols : ℕ) (sets_margins shows : Bool) (reached : Charset → Bool) (bytes : List ℕ)
    → MayBeCut rows sets_margins shows reached bytes
    → (s : State) → s.rest ≡ [] → IsLost rows cols sets_margins shows reached s
    → Ends s bytes (IsLostAndClosed rows cols sets_margins shows reached)

-- The rows of a resynchronization, in the order in which those with a line are sent (terminfo(5), "Initialization"
-- and "Line Graphics").
abbrev pub resync_rows : ℕ → List Row
resync_rows rows = Smcup ∷ Enacs ∷ Sgr0 ∷ Rmacs ∷ Csr 0 (rows - 1) ∷ Clear ∷ []

-- the lines of these rows, one after another
abbrev pub texts_of : (Row → Option (List ℕ)) → List Row → List ℕ
texts_of line_of [] = []
texts_of line_of (row ∷ rows) = or_nothing (line_of row) ++ texts_of line_of rows
