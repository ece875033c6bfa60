-- The changes of the character sets by a table's lines, as far as they are needed to judge all lines together.
use Rattle.std.specs.Prelude.{ℕ, ◌≡◌, Bool, true, false, List, [], ◌∷◌, not, Option, Some, None}
use Rattle.vt_term.specs.Screen.{Charset, is_graphic}
use Rattle.vt_term.specs.Text.{Splits}
use Rattle.vt_effects.specs.declared.effects.Sets.{Sets}
use Rattle.vt_effects.specs.Effect.{designated}
use Rattle.ti_rows.specs.declared.rows.Row.{Row}
use Rattle.ti_rows.specs.declared.rows.Row.TheVariants.{Clear, Smcup, Enacs, Sgr0, Smacs, Rmacs}
use Rattle.ti_conforms.specs.declared.reach.Reach.{Reach}
use Rattle.ti_conforms.specs.declared.closures.Charsets.{Charsets}
use Rattle.ti_conforms.specs.Charsets.{IsAmong, charset_over, reach_of}
use Rattle.ti_conforms.specs.Closures as closing
use Rattle.ti_conforms.specs.Closures.{Settled, SomeLeads, Leaves, kept, or_kept}
use Rattle.ti_conforms.specs.Table.{Table, settles, widening}
use Rattle.ti_conforms.specs.Sets.{Occurs}
use Rattle.ti_cert.specs.Clashes.{BeginsOpen}
use Rattle.ti_cert.specs.declared.clashes.AllClashes.{AllClashes}
use Rattle.ti_cert.specs.declared.clashes.Clash.{Clash}
use Rattle.ti_cert.specs.declared.clashes.Clash.TheVariants as clashes
use Rattle.ti_cert.specs.declared.clashes.Resync.{Resync}

-- the bytes are whole tokens, which lead from each charset as the change does
pub record LeadsAs (bytes : List ℕ) (change : Sets) : Type 0 where
  pub tokens : List (List ℕ)
  pub whole : Splits bytes tokens []
  pub leads : (c : Charset) → charset_over tokens c ≡ designated change c

-- the change is that of a line that leaves settled charsets settled
pub record IsOfLine (t : Table) (change : Sets) : Type 0 where
  pub row : Row
  pub bytes : List ℕ
  pub there : t.line_of row ≡ Some bytes
  pub keeps : settles row ≡ true
  pub leads : LeadsAs bytes change

-- the line's tokens are among these, and so is its change if the row leaves settled charsets settled
pub record IsLineSeen (tokens : List (List ℕ)) (changes : List Sets) (row : Row) (bytes : List ℕ) : Type 0 where
  pub change : Sets
  pub leads : LeadsAs bytes change
  pub reached : (token : List ℕ) → IsAmong leads.tokens token → IsAmong tokens token
  pub settled : settles row ≡ true → IsAmong changes change

-- the marks that the tokens of all lines turn on, and the changes by those lines that leave settled charsets settled
pub record AreSeen (t : Table) (reach : Reach) (changes : List Sets) : Type 0 where
  pub tokens : List (List ℕ)
  pub reach_is : reach ≡ reach_of tokens
  pub occurs : (token : List ℕ) → IsAmong tokens token → Occurs t token
  pub told : (change : Sets) → IsAmong changes change → IsOfLine t change
  pub lines : (row : Row) (bytes : List ℕ) → t.line_of row ≡ Some bytes → IsLineSeen tokens changes row bytes

-- the change by the row's line, `None` if there is no line
pub data ChangesBy (t : Table) (row : Row) : Option Sets → Type 0 where
  NoLine : t.line_of row ≡ None → ChangesBy t row None
  ByLine : (bytes : List ℕ) → t.line_of row ≡ Some bytes → (change : Sets) → LeadsAs bytes change
      → ChangesBy t row (Some change)

-- the row's line changes no charset, if there is a line
abbrev pub KeepsSets : Table → Row → Type 0
KeepsSets t row = (bytes : List ℕ) → t.line_of row ≡ Some bytes → LeadsAs bytes kept

-- the facts of the lines by which they are judged together
pub record IsFound (t : Table) (reach : Reach) (changes : List Sets) (r : Resync) (smacs : Option Sets)
    (escapes : Bool) : Type 0 where
  pub seen : AreSeen t reach changes
  pub smcup_is : ChangesBy t Smcup r.smcup
  pub enacs_is : ChangesBy t Enacs r.enacs
  pub sgr0_is : ChangesBy t Sgr0 r.sgr0
  pub rmacs_is : ChangesBy t Rmacs r.rmacs
  pub smacs_is : ChangesBy t Smacs smacs
  pub widens : KeepsSets t (widening t)
  pub clears : KeepsSets t Clear
  pub opens : escapes ≡ false → BeginsOpen t
  pub begins : escapes ≡ true → BeginsOpen t → ⊥

-- ---- (Serves the code alone.) Clashes by the charsets that are computed.

-- the changes by the strings that lead out of an unknown state, one after another; `csr` and `clear` change nothing
abbrev pub parts_of : Resync → List Sets
parts_of r = or_kept r.smcup ∷ or_kept r.enacs ∷ or_kept r.sgr0 ∷ or_kept r.rmacs ∷ []

-- from each of these charsets the change, if there is one, activates this set
abbrev pub Leads : Charsets → Option Sets → Bool → Type 0
Leads s None graphic = Unit {0}
Leads s (Some change) graphic = (c : Charset) → closing.has s c ≡ true → is_graphic (designated change c) ≡ graphic

-- the charset is one of these, there is a change, and from this charset it activates the other set
abbrev pub Misleads : Charsets → Option Sets → Bool → Charset → Type 0
Misleads s None graphic c = ⊥
Misleads s (Some change) graphic c = (closing.has s c ≡ true) × (is_graphic (designated change c) ≡ not graphic)

-- the charsets that can be settled: those to which the strings that lead out of an unknown state lead from the charsets
-- that a terminal can have, and all to which `changes` lead from these
pub record AreSettled (reach : Reach) (changes : List Sets) (r : Resync) (settled : Charsets) : Type 0 where
  pub first : Charsets
  pub first_sound : (d : Charset) → closing.has first d ≡ true → Leaves reach (parts_of r) d
  pub first_complete : (d : Charset) → Leaves reach (parts_of r) d → closing.has first d ≡ true
  pub close_sound : (c : Charset) → closing.has settled c ≡ true
      → Settled (λ d. closing.has first d ≡ true) (SomeLeads changes) c
  pub close_complete : (c : Charset) → Settled (λ d. closing.has first d ≡ true) (SomeLeads changes) c
      → closing.has settled c ≡ true

abbrev pub ClashesAs : Charsets → Option Sets → Option Sets → Bool → Bool → Clash → Type 0
ClashesAs s smacs rmacs sent escapes (clashes.Smacs c) = Misleads s smacs true c
ClashesAs s smacs rmacs sent escapes (clashes.Rmacs c) = Leads s smacs true × Misleads s rmacs false c
ClashesAs s smacs rmacs sent escapes clashes.Acsc =
    Leads s smacs true × Leads s rmacs false × (sent ≡ false) × ((c : Charset) × Misleads s (Some kept) false c)
ClashesAs s smacs rmacs sent escapes clashes.Clear =
    Leads s smacs true × Leads s rmacs false × (sent ≡ false → Leads s (Some kept) false) × (escapes ≡ false)

pub record NoneClashes (s : Charsets) (smacs rmacs : Option Sets) (sent escapes : Bool) : Type 0 where
  pub graphic : Leads s smacs true
  pub plain : Leads s rmacs false
  pub unsent : sent ≡ false → Leads s (Some kept) false
  pub escapes_is : escapes ≡ true

-- the change activates the other set from the charset that is named; if none is named, it does so from no charset
abbrev pub OfChange : Charsets → Option Sets → Bool → Option Charset → Type 0
OfChange s change graphic None = Leads s change graphic
OfChange s change graphic (Some c) = Misleads s change graphic c

-- all clashes that are found
pub record AreFound (s : Charsets) (smacs rmacs : Option Sets) (sent escapes : Bool) (all : AllClashes) : Type 0 where
  pub of_smacs : OfChange s smacs true all.smacs
  pub of_rmacs : OfChange s rmacs false all.rmacs
  pub graphic : all.acsc ≡ true → (sent ≡ false) × ((c : Charset) × Misleads s (Some kept) false c)
  pub plain : all.acsc ≡ false → sent ≡ false → Leads s (Some kept) false
  pub of_clear : all.clear ≡ not escapes
