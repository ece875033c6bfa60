-- The looks of attributes that have strings of their own (terminfo(5), "Highlighting, Underlining, and Visible Bells").
use Rattle.std.specs.Prelude.{ℕ, ◌≡◌, ◌==◌, ◌||◌, Bool, true, false}
use Rattle.vt_effects.specs.declared.effects.Effect.{Effect}
use Rattle.ti_rows.specs.declared.rows.Looks.{Looks}
use Rattle.ti_rows.specs.declared.rows.Row.{Row}
use Rattle.ti_rows.specs.declared.rows.Row.TheVariants.{Sgr, Smul, Rev, Blink, Dim, Bold, Invis, Smso}
use Rattle.ti_rows.specs.Asked.{asked, no_marks}
use Rattle.ti_rows.specs.Bits.{number_of}
use Rattle.ti_rows.specs.Looks.{learned}
use Rattle.ti_rows.specs.Names.{no_attributes}
use Rattle.ti_conforms.specs.Table.{Table, has}

-- an attribute with a string of its own looks as its name says, and one without can't be seen; standout looks as its
-- string says
pub record SingleLooks (has : Row → Bool) (l : Looks) : Type 0 where
  pub underline : l.underline ≡ has Smul
  pub reverse : l.reverse ≡ has Rev
  pub blink : l.blink ≡ has Blink
  pub dim : l.dim ≡ has Dim
  pub bold : l.bold ≡ has Bold
  pub invisible : l.invisible ≡ has Invis
  pub standout : has Smso ≡ false → l.standout ≡ no_marks

-- attributes look so if no `sgr` sets all of them
abbrev pub LooksAlone : (Row → Bool) → Looks → Type 0
LooksAlone has l = has (Sgr no_attributes) ≡ false → SingleLooks has l

abbrev pub LooksStand : Table → Type 0
LooksStand t = LooksAlone (λ row. has t row) t.looks

-- attributes that can't be seen
abbrev pub no_looks : Looks
no_looks =
    record {
      standout = no_marks;
      underline = false;
      reverse = false;
      blink = false;
      dim = false;
      bold = false;
      invisible = false;
    }

-- `n` is the number of a set of one attribute other than standout
abbrev pub is_single : ℕ → Bool
is_single n = n == 1 || (n == 2 || (n == 4 || (n == 8 || (n == 16 || n == 32))))

abbrev pub is_alone : Row → Bool
is_alone (Sgr a) = is_single (number_of a)
is_alone _ = false

abbrev pub standout : Row
standout = Sgr (record no_attributes { standout = true })

-- the effect is of the form of `sgr` with one attribute that may look like anything
abbrev pub IsSomeLook : Effect → Type 0
IsSomeLook effect = effect ≡ asked (learned standout effect no_looks) standout effect
