-- Lines by their records, and the requirements on the lines of a resynchronization.
use Rattle.std.specs.Prelude.{ℕ, ◌-◌, ◌≡◌, Bool, true, false, List, [], Some, None}
use Rattle.std.specs.List.{AllByRecursion}
use Rattle.vt_term.specs.Text.{Splits}
use Rattle.vt_term.specs.Function.{function_of}
use Rattle.vt_term.specs.Screen.{Charset}
use Rattle.vt_effects.specs.declared.effects.Effect.{Effect}
use Rattle.vt_effects.specs.declared.effects.Switch.TheVariants as switches
use Rattle.vt_effects.specs.declared.effects.Erasure.TheVariants as erasures
use Rattle.vt_effects.specs.declared.effects.Move.TheVariants as moves
use Rattle.vt_effects.specs.declared.effects.Scroll.TheVariants as scrolls
use Rattle.vt_effects.specs.declared.starts.Start.{Start}
use Rattle.vt_effects.specs.declared.starts.Margins.TheVariants as margins
use Rattle.vt_effects.specs.Effect.{nothing_rendered}
use Rattle.vt_effects.specs.Record.{record_of}
use Rattle.vt_effects.specs.Settings.{EachTame, EachKeepsMargins, EachKeepsVisible}
use Rattle.ti_conforms.specs.Charsets.{charset_after}

-- the bytes are whole tokens with this record from that start
pub record HasLine (rows cols : ℕ) (start : Start) (bytes : List ℕ) (e : Effect) : Type 0 where
  pub tokens : List (List ℕ)
  pub whole : Splits bytes tokens []
  pub recorded : record_of rows cols start tokens ≡ Some e

-- every state with whole margins
abbrev pub free_start : ℕ → ℕ → Start
free_start rows cols =
    record { row_min = 0; row_max = rows - 1; col_min = 0; col_max = cols - 1; pending = true; margins = margins.Whole }

-- the record of `smcup`, `enacs`, `sgr0` or `rmacs`
pub record IsQuiet (e : Effect) : Type 0 where
  pub margins : e.margins ≡ None
  pub visible : e.visible ≡ switches.Kept

-- the record of `csr` for the whole screen
pub record SetsMargins (rows : ℕ) (e : Effect) : Type 0 where
  pub margins : e.margins ≡ Some (record { top = 0; bottom = rows - 1 })
  pub rendition : e.rendition ≡ nothing_rendered
  pub charset : e.charset
      ≡ record { g0_graphic = switches.Kept; g1_graphic = switches.Kept; shifted_out = switches.Kept }
  pub visible : e.visible ≡ switches.Kept

-- the record of `clear`
pub record Clears (e : Effect) : Type 0 where
  pub row : e.row ≡ moves.To 0
  pub col : e.col ≡ moves.To 0
  pub pending : e.ends_pending ≡ true
  pub erasure : e.erasure ≡ erasures.Screen
  pub scroll : e.scroll ≡ scrolls.Still
  pub rendition : e.rendition ≡ nothing_rendered
  pub charset : e.charset
      ≡ record { g0_graphic = switches.Kept; g1_graphic = switches.Kept; shifted_out = switches.Kept }
  pub margins : e.margins ≡ None
  pub visible : e.visible ≡ switches.Kept

-- `csr` is such a line, or there is none at all
pub data MayWiden (rows cols : ℕ) (csr : List ℕ) : Bool → Type 0 where
  Absent : csr ≡ [] → MayWiden rows cols csr false
  Present : (start : Start) (e : Effect) → HasLine rows cols start csr e → SetsMargins rows e
      → MayWiden rows cols csr true

-- none of these tokens leads out of the set `reached`
abbrev pub StaysIn : (Charset → Bool) → List (List ℕ) → Type 0
StaysIn reached tokens =
    AllByRecursion (λ t. (c : Charset) → reached c ≡ true → reached (charset_after (function_of t) c) ≡ true) tokens

-- Whole tokens that may be cut off: each leaves autowrap on and insertion off and leads out of no reached charset,
-- and none changes margins or visibility unless lines do.
pub record MayBeCut (rows : ℕ) (sets_margins shows : Bool) (reached : Charset → Bool) (bytes : List ℕ) : Type 0 where
  pub tokens : List (List ℕ)
  pub whole : Splits bytes tokens []
  pub tame : EachTame tokens
  pub stays : StaysIn reached tokens
  pub margins : sets_margins ≡ false → EachKeepsMargins rows tokens
  pub visible : shows ≡ false → EachKeepsVisible tokens
