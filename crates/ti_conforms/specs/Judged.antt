-- The facts about lines once each was judged by its record.
use Rattle.std.specs.Prelude.{ℕ, ◌≡◌, true, false, List, [], ◌∷◌, Option, Some, None}
use Rattle.vt_term.specs.Text.{Splits}
use Rattle.vt_term.specs.Screen.{Charset, is_graphic}
use Rattle.vt_effects.specs.declared.effects.Effect.{Effect}
use Rattle.vt_effects.specs.declared.effects.Sets.{Sets}
use Rattle.vt_effects.specs.Effect.{designated}
use Rattle.vt_effects.specs.Record.{record_of}
use Rattle.ti_rows.specs.declared.rows.Row.{Row}
use Rattle.ti_rows.specs.declared.rows.Row.TheVariants.{Csr, Clear, Sgr0, Smcup, Enacs, Rmacs}
use Rattle.ti_rows.specs.Asked.{start_of, asked}
use Rattle.ti_conforms.specs.Lines.{StaysIn}
use Rattle.ti_conforms.specs.Charsets.{reset_charset}
use Rattle.ti_conforms.specs.Sets.{has_sets}
use Rattle.ti_conforms.specs.Table.{Table, has, resync, widening, settles, Activates}

-- the record of the bytes from the row's start is the one that the table asks for
pub record AskedLine (t : Table) (row : Row) (bytes : List ℕ) : Type 0 where
  pub tokens : List (List ℕ)
  pub whole : Splits bytes tokens []
  pub effect : Effect
  pub recorded : record_of t.rows t.cols (start_of t.rows t.cols row) tokens ≡ Some effect
  pub asked_for : effect ≡ asked t.looks row effect
  pub stays : StaysIn t.reached tokens
  pub settles : settles row ≡ true → (c : Charset) → t.settled c ≡ true → t.settled (designated effect.charset c) ≡ true
  pub active : (c : Charset) → t.settled c ≡ true → Activates row (designated effect.charset c)

-- the change that a line makes to the sets; none if there is no line
pub data ChangesSets (t : Table) (row : Row) (change : Option Sets) : Type 0 where
  NoLine : t.line_of row ≡ None → change ≡ None → ChangesSets t row change
  ByLine : (bytes : List ℕ) → t.line_of row ≡ Some bytes → (line : AskedLine t row bytes)
      → change ≡ Some line.effect.charset → ChangesSets t row change

abbrev pub changed : Option Sets → Charset → Charset
changed None c = c
changed (Some sets) c = designated sets c

-- the changes that the lines of a resynchronization make to the sets
pub record Changes : Type 0 where
  pub smcup : Option Sets
  pub enacs : Option Sets
  pub sgr0 : Option Sets
  pub rmacs : Option Sets

abbrev pub left_of : Changes → Charset → Charset
left_of c charset = changed c.rmacs (changed c.sgr0 (changed c.enacs (changed c.smcup charset)))

pub record IsJudged (t : Table) : Type 0 where
  pub lines : (row : Row) (bytes : List ℕ) → t.line_of row ≡ Some bytes → AskedLine t row bytes
  pub clear_bytes : List ℕ
  pub clears : t.line_of Clear ≡ Some clear_bytes
  pub sgr0_bytes : List ℕ
  pub makes_plain : t.line_of Sgr0 ≡ Some sgr0_bytes
  -- if any parameters of `csr` have a line, those of the whole screen have one
  pub widens : (top bottom : ℕ) → has t (Csr top bottom) ≡ true → has t (widening t) ≡ true
  pub changes : Changes
  pub smcup : ChangesSets t Smcup changes.smcup
  pub enacs : ChangesSets t Enacs changes.enacs
  pub sgr0 : ChangesSets t Sgr0 changes.sgr0
  pub rmacs : ChangesSets t Rmacs changes.rmacs
  -- a resynchronization begins with ESC, and leaves the plain set active
  pub rest : List ℕ
  pub escapes : resync t ≡ 27 ∷ rest
  pub quiet : (c : Charset) → t.reached c ≡ true → is_graphic (left_of changes c) ≡ false
  -- the charsets reached, those settled, and that settled ones are plain if lines can't switch sets
  pub starts : t.reached reset_charset ≡ true
  pub first_settled : (c : Charset) → t.reached c ≡ true → t.settled (left_of changes c) ≡ true
  pub settled_reached : (c : Charset) → t.settled c ≡ true → t.reached c ≡ true
  pub plain : has_sets t ≡ false → (c : Charset) → t.settled c ≡ true → is_graphic c ≡ false
