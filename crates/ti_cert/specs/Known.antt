-- (Serves the code alone.) The facts known of the lines that were judged so far.
use Rattle.std.specs.Prelude.{ℕ, ◌≡◌, Bool, true, false, if◌then◌else◌, List, [], ◌∷◌, ◌++◌, Option, Some}
use Rattle.vt_term.specs.Text.{Splits}
use Rattle.vt_effects.specs.declared.effects.Effect.{Effect}
use Rattle.vt_effects.specs.declared.effects.Sets.{Sets}
use Rattle.vt_effects.specs.Record.{record_of}
use Rattle.ti_conforms.specs.Charsets.{IsAmong, reach_of}
use Rattle.ti_conforms.specs.declared.reach.Reach.{Reach}
use Rattle.ti_rows.specs.declared.rows.Looks.{Looks}
use Rattle.ti_rows.specs.declared.rows.Row.{Row}
use Rattle.ti_rows.specs.Looks.{learned}
use Rattle.ti_rows.specs.Asked.{start_of, asked}
use Rattle.ti_conforms.specs.Table.{settles}
use Rattle.ti_cert.specs.Strings.{Strings, row_string, has_group}
use Rattle.ti_conforms.specs.Looks.{LooksAlone}
use Rattle.ti_cert.specs.Certificates.{rival}

-- the facts that the lines so far state
pub record Known : Type 0 where
  pub strings : Strings
  pub looks : Looks
  -- the marks of the charsets that tokens turn on, and the changes of the charsets by whole strings
  pub reach : Reach
  pub changes : List Sets

abbrev pub looks_with : Known → Row → Effect → Looks
looks_with k row e = if has_group k.strings (rival row) then k.looks else learned row e k.looks

-- the tokens have this record from the row's start, and it is the one that is asked for with these looks
pub record HasRecord (rows cols : ℕ) (looks : Looks) (row : Row) (tokens : List (List ℕ))
    (effect : Effect) : Type 0 where
  pub recorded : record_of rows cols (start_of rows cols row) tokens ≡ Some effect
  pub asked_for : effect ≡ asked looks row effect

-- the record of these tokens from the row's start, or `None`, is the one found
abbrev pub IsRecord : Known → Row → List (List ℕ) → Option Effect → Type 0
IsRecord k row tokens found =
    found ≡ record_of k.strings.rows k.strings.cols (start_of k.strings.rows k.strings.cols row) tokens

-- the bytes are whole tokens with such a record
pub record TellsRecord (rows cols : ℕ) (looks : Looks) (row : Row) (bytes : List ℕ) (effect : Effect) : Type 0 where
  pub tokens : List (List ℕ)
  pub whole : Splits bytes tokens []
  pub has : HasRecord rows cols looks row tokens effect

-- the facts kept of a line: its bytes are whole tokens with such a record, and these tokens are among `all`; its change
-- is among the changes if the row leaves settled charsets settled
pub record IsKept (k : Known) (all : List (List ℕ)) (row : Row) (bytes : List ℕ) : Type 0 where
  pub tokens : List (List ℕ)
  pub whole : Splits bytes tokens []
  pub effect : Effect
  pub has : HasRecord k.strings.rows k.strings.cols k.looks row tokens effect
  pub reached : (token : List ℕ) → IsAmong tokens token → IsAmong all token
  pub settled : settles row ≡ true → IsAmong k.changes effect.charset

-- the change is that of the record of some tokens, for some row and size, and these tokens are among `all`
pub record IsChange (all : List (List ℕ)) (change : Sets) : Type 0 where
  pub rows : ℕ
  pub cols : ℕ
  pub row : Row
  pub tokens : List (List ℕ)
  pub effect : Effect
  pub recorded : record_of rows cols (start_of rows cols row) tokens ≡ Some effect
  pub is : change ≡ effect.charset
  pub reached : (token : List ℕ) → IsAmong tokens token → IsAmong all token

-- the token is one of those of a string
pub record IsFrom (k : Known) (token : List ℕ) : Type 0 where
  pub row : Row
  pub bytes : List ℕ
  pub there : row_string k.strings row ≡ Some bytes
  pub tokens : List (List ℕ)
  pub whole : Splits bytes tokens []
  pub among : IsAmong tokens token

-- the change is that of a string whose row leaves settled charsets settled
pub record IsTold (k : Known) (change : Sets) : Type 0 where
  pub row : Row
  pub bytes : List ℕ
  pub there : row_string k.strings row ≡ Some bytes
  pub keeps : settles row ≡ true
  pub tokens : List (List ℕ)
  pub whole : Splits bytes tokens []
  pub effect : Effect
  pub recorded : record_of k.strings.rows k.strings.cols (start_of k.strings.rows k.strings.cols row) tokens
      ≡ Some effect
  pub is : change ≡ effect.charset

pub record Holds (k : Known) : Type 0 where
  pub all : List (List ℕ)
  pub reach_is : k.reach ≡ reach_of all
  pub lines : (row : Row) (bytes : List ℕ) → row_string k.strings row ≡ Some bytes → IsKept k all row bytes
  pub changes : (change : Sets) → IsAmong k.changes change → IsChange all change
  pub from_lines : (token : List ℕ) → IsAmong all token → IsFrom k token
  pub told : (change : Sets) → IsAmong k.changes change → IsTold k change
  pub looks : LooksAlone (λ row. has_group k.strings row) k.looks

-- the changes, with that of one more line if the first argument is true
abbrev pub with_change : Bool → List Sets → Sets → List Sets
with_change true changes change = changes ++ change ∷ []
with_change false changes change = changes
