-- Which character sets a terminal can have after strings that are sent whole or in part (VT100 user guide, "Select
-- character set"; ECMA-48 8.3.76 and 8.3.126, LS0 and LS1: SI and SO).
use Rattle.std.specs.Prelude.{ℕ, ◌≡◌, ◌⊎◌, ◌&&◌, Bool, true, false, if◌then◌else◌, List, [], ◌∷◌}
use Rattle.vt_term.specs.Function.{Function, function_of, G0, G1, ShiftOut, Designate}
use Rattle.vt_term.specs.Screen.{Charset}
pub use Rattle.vt_term.specs.Charsets.{charset_after}
use Rattle.ti_conforms.specs.declared.reach.Reach.{Reach}

-- the sets of a terminal in its reset state
abbrev pub reset_charset : Charset
reset_charset = record { g0_graphic = false; g1_graphic = false; shifted_out = false }

-- the sets after tokens, one after another
abbrev pub charset_over : List (List ℕ) → Charset → Charset
charset_over [] c = c
charset_over (token ∷ tokens) c = charset_over tokens (charset_after (function_of token) c)

abbrev pub IsAmong : {A : Type 0} → List A → A → Type 0
IsAmong [] x = ⊥
IsAmong (y ∷ ys) x = (x ≡ y) ⊎ IsAmong ys x

-- The least set of charsets that has the reset one and that none of these tokens leads out of: those that a terminal
-- can have after strings of these tokens, cut off anywhere.
pub data Reached (tokens : List (List ℕ)) : Charset → Type 0 where
  AtReset : (c : Charset) → c ≡ reset_charset → Reached tokens c
  AfterToken : (c d : Charset) (token : List ℕ) → Reached tokens c → IsAmong tokens token
      → d ≡ charset_after (function_of token) c → Reached tokens d

-- the functions that turn a mark of the sets on
abbrev pub makes_g0_graphic : Function → Bool
makes_g0_graphic (Designate G0 true) = true
makes_g0_graphic _ = false

abbrev pub makes_g1_graphic : Function → Bool
makes_g1_graphic (Designate G1 true) = true
makes_g1_graphic _ = false

abbrev pub shifts_out : Function → Bool
shifts_out ShiftOut = true
shifts_out _ = false

-- whether some of these tokens turn the mark on
abbrev pub some_make : (Function → Bool) → List (List ℕ) → Bool
some_make mark [] = false
some_make mark (token ∷ tokens) = if mark (function_of token) then true else some_make mark tokens

-- the marks that some of these tokens turn on
abbrev pub reach_of : List (List ℕ) → Reach
reach_of tokens = record {
  g0_graphic = some_make makes_g0_graphic tokens;
  g1_graphic = some_make makes_g1_graphic tokens;
  shifted_out = some_make shifts_out tokens;
}

-- the first is on only if the second is
abbrev pub within : Bool → Bool → Bool
within true b = b
within false b = true

-- each mark of the charset that is on can be turned on
abbrev pub can_have : Reach → Charset → Bool
can_have r c =
    within c.g0_graphic r.g0_graphic && (within c.g1_graphic r.g1_graphic && within c.shifted_out r.shifted_out)

-- the marks of both
abbrev pub joined : Reach → Reach → Reach
joined r q = record {
  g0_graphic = if r.g0_graphic then true else q.g0_graphic;
  g1_graphic = if r.g1_graphic then true else q.g1_graphic;
  shifted_out = if r.shifted_out then true else q.shifted_out;
}
