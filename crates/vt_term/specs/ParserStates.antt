-- (Serves the code alone.) The meaning of each stage of the parser for the bytes so far. Only the parser's own
-- clauses cite this file.
use Rattle.std.specs.Prelude.{◌≡◌, ◌≢◌, ℕ, ◌-◌, ◌<◌, ◌≤◌, ◌==◌, ◌&&◌, Bool, true, false, List, [], ◌∷◌, ◌++◌, length}
use Rattle.std.specs.Prelude.{take, slice_index, Option, None, Some}
use Rattle.std.specs.List.{list_all}
use Rattle.vt_term.specs.declared.parser.ParserState.{ParserState}
use Rattle.vt_term.specs.declared.parser.ParserState.TheVariants.{Outside, Escape, DesignatesG0, DesignatesG1}
use Rattle.vt_term.specs.declared.parser.ParserState.TheVariants.{Intermediate, Introduced, Parameters}
use Rattle.vt_term.specs.declared.parser.ParserState.TheVariants.{PrivateParameters, OtherParameters, Closed}
use Rattle.vt_term.specs.Parameters.{numbers, is_numeral}
use Rattle.vt_term.specs.Text.{sequence_limit, IsFinal, IsIntermediate, IsOpen, IsWhole}
use Rattle.vt_term.specs.Function.{function_of}
use Rattle.vt_screen.specs.declared.functions.Function.TheVariants.{Ignored}

abbrev pub last_byte : List ℕ → ℕ
last_byte bytes = slice_index bytes (length bytes - 1)

-- ESC and intermediate bytes that designate neither G0 nor G1
pub record ChoosesNothing (bytes : List ℕ) : Type 0 where
  pub second : ℕ
  pub more : List ℕ
  pub spelled : bytes ≡ 27 ∷ second ∷ more
  pub no_introducer : second ≢ 91
  pub no_set : more ≡ [] → (second ≢ 40) × (second ≢ 41)

-- ESC [ and numbers
pub record IsNumbered (ns : List (Option ℕ)) (bytes : List ℕ) : Type 0 where
  pub front : List ℕ
  pub spelled : bytes ≡ 27 ∷ 91 ∷ front
  pub some : 0 < length front
  pub numeral : list_all is_numeral front ≡ true
  pub read : ns ≡ numbers front
  pub goes_on : IsIntermediate (last_byte bytes) → ⊥

-- ESC [ ? and numbers
pub record IsPrivate (ns : List (Option ℕ)) (bytes : List ℕ) : Type 0 where
  pub front : List ℕ
  pub spelled : bytes ≡ 27 ∷ 91 ∷ 63 ∷ front
  pub numeral : list_all is_numeral front ≡ true
  pub read : ns ≡ numbers front
  pub goes_on : IsIntermediate (last_byte bytes) → ⊥

abbrev pub is_marked : List ℕ → Bool
is_marked [] = false
is_marked (b ∷ bytes) = (b == 63) && list_all is_numeral bytes

-- ESC [ and parameters that no function has
pub record NamesNothing (bytes : List ℕ) : Type 0 where
  pub front : List ℕ
  pub spelled : bytes ≡ 27 ∷ 91 ∷ front
  pub plain : list_all is_numeral front ≡ false
  pub marked : is_marked front ≡ false

abbrev pub IsAt : ParserState → List (Option ℕ) → List ℕ → Type 0
IsAt Outside ns bytes = bytes ≡ []
IsAt Escape ns bytes = bytes ≡ 27 ∷ []
IsAt DesignatesG0 ns bytes = bytes ≡ 27 ∷ 40 ∷ []
IsAt DesignatesG1 ns bytes = bytes ≡ 27 ∷ 41 ∷ []
IsAt Intermediate ns bytes = ChoosesNothing bytes
IsAt Introduced ns bytes = (bytes ≡ 27 ∷ 91 ∷ []) × (ns ≡ None ∷ [])
IsAt Parameters ns bytes = IsNumbered ns bytes
IsAt PrivateParameters ns bytes = IsPrivate ns bytes
IsAt OtherParameters ns bytes = NamesNothing bytes × (IsIntermediate (last_byte bytes) → ⊥)
IsAt Closed ns bytes = NamesNothing bytes × IsIntermediate (last_byte bytes)

-- the parser's fields are right for these bytes
pub record IsParsing (stage : ParserState) (ns : List (Option ℕ)) (count capacity : ℕ) (bytes : List ℕ) : Type 0 where
  pub counted : count ≡ length bytes
  pub few : length ns ≤ length bytes
  pub room : sequence_limit ≤ capacity
  pub fits : IsOpen bytes
  pub at : IsAt stage ns bytes

-- the bytes begin with parameters of these numbers, followed by a final byte at this place
pub record ReadsTo (bytes : List ℕ) (ns : List (Option ℕ)) (at final : ℕ) : Type 0 where
  pub within : at < length bytes
  pub numeral : list_all is_numeral (take at bytes) ≡ true
  pub read : ns ≡ numbers (take at bytes)
  pub last : final ≡ slice_index bytes at
  pub ends : IsFinal final

-- the parts kept of a token determine its function
abbrev pub IsTold : Option ParserState → List (Option ℕ) → List ℕ → Type 0
IsTold None ns bytes = function_of bytes ≡ Ignored
IsTold (Some stage) ns bytes =
    (front : List ℕ) × (last : ℕ) × (bytes ≡ front ++ last ∷ []) × IsAt stage ns front × IsWhole bytes
