-- The failures of a wrong word and of a file. Memory can run out at any time, and says nothing.
use Rattle.std.specs.Prelude.{◌≡◌, ◌⊎◌, ℕ, List, ◌∷◌, ◌++◌, codes}
use Rattle.std.specs.String.{string_bytes}
use Rattle.ti_parm.specs.Value.{Value}
use Rattle.ti_files.specs.Words.{GiveParams, GivesParam, IsNumberWord}
use Rattle.ti_files.specs.declared.failure.Failure.{Failure}
use Rattle.ti_files.specs.declared.failure.Failure.TheVariants.{Usage, File, NoMemory}

-- the line is wrong, and `text` is the message
abbrev pub IsUsageError : List ℕ → Failure → Type 0
IsUsageError text (Usage told) = string_bytes told ≡ text
IsUsageError text NoMemory = Unit {0}
IsUsageError text _ = ⊥

-- the file at this path can't be read or written
abbrev pub IsFileFailure : List ℕ → Failure → Type 0
IsFileFailure path (File told) = string_bytes told ≡ path
IsFileFailure path NoMemory = Unit {0}
IsFileFailure path _ = ⊥

-- the message about a word in the place of a number, and about one in the place of a parameter
abbrev pub number_usage : List ℕ → List ℕ → List ℕ
number_usage name word =
    codes "error: invalid value '" ++ (word ++ (codes "' for "
    ++ (name ++ codes ": a decimal number up to 2147483647 is wanted\n\nFor more information, try '--help'.\n")))

abbrev pub param_usage : List ℕ → List ℕ
param_usage word =
    codes "error: invalid value '" ++ (word ++ codes "' for PARAM: a decimal number up to 2147483647, or s: and a text, is wanted\n\nFor more information, try '--help'.\n")

-- the word for `name` is no number
abbrev pub WrongNumber : List ℕ → List ℕ → Failure → Type 0
WrongNumber name word failure = (IsNumberWord word → ⊥) × IsUsageError (number_usage name word) failure

-- a word of the size is no number: the rows come first
abbrev pub WrongSize : List ℕ → List ℕ → Failure → Type 0
WrongSize rows cols failure =
    WrongNumber (codes "ROWS") rows failure ⊎ (IsNumberWord rows × WrongNumber (codes "COLS") cols failure)

-- the first word that gives no parameter
pub record WrongParam (words : List (List ℕ)) (failure : Failure) : Type 0 where
  pub front : List (List ℕ)
  pub word : List ℕ
  pub behind : List (List ℕ)
  pub spelled : words ≡ front ++ word ∷ behind
  pub values : List Value
  pub before : GiveParams front values
  pub nothing : (value : Value) → GivesParam word value → ⊥
  pub told : IsUsageError (param_usage word) failure
