-- the words of a command line
use Rattle.std.specs.Prelude.{◌≡◌, ℕ, pos, List, [], ◌∷◌, ◌++◌, map, codes, ◌<◌, ◌^◌}
use Rattle.std.specs.Str.Parse.{IsNumeral, digits_value}
use Rattle.ti_parm.specs.Value.{Value, Number, Text}
use denote.Ref.{Bor}

-- one or more decimal digits, with a value of at most 2147483647
abbrev pub IsNumberWord : List ℕ → Type 0
IsNumberWord word = IsNumeral 10 word × (digits_value 10 word < 2 ^ 31)

-- the word gives this number
pub record GivesNumber (word : List ℕ) (n : ℕ) : Type 0 where
  pub is_number : IsNumberWord word
  pub value : n ≡ digits_value 10 word

-- the word of a parameter gives this value: a number, or the text after `s:`
abbrev pub GivesParam : List ℕ → Value → Type 0
GivesParam word (Number n) = IsNumberWord word × (n ≡ pos (digits_value 10 word))
GivesParam word (Text text) = word ≡ codes "s:" ++ text

-- each word gives the value at its place
abbrev pub GiveParams : List (List ℕ) → List Value → Type 0
GiveParams [] [] = Unit {0}
GiveParams (word ∷ words) (value ∷ values) = GivesParam word value × GiveParams words values
GiveParams _ _ = ⊥

-- the texts of borrowed words
abbrev pub texts_of : List (Bor (List ℕ)) → List (List ℕ)
texts_of words = map (λ word. word.now) words
