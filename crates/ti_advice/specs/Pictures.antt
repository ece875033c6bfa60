-- Letters of the VT100's set (VT100 user guide, "Special graphics characters") that `acsc` gives the picture of another
-- one (terminfo(5), "Line Graphics"). T has that set, so that there each letter has its own picture.
use Rattle.std.specs.Prelude.{◌≡◌, ◌<◌, ◌==◌, ◌&&◌, ℕ, nat_le, not, Bool, true, false, List, []}
use Rattle.std.specs.Prelude.{Option, Some, None, codes}
use Rattle.ti_caps.specs.Entry.{Content}
use Rattle.ti_caps.specs.Table.{place_in}
use Rattle.ti_conforms.specs.Alternates.{partner_of}
use Rattle.ti_advice.specs.Parts.{optional}
use Rattle.ti_advice.specs.Strings.{has_string, string_named}
use Rattle.ti_advice.specs.declared.advice.Advice.{Advice}
use Rattle.ti_advice.specs.declared.advice.AdviceKind.TheVariants.{Picture}

abbrev pub differs : Option ℕ → ℕ → Bool
differs None letter = false
differs (Some own) letter = not (own == letter)

-- the letter is of the VT100's set, which begins with the backquote, and is listed with another character
abbrev pub is_other : List ℕ → ℕ → Bool
is_other acsc letter = nat_le 96 letter && differs (partner_of acsc letter) letter

-- no letter below this one
abbrev pub NoneBelow : List ℕ → ℕ → Type 0
NoneBelow acsc end = (letter : ℕ) → letter < end → is_other acsc letter ≡ false

-- the first such letter; the last one of the set is the tilde
pub record IsFirstOther (acsc : List ℕ) (letter : ℕ) : Type 0 where
  pub within : letter < 127
  pub other : is_other acsc letter ≡ true
  pub first : NoneBelow acsc letter

pub record IsOn (letter : ℕ) (advice : Advice) : Type 0 where
  pub cap : place_in (codes "acsc") ≡ Some advice.cap
  pub kind : advice.kind ≡ Picture letter
  pub run : advice.run ≡ None

abbrev pub IsAdviceOf : ℕ → Option Advice → Type 0
IsAdviceOf letter None = place_in (codes "acsc") ≡ None
IsAdviceOf letter (Some advice) = IsOn letter advice

pub data IsPairsAdvice (acsc : List ℕ) (found : Option Advice) : Type 0 where
  Right : NoneBelow acsc 127 → found ≡ None → IsPairsAdvice acsc found
  Wrong : (letter : ℕ) → IsFirstOther acsc letter → IsAdviceOf letter found → IsPairsAdvice acsc found

abbrev pub IsAcscAdvice : Option (List ℕ) → Option Advice → Type 0
IsAcscAdvice None found = found ≡ None
IsAcscAdvice (Some acsc) found = IsPairsAdvice acsc found

abbrev pub switches : Content → Bool
switches entry = has_string entry (codes "smacs") && has_string entry (codes "rmacs")

pub record IsPicture (entry : Content) (list : List Advice) : Type 0 where
  pub found : Option Advice
  pub whole : list ≡ optional found
  pub judged : IsAcscAdvice (string_named entry (codes "acsc")) found

-- without `smacs` and `rmacs` no letter is drawn
abbrev pub ArePicturesWhere : Bool → Content → List Advice → Type 0
ArePicturesWhere true entry list = IsPicture entry list
ArePicturesWhere false entry list = list ≡ []

abbrev pub ArePictures : Content → List Advice → Type 0
ArePictures entry list = ArePicturesWhere (switches entry) entry list
