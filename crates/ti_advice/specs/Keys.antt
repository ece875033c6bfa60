-- Keys that send one string, so that programs can't tell them apart.
use Rattle.std.specs.Prelude.{◌≡◌, ◌&&◌, ℕ, nat_eq, nat_lt, Bool, false, List, [], ◌∷◌, ◌++◌, Option, Some, None}
use Rattle.std.specs.Prelude.{codes, option_and_then, slice_get}
use Rattle.std.specs.List.{position}
use Rattle.std.specs.Cmp.Lexicographic.{pointwise}
use Rattle.ti_caps.specs.Entry.{Content}
use Rattle.ti_caps.specs.Table.{place_in}
use Rattle.ti_advice.specs.Parts.{HasParts, IsAtMost}
use Rattle.ti_advice.specs.Strings.{string_named}
use Rattle.ti_advice.specs.declared.advice.Advice.{Advice}
use Rattle.ti_advice.specs.declared.advice.AdviceKind.TheVariants as kinds
use Rattle.ti_advice.specs.declared.keys.Key.{Key}
use Rattle.ti_advice.specs.declared.keys.Key.TheVariants.{Up, Down, Left, Right}
use Rattle.ti_advice.specs.declared.keys.Key.TheVariants.{F1, F2, F3, F4, F5, F6, F7, F8, F9, F10, F11, F12}

-- the groups within which strings must differ
abbrev pub arrows : List Key
arrows = Up ∷ Down ∷ Left ∷ Right ∷ []

abbrev pub functions : List Key
functions = F1 ∷ F2 ∷ F3 ∷ F4 ∷ F5 ∷ F6 ∷ F7 ∷ F8 ∷ F9 ∷ F10 ∷ F11 ∷ F12 ∷ []

abbrev pub number : Key → ℕ
number Up = 0
number Down = 1
number Left = 2
number Right = 3
number F1 = 4
number F2 = 5
number F3 = 6
number F4 = 7
number F5 = 8
number F6 = 9
number F7 = 10
number F8 = 11
number F9 = 12
number F10 = 13
number F11 = 14
number F12 = 15

abbrev pub name : Key → List ℕ
name Up = codes "kcuu1"
name Down = codes "kcud1"
name Left = codes "kcub1"
name Right = codes "kcuf1"
name F1 = codes "kf1"
name F2 = codes "kf2"
name F3 = codes "kf3"
name F4 = codes "kf4"
name F5 = codes "kf5"
name F6 = codes "kf6"
name F7 = codes "kf7"
name F8 = codes "kf8"
name F9 = codes "kf9"
name F10 = codes "kf10"
name F11 = codes "kf11"
name F12 = codes "kf12"

abbrev pub are_one : Option (List ℕ) → Option (List ℕ) → Bool
are_one None other = false
are_one (Some own) None = false
are_one (Some own) (Some string) = pointwise nat_eq own string

abbrev pub is_twin : Content → Key → Key → Bool
is_twin entry key other = are_one (string_named entry (name key)) (string_named entry (name other))

abbrev pub is_earlier_twin : Content → Key → Key → Bool
is_earlier_twin entry key other = nat_lt (number other) (number key) && is_twin entry key other

-- the first key of a group that comes before this one and sends the same string
abbrev pub twin_of : Content → List Key → Key → Option Key
twin_of entry group key = option_and_then (slice_get group) (position (is_earlier_twin entry key) group)

pub record IsOn (key other : Key) (advice : Advice) : Type 0 where
  pub cap : place_in (name key) ≡ Some advice.cap
  pub kind : advice.kind ≡ kinds.Key other
  pub run : advice.run ≡ None

abbrev pub IsAdviceOf : Key → Key → Option Advice → Type 0
IsAdviceOf key other None = place_in (name key) ≡ None
IsAdviceOf key other (Some advice) = IsOn key other advice

abbrev pub IsTwinAdvice : Key → Option Key → Option Advice → Type 0
IsTwinAdvice key None found = found ≡ None
IsTwinAdvice key (Some other) found = IsAdviceOf key other found

abbrev pub IsKeyAdvice : Content → List Key → Key → Option Advice → Type 0
IsKeyAdvice entry group key found = IsTwinAdvice key (twin_of entry group key) found

abbrev pub AreOfGroup : Content → List Key → List Advice → Type 0
AreOfGroup entry group list = HasParts (IsAtMost (IsKeyAdvice entry group)) group list

pub record AreKeys (entry : Content) (list : List Advice) : Type 0 where
  pub of_arrows : List Advice
  pub of_functions : List Advice
  pub whole : list ≡ of_arrows ++ of_functions
  pub arrows_are : AreOfGroup entry arrows of_arrows
  pub functions_are : AreOfGroup entry functions of_functions
