-- The sets that `sgr` makes active (terminfo(5), "Highlighting": its ninth parameter is for the alternate set).
use Rattle.std.specs.Prelude.{◌≡◌, ℕ, pos, Bool, true, false, ◌&&◌, if◌then◌else◌, List, [], ◌∷◌, ◌++◌}
use Rattle.std.specs.Prelude.{Option, Some, None, option_map, codes}
use Rattle.ti_caps.specs.Entry.{Content}
use Rattle.ti_caps.specs.Table.{place_in}
use Rattle.ti_parm.specs.Value.{Value, Number}
use Rattle.ti_parm.specs.declared.param.Param.{Param}
use Rattle.ti_parm.specs.declared.param.Param.TheVariants as params
use Rattle.ti_advice.specs.Parts.{optional}
use Rattle.ti_advice.specs.Runs.{DoAlike, DoUnlike}
use Rattle.ti_advice.specs.Strings.{IsOwn, has_string, or_none}
use Rattle.ti_advice.specs.declared.advice.Advice.{Advice}
use Rattle.ti_advice.specs.declared.advice.AdviceKind.TheVariants.{Set}
use Rattle.ti_advice.specs.declared.sets.SetUse.{SetUse}
use Rattle.ti_advice.specs.declared.sets.SetUse.TheVariants.{Lines, Text}

-- ---- what is sent

abbrev pub number_param : Bool → Param
number_param on = if on then params.Number (pos 1) else params.Number (pos 0)

abbrev pub value : Bool → Value
value on = Number (pos (if on then 1 else 0))

-- standout, underline, reverse, blink, dim, bold and invisible, all or none; not protected; lines or text
abbrev pub asked : Bool → Bool → List Value
asked marked lines =
    value marked ∷ value marked ∷ value marked ∷ value marked ∷ value marked ∷ value marked ∷ value marked ∷ value false
    ∷ value lines ∷ []

abbrev pub IsOwnOrNone : Content → List ℕ → List ℕ → Type 0
IsOwnOrNone entry name bytes = (found : Option (List ℕ)) × IsOwn entry name [] found × (bytes ≡ or_none found)

-- a character shows the active set, and both sets become plain then
abbrev pub run : List ℕ → List ℕ → List ℕ → List ℕ
run first second third = ((first ++ second) ++ third) ++ (codes "q" ++ 27 ∷ codes "(B" ++ 27 ∷ codes ")B" ++ 15 ∷ [])

abbrev pub is_lines : SetUse → Bool
is_lines Lines = true
is_lines Text = false

-- the string that makes the set active which is wanted
abbrev pub switch_name : SetUse → List ℕ
switch_name Lines = codes "smacs"
switch_name Text = codes "rmacs"

-- before text, the set of lines is active
abbrev pub IsLeadOf : Content → SetUse → List ℕ → List ℕ → Type 0
IsLeadOf entry Lines enabled bytes = bytes ≡ enabled
IsLeadOf entry Text enabled bytes =
    (switch : List ℕ) × IsOwnOrNone entry (codes "smacs") switch × (bytes ≡ enabled ++ switch)

pub record IsLead (entry : Content) (set_use : SetUse) (bytes : List ℕ) : Type 0 where
  pub enabled : List ℕ
  pub enables : IsOwnOrNone entry (codes "enacs") enabled
  pub is : IsLeadOf entry set_use enabled bytes

-- what `sgr` sends for this use does what it sends without the ninth parameter, and then the entry's own switch
pub record Switches (entry : Content) (set_use : SetUse) (own plain : List ℕ) : Type 0 where
  pub lead : List ℕ
  pub leads : IsLead entry set_use lead
  pub switch : List ℕ
  pub switch_is : IsOwnOrNone entry (switch_name set_use) switch
  pub alike : DoAlike (run lead own []) (run lead plain switch)

pub record SwitchesElse (entry : Content) (set_use : SetUse) (own plain : List ℕ) : Type 0 where
  pub lead : List ℕ
  pub leads : IsLead entry set_use lead
  pub switch : List ℕ
  pub switch_is : IsOwnOrNone entry (switch_name set_use) switch
  pub unlike : DoUnlike (run lead own []) (run lead plain switch)

-- ---- the advice

pub record IsOn (set_use : SetUse) (own : List ℕ) (advice : Advice) : Type 0 where
  pub cap : place_in (codes "sgr") ≡ Some advice.cap
  pub kind : advice.kind ≡ Set set_use
  pub shows : option_map (λ bytes. bytes.items) advice.run ≡ Some own

abbrev pub IsAdviceOf : SetUse → List ℕ → Option Advice → Type 0
IsAdviceOf set_use own None = place_in (codes "sgr") ≡ None
IsAdviceOf set_use own (Some advice) = IsOn set_use own advice

pub data IsJudged (entry : Content) (set_use : SetUse) (own plain : List ℕ) (found : Option Advice) : Type 0 where
  Right : Switches entry set_use own plain → found ≡ None → IsJudged entry set_use own plain found
  Wrong : SwitchesElse entry set_use own plain → IsAdviceOf set_use own found → IsJudged entry set_use own plain found

-- where `sgr` can't be expanded, this isn't asked
abbrev pub IsJudgedIf : Content → SetUse → Option (List ℕ) → Option (List ℕ) → Option Advice → Type 0
IsJudgedIf entry set_use None plain found = found ≡ None
IsJudgedIf entry set_use (Some own) None found = found ≡ None
IsJudgedIf entry set_use (Some own) (Some plain) found = IsJudged entry set_use own plain found

pub record IsSentAdvice (entry : Content) (set_use : SetUse) (marked : Bool) (found : Option Advice) : Type 0 where
  pub own : Option (List ℕ)
  pub sends : IsOwn entry (codes "sgr") (asked marked (is_lines set_use)) own
  pub plain : Option (List ℕ)
  pub sends_plain : IsOwn entry (codes "sgr") (asked marked false) plain
  pub judged : IsJudgedIf entry set_use own plain found

-- with no attribute, or else with all of them
pub data IsUseAdvice (entry : Content) (set_use : SetUse) (found : Option Advice) : Type 0 where
  OfPlain : (advice : Advice) → found ≡ Some advice → IsSentAdvice entry set_use false found
      → IsUseAdvice entry set_use found
  OfMarked : IsSentAdvice entry set_use false None → IsSentAdvice entry set_use true found
      → IsUseAdvice entry set_use found

pub record AreOfBoth (entry : Content) (list : List Advice) : Type 0 where
  pub lines : Option Advice
  pub text : Option Advice
  pub whole : list ≡ optional lines ++ optional text
  pub of_lines : IsUseAdvice entry Lines lines
  pub of_text : IsUseAdvice entry Text text

-- the entry has all strings by which programs draw lines with attributes
abbrev pub draws : Content → Bool
draws entry = ((has_string entry (codes "sgr") && has_string entry (codes "acsc")) && has_string entry (codes "smacs"))
    && has_string entry (codes "rmacs")

abbrev pub AreSetsWhere : Bool → Content → List Advice → Type 0
AreSetsWhere true entry list = AreOfBoth entry list
AreSetsWhere false entry list = list ≡ []

abbrev pub AreSets : Content → List Advice → Type 0
AreSets entry list = AreSetsWhere (draws entry) entry list
