-- The strings that are advised for an entry: those that `check --all` suggests for its faults, as far as these count.
use Rattle.std.specs.Prelude.{ℕ, ◌≡◌, ◌==◌, ◌≤◌, nat_le, Bool, true, false, List, [], ◌∷◌, ◌++◌, Option, Some, None}
use Rattle.std.specs.Prelude.{IsTrue}
use Rattle.std.specs.Prelude.{◌&&◌, ◌||◌, if◌then◌else◌, length, map, not, slice_get}
use Rattle.std.specs.List.{flat_map}
use Rattle.ti_caps.specs.Entry.{Content, string_at}
use Rattle.ti_caps.specs.Fits.{string_fits}
use Rattle.ti_checker.specs.declared.causes.No.{No}
use Rattle.ti_conforms.specs.Entries.{acsc}
use Rattle.ti_faults.specs.AllFaults.{AreAllFaults}
use Rattle.ti_faults.specs.Mended.{IsBestMended}
use Rattle.ti_faults.specs.Remedies.{IsSuggestion, listed_with}
use Rattle.ti_faults.specs.declared.mended.Mended.{Mended}
use Rattle.ti_steps.specs.Parts.{AreParts}
use Rattle.ti_steps.specs.declared.advice.Advice.{Advice}
use Rattle.ti_steps.specs.declared.advice.Finding.{Finding}
use Rattle.ti_steps.specs.declared.advice.Weight.{Weight}
use Rattle.ti_steps.specs.declared.advice.Weight.TheVariants.{Certain, Shown, Doubtful, Lent}
use Rattle.ti_repairs.specs.Paddings.{padding_of}
use Rattle.ti_repairs.specs.Weights.{AreFindings}
use Rattle.ti_repairs.specs.declared.suggestions.Listed.{Listed}
use Rattle.ti_repairs.specs.declared.weights.Terms.{Terms}
use Rattle.ti_rows.specs.Names.{cap_of}
use Rattle.ti_rows.specs.declared.rows.Row.TheVariants as rows
use Rattle.ti_surveys.specs.Kinds.{listed_kind}
use Rattle.ti_surveys.specs.declared.kinds.EntryKind.{EntryKind}
use Rattle.ti_surveys.specs.declared.kinds.EntryKind.TheVariants.{Other, Part, Usual}

-- (Serves the code alone.) the string can be an entry's
abbrev pub Fits : Advice → Type 0
Fits advice = IsTrue (string_fits advice.string)

-- ---- which suggestions are listed

-- whether strings are suggested for a fault that counts so much
abbrev pub counts : Weight → Bool
counts Certain = true
counts Shown = true
counts Doubtful = false
counts Lent = false

abbrev pub listed_as : Finding → ℕ → Listed
listed_as fault cap = record { cap = cap; fault = fault }

abbrev pub with_fault : Finding → List ℕ → List Listed
with_fault fault caps = map (listed_as fault) caps

-- the capabilities whose suggestions are listed with a fault that counts
abbrev pub listed_for : List No → Finding → List Listed
listed_for nos fault = if counts fault.weight then with_fault fault (listed_with nos fault.cap) else []

abbrev pub all_listed : List No → List Finding → List Listed
all_listed nos findings = flat_map (listed_for nos) findings

-- ---- which of them may be made

-- a letter of the VT100's set for line graphics
abbrev pub is_letter : ℕ → Bool
is_letter byte = nat_le 95 byte && nat_le byte 126

-- each second byte, a letter's partner, is one of these
abbrev pub are_letters : List ℕ → Bool
are_letters [] = true
are_letters (letter ∷ []) = true
are_letters (letter ∷ partner ∷ rest) = is_letter partner && are_letters rest

abbrev pub are_letters_in : Option (List ℕ) → Bool
are_letters_in None = true
are_letters_in (Some pairs) = are_letters pairs

abbrev pub has_letters : Content → Bool
has_letters entry = are_letters_in (string_at entry acsc)

abbrev pub is_switching : ℕ → Bool
is_switching cap = cap == cap_of rows.Enacs || (cap == cap_of rows.Smacs || cap == cap_of rows.Rmacs)

-- strings that switch character sets are suggested only where `acsc` has letters of the VT100's set alone
abbrev pub may_suggest : Content → ℕ → Bool
may_suggest entry cap = not (is_switching cap) || has_letters entry

-- ---- the string

abbrev pub string_or_none : Option (List ℕ) → List ℕ
string_or_none None = []
string_or_none (Some string) = string

abbrev pub own_string : Content → ℕ → List ℕ
own_string entry cap = string_or_none (string_at entry cap)

-- the string with the padding of the old one behind it, unless that is too long
abbrev pub padded : List ℕ → List ℕ → List ℕ
padded old string = if string_fits (string ++ padding_of old) then string ++ padding_of old else string

-- the suggestion for a capability is the string, with the padding of the entry's own one
pub record IsSuggested (entry : Content) (mended : Mended) (listed : Listed) (advice : Advice) : Type 0 where
  pub cap : advice.cap ≡ listed.cap
  pub fault : advice.fault ≡ listed.fault
  pub own : List ℕ
  pub suggested : IsSuggestion entry mended listed.cap (Some own)
  pub string : advice.string ≡ padded (own_string entry listed.cap) own

-- the suggestion for a capability, if there is one and it may be made
abbrev pub MayAdvise : Bool → Content → Mended → Listed → Option Advice → Type 0
MayAdvise false entry mended listed found = found ≡ None
MayAdvise true entry mended listed None = IsSuggestion entry mended listed.cap None
MayAdvise true entry mended listed (Some advice) = IsSuggested entry mended listed advice

abbrev pub IsAdvice : Content → Mended → Listed → Option Advice → Type 0
IsAdvice entry mended listed found = MayAdvise (may_suggest entry listed.cap) entry mended listed found

abbrev pub optional : Option Advice → List Advice
optional None = []
optional (Some advice) = advice ∷ []

-- the suggestion for a capability, as a list
pub record IsAdvised (entry : Content) (mended : Mended) (listed : Listed) (own : List Advice) : Type 0 where
  pub found : Option Advice
  pub advice : IsAdvice entry mended listed found
  pub is : own ≡ optional found

abbrev pub IsAdvisedAt : Content → Mended → List Listed → ℕ → List Advice → Type 0
IsAdvisedAt entry mended all n own =
    (listed : Listed) → slice_get all n ≡ Some listed → IsAdvised entry mended listed own

-- the suggestions for what is listed, in its order
abbrev pub AreAdvices : Content → Mended → List Listed → List Advice → Type 0
AreAdvices entry mended all advices = AreParts (IsAdvisedAt entry mended all) (length all) advices

abbrev pub is_other_kind : EntryKind → Bool
is_other_kind Other = true
is_other_kind Part = false
is_other_kind Usual = false

abbrev pub is_other : Content → List No → Bool
is_other entry nos = is_other_kind (listed_kind entry nos)

-- The suggestions that `check --all` lists for the faults of an entry that count. There is none for an entry for a
-- terminal of another kind.
pub data Advises (terms : Terms) (entry : Content) (advices : List Advice) : Type 0 where
  OtherKind : (nos : List No) → AreAllFaults entry terms.size.rows terms.size.cols nos → is_other entry nos ≡ true
      → advices ≡ [] → Advises terms entry advices
  NoneListed : (nos : List No) → AreAllFaults entry terms.size.rows terms.size.cols nos → (findings : List Finding)
      → AreFindings terms entry nos findings → all_listed nos findings ≡ [] → advices ≡ []
      → Advises terms entry advices
  Each : (nos : List No) → AreAllFaults entry terms.size.rows terms.size.cols nos → is_other entry nos ≡ false
      → (findings : List Finding) → AreFindings terms entry nos findings → (mended : Mended)
      → IsBestMended entry terms.size.rows terms.size.cols nos mended
      → AreAdvices entry mended (all_listed nos findings) advices → Advises terms entry advices
