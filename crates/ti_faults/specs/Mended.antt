-- An entry with everything at fault mended at once.
use Rattle.std.specs.Prelude.{ℕ, ◌+◌, ◌≡◌, ◌≢◌, ◌<◌, ◌&&◌, not, if◌then◌else◌, Bool, true, false, List, [], ◌∷◌, Option}
use Rattle.std.specs.Prelude.{Some, None}
use Rattle.std.specs.List.{list_all}
use Rattle.ti_caps.specs.Entry.{Content, with_value}
use Rattle.ti_caps.specs.declared.value.Value.TheVariants.{String}
use Rattle.ti_rows.specs.declared.rows.Row.{Row}
use Rattle.ti_rows.specs.declared.rows.Row.TheVariants.{Enacs, Sgr0, Smacs, Rmacs}
use Rattle.ti_rows.specs.Names.{cap_of}
use Rattle.ti_conforms.specs.Entries.{acsc}
use Rattle.ti_checker.specs.Kept.{names}
use Rattle.ti_checker.specs.declared.causes.No.{No}
use Rattle.ti_faults.specs.AllFaults.{AreAllFaults}
use Rattle.ti_faults.specs.Candidates.{as_one, choice_of, singles, stand_in}
use Rattle.ti_faults.specs.declared.candidates.Choice.{Choice}
use Rattle.ti_faults.specs.declared.mended.Mended.{Mended}

-- the entry with this string of the row's capability in place of its own
abbrev pub with_string : Content → Row → List ℕ → Content
with_string entry row string = with_value entry (cap_of row) (Some (String string))

abbrev pub without_pairs : Content → Content
without_pairs entry = with_value entry acsc (Some (String []))

-- the row's capability gets this string, or is removed if there is none
abbrev pub put_string : Content → Row → Option (List ℕ) → Content
put_string before row None = with_value before (cap_of row) None
put_string before row (Some string) = with_string before row string

-- A checked capability gets the string with which it is mended, which depends on the entry's own strings.
abbrev pub MendsRow : Content → Content → Choice → Row → Content → Type 0
MendsRow own before choice row after = after ≡ put_string before row (stand_in own choice row)

-- `acsc` loses its pairs, and a capability that rules every certificate out is removed
pub data MendsOther (before : Content) (cap : ℕ) (after : Content) : Type 0 where
  Pairs : cap ≡ acsc → after ≡ without_pairs before → MendsOther before cap after
  Other : cap ≢ acsc → after ≡ with_value before cap None → MendsOther before cap after

pub data Mends (own : Content) (choice : Choice) (cap : ℕ) (before after : Content) : Type 0 where
  OfRow : (row : Row) → cap_of row ≡ cap → MendsRow own before choice row after → Mends own choice cap before after
  OfNone : ((row : Row) → cap_of row ≢ cap) → MendsOther before cap after → Mends own choice cap before after

-- each capability with one of these faults is mended, one after another
abbrev pub MendsAll : Content → Choice → List No → Content → Content → Type 0
MendsAll own choice [] before after = after ≡ before
MendsAll own choice (fault ∷ rest) before after =
    (between : Content) × Mends own choice fault.cap before between × MendsAll own choice rest between after

-- If the strings that switch sets are mended as one, each gets its string of that way, also one that isn't at fault.
abbrev pub or_kept : Content → Row → Option (List ℕ) → Content
or_kept before row None = before
or_kept before row (Some string) = with_string before row string

abbrev pub with_grouped : Choice → Row → Content → Content
with_grouped choice row before = or_kept before row (as_one choice.way row)

abbrev pub with_switching : Choice → Content → Content
with_switching choice before =
    with_grouped choice Rmacs (with_grouped choice Smacs (with_grouped choice Enacs before))

-- the entry with all of them mended, and all faults that it has then
pub record IsMended (entry : Content) (rows cols : ℕ) (nos : List No) (choice : Choice) (m : Mended) : Type 0 where
  pub chosen : m.choice ≡ choice
  pub single : Content
  pub mended : MendsAll entry choice nos entry single
  pub switching : m.entry ≡ with_switching choice single
  pub left : AreAllFaults m.entry rows cols m.left.items

-- neither `smacs` nor `rmacs` is at fault, by itself or by what all strings do together
abbrev pub switches_sets : List No → Bool
switches_sets left = not (names left (cap_of Smacs)) && not (names left (cap_of Rmacs))

-- how many choices there are: only the first if neither is at fault, else all
abbrev pub choices : Content → List No → ℕ
choices entry nos = if switches_sets nos then 1 else singles entry + 2

-- `smacs` or `rmacs` is at fault in the entry mended by the choice of this number
pub record FailsToSwitch (entry : Content) (rows cols : ℕ) (nos : List No) (second : Bool) (number : ℕ) : Type 0 where
  pub tried : Mended
  pub mended : IsMended entry rows cols nos (choice_of entry second number) tried
  pub fails : switches_sets tried.left.items ≡ false

-- mended by the first of the choices with which neither is at fault, or else by the first; all of them with the second
-- candidate for `sgr0`, or with its first
pub data IsBestBy (entry : Content) (rows cols : ℕ) (nos : List No) (second : Bool) (m : Mended) : Type 0 where
  Switching : (number : ℕ) → number < choices entry nos → IsMended entry rows cols nos (choice_of entry second number) m
      → switches_sets m.left.items ≡ true
      → ((earlier : ℕ) → earlier < number → FailsToSwitch entry rows cols nos second earlier)
      → IsBestBy entry rows cols nos second m
  First : IsMended entry rows cols nos (choice_of entry second 0) m
      → ((number : ℕ) → number < choices entry nos → FailsToSwitch entry rows cols nos second number)
      → IsBestBy entry rows cols nos second m

-- each fault that is left is about a capability that had one before
abbrev pub adds_none : List No → List No → Bool
adds_none nos left = list_all (λ no. names nos no.cap) left

-- `sgr0` is mended, and something else is at fault then that wasn't before
abbrev pub needs_other : List No → List No → Bool
needs_other nos left = names nos (cap_of Sgr0) && not (adds_none nos left)

-- Mended with the first candidate for `sgr0`; if that puts something else at fault, with its second one, unless that
-- does so too.
pub data IsBestMended (entry : Content) (rows cols : ℕ) (nos : List No) (m : Mended) : Type 0 where
  Suits : IsBestBy entry rows cols nos false m → needs_other nos m.left.items ≡ false
      → IsBestMended entry rows cols nos m
  Second : (first : Mended) → IsBestBy entry rows cols nos false first → needs_other nos first.left.items ≡ true
      → IsBestBy entry rows cols nos true m → adds_none nos m.left.items ≡ true → IsBestMended entry rows cols nos m
  Neither : IsBestBy entry rows cols nos false m → needs_other nos m.left.items ≡ true → (other : Mended)
      → IsBestBy entry rows cols nos true other → adds_none nos other.left.items ≡ false
      → IsBestMended entry rows cols nos m
