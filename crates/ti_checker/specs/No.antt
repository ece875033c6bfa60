-- When a refusal is true.
use Rattle.std.specs.Prelude.{ℕ, ◌≡◌, true, false, is_some, List, [], Some, None, Err}
use Rattle.ti_caps.specs.Entry.{Content, string_at}
use Rattle.ti_parm.specs.Meaning.{meaning}
use Rattle.ti_parm.specs.Value.{zeros}
use Rattle.vt_term.specs.Text.{IsStuck, IsUnfinished, Splits}
use Rattle.vt_term.specs.declared.tokenizer.TokenFaultKind.{TokenFaultKind}
use Rattle.vt_term.specs.declared.tokenizer.TokenFaultKind.TheVariants as kinds
use Rattle.vt_effects.specs.declared.effects.Effect.{Effect}
use Rattle.vt_effects.specs.Record.{record_of}
use Rattle.ti_rows.specs.Asked.{start_of}
use Rattle.ti_rows.specs.declared.rows.Looks.{Looks}
use Rattle.ti_rows.specs.declared.rows.Row.{Row}
use Rattle.ti_rows.specs.declared.rows.Row.TheVariants.{Clear, Smacs, Rmacs}
use Rattle.ti_rows.specs.Names.{cap_of}
use Rattle.ti_rows.specs.Params.{params}
use Rattle.ti_rows.specs.Starts.{IsFree}
use Rattle.ti_rows.specs.Lists.{IsInRange}
use Rattle.ti_conforms.specs.Sends.{Sends, ReadsStatic, values}
use Rattle.ti_conforms.specs.Entries.{acsc, is_checked, string_of}
use Rattle.ti_conforms.specs.Conforms.{IsFit}
use Rattle.ti_checker.specs.declared.probes.Probe.{Probe}
use Rattle.ti_checker.specs.Breakage.{Breaks, IsShown}
use Rattle.ti_conforms.specs.Unfit.{IsUnfit, cap_of_unfit}
use Rattle.ti_conforms.specs.declared.fitness.Unfit.{Unfit}
use Rattle.ti_conforms.specs.declared.fitness.Unfit.TheVariants as unfit
use Rattle.ti_cert.specs.Clashes.{IsClash, GoesTogether}
use Rattle.ti_cert.specs.Order.{Precedes}
use Rattle.ti_cert.specs.declared.clashes.Clash.{Clash}
use Rattle.ti_cert.specs.declared.clashes.Clash.TheVariants as clashes
use Rattle.ti_checker.specs.declared.causes.Cause.{Cause}
use Rattle.ti_checker.specs.declared.causes.Cause.TheVariants.{FlagOut, Absent, AcsByte, Parm, StaticRead, Unfinished}
use Rattle.ti_checker.specs.declared.causes.Cause.TheVariants.{Stuck, NotTame, BadLook, WrongEffect, NotShown, TooLong}
use Rattle.ti_checker.specs.declared.causes.Cause.TheVariants.{NoResync, NoMemory}
use Rattle.ti_checker.specs.declared.causes.No.{No}
use Rattle.ti_checker.specs.First.{RowStands, EachWritten}
use Rattle.ti_checker.specs.Limit.{Overflows, PassesLimit, StaysWithin}
use Rattle.ti_checker.specs.Mislooks.{Mislooks, looks_other}
use Rattle.ti_checker.specs.Probes.{screen_of}
use Rattle.ti_checker.specs.Strays.{IsAlwaysWanted, IsRecorded}
use Rattle.ti_checker.specs.Switches.{OfSent, OfAllSent, RunsWrong}
use Rattle.ti_checker.specs.Taught.{IsAskedOf, IsTaught}

-- ---- the fault of a string for a row

-- the string sends bytes for the row, and `Holds` holds of them
pub record SendsSome (string : List ℕ) (row : Row) (Holds : List ℕ → Type 0) : Type 0 where
  pub bytes : List ℕ
  pub sends : Sends string row bytes
  pub holds : Holds bytes

-- the bytes are whole control functions, and have no effect record from the row's starts
pub record IsUntamed (rows cols : ℕ) (row : Row) (bytes : List ℕ) : Type 0 where
  pub tokens : List (List ℕ)
  pub whole : Splits bytes tokens []
  pub unrecorded : record_of rows cols (start_of rows cols row) tokens ≡ None

-- the bytes are whole control functions and have an effect record from the row's starts, and no attribute alone shows a
-- mark that isn't its own
pub record HasOwnEffect (rows cols : ℕ) (row : Row) (bytes : List ℕ) : Type 0 where
  pub tokens : List (List ℕ)
  pub whole : Splits bytes tokens []
  pub effect : Effect
  pub recorded : record_of rows cols (start_of rows cols row) tokens ≡ Some effect
  pub own : Mislooks rows cols row bytes → ⊥

-- The effect isn't the one that is asked for with the looks that the string's rows before this one teach. But there are
-- looks, which agree with those, with which its end from each start of the row is wanted.
pub record IsUnasked (rows cols : ℕ) (string : List ℕ) (row : Row) (e : Effect) : Type 0 where
  pub looks : Looks
  pub taught : IsTaught rows cols string row looks
  pub unasked : IsAskedOf looks row e → ⊥
  pub wanted : IsAlwaysWanted rows cols looks row e

-- the bytes have an effect record for which `IsUnasked` holds
pub record HasUnasked (rows cols : ℕ) (string : List ℕ) (row : Row) (bytes : List ℕ) : Type 0 where
  pub has : HasOwnEffect rows cols row bytes
  pub unasked : IsUnasked rows cols string row has.effect

-- the bytes have an effect record, and from the probe, a start of the row, they run to an end that isn't wanted
pub record HasWrong (rows cols : ℕ) (string : List ℕ) (row : Row) (bytes : List ℕ) (p : Probe) : Type 0 where
  pub has : HasOwnEffect rows cols row bytes
  pub breaks : Breaks rows cols string row bytes p

-- The fault of a string for a row, by its cause. The string's run fails, or reads a static variable before it sets it;
-- the bytes that it sends end within a sequence, or have a byte that fits nothing; they have no effect record; an
-- attribute alone shows a mark that isn't its own; from a start of the row they run to an end that isn't wanted; or
-- their effect isn't the one that is asked for, though its end from each start is wanted. Each of these excludes those
-- before it. With `NotTame` and `NotShown` the string may still be right, and `NoMemory` claims nothing.
abbrev pub IsFaulty : ℕ → ℕ → List ℕ → Row → Cause → Type 0
IsFaulty rows cols string row (Parm fault) = meaning string (values row) zeros ≡ Err fault
IsFaulty rows cols string row StaticRead = ReadsStatic string row
IsFaulty rows cols string row Unfinished = SendsSome string row (λ bytes. (at : ℕ) × IsUnfinished bytes at)
IsFaulty rows cols string row Stuck = SendsSome string row (λ bytes. (at : ℕ) × IsStuck bytes at)
IsFaulty rows cols string row NotTame = SendsSome string row (λ bytes. IsUntamed rows cols row bytes)
IsFaulty rows cols string row BadLook = SendsSome string row (λ bytes. Mislooks rows cols row bytes)
IsFaulty rows cols string row (WrongEffect p) = SendsSome string row (λ bytes. HasWrong rows cols string row bytes p)
IsFaulty rows cols string row NotShown = SendsSome string row (λ bytes. HasUnasked rows cols string row bytes)
IsFaulty rows cols string row NoMemory = Unit {0}
IsFaulty rows cols string row _ = ⊥

-- ---- (Serves the code alone.) The fault by the step that finds it: sending, cutting into tokens, and judging the
-- effect.

abbrev pub IsUnsendable : List ℕ → Row → Cause → Type 0
IsUnsendable string row (Parm fault) = meaning string (values row) zeros ≡ Err fault
IsUnsendable string row StaticRead = ReadsStatic string row
IsUnsendable string row NoMemory = Unit {0}
IsUnsendable string row _ = ⊥

abbrev pub cause_of : TokenFaultKind → Cause
cause_of kinds.Unfinished = Unfinished
cause_of kinds.Stuck = Stuck
cause_of kinds.NoMemory = NoMemory

abbrev pub IsNotWhole : List ℕ → Cause → Type 0
IsNotWhole bytes Unfinished = (at : ℕ) × IsUnfinished bytes at
IsNotWhole bytes Stuck = (at : ℕ) × IsStuck bytes at
IsNotWhole bytes NoMemory = Unit {0}
IsNotWhole bytes _ = ⊥

abbrev pub IsMisfit : ℕ → ℕ → Looks → Row → Effect → Cause → Type 0
IsMisfit rows cols looks row e BadLook = looks_other row e ≡ true
IsMisfit rows cols looks row e (WrongEffect p) = (looks_other row e ≡ false) × IsShown rows cols looks row e p
IsMisfit rows cols looks row e NotShown =
    (looks_other row e ≡ false) × (IsAskedOf looks row e → ⊥)
    × (IsRecorded rows cols row e → IsAlwaysWanted rows cols looks row e)
IsMisfit rows cols looks row e _ = ⊥

pub record Misfits (rows cols : ℕ) (looks : Looks) (row : Row) (tokens : List (List ℕ)) (cause : Cause) : Type 0 where
  pub effect : Effect
  pub recorded : record_of rows cols (start_of rows cols row) tokens ≡ Some effect
  pub misfit : IsMisfit rows cols looks row effect cause

abbrev pub IsMisjudged : ℕ → ℕ → Looks → Row → List (List ℕ) → Cause → Type 0
IsMisjudged rows cols looks row tokens NotTame = record_of rows cols (start_of rows cols row) tokens ≡ None
IsMisjudged rows cols looks row tokens cause = Misfits rows cols looks row tokens cause

-- ---- the fault of an entry's string

-- the refusal names a checked row of the size, and the entry's string has that fault for it
pub record HasFaulty (entry : Content) (rows cols : ℕ) (refusal : No) : Type 0 where
  pub row : Row
  pub cap_is : refusal.cap ≡ cap_of row
  pub params_are : refusal.params.items ≡ params row
  pub range : IsInRange rows cols row
  pub checked : is_checked entry row ≡ true
  pub string : List ℕ
  pub there : string_of entry row ≡ Some string
  pub faulty : IsFaulty rows cols string row refusal.cause

-- ---- a refusal of `check`, by cases

-- the refusal names the capability, without parameters, and the cause
pub record IsAbout (refusal : No) (cap : ℕ) (cause : Cause) : Type 0 where
  pub cap_is : refusal.cap ≡ cap
  pub no_params : refusal.params.items ≡ []
  pub cause_is : refusal.cause ≡ cause

abbrev pub cause_of_unfit : Unfit → Cause
cause_of_unfit (unfit.FlagOut cap) = FlagOut
cause_of_unfit (unfit.Absent row) = Absent
cause_of_unfit unfit.AcsByte = AcsByte

-- The entry is at fault, whatever its strings send, and the refusal names the first reason: the first of `xmc`, `hc`,
-- `gn` and `os` that it has; then the first of `clear`, `cup` and `sgr0` that it lacks; then `acsc`.
pub record IsOfEntry (entry : Content) (refusal : No) : Type 0 where
  pub why : Unfit
  pub first : IsUnfit entry why
  pub about : IsAbout refusal (cap_of_unfit why) (cause_of_unfit why)

-- the entry's string has this fault for the row
pub record HasFaultyString (entry : Content) (rows cols : ℕ) (row : Row) (cause : Cause) : Type 0 where
  pub string : List ℕ
  pub there : string_of entry row ≡ Some string
  pub faulty : IsFaulty rows cols string row cause

-- the fault of a row: with `TooLong`, the lines up to the row's, with `end`, are longer than a certificate may be; with
-- any other cause, its string has that fault
abbrev pub IsRowFault : Content → ℕ → ℕ → Row → Cause → Type 0
IsRowFault entry rows cols row TooLong = PassesLimit entry rows cols row
IsRowFault entry rows cols row cause = HasFaultyString entry rows cols row cause

-- The refusal names a checked row that is at fault, the first one in the order of a certificate's lines: all rows
-- before it stand, and their lines are not too long.
pub record IsOfRow (entry : Content) (rows cols : ℕ) (refusal : No) : Type 0 where
  pub row : Row
  pub cap_is : refusal.cap ≡ cap_of row
  pub params_are : refusal.params.items ≡ params row
  pub range : IsInRange rows cols row
  pub checked : is_checked entry row ≡ true
  pub fault : IsRowFault entry rows cols row refusal.cause
  pub earlier : (other : Row) → IsInRange rows cols other → Precedes rows cols other row
      → RowStands entry rows cols other
  pub within : StaysWithin entry rows cols row

-- the clash is one of a table with exactly what the entry sends
abbrev pub HasClash : Content → ℕ → ℕ → Clash → Type 0
HasClash entry rows cols clash = OfSent entry rows cols (λ t. IsClash (is_some (string_at entry acsc)) t clash)

-- (Serves the code alone.) No table with exactly what the entry sends has a clash.
abbrev pub GoTogether : Content → ℕ → ℕ → Type 0
GoTogether entry rows cols = OfAllSent entry rows cols (λ t. GoesTogether (is_some (string_at entry acsc)) t)

-- The strings are at fault together, and the refusal names their first clash. About `smacs` or `rmacs`: the probe is a
-- start with a charset that strings can leave, and the run from it ends with the wrong set active. About `acsc`: the
-- graphic set can stay active although letters of line graphics can't be sent. About `clear`: the bytes that lead out
-- of an unknown state don't begin with ESC.
pub data IsOfAll (entry : Content) (rows cols : ℕ) (refusal : No) : Type 0 where
  AtSmacs : (p : Probe) → IsAbout refusal (cap_of Smacs) (WrongEffect p)
      → HasClash entry rows cols (clashes.Smacs p.charset) → OfSent entry rows cols (λ t. RunsWrong rows cols Smacs p t)
      → IsOfAll entry rows cols refusal
  AtRmacs : (p : Probe) → IsAbout refusal (cap_of Rmacs) (WrongEffect p)
      → HasClash entry rows cols (clashes.Rmacs p.charset) → OfSent entry rows cols (λ t. RunsWrong rows cols Rmacs p t)
      → IsOfAll entry rows cols refusal
  AtAcsc : IsAbout refusal acsc BadLook → HasClash entry rows cols clashes.Acsc → IsOfAll entry rows cols refusal
  AtClear : IsAbout refusal (cap_of Clear) NoResync → HasClash entry rows cols clashes.Clear
      → IsOfAll entry rows cols refusal

-- The entry as a whole is at fault; or it is fit, and a row is at fault; or it is fit, each row stands with all lines
-- short enough, and the strings are at fault together; or memory ran out, which claims nothing.
pub data IsNo (entry : Content) (rows cols : ℕ) (refusal : No) : Type 0 where
  OfEntry : IsOfEntry entry refusal → IsNo entry rows cols refusal
  OfRow : IsFit entry → IsOfRow entry rows cols refusal → IsNo entry rows cols refusal
  OfAll : IsFit entry → EachWritten entry rows cols → IsOfAll entry rows cols refusal → IsNo entry rows cols refusal
  OutOfMemory : refusal.cause ≡ NoMemory → IsNo entry rows cols refusal

-- (Serves the code alone.) The refusal is about a row; or memory ran out.
pub data IsOfPart (entry : Content) (rows cols : ℕ) (refusal : No) : Type 0 where
  PartRow : IsFit entry → IsOfRow entry rows cols refusal → IsOfPart entry rows cols refusal
  PartMemory : refusal.cause ≡ NoMemory → IsOfPart entry rows cols refusal

-- (Serves the code alone.) The fault of a row, by its string and the text before its line.
abbrev pub IsRowRefused : ℕ → ℕ → List ℕ → Row → List ℕ → Cause → Type 0
IsRowRefused rows cols string row text TooLong = Overflows rows cols string row text
IsRowRefused rows cols string row text cause = IsFaulty rows cols string row cause

-- the causes with which a string may be right
abbrev pub ClaimsNothing : Cause → Type 0
ClaimsNothing NotTame = Unit {0}
ClaimsNothing NotShown = Unit {0}
ClaimsNothing NoMemory = Unit {0}
ClaimsNothing _ = ⊥

-- (Serves the code alone.) The refusal that names a clash: for `smacs` and `rmacs` with a probe that has the charset
-- and is a free start (`IsFree`).
abbrev pub IsToldAs : ℕ → ℕ → No → Clash → Type 0
IsToldAs rows cols refusal (clashes.Smacs c) =
    (p : Probe) × IsAbout refusal (cap_of Smacs) (WrongEffect p) × (p.charset ≡ c)
    × IsFree rows cols (screen_of rows cols p)
IsToldAs rows cols refusal (clashes.Rmacs c) =
    (p : Probe) × IsAbout refusal (cap_of Rmacs) (WrongEffect p) × (p.charset ≡ c)
    × IsFree rows cols (screen_of rows cols p)
IsToldAs rows cols refusal clashes.Acsc = IsAbout refusal acsc BadLook
IsToldAs rows cols refusal clashes.Clear = IsAbout refusal (cap_of Clear) NoResync
