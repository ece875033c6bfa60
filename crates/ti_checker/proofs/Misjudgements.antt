-- A misjudged effect is a fault of the string.
use Rattle.std.proofs.Common.{◌≡◌, ℕ, List, [], Option, Some, false, sym, subst, ◌∙◌}
use Rattle.vt_term.specs.Size.{IsSize}
use Rattle.vt_term.specs.Text.{Splits}
use Rattle.vt_effects.specs.Record.{record_of, IsRecordOf}
use Rattle.vt_effects.specs.declared.effects.Effect.{Effect}
use Rattle.ti_rows.specs.Asked.{start_of}
use Rattle.ti_rows.specs.Lists.{IsInRange, Follows}
use Rattle.ti_rows.specs.Looks.{learned}
use Rattle.ti_rows.specs.declared.rows.Looks.{Looks}
use Rattle.ti_rows.specs.declared.rows.Row.{Row}
use Rattle.ti_rows.proofs.Rightness.{recorded_is_right}
use Rattle.ti_conforms.specs.Sends.{Sends}
use Rattle.ti_checker.proofs.Displays.{shown_breaks}
use Rattle.ti_checker.proofs.Mislooked.{mislooks, not_mislooks}
use Rattle.ti_checker.specs.First.{SendsAsked}
use Rattle.ti_checker.specs.Limit.{IsLineFor}
use Rattle.ti_checker.specs.Mislooks.{looks_other}
use Rattle.ti_checker.specs.No.{HasOwnEffect, IsFaulty, IsMisfit, IsMisjudged, IsNotWhole, IsRowRefused}
use Rattle.ti_checker.specs.Taught.{IsAskedOf, IsTaught, After}
use Rattle.ti_checker.specs.declared.causes.Cause.{Cause}
use Rattle.ti_checker.specs.declared.causes.Cause.TheVariants.{Unfinished, Stuck, NotTame, BadLook, WrongEffect, NotShown, TooLong, NoMemory}

own_effect : (rows cols : ℕ) (row : Row) (bytes : List ℕ) (tokens : List (List ℕ)) (e : Effect) → Splits bytes tokens [] → record_of rows cols (start_of rows cols row) tokens ≡ Some e → looks_other row e ≡ false → HasOwnEffect rows cols row bytes
own_effect rows cols row bytes tokens e split recorded own = record { tokens = tokens; whole = split; effect = e; recorded = recorded; own = not_mislooks rows cols row bytes tokens e split recorded own }

pub misjudged : (rows cols : ℕ) (string : List ℕ) (looks : Looks) (row : Row) (bytes : List ℕ) (tokens : List (List ℕ)) (cause : Cause) → IsSize rows cols → IsTaught rows cols string row looks → Sends string row bytes → Splits bytes tokens []
    → IsMisjudged rows cols looks row tokens cause → IsFaulty rows cols string row cause
unfolding own_effect
misjudged rows cols string looks row bytes tokens NotTame size taught sends split m = record { bytes = bytes; sends = sends; holds = record { tokens = tokens; whole = split; unrecorded = m } }
misjudged rows cols string looks row bytes tokens BadLook size taught sends split m = record { bytes = bytes; sends = sends; holds = mislooks rows cols row bytes tokens m.effect size split m.recorded m.misfit }
misjudged rows cols string looks row bytes tokens (WrongEffect p) size taught sends split m = record {
  bytes = bytes;
  sends = sends;
  holds = record {
    has = own_effect rows cols row bytes tokens m.effect split m.recorded m.misfit.0;
    breaks = shown_breaks rows cols string looks row bytes tokens m.effect p taught split m.recorded m.misfit.1;
  };
}
misjudged rows cols string looks row bytes tokens NotShown size taught sends split m = record {
  bytes = bytes;
  sends = sends;
  holds = record {
    has = own_effect rows cols row bytes tokens m.effect split m.recorded m.misfit.0;
    unasked = record { looks = looks; taught = taught; unasked = m.misfit.1; wanted = m.misfit.2 (tokens, m.recorded) };
  };
}
misjudged rows cols string looks row bytes tokens NoMemory size taught sends split m = tt
misjudged rows cols string looks row bytes tokens _ size taught sends split m = absurd m.misfit

-- the fault of an effect that isn't the one that is asked for is a fault of the tokens with that record
pub misfit_misjudged : (rows cols : ℕ) (looks : Looks) (row : Row) (tokens : List (List ℕ)) (e : Effect) (cause : Cause) → record_of rows cols (start_of rows cols row) tokens ≡ Some e → IsMisfit rows cols looks row e cause → IsMisjudged rows cols looks row tokens cause
misfit_misjudged rows cols looks row tokens e BadLook recorded m = record { effect = e; recorded = recorded; misfit = m }
misfit_misjudged rows cols looks row tokens e (WrongEffect p) recorded m = record { effect = e; recorded = recorded; misfit = m }
misfit_misjudged rows cols looks row tokens e NotShown recorded m = record { effect = e; recorded = recorded; misfit = m }
misfit_misjudged rows cols looks row tokens e _ recorded m = absurd m

-- ---- an effect that is asked for

-- the line of the bytes that were sent and of their effect
pub judged_line : (rows cols : ℕ) (string bytes at : List ℕ) (row : Row) (found : Option Effect) (e : Effect) → Sends string row bytes → at ≡ bytes → IsRecordOf rows cols (start_of rows cols row) at found → found ≡ Some e
    → IsLineFor rows cols string (record { row = row; bytes = bytes; effect = e })
judged_line rows cols string bytes at row found e sends same r is =
    record { sends = sends; has = record { tokens = r.tokens; splits = subst (λ (b : List ℕ). Splits b r.tokens []) same r.splits; recorded = sym r.is ∙ is } }

-- the looks with those that the row shows are taught before the next row
pub taught_next : (rows cols : ℕ) (string : List ℕ) (row : Row) (before after : Looks) (bytes : List ℕ) (e : Effect) → IsInRange rows cols row → IsTaught rows cols string row before
    → IsLineFor rows cols string (record { row = row; bytes = bytes; effect = e }) → IsAskedOf before row e → after ≡ learned row e before → (next : Row) → Follows rows cols row next → IsTaught rows cols string next after
taught_next rows cols string row before after bytes e range taught is asked same next f = After (record { row = row; bytes = bytes; effect = e }) next before after range f taught is asked same

pub sends_asked : (rows cols : ℕ) (string : List ℕ) (row : Row) (before : Looks) (bytes : List ℕ) (e : Effect) → IsTaught rows cols string row before → IsLineFor rows cols string (record { row = row; bytes = bytes; effect = e }) → IsAskedOf before row e
    → SendsAsked rows cols string row
sends_asked rows cols string row before bytes e taught is asked = record {
  bytes = bytes;
  effect = e;
  is = is;
  looks = before;
  taught = taught;
  asked = asked;
  right = recorded_is_right rows cols (learned row e before) row bytes is.has.tokens e is.has.splits is.has.recorded asked;
}

-- ---- bytes that are no whole control functions

pub cut_refused : (rows cols : ℕ) (string : List ℕ) (row : Row) (bytes text : List ℕ) (cause : Cause) → Sends string row bytes → IsNotWhole bytes cause → IsRowRefused rows cols string row text cause
cut_refused rows cols string row bytes text Unfinished sends h = record { bytes = bytes; sends = sends; holds = h }
cut_refused rows cols string row bytes text Stuck sends h = record { bytes = bytes; sends = sends; holds = h }
cut_refused rows cols string row bytes text NoMemory sends h = tt
cut_refused rows cols string row bytes text _ sends h = absurd h

pub cut_faulty : (rows cols : ℕ) (string : List ℕ) (row : Row) (bytes : List ℕ) (cause : Cause) → Sends string row bytes → IsNotWhole bytes cause → IsFaulty rows cols string row cause
cut_faulty rows cols string row bytes TooLong sends h = absurd h
cut_faulty rows cols string row bytes cause sends h = cut_refused rows cols string row bytes [] cause sends h
