-- The list of the refusals for an entry's clashes is right.
use Rattle.std.proofs.Common.{◌≡◌, ◌&&◌, ℕ, Bool, true, false, List, Option, Some, None, refl, sym, subst}
use Rattle.std.specs.Prelude.{is_some}
use Rattle.std.proofs.lemmas.Bool.{both_ways}
use Rattle.vt_term.specs.Size.{IsSize}
use Rattle.vt_term.specs.Screen.{Charset}
use Rattle.ti_caps.specs.Entry.{Content, string_at}
use Rattle.ti_rows.specs.declared.rows.Row.{Row}
use Rattle.ti_rows.specs.declared.rows.Row.TheVariants.{Clear, Smacs, Rmacs}
use Rattle.ti_rows.specs.Names.{cap_of}
use Rattle.ti_rows.specs.Starts.{IsFree, Starts}
use Rattle.ti_conforms.specs.Entries as entries
use Rattle.ti_conforms.specs.Table.{Table}
use Rattle.ti_cert.specs.Clashes.{Misswitches, StaysGraphic, BeginsOpen}
use Rattle.ti_cert.specs.Clashes as clashes
use Rattle.ti_cert.specs.declared.clashes.AllClashes.{AllClashes}
use Rattle.ti_checker.specs.Clashes.{OfSwitch, GoesWrong, GoesRight, OfStrings, IsSo, IsNotSo, OfWay, some_leads, AreClashes, IsSwitchTold, IsTold, AreTold}
use Rattle.ti_checker.specs.Kept.{KeptStand, IsStanding, OfAllKept}
use Rattle.ti_checker.specs.Probes.{screen_of}
use Rattle.ti_checker.specs.Switches.{RunsWrong}
use Rattle.ti_checker.specs.declared.causes.Cause.{Cause}
use Rattle.ti_checker.specs.declared.causes.Cause.TheVariants.{BadLook, NoResync}
use Rattle.ti_checker.specs.declared.causes.No.{No}
use Rattle.ti_checker.specs.declared.probes.Probe.{Probe}
use Rattle.ti_checker.proofs.Sent.{of_kept, runs_wrong}

switch_of : (entry : Content) (rows cols : ℕ) (kept : ℕ → Bool) (row : Row) (before : Option Charset) (own : List No) → IsSize rows cols → KeptStand entry rows cols kept → ((p : Probe) → IsFree rows cols (screen_of rows cols p) → Starts rows cols row (screen_of rows cols p))
    → OfAllKept entry rows cols kept (λ t. clashes.OfSwitch t row before) → IsSwitchTold rows cols row before own → OfSwitch entry rows cols kept row own
switch_of entry rows cols kept row None own size stand starts all told = GoesRight told all
switch_of entry rows cols kept row (Some before) own size stand starts all told =
    let p : Probe = told.1 in
    let at : OfAllKept entry rows cols kept (λ t. Misswitches t row p.charset) = λ t h. subst (λ (x : Charset). Misswitches t row x) (sym told.4) (all t h) in
    GoesWrong told.0 p told.2 told.3 (of_kept entry rows cols kept (λ t. Misswitches t row p.charset) size stand at)
    (of_kept entry rows cols kept (λ t. RunsWrong rows cols row p t) size stand (λ t h. runs_wrong rows cols row p t (starts p told.5) (at t h)))

strings_of : (entry : Content) (rows cols : ℕ) (kept : ℕ → Bool) (is_so : Bool) (cap : ℕ) (cause : Cause) (Is : Table → Type 0) (own : List No) → IsSize rows cols → KeptStand entry rows cols kept
    → (is_so ≡ true → OfAllKept entry rows cols kept Is) → (is_so ≡ false → OfAllKept entry rows cols kept (λ t. Is t → ⊥)) → IsTold is_so cap cause own → OfStrings entry rows cols kept cap cause Is own
strings_of entry rows cols kept true cap cause Is own size stand on off told = IsSo told.0 told.1 told.2 (of_kept entry rows cols kept Is size stand (on refl))
strings_of entry rows cols kept false cap cause Is own size stand on off told = IsNotSo told (off refl)

way_of : (entry : Content) (rows cols : ℕ) (kept : ℕ → Bool) (leads is_so : Bool) (own : List No) → IsSize rows cols → KeptStand entry rows cols kept → leads ≡ some_leads entry rows kept
    → (is_so ≡ true → OfAllKept entry rows cols kept (λ t. BeginsOpen t)) → (is_so ≡ false → OfAllKept entry rows cols kept (λ t. BeginsOpen t → ⊥)) → IsTold (leads && is_so) (cap_of Clear) NoResync own → OfWay entry rows cols kept own
way_of entry rows cols kept true is_so own size stand is on off told = record {
  some = λ there. strings_of entry rows cols kept is_so (cap_of Clear) NoResync (λ t. BeginsOpen t) own size stand on off told;
  none = λ gone. absurd (both_ways (some_leads entry rows kept) gone (sym is));
}
way_of entry rows cols kept false is_so own size stand is on off told = record {
  some = λ there. absurd (both_ways (some_leads entry rows kept) (sym is) there);
  none = λ gone. told;
}

pub all_told : (entry : Content) (rows cols : ℕ) (kept : ℕ → Bool) (leads : Bool) (all : AllClashes) (nos : List No) → IsSize rows cols → IsStanding entry rows cols kept → leads ≡ some_leads entry rows kept
    → OfAllKept entry rows cols kept (λ t. clashes.AreClashes (is_some (string_at entry entries.acsc)) t all) → AreTold rows cols leads all nos → AreClashes entry rows cols nos
all_told entry rows cols kept leads all nos size standing is found told = record {
  kept = kept;
  standing = standing;
  smacs = told.smacs;
  of_smacs = switch_of entry rows cols kept Smacs all.smacs told.smacs size standing.stand (λ p free. free) (λ t h. (found t h).of_smacs) told.of_smacs;
  rmacs = told.rmacs;
  of_rmacs = switch_of entry rows cols kept Rmacs all.rmacs told.rmacs size standing.stand (λ p free. free) (λ t h. (found t h).of_rmacs) told.of_rmacs;
  acsc = told.acsc;
  of_acsc = strings_of entry rows cols kept all.acsc entries.acsc BadLook (λ t. StaysGraphic (is_some (string_at entry entries.acsc)) t) told.acsc size standing.stand
      (λ on t h. (found t h).graphic on) (λ off t h. (found t h).plain off) told.of_acsc;
  clear = told.clear;
  of_clear = way_of entry rows cols kept leads all.clear told.clear size standing.stand is (λ on t h. (found t h).opens on) (λ off t h. (found t h).escapes off) told.of_clear;
  are = told.are;
}
