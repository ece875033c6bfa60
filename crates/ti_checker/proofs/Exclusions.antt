-- If a refusal that claims something is true, the entry doesn't conform; with `TooLong`, it has no certificate.
use Rattle.std.proofs.Common.{◌≡◌, ℕ, ◌+◌, Bool, true, false, List, [], length, take, drop, Some, refl, sym, ap, subst, ◌∙◌, arith}
use Rattle.std.proofs.lemmas.Bool.{true≢false}
use Rattle.std.specs.Prelude.{Result, Ok, Err}
use Rattle.std.proofs.lemmas.List.{take-append-drop}
use Rattle.vt_term.specs.Screen.{State}
use Rattle.vt_term.specs.Text.{Splits, IsStuck, IsUnfinished}
use Rattle.vt_term.proofs.Splits.{one_splitting, splits_front}
use Rattle.vt_term.proofs.Runs.{runs_once}
use Rattle.ti_caps.specs.Entry.{Content}
use Rattle.ti_parm.specs.Delays.{strip}
use Rattle.ti_parm.specs.Fault.{◌>>=◌}
use Rattle.ti_parm.specs.Meaning.{State as Meant, meaning}
use Rattle.ti_parm.specs.Value.{zeros}
use Rattle.ti_parm.specs.declared.fault.ParmFault.{ParmFault}
use Rattle.ti_rows.specs.declared.rows.Looks.{Looks}
use Rattle.ti_rows.specs.declared.rows.Row.{Row}
use Rattle.ti_rows.specs.Lists.{IsInRange}
use Rattle.ti_rows.specs.Right.{IsRight}
use Rattle.ti_rows.specs.Wants.{Wants}
use Rattle.ti_checker.specs.Breakage.{Breaks}
use Rattle.ti_checker.specs.Probes.{screen_of}
use Rattle.ti_checker.specs.declared.probes.Probe.{Probe}
use Rattle.ti_conforms.specs.Sends.{Sends, values}
use Rattle.ti_conforms.specs.Entries.{is_checked, string_of}
use Rattle.ti_conforms.specs.Conforms.{Conforms, IsFit}
use Rattle.ti_conforms.specs.Unfit.{IsUnfit}
use Rattle.ti_conforms.specs.declared.fitness.Unfit.{Unfit}
use Rattle.ti_conforms.specs.declared.fitness.Unfit.TheVariants as unfit
use Rattle.ti_cert.proofs.Disagreements.{flag_not_out, none_lacking, none_misfit}
use Rattle.ti_checker.proofs.Sent.{none_graphic, none_open, none_at_smacs, none_at_rmacs}
use Rattle.ti_checker.proofs.Passages.{none_certified}
use Rattle.ti_checker.specs.Certificate.{IsCertificateOf}
use Rattle.ti_checker.specs.First.{SendsRight, StandBefore}
use Rattle.ti_checker.specs.Mislooks.{Mislooks}
use Rattle.ti_checker.proofs.Mislooked.{right_looks}
use Rattle.ti_checker.proofs.ShownAlone.{right_alone}
use Rattle.ti_checker.proofs.Walks.{same_string}
use Rattle.ti_conforms.proofs.Matches.{same_checked}
use Rattle.ti_checker.specs.No.{SendsSome, HasWrong, IsFaulty, IsRowFault, cause_of_unfit, IsOfEntry, IsOfAll, AtSmacs, AtRmacs, AtAcsc, AtClear, IsNo, OfEntry, OfRow, OfAll, OutOfMemory, ClaimsNothing}
use Rattle.ti_checker.specs.declared.causes.Cause.{Cause}
use Rattle.ti_checker.specs.declared.causes.Cause.TheVariants.{FlagOut, Absent, AcsByte, Parm, StaticRead, Unfinished, Stuck, NotTame, BadLook, WrongEffect, NotShown, TooLong, NoResync, NoMemory}
use Rattle.ti_checker.specs.declared.causes.No.{No}

-- ---- the bytes that a string sends

sent_right : (entry : Content) (rows cols : ℕ) (c : Conforms entry rows cols) (row : Row) → IsInRange rows cols row → is_checked entry row ≡ true → (string : List ℕ) → string_of entry row ≡ Some string
    → SendsRight rows cols c.table.looks string row
sent_right entry rows cols c row range checked string there =
    let s = (c.sends row range).checked checked in
    let same : s.string ≡ string = cc (s.there, there) in
    record {
      bytes = s.sends.bytes;
      sends = subst (λ (x : List ℕ). Sends x row s.sends.bytes) same s.sends.sends;
      right = c.right row s.sends.bytes s.sends.line_has;
    }

sent_before : (entry : Content) (rows cols : ℕ) (c : Conforms entry rows cols) (row : Row) → is_checked entry row ≡ true → (string : List ℕ) → string_of entry row ≡ Some string → StandBefore rows cols c.table.looks string row
sent_before entry rows cols c row checked string there other range same lt =
    sent_right entry rows cols c other range (same_checked entry other row same ∙ checked) string (same_string entry other row same ∙ there)

same_bytes : (string : List ℕ) (row : Row) (a b : List ℕ) → Sends string row a → Sends string row b → a ≡ b
same_bytes string row a b s t = cc (s.sends, t.sends)

no_fault : (string : List ℕ) (row : Row) (bytes : List ℕ) (fault : ParmFault) → Sends string row bytes → meaning string (values row) zeros ≡ Err fault → ⊥
no_fault string row bytes fault s h =
    let e = ap (λ (m : Result Meant ParmFault). m >>= λ end. Ok (strip end.output)) h in
    cc (s.sends, e)

not_unfinished : (bytes : List ℕ) (tokens : List (List ℕ)) (at : ℕ) → Splits bytes tokens [] → IsUnfinished bytes at → ⊥
not_unfinished bytes tokens at w u = omega (arith, u.some, ap length (one_splitting bytes tokens u.tokens [] u.rest w u.splits).1)

not_stuck : (bytes : List ℕ) (tokens : List (List ℕ)) (at : ℕ) → Splits bytes tokens [] → IsStuck bytes at → ⊥
not_stuck bytes tokens at w s =
    s.fits_nothing (splits_front (take (at + 1) bytes) (drop (at + 1) bytes) tokens [] (subst (λ (x : List ℕ). Splits x tokens []) (sym (take-append-drop (at + 1) bytes)) w))

not_broken : (rows cols : ℕ) (looks : Looks) (string : List ℕ) (row : Row) (bytes : List ℕ) (p : Probe) → IsRight rows cols looks row bytes → StandBefore rows cols looks string row → Breaks rows cols string row bytes p → ⊥
not_broken rows cols looks string row bytes p r stand b =
    let start : State = record { screen = screen_of rows cols p; rest = [] } in
    let e = r.ends start refl b.starts in
    let same : e.after ≡ record { screen = b.after; rest = [] } = runs_once start (record { screen = b.after; rest = [] }) e.after bytes b.runs e.runs in
    b.unwanted looks stand (right_alone rows cols looks row bytes r) (subst (λ (s : State). Wants looks row (screen_of rows cols p) s.screen) same e.wanted)

-- a property of the bytes that a string sends holds of its right bytes
sent_is : (rows cols : ℕ) (looks : Looks) (string : List ℕ) (row : Row) (Holds : List ℕ → Type 0) → (r : SendsRight rows cols looks string row) → SendsSome string row Holds → Holds r.bytes
sent_is rows cols looks string row Holds r s = subst Holds (same_bytes string row s.bytes r.bytes s.sends r.sends) s.holds

pub none_faulty : (rows cols : ℕ) (looks : Looks) (string : List ℕ) (row : Row) (cause : Cause) → SendsRight rows cols looks string row → StandBefore rows cols looks string row → IsFaulty rows cols string row cause → ClaimsNothing cause
none_faulty rows cols looks string row (Parm fault) r stand h = no_fault string row r.bytes fault r.sends h
none_faulty rows cols looks string row StaticRead r stand h = r.sends.sets_first h.end h.runs h.reads
none_faulty rows cols looks string row Unfinished r stand h =
    let u = sent_is rows cols looks string row (λ bytes. (at : ℕ) × IsUnfinished bytes at) r h in not_unfinished r.bytes r.right.tokens u.0 r.right.whole u.1
none_faulty rows cols looks string row Stuck r stand h =
    let s = sent_is rows cols looks string row (λ bytes. (at : ℕ) × IsStuck bytes at) r h in not_stuck r.bytes r.right.tokens s.0 r.right.whole s.1
none_faulty rows cols looks string row BadLook r stand h = right_looks rows cols looks row r.bytes r.right (sent_is rows cols looks string row (λ bytes. Mislooks rows cols row bytes) r h)
none_faulty rows cols looks string row (WrongEffect p) r stand h =
    not_broken rows cols looks string row r.bytes p r.right stand (sent_is rows cols looks string row (λ bytes. HasWrong rows cols string row bytes p) r h).breaks
none_faulty rows cols looks string row NotTame r stand h = tt
none_faulty rows cols looks string row NotShown r stand h = tt
none_faulty rows cols looks string row NoMemory r stand h = tt
none_faulty rows cols looks string row NoResync r stand h = absurd h
none_faulty rows cols looks string row TooLong r stand h = absurd h
none_faulty rows cols looks string row FlagOut r stand h = absurd h
none_faulty rows cols looks string row Absent r stand h = absurd h
none_faulty rows cols looks string row AcsByte r stand h = absurd h

-- ---- the claims of a refusal

by_reason : (entry : Content) (why : Unfit) → IsFit entry → IsUnfit entry why → ⊥
by_reason entry (unfit.FlagOut cap) fit h = flag_not_out entry cap fit h.1
by_reason entry (unfit.Absent row) fit h = none_lacking entry row fit h.lacking.required h.lacking.absent
by_reason entry unfit.AcsByte fit h = none_misfit entry fit h.1

pub not_unfit : (entry : Content) (refusal : No) → IsFit entry → IsOfEntry entry refusal → ⊥
not_unfit entry refusal fit h = by_reason entry h.why fit h.first

row_claims : (entry : Content) (rows cols : ℕ) (row : Row) (cause : Cause) → (cause ≡ TooLong → ⊥) → Conforms entry rows cols → IsInRange rows cols row → is_checked entry row ≡ true → IsRowFault entry rows cols row cause → ClaimsNothing cause
row_claims entry rows cols row TooLong not_long c range checked f = absurd (not_long refl)
row_claims entry rows cols row cause not_long c range checked f =
    none_faulty rows cols c.table.looks f.string row cause (sent_right entry rows cols c row range checked f.string f.there) (sent_before entry rows cols c row checked f.string f.there) f.faulty

all_claims : (entry : Content) (rows cols : ℕ) (refusal : No) → Conforms entry rows cols → IsOfAll entry rows cols refusal → ClaimsNothing refusal.cause
all_claims entry rows cols refusal c (AtSmacs p about clash h) = absurd (none_at_smacs entry rows cols c p clash h)
all_claims entry rows cols refusal c (AtRmacs p about clash h) = absurd (none_at_rmacs entry rows cols c p clash h)
all_claims entry rows cols refusal c (AtAcsc about h) = absurd (none_graphic entry rows cols c h)
all_claims entry rows cols refusal c (AtClear about h) = absurd (none_open entry rows cols c h)

pub no_excludes_yes : (entry : Content) (rows cols : ℕ) (refusal : No) → IsNo entry rows cols refusal → (refusal.cause ≡ TooLong → ⊥) → Conforms entry rows cols → ClaimsNothing refusal.cause
no_excludes_yes entry rows cols refusal (OfEntry h) not_long c = absurd (not_unfit entry refusal c.fit h)
no_excludes_yes entry rows cols refusal (OfRow fit h) not_long c = row_claims entry rows cols h.row refusal.cause not_long c h.range h.checked h.fault
no_excludes_yes entry rows cols refusal (OfAll fit written h) not_long c = all_claims entry rows cols refusal c h
no_excludes_yes entry rows cols refusal (OutOfMemory e) not_long c = subst ClaimsNothing (sym e) tt

-- ---- lines that are too long

abbrev is_too_long : Cause → Bool
is_too_long TooLong = true
is_too_long _ = false

never_long : (cause other : Cause) → cause ≡ other → cause ≡ TooLong → is_too_long other ≡ false → ⊥
never_long cause other e l h = true≢false (sym (ap is_too_long (sym e ∙ l)) ∙ h)

unfit_not_long : (why : Unfit) → is_too_long (cause_of_unfit why) ≡ false
unfit_not_long (unfit.FlagOut cap) = refl
unfit_not_long (unfit.Absent row) = refl
unfit_not_long unfit.AcsByte = refl

all_not_long : (entry : Content) (rows cols : ℕ) (refusal : No) → IsOfAll entry rows cols refusal → refusal.cause ≡ TooLong → ⊥
all_not_long entry rows cols refusal (AtSmacs p about clash h) e = never_long refusal.cause (WrongEffect p) about.cause_is e refl
all_not_long entry rows cols refusal (AtRmacs p about clash h) e = never_long refusal.cause (WrongEffect p) about.cause_is e refl
all_not_long entry rows cols refusal (AtAcsc about h) e = never_long refusal.cause BadLook about.cause_is e refl
all_not_long entry rows cols refusal (AtClear about h) e = never_long refusal.cause NoResync about.cause_is e refl

pub too_long_excludes : (entry : Content) (rows cols : ℕ) (refusal : No) (text : List ℕ) → IsNo entry rows cols refusal → refusal.cause ≡ TooLong → IsCertificateOf entry rows cols text → ⊥
too_long_excludes entry rows cols refusal text (OfEntry h) e c = never_long refusal.cause (cause_of_unfit h.why) h.about.cause_is e (unfit_not_long h.why)
too_long_excludes entry rows cols refusal text (OfRow fit h) e c = none_certified entry rows cols h.row text (subst (λ (cause : Cause). IsRowFault entry rows cols h.row cause) e h.fault) c
too_long_excludes entry rows cols refusal text (OfAll fit written h) e c = all_not_long entry rows cols refusal h e
too_long_excludes entry rows cols refusal text (OutOfMemory m) e c = never_long refusal.cause NoMemory m e refl
