-- An entry whose lines for the greatest size are steady is refused at no size but for want of memory.
use Rattle.std.proofs.Common.{◌≡◌, ℕ, true, List, [], length, reverse, Some, refl, sym, ap, subst, ◌∙◌, arith}
use Rattle.std.proofs.lemmas.Option.{none-some, same_Some}
use Rattle.vt_term.specs.Size.{IsSize, max_rows, max_cols}
use Rattle.vt_term.specs.Text.{Splits}
use Rattle.vt_term.proofs.Splits.{one_splitting}
use Rattle.vt_effects.specs.declared.effects.Effect.{Effect}
use Rattle.vt_effects.specs.Record.{record_of}
use Rattle.ti_caps.specs.Entry.{Content, string_at}
use Rattle.ti_rows.specs.declared.rows.Row.{Row}
use Rattle.ti_rows.specs.Asked.{asked, start_of}
use Rattle.ti_rows.specs.Lists.{IsInRange}
use Rattle.ti_rows.proofs.Rightness.{recorded_is_right}
use Rattle.ti_lines.specs.declared.row_lines.RowLine.{RowLine}
use Rattle.ti_conforms.specs.Charsets.{IsAmong, reset_charset}
use Rattle.ti_conforms.specs.Conforms.{Conforms, IsFit}
use Rattle.ti_conforms.specs.Entries.{EntryAgrees, acsc, is_checked, string_of}
use Rattle.ti_conforms.specs.Judged.{IsJudged, AskedLine}
use Rattle.ti_conforms.specs.Sends.{Sends}
use Rattle.ti_conforms.specs.Table.{Table}
use Rattle.ti_conforms.proofs.Matches.{same_checked}
use Rattle.ti_cert.specs.Texts.{IsCertificate}
use Rattle.ti_cert.proofs.Elements.{reversed_has}
use Rattle.ti_cert.proofs.Standing.{has_its_effect}
use Rattle.ti_cert.proofs.Texts.{that_of_certificate}
use Rattle.ti_checker.specs.Certificate.{IsCertificateOf}
use Rattle.ti_checker.specs.First.{SendsRight, StandBefore}
use Rattle.ti_checker.specs.Limit.{IsLineOf, PassesLimit}
use Rattle.ti_checker.specs.No.{SendsSome, IsUntamed, HasUnasked, IsFaulty, IsRowFault, ClaimsNothing}
use Rattle.ti_checker.specs.No.{IsOfAll, AtSmacs, AtRmacs, AtAcsc, AtClear, OfEntry, OfRow, OfAll, OutOfMemory}
use Rattle.ti_checker.specs.declared.causes.Cause.{Cause}
use Rattle.ti_checker.specs.declared.causes.Cause.TheVariants.{NotTame, NotShown, TooLong, NoMemory}
use Rattle.ti_checker.specs.declared.causes.No.{No}
use Rattle.ti_checker.proofs.Exclusions.{none_faulty, not_unfit}
use Rattle.ti_checker.proofs.Passages.{line_once}
use Rattle.ti_checker.proofs.Quiet.{start, starts_free}
use Rattle.ti_checker.proofs.Sent.{none_graphic, none_open, none_at_smacs, none_at_rmacs}
use Rattle.ti_checker.proofs.Teaching.{agreeing, one_sent}
use Rattle.ti_checker.proofs.Walks.{same_string}
use Rattle.ti_sizes.specs.EverySize.{ConformsAtEverySize, OpensAtEverySize, IsRightAtEverySize}
use Rattle.ti_sizes.specs.Answers.{HasGreatest}
use Rattle.ti_sizes.specs.Lines.{AreSteady}
use Rattle.ti_sizes.specs.Steady.{IsSteady, IsSteadyText}
use Rattle.ti_sizes.proofs.Fewer.{shorter}
use Rattle.ti_sizes.proofs.Narrowed.{IsGreatest, at_greatest, everywhere, line_too, narrowed}
use Rattle.ti_sizes.proofs.StartFacts.{in_greatest}
use Rattle.ti_sizes.proofs.Taught.{asked_too}

-- the lines of the greatest size, just what the entry sends there, all judged and steady
record Steady (entry : Content) (t : Table) : Type 0 where
  greatest : IsGreatest t
  judged : IsJudged t
  agrees : EntryAgrees max_rows max_cols entry t.line_of
  steady : AreSteady t.line_of

-- ---- what the entry sends for a row of some size

record SentLine (entry : Content) (t : Table) (rows cols : ℕ) (row : Row) (string : List ℕ) : Type 0 where
  bytes : List ℕ
  sends : Sends string row bytes
  steady : IsSteadyText row bytes
  line : AskedLine (narrowed rows cols t) row bytes

sent_line : (entry : Content) (t : Table) (rows cols : ℕ) (row : Row) (string : List ℕ) → Steady entry t → IsSize rows cols → IsInRange rows cols row → is_checked entry row ≡ true → string_of entry row ≡ Some string → SentLine entry t rows cols row string
sent_line entry t rows cols row string k z range checked there =
    let big = in_greatest rows cols row z range in
    let s = (k.agrees row big).checked checked in
    let same : s.string ≡ string = same_Some s.string string (sym s.there ∙ there) in
    let steady = k.steady row big s.sends.bytes s.sends.line_has in
    record {
      bytes = s.sends.bytes;
      sends = subst (λ (x : List ℕ). Sends x row s.sends.bytes) same s.sends.sends;
      steady = steady;
      line = line_too t rows cols row s.sends.bytes k.greatest z range steady (k.judged.lines row s.sends.bytes s.sends.line_has);
    }

sends_right : (entry : Content) (t : Table) (rows cols : ℕ) (row : Row) (string : List ℕ) → SentLine entry t rows cols row string → SendsRight rows cols t.looks string row
sends_right entry t rows cols row string s =
    record { bytes = s.bytes; sends = s.sends; right = recorded_is_right rows cols t.looks row s.bytes s.line.tokens s.line.effect s.line.whole s.line.recorded s.line.asked_for }

stand_before : (entry : Content) (t : Table) (rows cols : ℕ) (row : Row) (string : List ℕ) → Steady entry t → IsSize rows cols → is_checked entry row ≡ true → string_of entry row ≡ Some string → StandBefore rows cols t.looks string row
stand_before entry t rows cols row string k z checked there other range same lt =
    sends_right entry t rows cols other string (sent_line entry t rows cols other string k z range (same_checked entry other row same ∙ checked) (same_string entry other row same ∙ there))

-- ---- its record is one, and the one that is asked for

same_tokens : (a b : List ℕ) (ts us : List (List ℕ)) → a ≡ b → Splits a ts [] → Splits b us [] → us ≡ ts
same_tokens a b ts us same s r = (one_splitting a ts us [] [] s (subst (λ (x : List ℕ). Splits x us []) (sym same) r)).0

never_untamed : (entry : Content) (t : Table) (rows cols : ℕ) (row : Row) (string : List ℕ) → SentLine entry t rows cols row string → SendsSome string row (λ bytes. IsUntamed rows cols row bytes) → ⊥
never_untamed entry t rows cols row string l s =
    let same = one_sent string row s.bytes l.bytes s.sends l.sends in
    let tokens = same_tokens s.bytes l.bytes s.holds.tokens l.line.tokens same s.holds.whole l.line.whole in
    none-some l.line.effect (sym s.holds.unrecorded ∙ (ap (λ (x : List (List ℕ)). record_of rows cols (start_of rows cols row) x) (sym tokens) ∙ l.line.recorded))

its_effect : (entry : Content) (t : Table) (rows cols : ℕ) (row : Row) (string : List ℕ) → (l : SentLine entry t rows cols row string) → (s : SendsSome string row (λ bytes. HasUnasked rows cols string row bytes)) → l.line.effect ≡ s.holds.has.effect
its_effect entry t rows cols row string l s =
    let same = one_sent string row s.bytes l.bytes s.sends l.sends in
    let tokens = same_tokens s.bytes l.bytes s.holds.has.tokens l.line.tokens same s.holds.has.whole l.line.whole in
    same_Some l.line.effect s.holds.has.effect (sym l.line.recorded ∙ (ap (λ (x : List (List ℕ)). record_of rows cols (start_of rows cols row) x) tokens ∙ s.holds.has.recorded))

never_unasked : (entry : Content) (t : Table) (rows cols : ℕ) (row : Row) (string : List ℕ) → IsSize rows cols → SentLine entry t rows cols row string → StandBefore rows cols t.looks string row
    → SendsSome string row (λ bytes. HasUnasked rows cols string row bytes) → ⊥
never_unasked entry t rows cols row string z l before s =
    let u = s.holds.unasked in
    let e = its_effect entry t rows cols row string l s in
    let agree = agreeing rows cols string t.looks (start rows cols reset_charset).screen (starts_free rows cols reset_charset z) row u.looks u.taught before in
    let is_asked = subst (λ (x : Effect). x ≡ asked t.looks row x) e l.line.asked_for in
    u.unasked (asked_too row t.looks u.looks s.holds.has.effect is_asked agree)

-- ---- its text

-- the entry's line for some size is its line for the greatest
line_at_greatest : (entry : Content) (t : Table) (rows cols : ℕ) (line : RowLine) → Steady entry t → IsSize rows cols → IsLineOf entry rows cols line → IsLineOf entry max_rows max_cols line
line_at_greatest entry t rows cols line k z is =
    let range = is.sent.range in
    let l = sent_line entry t rows cols line.row is.sent.sends.string k z range is.sent.checked is.sent.sends.there in
    let same = one_sent is.sent.sends.string line.row line.bytes l.bytes is.sent.sends.sends l.sends in
    let tokens : l.steady.tokens ≡ is.has.tokens = same_tokens line.bytes l.bytes is.has.tokens l.steady.tokens same is.has.splits l.steady.whole in
    record {
      sent = record { range = in_greatest rows cols line.row z range; checked = is.sent.checked; sends = is.sent.sends };
      has = record {
        tokens = is.has.tokens;
        splits = is.has.splits;
        recorded = sym (subst (λ (ts : List (List ℕ)). IsSteady line.row ts) tokens l.steady.steady rows cols z range) ∙ is.has.recorded;
      };
    }

never_long : (entry : Content) (t : Table) (rows cols : ℕ) (row : Row) → Steady entry t → IsSize rows cols → HasGreatest entry → PassesLimit entry rows cols row → ⊥
never_long entry t rows cols row k z g p =
    let short = shorter entry rows cols p.lines (reverse c.lines) z p.are.ordered there in
    let few = certificate.few in
    let long = p.long in
    let s = ap (λ (l : List ℕ). length l) certificate.spelled.spelled in
    omega (arith, short, few, long, s)
  where
    c : IsCertificateOf entry max_rows max_cols g.text
    c = g.certificate

    certificate : IsCertificate max_rows max_cols g.text (string_at entry acsc) (reverse c.lines)
    certificate = that_of_certificate max_rows max_cols g.text (string_at entry acsc) c.lines c.says

    own : (line : RowLine) → IsAmong c.lines line → IsLineOf entry max_rows max_cols line
    own line a = record { sent = c.sends line a; has = has_its_effect max_rows max_cols [] (reverse c.lines) line certificate.stands (reversed_has c.lines line a) }

    there : (line : RowLine) → IsAmong p.lines line → IsAmong (reverse c.lines) line
    there line a =
        let big = line_at_greatest entry t rows cols line k z (p.are.each line a) in
        let h = c.complete line.row big.sent.range big.sent.checked in
        let same : h.line ≡ line = line_once entry max_rows max_cols h.line line (own h.line h.among) big h.of_row in
        reversed_has c.lines line (subst (λ (l : RowLine). IsAmong c.lines l) same h.among)

-- ---- no refusal of a row but for want of memory

by_claim : (cause : Cause) → ClaimsNothing cause → (cause ≡ NotTame → ⊥) → (cause ≡ NotShown → ⊥) → cause ≡ NoMemory
by_claim NotTame c untamed unasked = absurd (untamed refl)
by_claim NotShown c untamed unasked = absurd (unasked refl)
by_claim NoMemory c untamed unasked = refl
by_claim _ c untamed unasked = absurd c

of_string : (entry : Content) (t : Table) (rows cols : ℕ) (row : Row) (string : List ℕ) (cause : Cause) → Steady entry t → IsSize rows cols → IsInRange rows cols row → is_checked entry row ≡ true → string_of entry row ≡ Some string
    → IsFaulty rows cols string row cause → cause ≡ NoMemory
of_string entry t rows cols row string cause k z range checked there f =
    let l = sent_line entry t rows cols row string k z range checked there in
    let before = stand_before entry t rows cols row string k z checked there in
    by_claim cause (none_faulty rows cols t.looks string row cause (sends_right entry t rows cols row string l) before f)
    (λ e. never_untamed entry t rows cols row string l (subst (λ (x : Cause). IsFaulty rows cols string row x) e f))
    (λ e. never_unasked entry t rows cols row string z l before (subst (λ (x : Cause). IsFaulty rows cols string row x) e f))

of_row : (entry : Content) (t : Table) (rows cols : ℕ) (row : Row) (cause : Cause) → Steady entry t → IsSize rows cols → HasGreatest entry → IsInRange rows cols row → is_checked entry row ≡ true → IsRowFault entry rows cols row cause → cause ≡ NoMemory
of_row entry t rows cols row TooLong k z g range checked f = absurd (never_long entry t rows cols row k z g f)
of_row entry t rows cols row cause k z g range checked f = of_string entry t rows cols row f.string cause k z range checked f.there f.faulty

-- ---- no other refusal

never_all : (entry : Content) (rows cols : ℕ) (refusal : No) → Conforms entry rows cols → IsOfAll entry rows cols refusal → ⊥
never_all entry rows cols refusal c (AtSmacs p about clash h) = none_at_smacs entry rows cols c p clash h
never_all entry rows cols refusal c (AtRmacs p about clash h) = none_at_rmacs entry rows cols c p clash h
never_all entry rows cols refusal c (AtAcsc about h) = none_graphic entry rows cols c h
never_all entry rows cols refusal c (AtClear about h) = none_open entry rows cols c h

opens : (entry : Content) (t : Table) → IsFit entry → Steady entry t → HasGreatest entry → ConformsAtEverySize entry → OpensAtEverySize entry
opens entry t fit k g c rows cols refusal z (OfEntry h) = absurd (not_unfit entry refusal fit h)
opens entry t fit k g c rows cols refusal z (OfRow _ h) = of_row entry t rows cols h.row refusal.cause k z g h.range h.checked h.fault
opens entry t fit k g c rows cols refusal z (OfAll _ written h) = absurd (never_all entry rows cols refusal (c rows cols z) h)
opens entry t fit k g c rows cols refusal z (OutOfMemory e) = e

-- the entry conforms at every size, and opens there
pub right_everywhere : (entry : Content) (t : Table) → IsFit entry → IsGreatest t → IsJudged t → EntryAgrees t.rows t.cols entry t.line_of → AreSteady t.line_of → HasGreatest entry → IsRightAtEverySize entry
right_everywhere entry t fit g j agrees steady has =
    let c : ConformsAtEverySize entry = everywhere entry t fit g j agrees steady in
    record { conforms = c; opens = opens entry t fit (record { greatest = g; judged = j; agrees = at_greatest entry t g agrees; steady = steady }) has c }
