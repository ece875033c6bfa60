-- An entry's own certificate is accepted, unless memory runs out.
use Rattle.std.proofs.Common.{◌≡◌, ℕ, true, false, List, Option, None, Ok, Err, inl, inr, refl, sym, ap, subst, ◌∙◌}
use Rattle.std.proofs.lemmas.Bool.{false≢true}
use Rattle.ti_caps.specs.Entry.{Content, string_at}
use Rattle.ti_conforms.specs.Charsets.{IsAmong}
use Rattle.ti_conforms.specs.Entries.{acsc, is_checked, EntryAgrees, EntrySends}
use Rattle.ti_rows.specs.declared.rows.Row.{Row}
use Rattle.ti_rows.specs.Lists.{IsInRange}
use Rattle.ti_lines.specs.declared.row_lines.RowLine.{RowLine}
use Rattle.ti_cert.specs.Certificates.{Ended}
use Rattle.ti_cert.specs.Certification.{HasText}
use Rattle.ti_cert.specs.Strings.{row_string}
use Rattle.ti_cert.specs.Table.{CheckedTable, table_of}
use Rattle.ti_cert.specs.Texts.{IsTableOf}
use Rattle.ti_cert.specs.declared.faults.AgreeFault.TheVariants.{Disagree, NoMemory}
use Rattle.ti_cert.specs.declared.faults.VerifyFault.TheVariants.{Cert, Agree}
use Rattle.ti_cert.proofs.Disagreements.{excludes_yes}
use Rattle.ti_cert.proofs.BasicAgreement.{no_string}
use Rattle.ti_cert.proofs.Singleness.{one_answer, same_end, never_ends}
use Rattle.ti_checker.proofs.Owned.{certificate_of_table}
use Rattle.ti_checker.specs.Certificate.{IsCertificateOf}
use Rattle.ti_checker.specs.Owned.{IsOwnTable, OwnIsAccepted}

-- ---- a table of the entry's certificate

-- it has the entry's pairs, and just what the entry sends
agrees : (entry : Content) (rows cols : ℕ) (text : List ℕ) (table : CheckedTable) → IsCertificateOf entry rows cols text → IsTableOf rows cols text table
    → (table.acsc ≡ string_at entry acsc) × EntryAgrees rows cols entry (λ row. row_string table.known.strings row)
agrees entry rows cols text table c t = (same.0, λ row range. record { checked = checked row range; unchecked = unchecked row })
  where
    same : (table.acsc ≡ string_at entry acsc) × (t.lines ≡ c.lines)
    same = same_end table.acsc (string_at entry acsc) t.lines c.lines (Ok (Ended table.acsc t.lines)) (Ok (Ended (string_at entry acsc) c.lines)) refl refl
        (one_answer rows cols text (Ok (Ended table.acsc t.lines)) (Ok (Ended (string_at entry acsc) c.lines)) t.says c.says)

    checked : (row : Row) → IsInRange rows cols row → is_checked entry row ≡ true → EntrySends entry (row_string table.known.strings row) row
    checked row range on =
        let h = c.complete row range on in
        let s = c.sends h.line h.among in
        subst (λ (r : Row). EntrySends entry (row_string table.known.strings r) r) h.of_row (record {
          string = s.sends.string;
          there = s.sends.there;
          sends = record { bytes = h.line.bytes; sends = s.sends.sends; line_has = t.kept h.line (subst (λ (l : List RowLine). IsAmong l h.line) (sym same.1) h.among) };
        })

    unchecked : (row : Row) → is_checked entry row ≡ false → row_string table.known.strings row ≡ None
    unchecked row off = no_string (row_string table.known.strings row) (λ bytes e.
        let g = t.found row bytes e in
        let s = c.sends g.line (subst (λ (l : List RowLine). IsAmong l g.line) same.1 g.among) in
        false≢true (sym off ∙ (ap (λ (r : Row). is_checked entry r) (sym g.of_row) ∙ s.checked)))

pub own_is_accepted : OwnIsAccepted
own_is_accepted entry rows cols text (Cert fault) fit c (inl h) a =
    absurd (never_ends (string_at entry acsc) c.lines fault (Ok (Ended (string_at entry acsc) c.lines)) (Err fault) refl refl
    (one_answer rows cols text (Ok (Ended (string_at entry acsc) c.lines)) (Err fault) c.says h))
own_is_accepted entry rows cols text (Cert fault) fit c (inr (inl e)) a = e
own_is_accepted entry rows cols text (Cert fault) fit c (inr (inr e)) a = absurd e.1
own_is_accepted entry rows cols text (Agree NoMemory) fit c r a = refl
own_is_accepted entry rows cols text (Agree (Disagree cap numbers)) fit c r a =
    let same = agrees entry rows cols text a.table c a.made in
    let line_of : Row → Option (List ℕ) = λ row. row_string a.table.known.strings row in
    absurd (excludes_yes a.table entry cap numbers.items a.disagrees fit same.0
    (subst (λ (n : ℕ). EntryAgrees n a.table.known.strings.cols entry line_of) (sym a.rows_are) (subst (λ (n : ℕ). EntryAgrees rows n entry line_of) (sym a.cols_are) same.1)))

-- ---- a table that was made with no text

pub is_own : (entry : Content) (rows cols : ℕ) (checked : CheckedTable) → checked.known.strings.rows ≡ rows → checked.known.strings.cols ≡ cols → EntryAgrees rows cols entry (table_of checked).line_of
    → checked.acsc ≡ string_at entry acsc → HasText rows cols checked → IsOwnTable entry rows cols checked
is_own entry rows cols checked r c sends pairs h =
    record { text = h.text; certificate = certificate_of_table entry rows cols h.text checked r c sends pairs h.is; accepted = h.is }
