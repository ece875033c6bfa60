-- The text written for an entry's lines is that of a certificate.
use Rattle.std.proofs.Common.{ℕ, false, List, [], ◌∷◌, reverse, inl, inr, refl, sym}
use Rattle.std.specs.Prelude.{is_some}
use Rattle.std.specs.List.{AllByRecursion}
use Rattle.vt_term.specs.Size.{IsSize}
use Rattle.ti_caps.specs.Entry.{Content, IsEntry, string_at, value_at}
use Rattle.ti_conforms.specs.Charsets.{IsAmong}
use Rattle.ti_conforms.specs.Conforms.{IsFit}
use Rattle.ti_conforms.specs.Entries.{acsc}
use Rattle.ti_rows.specs.declared.rows.Row.{Row}
use Rattle.ti_lines.specs.declared.row_lines.RowLine.{RowLine}
use Rattle.ti_lines.specs.RowLines.{IsLine}
use Rattle.ti_cert.specs.Clashes.{GoesTogether, OfLines}
use Rattle.ti_cert.specs.Texts.{IsCertificate}
use Rattle.ti_conforms.specs.Looks.{no_looks}
use Rattle.ti_conforms.specs.Table.{Table}
use Rattle.ti_cert.proofs.BasicLines.{size_is}
use Rattle.ti_cert.proofs.Converse.{accepted_certificate}
use Rattle.ti_cert.proofs.Spellings.{line_is, pairs_are}
use Rattle.ti_checker.specs.Certificate.{IsCertificateOf}
use Rattle.ti_checker.specs.First.{EachStands}
use Rattle.ti_checker.specs.Kept.{every}
use Rattle.ti_checker.specs.Limit.{IsLineOf, AreLines, IsFullText}
use Rattle.ti_checker.specs.No.{GoTogether}
use Rattle.ti_checker.specs.Switches.{HasSent}
use Rattle.ti_cert.proofs.Elements.{reversed_has, reversed_only}
use Rattle.ti_checker.proofs.Sent.{table_with, has_sent, its_line}
use Rattle.ti_checker.proofs.Settled.{all_kept, sent_line}
use Rattle.ti_checker.proofs.Standings.{all_stand}

-- ---- the whole text

-- the lines can be written
each_is : (entry : Content) (rows cols : ℕ) (lines : List RowLine) → IsSize rows cols → ((line : RowLine) → IsAmong lines line → IsLineOf entry rows cols line) → AllByRecursion IsLine lines
each_is entry rows cols [] size each = tt
each_is entry rows cols (line ∷ lines) size each =
    let l : IsLineOf entry rows cols line = each line (inl refl) in
    (line_is rows cols line size l.sent.range l.has, each_is entry rows cols lines size (λ other a. each other (inr a)))

certificate : (entry : Content) (rows cols : ℕ) (text : List ℕ) → IsSize rows cols → IsEntry entry → IsFit entry → EachStands entry rows cols → (f : IsFullText entry rows cols text) → IsCertificate rows cols text (string_at entry acsc) f.lines
certificate entry rows cols text size is fit stands f = record {
  spelled = record {
    size = size_is rows cols size;
    acsc = pairs_are (value_at entry acsc) (is.bytes acsc);
    lines = each_is entry rows cols f.lines size f.are.each;
    spelled = sym f.text_is;
  };
  stands = all_stand entry rows cols f.lines fit stands f.are;
  few = f.short;
}

-- a table of what the entry sends has exactly these lines
together : (entry : Content) (rows cols : ℕ) (lines : List RowLine) → IsSize rows cols → EachStands entry rows cols → AreLines entry rows cols (λ row. Unit {0}) lines → GoTogether entry rows cols
    → OfLines rows cols (reverse lines) (λ t. GoesTogether (is_some (string_at entry acsc)) t)
together entry rows cols lines size stands are goes = record {
  table = t;
  rows_are = refl;
  cols_are = refl;
  found = λ row bytes there.
      let l = its_line entry rows cols lines t has are row bytes there in
      record { line = l.line; among = reversed_has lines l.line l.among; of_row = l.of_row; bytes_are = l.bytes_are };
  kept = λ line a.
      let k = are.each line (reversed_only lines line a) in
      sent_line entry rows cols every t (all_kept entry rows cols t has) line.row k.sent.sends.string line.bytes k.sent.range k.sent.checked k.sent.sends.there k.sent.sends.sends;
  is = goes t has;
}
  where
    t : Table
    t = table_with entry rows cols no_looks (λ c. false) (λ c. false)

    has : HasSent entry rows cols t
    has = has_sent entry rows cols no_looks (λ c. false) (λ c. false) size stands

pub certificate_of : (entry : Content) (rows cols : ℕ) (text : List ℕ) → IsSize rows cols → IsEntry entry → IsFit entry → EachStands entry rows cols → IsFullText entry rows cols text → GoTogether entry rows cols
    → IsCertificateOf entry rows cols text
certificate_of entry rows cols text size is fit stands f goes = record {
  lines = reverse f.lines;
  says = accepted_certificate rows cols text (string_at entry acsc) f.lines (certificate entry rows cols text size is fit stands f) (together entry rows cols f.lines size stands f.are goes);
  sends = λ line a. (f.are.each line (reversed_only f.lines line a)).sent;
  complete = λ row range checked. let h = f.are.all row range checked tt in record { line = h.line; among = reversed_has f.lines h.line h.among; of_row = h.of_row };
}
