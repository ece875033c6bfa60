-- The text of a table that has just what an entry sends is that of the entry's certificate.
use Rattle.std.proofs.Common.{◌≡◌, ℕ, Bool, true, false, List, Option, None, Some, Ok, refl, sym, subst, ◌∙◌}
use Rattle.std.specs.List.{slice_get}
use Rattle.std.proofs.lemmas.Option.{none-some, same_Some}
use Rattle.ti_caps.specs.Entry.{Content, string_at}
use Rattle.ti_conforms.specs.Charsets.{IsAmong}
use Rattle.ti_conforms.specs.Entries.{acsc, is_checked, EntryAgrees, LineAgrees}
use Rattle.ti_conforms.specs.Sends.{Sends}
use Rattle.ti_rows.specs.Lists.{IsInRange, rank}
use Rattle.ti_rows.specs.Names.{order}
use Rattle.ti_lines.specs.declared.row_lines.RowLine.{RowLine}
use Rattle.ti_cert.specs.Certificates.{Ended, IsAnswer}
use Rattle.ti_cert.specs.Strings.{Strings, allows, group_at, row_string}
use Rattle.ti_cert.specs.Table.{CheckedTable, table_of}
use Rattle.ti_cert.specs.Texts.{IsTableOf}
use Rattle.ti_cert.proofs.GroupFacts.{if_some}
use Rattle.ti_cert.proofs.Ranges.{in_range}
use Rattle.ti_checker.specs.Certificate.{IsSent, IsCertificateOf}

-- the row of a string is in range
there_in_range : (s : Strings) (rows cols : ℕ) (line : RowLine) → s.rows ≡ rows → s.cols ≡ cols → row_string s line.row ≡ Some line.bytes → IsInRange rows cols line.row
there_in_range s rows cols line r c there =
    let p = if_some (allows s.rows s.cols line.row) (slice_get (group_at s (order line.row)) (rank s.rows s.cols line.row)) line.bytes there in
    subst (λ (n : ℕ). IsInRange n cols line.row) r (subst (λ (n : ℕ). IsInRange s.rows n line.row) c (in_range s.rows s.cols line.row p.0))

-- a line that agrees is what the entry sends
line_sent : (entry : Content) (rows cols : ℕ) (line : RowLine) (found : Option (List ℕ)) → IsInRange rows cols line.row → LineAgrees entry found line.row → found ≡ Some line.bytes → (b : Bool) → is_checked entry line.row ≡ b
    → IsSent entry rows cols line.row line.bytes
line_sent entry rows cols line found range agrees there true e =
    let s = agrees.checked e in
    record {
      range = range;
      checked = e;
      sends = record { string = s.string; there = s.there; sends = subst (λ (bytes : List ℕ). Sends s.string line.row bytes) (same_Some s.sends.bytes line.bytes (sym s.sends.line_has ∙ there)) s.sends.sends };
    }
line_sent entry rows cols line found range agrees there false e = absurd (none-some line.bytes (sym (agrees.unchecked e) ∙ there))

pub certificate_of_table : (entry : Content) (rows cols : ℕ) (text : List ℕ) (table : CheckedTable) → table.known.strings.rows ≡ rows → table.known.strings.cols ≡ cols → EntryAgrees rows cols entry (table_of table).line_of
    → table.acsc ≡ string_at entry acsc → IsTableOf rows cols text table → IsCertificateOf entry rows cols text
certificate_of_table entry rows cols text table r c agrees pairs is = record {
  lines = is.lines;
  says = subst (λ (o : Option (List ℕ)). IsAnswer rows cols text (Ok (Ended o is.lines))) pairs is.says;
  sends = λ line among.
      let there = is.kept line among in
      let range = there_in_range table.known.strings rows cols line r c there in
      line_sent entry rows cols line (row_string table.known.strings line.row) range (agrees line.row range) there (is_checked entry line.row) refl;
  complete = λ row range checked.
      let s = (agrees row range).checked checked in
      let g = is.found row s.sends.bytes s.sends.line_has in
      record { line = g.line; among = g.among; of_row = g.of_row };
}
