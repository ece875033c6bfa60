-- Strings that have a certificate have no clash.
use Rattle.std.proofs.Common.{◌≡◌, ℕ, true, false, List, Option, Some, None, refl, sym, ap, subst, ◌∙◌}
use Rattle.std.specs.Prelude.{is_some}
use Rattle.std.proofs.lemmas.Bool.{false≢true}
use Rattle.ti_caps.specs.Entry.{Content, string_at}
use Rattle.ti_rows.specs.declared.rows.Row.{Row}
use Rattle.ti_conforms.specs.Charsets.{IsAmong}
use Rattle.ti_conforms.specs.Entries.{acsc, is_checked, EntrySends, EntryAgrees}
use Rattle.ti_conforms.specs.Table.{Table}
use Rattle.ti_lines.specs.declared.row_lines.RowLine.{RowLine}
use Rattle.ti_cert.specs.Clashes.{GoesTogether, OfLines}
use Rattle.ti_cert.specs.declared.clashes.Clash.{Clash}
use Rattle.ti_cert.specs.declared.clashes.Clash.TheVariants as clashes
use Rattle.ti_cert.proofs.Texts.{accepted_together}
use Rattle.ti_checker.specs.Certificate.{IsCertificateOf}
use Rattle.ti_checker.specs.No.{HasClash, IsOfAll, AtSmacs, AtRmacs, AtAcsc, AtClear}
use Rattle.ti_checker.specs.declared.causes.No.{No}
use Rattle.ti_checker.proofs.Sent.{never_clashes}

-- the table of its lines has exactly what the entry sends
lines_agree : (entry : Content) (rows cols : ℕ) (text : List ℕ) (Is : Table → Type 0) (c : IsCertificateOf entry rows cols text) → (o : OfLines rows cols c.lines Is) → EntryAgrees rows cols entry o.table.line_of
lines_agree entry rows cols text Is c o row range = record { checked = checked; unchecked = unchecked (o.table.line_of row) refl }
  where
    by_line : (line : RowLine) → IsAmong c.lines line → EntrySends entry (o.table.line_of line.row) line.row
    by_line line a =
        let s = (c.sends line a).sends in
        record { string = s.string; there = s.there; sends = record { bytes = line.bytes; sends = s.sends; line_has = o.kept line a } }

    checked : is_checked entry row ≡ true → EntrySends entry (o.table.line_of row) row
    checked on = let h = c.complete row range on in subst (λ (r : Row). EntrySends entry (o.table.line_of r) r) h.of_row (by_line h.line h.among)

    unchecked : (line : Option (List ℕ)) → o.table.line_of row ≡ line → is_checked entry row ≡ false → o.table.line_of row ≡ None
    unchecked None e off = e
    unchecked (Some bytes) e off =
        let g = o.found row bytes e in
        absurd (false≢true (sym off ∙ (ap (λ (r : Row). is_checked entry r) (sym g.of_row) ∙ (c.sends g.line g.among).checked)))

none_clashes : (entry : Content) (rows cols : ℕ) (text : List ℕ) (clash : Clash) → IsCertificateOf entry rows cols text → HasClash entry rows cols clash → ⊥
none_clashes entry rows cols text clash c h =
    let o = accepted_together rows cols text (string_at entry acsc) c.lines c.says in
    never_clashes entry rows cols h.table o.table (is_some (string_at entry acsc)) clash h.has o.rows_are
    (lines_agree entry rows cols text (λ t. GoesTogether (is_some (string_at entry acsc)) t) c o) h.is o.is

pub none_of_all : (entry : Content) (rows cols : ℕ) (text : List ℕ) (refusal : No) → IsCertificateOf entry rows cols text → IsOfAll entry rows cols refusal → ⊥
none_of_all entry rows cols text refusal c (AtSmacs p about h wrong) = none_clashes entry rows cols text (clashes.Smacs p.charset) c h
none_of_all entry rows cols text refusal c (AtRmacs p about h wrong) = none_clashes entry rows cols text (clashes.Rmacs p.charset) c h
none_of_all entry rows cols text refusal c (AtAcsc about h) = none_clashes entry rows cols text clashes.Acsc c h
none_of_all entry rows cols text refusal c (AtClear about h) = none_clashes entry rows cols text clashes.Clear c h
