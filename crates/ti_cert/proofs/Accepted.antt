-- A certificate that verifies an entry makes it conform.
use Rattle.std.proofs.Common.{◌≡◌, ◌<◌, ℕ, List, Option, Some, None, IfSome, Result, Ok, Err, IfOk, Bor, sym, subst}
use Rattle.std.specs.Prelude.{option_copied}
use Rattle.vt_term.specs.Size.{IsSize}
use Rattle.ti_caps.specs.Entry.{Content}
use Rattle.ti_rows.specs.declared.rows.Row.{Row}
use Rattle.ti_rows.specs.declared.rows.Row.TheVariants.{Cnorm}
use Rattle.ti_conforms.specs.Table.{has}
use Rattle.ti_conforms.specs.Holds.{LineHolds}
use Rattle.ti_conforms.proofs.Cuts.{judged_holds}
use Rattle.ti_conforms.specs.Judged.{IsJudged}
use Rattle.ti_conforms.specs.Entries.{EntryAgrees}
use Rattle.ti_conforms.specs.Conforms.{IsFit, Conforms}
use Rattle.ti_conforms.proofs.Conformity.{agreed_conforms}
use Rattle.ti_conforms.proofs.Together.{agreed_stand_together}
use Rattle.ti_conforms.specs.Looks.{LooksStand}
use Rattle.ti_cert.specs.Strings.{row_string, total}
use Rattle.ti_cert.specs.Certificates.{limit}
use Rattle.ti_cert.specs.Table as tables
use Rattle.ti_cert.specs.Verified.{IsVerified, Resyncs}

pub verified : (entry : Content) (t : tables.CheckedTable) (rows cols : ℕ) → IsFit entry → IsJudged (tables.table_of t) → EntryAgrees t.known.strings.rows t.known.strings.cols entry (λ row. row_string t.known.strings row)
    → t.known.strings.rows ≡ rows → t.known.strings.cols ≡ cols → Conforms entry rows cols
verified entry t rows cols fit judged agrees r c =
    subst (λ (n : ℕ). Conforms entry rows n) c (subst (λ (n : ℕ). Conforms entry n t.known.strings.cols) r (agreed_conforms entry (tables.table_of t) fit judged agrees))

pub is_verified : (entry : Content) (t : tables.CheckedTable) (rows cols : ℕ) → IsSize rows cols → IsFit entry → IsJudged (tables.table_of t) → LooksStand (tables.table_of t)
    → EntryAgrees t.known.strings.rows t.known.strings.cols entry (λ row. row_string t.known.strings row) → t.known.strings.rows ≡ rows → t.known.strings.cols ≡ cols → total t.known.strings < limit → IsVerified t
is_verified entry t rows cols size fit judged looks agrees r c few = record {
  size = subst (λ (n : ℕ). IsSize n t.known.strings.cols) (sym r) (subst (λ (n : ℕ). IsSize rows n) (sym c) size);
  few = few;
  holds = judged_holds (tables.table_of t) judged;
  together = agreed_stand_together entry (tables.table_of t) fit agrees;
  looks = looks;
}

pub agrees_at : (entry : Content) (t : tables.CheckedTable) (rows cols : ℕ) → EntryAgrees t.known.strings.rows t.known.strings.cols entry (λ row. row_string t.known.strings row)
    → t.known.strings.rows ≡ rows → t.known.strings.cols ≡ cols → EntryAgrees rows cols entry (λ row. row_string t.known.strings row)
agrees_at entry t rows cols agrees r c =
    subst (λ (n : ℕ). EntryAgrees rows n entry (λ row. row_string t.known.strings row)) c (subst (λ (n : ℕ). EntryAgrees n t.known.strings.cols entry (λ row. row_string t.known.strings row)) r agrees)

-- a verified table's resynchronization leads from each lost state to a blank screen at rest
pub resyncs : (t : tables.CheckedTable) → IsVerified t → Resyncs (tables.table_of t)
resyncs t v s lost = v.holds.resyncs (has (tables.table_of t) Cnorm) s lost

pub line_right : (t : tables.CheckedTable) (row : Row) → IsVerified t → (o : Option (Bor (List ℕ))) → option_copied o ≡ (tables.table_of t).line_of row → IfSome o (λ b. LineHolds (tables.table_of t) row b.now)
line_right t row v None e = tt
line_right t row v (Some b) e = v.holds.lines row b.now (sym e)

pub at_ok : {X E : Type 0} (P : X → Type 0) (x : X) (r : Result X E) → IfOk r (λ y. y ≡ x) → P x → IfOk r P
at_ok P x (Ok y) e h = subst P (sym e) h
at_ok P x (Err e) h p = tt
