-- The table of a basic text has exactly what the basic entry sends.
use Rattle.std.proofs.Common.{◌≡◌, ◌&&◌, ℕ, Bool, true, false, List, map, reverse, Option, Some, None, Ok, inl, inr, refl, sym, ap, subst, ◌∙◌}
use Rattle.std.specs.Prelude.{is_some}
use Rattle.std.proofs.lemmas.Bool.{and_parts, false≢true}
use Rattle.vt_term.specs.Size.{IsSize}
use Rattle.ti_caps.specs.Entry.{Content}
use Rattle.ti_conforms.specs.Charsets.{IsAmong}
use Rattle.ti_rows.specs.declared.rows.Row.{Row}
use Rattle.ti_rows.specs.declared.rows.Row.TheVariants.{Clear, Cup, Home, El, Sgr0}
use Rattle.ti_rows.specs.Lists.{IsInRange}
use Rattle.ti_lines.specs.declared.row_lines.RowLine.{RowLine}
use Rattle.ti_conforms.specs.Entries.{has_string, is_checked, string_of, EntrySends}
use Rattle.ti_cert.specs.Strings.{row_string}
use Rattle.ti_cert.specs.Table as tables
use Rattle.ti_cert.specs.Order.{GivesBytes}
use Rattle.ti_cert.specs.Certificates.{Ended}
use Rattle.ti_cert.specs.Texts.{IsTableOf}
use Rattle.ti_cert.specs.Basic.{basic_bytes, basic_line, is_basic, basic_rows, basic_text_of, IsBasic, IsBasicTable, IsVerifyStopped, BasicAgrees}
use Rattle.ti_cert.specs.Disagreements.{IsDisagreeing}
use Rattle.ti_cert.specs.declared.faults.AgreeFault.{AgreeFault}
use Rattle.ti_cert.specs.declared.faults.AgreeFault.TheVariants.{Disagree, NoMemory}
use Rattle.ti_cert.specs.declared.faults.VerifyFault.{VerifyFault}
use Rattle.ti_cert.specs.declared.faults.VerifyFault.TheVariants.{Cert, Agree}
use Rattle.ti_lines.specs.Reader.{Rose}
use Rattle.ti_cert.proofs.Disagreements.{excludes_yes}
use Rattle.ti_cert.proofs.Relations.{not_rose}
use Rattle.ti_cert.proofs.Singleness.{one_answer, same_end}
use Rattle.ti_cert.proofs.BasicOrder.{Kind, IsClear, IsCup, IsEl, IsHome, IsSgr0, kind_of, each_there}
use Rattle.ti_cert.proofs.BasicTogether.{AreBasic}
use Rattle.ti_cert.proofs.BasicTexts.{basic_accepted, are_basic}

-- ---- the rows of a basic entry that are checked

-- the rows of its certificate
abbrev rows_of : Content → ℕ → ℕ → List Row
rows_of entry rows cols = basic_rows rows cols (has_string entry Home) (has_string entry El)

alone : (b : Bool) → b ≡ true → (b && true) ≡ true
alone b h = ap (λ (x : Bool). x && true) h

pub checked_kind : (entry : Content) (rows cols : ℕ) (row : Row) → IsBasic entry rows cols → Kind rows cols (has_string entry Home) (has_string entry El) row → is_checked entry row ≡ true
checked_kind entry rows cols row b (IsClear e) = rw e (alone (has_string entry Clear) b.fit.clear)
checked_kind entry rows cols row b (IsCup r c e h k) = rw e (alone (has_string entry (Cup 0 0)) b.fit.cup)
checked_kind entry rows cols row b (IsHome there e) = rw e (alone (has_string entry Home) there)
checked_kind entry rows cols row b (IsEl there e) = rw e (alone (has_string entry El) there)
checked_kind entry rows cols row b (IsSgr0 e) = rw e (alone (has_string entry Sgr0) b.fit.sgr0)

among_its : (entry : Content) (row : Row) → is_checked entry row ≡ true → is_basic true true row ≡ true → is_basic (has_string entry Home) (has_string entry El) row ≡ true
among_its entry Clear checked is = refl
among_its entry (Cup r c) checked is = refl
among_its entry Home checked is = (and_parts (has_string entry Home) true checked).0
among_its entry El checked is = (and_parts (has_string entry El) true checked).0
among_its entry Sgr0 checked is = refl
among_its entry _ checked is = cc

pub among_checked : (entry : Content) (rows cols : ℕ) (row : Row) → IsBasic entry rows cols → IsInRange rows cols row → is_checked entry row ≡ true → IsAmong (rows_of entry rows cols) row
among_checked entry rows cols row b range checked = each_there rows cols (has_string entry Home) (has_string entry El) row range (among_its entry row checked (b.only row checked))

-- ---- the table of its text

pub some_string : (o : Option (List ℕ)) → is_some o ≡ true → (x : List ℕ) × (o ≡ Some x)
some_string (Some x) h = (x, refl)
some_string None h = cc

pub no_string : (o : Option (List ℕ)) → ((x : List ℕ) → o ≡ Some x → ⊥) → o ≡ None
no_string None h = refl
no_string (Some x) h = absurd (h x refl)

pub table_for : BasicAgrees
table_for entry table t = record { fit = t.basic.fit; pairs = pairs.0 ∙ sym t.basic.no_pairs; agrees = λ row range. record { checked = checked row range; unchecked = unchecked row } }
  where
    lines : List RowLine
    lines = reverse (map basic_line (rows_of entry table.known.strings.rows table.known.strings.cols))

    pairs : (table.acsc ≡ None) × (t.made.lines ≡ lines)
    pairs = same_end table.acsc None t.made.lines lines (Ok (Ended table.acsc t.made.lines)) (Ok (Ended None lines)) refl refl
        (one_answer table.known.strings.rows table.known.strings.cols (basic_text_of entry table.known.strings.rows table.known.strings.cols) (Ok (Ended table.acsc t.made.lines)) (Ok (Ended None lines)) t.made.says
        (basic_accepted table.known.strings.rows table.known.strings.cols (has_string entry Home) (has_string entry El) t.size))

    are : AreBasic table.known.strings.rows table.known.strings.cols (has_string entry Home) (has_string entry El) lines
    are = are_basic table.known.strings.rows table.known.strings.cols (has_string entry Home) (has_string entry El)

    there : (row : Row) → IsAmong (rows_of entry table.known.strings.rows table.known.strings.cols) row → row_string table.known.strings row ≡ Some (basic_bytes row)
    there row among = t.made.kept (basic_line row) (subst (λ (l : List RowLine). IsAmong l (basic_line row)) (sym pairs.1) (are.all row among))

    checked : (row : Row) → IsInRange table.known.strings.rows table.known.strings.cols row → is_checked entry row ≡ true → EntrySends entry (row_string table.known.strings row) row
    checked row range on =
        let s = some_string (string_of entry row) (and_parts (has_string entry row) _ on).0 in
        record {
          string = s.0;
          there = s.1;
          sends = record { bytes = basic_bytes row; sends = t.basic.sends row range on s.0 s.1; line_has = there row (among_checked entry table.known.strings.rows table.known.strings.cols row t.basic range on) };
        }

    unchecked : (row : Row) → is_checked entry row ≡ false → row_string table.known.strings row ≡ None
    unchecked row off = no_string (row_string table.known.strings row) (λ bytes found.
        let h : GivesBytes lines row bytes = subst (λ (l : List RowLine). GivesBytes l row bytes) pairs.1 (t.made.found row bytes found) in
        let k = (are.each h.line h.among).0 in
        let on = checked_kind entry table.known.strings.rows table.known.strings.cols row t.basic (kind_of table.known.strings.rows table.known.strings.cols (has_string entry Home) (has_string entry El) row
        (subst (λ (r : Row). IsAmong (rows_of entry table.known.strings.rows table.known.strings.cols) r) h.of_row k)) in
        false≢true (sym off ∙ on))

-- ---- a basic entry and its table agree

abbrev IsOf : Content → tables.CheckedTable → ℕ → ℕ → Type 0
IsOf entry table rows cols = IsSize rows cols × IsBasic entry rows cols × IsTableOf rows cols (basic_text_of entry rows cols) table

pub basic_table_at : (entry : Content) (table : tables.CheckedTable) (rows cols : ℕ) → table.known.strings.rows ≡ rows → table.known.strings.cols ≡ cols → IsSize rows cols → IsBasic entry rows cols
    → IsTableOf rows cols (basic_text_of entry rows cols) table → IsBasicTable entry table
basic_table_at entry table rows cols r c size b made =
    let all : IsOf entry table rows cols = (size, b, made) in
    let own : IsOf entry table table.known.strings.rows table.known.strings.cols = subst (λ (n : ℕ). IsOf entry table n table.known.strings.cols) (sym r) (subst (λ (n : ℕ). IsOf entry table rows n) (sym c) all) in
    record { size = own.0; basic = own.1; made = own.2 }

pub none_disagrees : (entry : Content) (table : tables.CheckedTable) (fault : AgreeFault) → IsBasicTable entry table → IsDisagreeing table entry fault → fault ≡ NoMemory
none_disagrees entry table (Disagree cap numbers) t h = let f = table_for entry table t in absurd (excludes_yes table entry cap numbers.items h f.fit f.pairs f.agrees)
none_disagrees entry table NoMemory t h = refl

-- a slice never fails
pub verify_stopped : (fault : VerifyFault) → IsVerifyStopped (Rose 0 0) fault → IsVerifyStopped ⊥ fault
verify_stopped (Cert fault) (inl e) = inl e
verify_stopped (Cert fault) (inr e) = absurd (not_rose e.1)
verify_stopped (Agree fault) e = e
