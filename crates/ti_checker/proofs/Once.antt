-- An entry has one list of notes at most.
use Rattle.std.proofs.Common.{◌≡◌, ℕ, List, [], ◌∷◌, ◌++◌, sym, ap, subst, ◌∙◌, inl, inr}
use Rattle.std.proofs.lemmas.Bool.{cases_Bool}
use Rattle.vt_term.specs.Text.{Splits}
use Rattle.vt_term.proofs.Splits.{one_splitting}
use Rattle.ti_caps.specs.Entry.{Content}
use Rattle.ti_rows.specs.declared.rows.Row.{Row}
use Rattle.ti_rows.specs.Names.{cap_of, firsts}
use Rattle.ti_conforms.specs.Entries.{is_checked}
use Rattle.ti_checker.specs.Notes.{SendsTokens, notes_of, StringNotes, RowNotes, RowsNotes, EntryNotes}
use Rattle.ti_checker.specs.declared.note_list.CheckNote.{CheckNote}

tokens_once : (string : List ℕ) (row : Row) (ts us : List (List ℕ)) → SendsTokens string row ts → SendsTokens string row us → us ≡ ts
tokens_once string row ts us a b =
    let same : b.bytes ≡ a.bytes = cc (a.sends.sends, b.sends.sends) in
    (one_splitting a.bytes ts us [] [] a.splits (subst (λ (x : List ℕ). Splits x us []) same b.splits)).0

string_once : (entry : Content) (row : Row) (ns ms : List CheckNote) → StringNotes entry row ns → StringNotes entry row ms → ms ≡ ns
string_once entry row ns ms a b =
    let same : b.string ≡ a.string = cc (a.there, b.there) in
    let tokens : b.tokens ≡ a.tokens = tokens_once a.string row a.tokens b.tokens a.sends (subst (λ (x : List ℕ). SendsTokens x row b.tokens) same b.sends) in
    b.ignored ∙ (ap (notes_of (cap_of row)) tokens ∙ sym a.ignored)

row_once : (entry : Content) (row : Row) (ns ms : List CheckNote) → RowNotes entry row ns → RowNotes entry row ms → ms ≡ ns
row_once entry row ns ms a b = elim (cases_Bool (is_checked entry row)) [
  | inl checked ↦ string_once entry row ns ms (a.checked checked) (b.checked checked)
  | inr unchecked ↦ b.unchecked unchecked ∙ sym (a.unchecked unchecked)
]

rows_once : (entry : Content) (rows : List Row) (ns ms : List CheckNote) → RowsNotes entry rows ns → RowsNotes entry rows ms → ms ≡ ns
unfolding RowsNotes
rows_once entry [] ns ms a b = b ∙ sym a
rows_once entry (row ∷ rows) ns ms a b =
    b.2 ∙ (ap (λ (l : List CheckNote). l ++ b.1) (row_once entry row a.0 b.0 a.3 b.3)
    ∙ (ap (λ (l : List CheckNote). a.0 ++ l) (rows_once entry rows a.1 b.1 a.4 b.4) ∙ sym a.2))

pub one_list : (entry : Content) (ns ms : List CheckNote) → EntryNotes entry ns → EntryNotes entry ms → ms ≡ ns
one_list entry ns ms a b = rows_once entry firsts ns ms a b
