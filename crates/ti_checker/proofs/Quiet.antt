-- `csr` and `clear` change no charset, if they stand.
use Rattle.std.proofs.Common.{◌≡◌, inl, inr, ℕ, ◌-◌, Bool, true, List, [], Some, refl, sym, ap, subst, ◌∙◌, arith}
use Rattle.std.proofs.lemmas.Bool.{and_parts, cases_Bool}
use Rattle.std.proofs.lemmas.Option.{same_Some, none-some}
use Rattle.vt_term.specs.Size.{IsSize}
use Rattle.vt_term.specs.Text.{Splits}
use Rattle.vt_term.specs.Screen.{State, Screen, Charset, reset_screen}
use Rattle.vt_term.specs.Step.{steps}
use Rattle.vt_term.proofs.Resets.{reset_is_screen}
use Rattle.vt_term.proofs.Runs.{runs_once, text_runs}
use Rattle.ti_caps.specs.Entry.{Content}
use Rattle.ti_conforms.specs.Charsets.{charset_over}
use Rattle.ti_rows.specs.declared.rows.Looks.{Looks}
use Rattle.ti_rows.specs.declared.rows.Row.{Row}
use Rattle.ti_rows.specs.declared.rows.Row.TheVariants.{Clear, Csr}
use Rattle.ti_rows.specs.Lists.{IsInRange}
use Rattle.ti_rows.specs.Looks.{learned}
use Rattle.ti_rows.specs.Names.{order}
use Rattle.ti_rows.specs.Right.{IsRight}
use Rattle.ti_rows.specs.Starts.{Starts, IsAny, IsFree}
use Rattle.ti_rows.specs.Wants.{Wants}
use Rattle.ti_conforms.specs.Entries.{is_checked}
use Rattle.ti_conforms.specs.Table.{Table, widening}
use Rattle.ti_conforms.proofs.Judgements.{over_steps}
use Rattle.ti_cert.specs.Seen.{KeepsSets}
use Rattle.ti_checker.specs.First.{SendsAsked}
use Rattle.ti_checker.specs.Kept.{KeptStand, is_sent, HasKept, OfAllKept}
use Rattle.ti_checker.proofs.Settled.{sent_line}
use Rattle.ti_checker.proofs.Together.{whole_screen}

-- ---- a start

abbrev pub start : ℕ → ℕ → Charset → State
start rows cols c = record { screen = record (reset_screen rows cols) { charset = c }; rest = [] }

starts_any : (rows cols : ℕ) (c : Charset) → IsSize rows cols → IsAny rows cols (start rows cols c).screen
starts_any rows cols c size = record {
  screen = reset_is_screen rows cols c size;
  rows_are = refl;
  cols_are = refl;
  tame = record { autowrap = refl; inserting = refl };
}

pub starts_free : (rows cols : ℕ) (c : Charset) → IsSize rows cols → IsFree rows cols (start rows cols c).screen
starts_free rows cols c size = record { any = starts_any rows cols c size; top = refl; bottom = omega (arith, size.0) }

-- ---- a line

record Line (rows cols : ℕ) (t : Table) (row : Row) : Type 0 where
  bytes : List ℕ
  there : t.line_of row ≡ Some bytes
  looks : Looks
  right : IsRight rows cols looks row bytes

line_at : (entry : Content) (rows cols : ℕ) (kept : ℕ → Bool) → KeptStand entry rows cols kept → (t : Table) → HasKept entry rows cols kept t → (row : Row) → IsInRange rows cols row → is_sent entry kept row ≡ true → Line rows cols t row
line_at entry rows cols kept stand t h row range sent =
    let own = (h.sends row range).sent sent in
    let on = and_parts (kept (order row)) (is_checked entry row) sent in
    let r : SendsAsked rows cols own.string row = stand row range on.0 on.1 own.string own.there in
    record { bytes = r.bytes; there = sent_line entry rows cols kept t h row own.string r.bytes range sent own.there r.is.sends; looks = learned row r.effect r.looks; right = r.right }

line_keeps : (rows cols : ℕ) (t : Table) (row : Row) (l : Line rows cols t row) (c : Charset) → Starts rows cols row (start rows cols c).screen
    → ((s u : Screen) → Wants l.looks row s u → u.charset ≡ s.charset) → charset_over l.right.tokens c ≡ c
line_keeps rows cols t row l c starts keeps =
    let s : State = start rows cols c in
    let e = l.right.ends s refl starts in
    let own = text_runs s l.bytes l.right.tokens refl l.right.whole in
    let same : e.after ≡ record { screen = steps l.right.tokens s.screen; rest = [] } = runs_once s (record { screen = steps l.right.tokens s.screen; rest = [] }) e.after l.bytes own e.runs in
    sym (over_steps l.right.tokens s.screen) ∙ (ap (λ (x : State). x.screen.charset) (sym same) ∙ keeps s.screen e.after.screen e.wanted)

row_keeps : (entry : Content) (rows cols : ℕ) (kept : ℕ → Bool) → KeptStand entry rows cols kept → (t : Table) → HasKept entry rows cols kept t → (row : Row) → IsInRange rows cols row → ((c : Charset) → Starts rows cols row (start rows cols c).screen)
    → ((l : Looks) (s u : Screen) → Wants l row s u → u.charset ≡ s.charset) → KeepsSets t row
row_keeps entry rows cols kept stand t h row range starts keeps bytes there = elim (cases_Bool (is_sent entry kept row)) [
  | inl sent ↦ (let l = line_at entry rows cols kept stand t h row range sent in
      let same : l.bytes ≡ bytes = same_Some l.bytes bytes (sym l.there ∙ there) in
      record {
        tokens = l.right.tokens;
        whole = subst (λ (b : List ℕ). Splits b l.right.tokens []) same l.right.whole;
        leads = λ c. line_keeps rows cols t row l c (starts c) (keeps l.looks);
      })
  | inr unsent ↦ absurd (none-some bytes (sym ((h.sends row range).unsent unsent) ∙ there))
]

pub csr_keeps : (entry : Content) (rows cols : ℕ) (kept : ℕ → Bool) → IsSize rows cols → KeptStand entry rows cols kept → OfAllKept entry rows cols kept (λ t. KeepsSets t (widening t))
csr_keeps entry rows cols kept size stand t h = subst (λ (n : ℕ). KeepsSets t (Csr 0 (n - 1))) (sym h.rows_are)
    (row_keeps entry rows cols kept stand t h (Csr 0 (rows - 1)) (whole_screen rows cols size) (λ c. starts_any rows cols c size) (λ l s u w. ap (λ (x : Screen). x.charset) w.others))

pub clear_keeps : (entry : Content) (rows cols : ℕ) (kept : ℕ → Bool) → IsSize rows cols → KeptStand entry rows cols kept → OfAllKept entry rows cols kept (λ t. KeepsSets t Clear)
clear_keeps entry rows cols kept size stand t h = row_keeps entry rows cols kept stand t h Clear tt (λ c. starts_free rows cols c size) (λ l s u w. ap (λ (x : Screen). x.charset) w)
