-- The table of what an entry sends, compared with that of an entry that conforms; and refusals about all strings
-- together.
use Rattle.std.proofs.Common.{◌≡◌, inl, inr, ◌&&◌, ℕ, ◌-◌, Bool, true, false, List, [], Option, None, Some, if◌then◌else◌, refl, sym, ap, subst, ◌∙◌}
use Rattle.std.specs.Prelude.{Result, Ok, Err, is_some}
use Rattle.std.proofs.lemmas.Bool.{false≢true, and_parts, cases_Bool}
use Rattle.std.proofs.lemmas.Option.{none-some, same_Some}
use Rattle.vt_term.specs.Size.{IsSize}
use Rattle.vt_term.specs.Screen.{State, Screen, Charset}
use Rattle.vt_term.specs.Step.{steps}
use Rattle.vt_term.proofs.Runs.{runs_once, text_runs}
use Rattle.vt_effects.specs.declared.effects.Sets.{Sets}
use Rattle.ti_conforms.specs.declared.reach.Reach.{Reach}
use Rattle.ti_conforms.proofs.Judgements.{over_steps}
use Rattle.ti_conforms.specs.declared.entries.Group.TheVariants as groups
use Rattle.ti_cert.specs.Clashes.{Misswitches, BeginsOpen, IsClash, GoesTogether}
use Rattle.ti_cert.specs.Seen.{AreSeen, IsFound}
use Rattle.ti_cert.specs.declared.clashes.Clash.{Clash}
use Rattle.ti_cert.specs.declared.clashes.Clash.TheVariants as clashes
use Rattle.ti_cert.specs.declared.clashes.Resync.{Resync}
use Rattle.ti_caps.specs.Entry.{Content, string_at}
use Rattle.ti_conforms.specs.Charsets.{IsAmong}
use Rattle.ti_lines.specs.declared.row_lines.RowLine.{RowLine}
use Rattle.ti_rows.specs.declared.rows.Looks.{Looks}
use Rattle.ti_rows.specs.declared.rows.Row.{Row}
use Rattle.ti_rows.specs.declared.rows.Row.TheVariants.{Clear, Csr, Smcup, Enacs, Sgr0, Smacs, Rmacs}
use Rattle.ti_rows.specs.Lists.{IsInRange}
use Rattle.ti_rows.specs.Starts.{Starts}
use Rattle.ti_rows.specs.Names.{order, capabilities}
use Rattle.ti_parm.specs.Meaning.{sent}
use Rattle.ti_parm.specs.declared.fault.ParmFault.{ParmFault}
use Rattle.ti_conforms.specs.Sends.{Sends, values}
use Rattle.ti_conforms.specs.Entries.{acsc, has_string, is_checked, string_of, meets, group_of, EntryAgrees, LineAgrees}
use Rattle.ti_conforms.specs.Table.{Table, no_lengths, or_nothing, text_of, widening, resync, Activates, resync_of}
use Rattle.ti_conforms.specs.Sets.{CanHave, AtReset, AfterToken, LeadsBy, CanSettle, AfterResync, AfterLine, has_sets}
use Rattle.ti_conforms.specs.Conforms.{Conforms, IsFit}
use Rattle.ti_conforms.specs.Looks.{no_looks}
use Rattle.ti_cert.specs.Strings.{allows}
use Rattle.ti_cert.proofs.Ranges.{in_range, is_allowed}
use Rattle.ti_checker.specs.Probes.{screen_of}
use Rattle.ti_checker.specs.declared.probes.Probe.{Probe}
use Rattle.ti_checker.specs.First.{EachStands, EachWritten, SendsAsked}
use Rattle.ti_checker.specs.Kept.{every, KeptStand, is_sent, IsLineKept, HasKept, OfKept, OfAllKept}
use Rattle.ti_checker.specs.Limit.{AreLines}
use Rattle.ti_checker.specs.No.{HasClash, AtSmacs, AtRmacs, AtAcsc, AtClear, IsNo, OfAll, IsToldAs}
use Rattle.ti_checker.specs.Switches.{HasSent, OfSent, OfAllSent, RunsWrong, IsSeen, RowChanges}
use Rattle.ti_checker.specs.declared.causes.No.{No}
use Rattle.ti_checker.proofs.Together.{whole_screen}
use Rattle.ti_checker.proofs.Quiet.{csr_keeps, clear_keeps}
use Rattle.ti_checker.proofs.Settled.{all_kept, all_seen, sent_line}

-- ---- two tables that agree with an entry

same_line : (entry : Content) (row : Row) (a b : Option (List ℕ)) → LineAgrees entry a row → LineAgrees entry b row → a ≡ b
same_line entry row a b f g = elim (cases_Bool (is_checked entry row)) [
  | inl checked ↦ (let s = f.checked checked in
      let t = g.checked checked in
      let same : s.string ≡ t.string = cc (s.there, t.there) in
      let sends : Sends t.string row s.sends.bytes = subst (λ (x : List ℕ). Sends x row s.sends.bytes) same s.sends.sends in
      let is : s.sends.bytes ≡ t.sends.bytes = cc (sends.sends, t.sends.sends.sends) in
      s.sends.line_has ∙ (ap (λ (x : List ℕ). Some x) is ∙ sym t.sends.line_has))
  | inr unchecked ↦ f.unchecked unchecked ∙ sym (g.unchecked unchecked)
]

same_resync : (a b : Table) → text_of a Smcup ≡ text_of b Smcup → text_of a Enacs ≡ text_of b Enacs → text_of a Sgr0 ≡ text_of b Sgr0 → text_of a Rmacs ≡ text_of b Rmacs → text_of a (widening a) ≡ text_of b (widening b) → text_of a Clear ≡ text_of b Clear
    → resync a ≡ resync b
unfolding resync_of
same_resync a b p q r s t u = cc (p, q, r, s, t, u)

resync_same : (entry : Content) (rows cols : ℕ) (a b : Table) → HasSent entry rows cols a → b.rows ≡ rows → EntryAgrees rows cols entry b.line_of → resync a ≡ resync b
resync_same entry rows cols a b h size sends = same_resync a b (same Smcup tt) (same Enacs tt) (same Sgr0 tt) (same Rmacs tt) wide (same Clear tt)
  where
    same : (row : Row) → IsInRange rows cols row → text_of a row ≡ text_of b row
    same row range = ap or_nothing (same_line entry row (a.line_of row) (b.line_of row) (h.sends row range) (sends row range))

    wide : text_of a (widening a) ≡ text_of b (widening b)
    wide = ap (λ (n : ℕ). text_of a (Csr 0 (n - 1))) h.rows_are ∙ (same (Csr 0 (rows - 1)) (whole_screen rows cols h.size) ∙ ap (λ (n : ℕ). text_of b (Csr 0 (n - 1))) (sym size))

line_there : (entry : Content) (rows cols : ℕ) (a b : Table) → HasSent entry rows cols a → EntryAgrees rows cols entry b.line_of → (row : Row) (bytes : List ℕ) → a.line_of row ≡ Some bytes → b.line_of row ≡ Some bytes
line_there entry rows cols a b h sends row bytes there =
    let range = h.only row bytes there in
    sym (same_line entry row (a.line_of row) (b.line_of row) (h.sends row range) (sends row range)) ∙ there

-- a charset that one table can reach or settle, the other can too
had_too : (entry : Content) (rows cols : ℕ) (a b : Table) → HasSent entry rows cols a → EntryAgrees rows cols entry b.line_of → (c : Charset) → CanHave a c → CanHave b c
had_too entry rows cols a b h sends c (AtReset _ e) = AtReset c e
had_too entry rows cols a b h sends d (AfterToken c _ token r o e) =
    AfterToken c d token (had_too entry rows cols a b h sends c r) (record { row = o.row; bytes = o.bytes; there = line_there entry rows cols a b h sends o.row o.bytes o.there; tokens = o.tokens; whole = o.whole; among = o.among }) e

settled_too : (entry : Content) (rows cols : ℕ) (a b : Table) → HasSent entry rows cols a → b.rows ≡ rows → EntryAgrees rows cols entry b.line_of → (c : Charset) → CanSettle a c → CanSettle b c
settled_too entry rows cols a b h size sends d (AfterResync c _ r l) =
    AfterResync c d (had_too entry rows cols a b h sends c r) (subst (λ (x : List ℕ). LeadsBy x c d) (resync_same entry rows cols a b h size sends) l)
settled_too entry rows cols a b h size sends d (AfterLine c _ row bytes s there keeps l) =
    AfterLine c d row bytes (settled_too entry rows cols a b h size sends c s) (line_there entry rows cols a b h sends row bytes there) keeps l

-- ---- a clash of one table is a clash of the other

misswitches_too : (entry : Content) (rows cols : ℕ) (a b : Table) → HasSent entry rows cols a → b.rows ≡ rows → EntryAgrees rows cols entry b.line_of → (row : Row) (c : Charset) → Misswitches a row c → Misswitches b row c
misswitches_too entry rows cols a b h size sends row c m = record {
  settles = settled_too entry rows cols a b h size sends c m.settles;
  bytes = m.bytes;
  there = line_there entry rows cols a b h sends row m.bytes m.there;
  after = m.after;
  leads = m.leads;
  inactive = m.inactive;
}

pub never_clashes : (entry : Content) (rows cols : ℕ) (a b : Table) (pairs : Bool) (clash : Clash) → HasSent entry rows cols a → b.rows ≡ rows → EntryAgrees rows cols entry b.line_of → IsClash pairs a clash → GoesTogether pairs b → ⊥
never_clashes entry rows cols a b pairs (clashes.Smacs c) h size sends m g = g.graphic c (misswitches_too entry rows cols a b h size sends Smacs c m)
never_clashes entry rows cols a b pairs (clashes.Rmacs c) h size sends m g = g.plain c (misswitches_too entry rows cols a b h size sends Rmacs c m.1)
never_clashes entry rows cols a b pairs clashes.Acsc h size sends m g = g.settles (record {
  unsent = sym (ap (λ (x : Bool). pairs && (x && is_some (a.line_of Rmacs))) (same Smacs tt) ∙ ap (λ (x : Bool). pairs && (is_some (b.line_of Smacs) && x)) (same Rmacs tt)) ∙ m.2.unsent;
  charset = m.2.charset;
  settles = settled_too entry rows cols a b h size sends m.2.charset m.2.settles;
  graphic = m.2.graphic;
})
  where
    same : (row : Row) → IsInRange rows cols row → is_some (a.line_of row) ≡ is_some (b.line_of row)
    same row range = ap (λ (o : Option (List ℕ)). is_some o) (same_line entry row (a.line_of row) (b.line_of row) (h.sends row range) (sends row range))
never_clashes entry rows cols a b pairs clashes.Clear h size sends m g = g.escapes (λ rest e. m.3 rest (resync_same entry rows cols a b h size sends ∙ e))

-- ---- an entry that conforms

both : (a b : Bool) → a ≡ true → b ≡ true → (a && b) ≡ true
both true b e f = f
both false b e f = cc

sets_checked : (entry : Content) → is_checked entry Smacs ≡ true → (is_checked entry Rmacs ≡ true) × (is_some (string_at entry acsc) ≡ true)
sets_checked entry checked =
    let m : meets entry groups.Sets ≡ true = (and_parts (has_string entry Smacs) (meets entry groups.Sets) checked).1 in
    let r = and_parts (has_string entry Rmacs) (is_some (string_at entry acsc)) (and_parts (has_string entry Smacs) (has_string entry Rmacs && is_some (string_at entry acsc)) m).1 in
    (both (has_string entry Rmacs) (meets entry groups.Sets) r.0 m, r.1)

pub line_some : (entry : Content) (rows cols : ℕ) (t : Table) → HasSent entry rows cols t → (row : Row) → IsInRange rows cols row → is_checked entry row ≡ true → is_some (t.line_of row) ≡ true
line_some entry rows cols t h row range checked = ap (λ (o : Option (List ℕ)). is_some o) ((h.sends row range).checked checked).sends.line_has

unsent_unchecked : (entry : Content) (rows cols : ℕ) (t : Table) → HasSent entry rows cols t → (is_some (string_at entry acsc) && has_sets t) ≡ false → is_checked entry Smacs ≡ false
unsent_unchecked entry rows cols t h off = elim (cases_Bool (is_checked entry Smacs)) [
  | inl checked ↦ (let k = sets_checked entry checked in
      absurd (false≢true (sym off ∙ both (is_some (string_at entry acsc)) (has_sets t) k.1
      (both (is_some (t.line_of Smacs)) (is_some (t.line_of Rmacs)) (line_some entry rows cols t h Smacs tt checked) (line_some entry rows cols t h Rmacs tt k.0)))))
  | inr unchecked ↦ unchecked
]

pub none_graphic : (entry : Content) (rows cols : ℕ) → Conforms entry rows cols → HasClash entry rows cols clashes.Acsc → ⊥
none_graphic entry rows cols c o =
    let g = o.is.2 in
    let s : CanSettle c.table g.charset = settled_too entry rows cols o.table c.table o.has c.rows_are c.sends g.charset g.settles in
    false≢true (sym (c.plain (unsent_unchecked entry rows cols o.table o.has g.unsent) g.charset s) ∙ g.graphic)

pub none_open : (entry : Content) (rows cols : ℕ) → Conforms entry rows cols → HasClash entry rows cols clashes.Clear → ⊥
none_open entry rows cols c o = o.is.3 c.resyncs.rest (resync_same entry rows cols o.table c.table o.has c.rows_are c.sends ∙ c.resyncs.escapes)

never_wrong : (entry : Content) (rows cols : ℕ) (c : Conforms entry rows cols) (row : Row) (p : Probe) → CanSettle c.table p.charset → OfSent entry rows cols (λ t. RunsWrong rows cols row p t) → ⊥
never_wrong entry rows cols c row p s o =
    let m = o.is in
    let start : State = record { screen = screen_of rows cols p; rest = [] } in
    let there : c.table.line_of row ≡ Some m.bytes = line_there entry rows cols o.table c.table o.has c.sends row m.bytes m.there in
    let starts : Starts c.table.rows c.table.cols row (screen_of rows cols p) =
    subst (λ (n : ℕ). Starts c.table.rows n row (screen_of rows cols p)) (sym c.cols_are) (subst (λ (n : ℕ). Starts n cols row (screen_of rows cols p)) (sym c.rows_are) m.starts) in
    let e = c.switches row m.bytes there start refl starts s in
    let same : e.after ≡ record { screen = m.after; rest = [] } = runs_once start (record { screen = m.after; rest = [] }) e.after m.bytes m.runs e.runs in
    m.inactive (subst (λ (x : State). Activates row x.screen.charset) same e.there)

pub none_at_smacs : (entry : Content) (rows cols : ℕ) → Conforms entry rows cols → (p : Probe) → HasClash entry rows cols (clashes.Smacs p.charset) → OfSent entry rows cols (λ t. RunsWrong rows cols Smacs p t) → ⊥
none_at_smacs entry rows cols c p h o = never_wrong entry rows cols c Smacs p (settled_too entry rows cols h.table c.table h.has c.rows_are c.sends p.charset h.is.settles) o

pub none_at_rmacs : (entry : Content) (rows cols : ℕ) → Conforms entry rows cols → (p : Probe) → HasClash entry rows cols (clashes.Rmacs p.charset) → OfSent entry rows cols (λ t. RunsWrong rows cols Rmacs p t) → ⊥
none_at_rmacs entry rows cols c p h o = never_wrong entry rows cols c Rmacs p (settled_too entry rows cols h.table c.table h.has c.rows_are c.sends p.charset h.is.1.settles) o

-- ---- if each row stands, there is a table of what the entry sends

bytes_of : Result (List ℕ) ParmFault → Option (List ℕ)
bytes_of (Ok bytes) = Some bytes
bytes_of (Err fault) = None

sent_for : Option (List ℕ) → Row → Option (List ℕ)
sent_for None row = None
sent_for (Some string) row = bytes_of (sent string (values row))

pub line_for : Content → ℕ → ℕ → (ℕ → Bool) → Row → Option (List ℕ)
line_for entry rows cols kept row = if allows rows cols row && is_sent entry kept row then sent_for (string_of entry row) row else None

some_there : (o : Option (List ℕ)) → is_some o ≡ true → (x : List ℕ) × (o ≡ Some x)
some_there (Some x) e = (x, refl)
some_there None e = absurd (false≢true e)

line_kept : (entry : Content) (rows cols : ℕ) (kept : ℕ → Bool) → KeptStand entry rows cols kept → (row : Row) → IsInRange rows cols row → IsLineKept entry kept (line_for entry rows cols kept row) row
unfolding line_for sent_for bytes_of
line_kept entry rows cols kept stand row range = record {
  sent = λ sent.
      let on = and_parts (kept (order row)) (is_checked entry row) sent in
      let s = some_there (string_of entry row) (and_parts (is_some (string_of entry row)) (meets entry (group_of row)) on.1).0 in
      let r : SendsAsked rows cols s.0 row = stand row range on.0 on.1 s.0 s.1 in
      record {
        string = s.0;
        there = s.1;
        sends = record {
          bytes = r.bytes;
          sends = r.is.sends;
          line_has =
              ap (λ (b : Bool). if b && is_sent entry kept row then sent_for (string_of entry row) row else None) (is_allowed rows cols row range)
              ∙ (ap (λ (b : Bool). if b then sent_for (string_of entry row) row else None) sent
              ∙ (ap (λ (o : Option (List ℕ)). sent_for o row) s.1 ∙ ap (λ x. bytes_of x) r.is.sends.sends));
        };
      };
  unsent = λ unsent.
      ap (λ (b : Bool). if b && is_sent entry kept row then sent_for (string_of entry row) row else None) (is_allowed rows cols row range)
      ∙ ap (λ (b : Bool). if b then sent_for (string_of entry row) row else None) unsent;
}

within : (a b : Bool) (o : Option (List ℕ)) (bytes : List ℕ) → (if a && b then o else None) ≡ Some bytes → a ≡ true
within true b o bytes h = refl
within false b o bytes h = absurd (none-some bytes h)

-- a table of what the entry sends for the kept capabilities, with looks and sets that the strings alone don't determine
abbrev pub kept_table : Content → ℕ → ℕ → (ℕ → Bool) → Looks → (Charset → Bool) → (Charset → Bool) → Table
kept_table entry rows cols kept looks reached settled = record {
  rows = rows;
  cols = cols;
  line_of = λ row. line_for entry rows cols kept row;
  looks = looks;
  reached = reached;
  settled = settled;
  resync = [];
  longest = no_lengths;
}

has_kept : (entry : Content) (rows cols : ℕ) (kept : ℕ → Bool) (looks : Looks) (reached settled : Charset → Bool) → IsSize rows cols → KeptStand entry rows cols kept → HasKept entry rows cols kept (kept_table entry rows cols kept looks reached settled)
unfolding line_for
has_kept entry rows cols kept looks reached settled size stand = record {
  size = size;
  rows_are = refl;
  sends = λ row range. line_kept entry rows cols kept stand row range;
  only = λ row bytes there. in_range rows cols row (within (allows rows cols row) (is_sent entry kept row) (sent_for (string_of entry row) row) bytes there);
}

pub of_kept : (entry : Content) (rows cols : ℕ) (kept : ℕ → Bool) (Is : Table → Type 0) → IsSize rows cols → KeptStand entry rows cols kept → OfAllKept entry rows cols kept Is → OfKept entry rows cols kept Is
of_kept entry rows cols kept Is size stand always =
    let t : Table = kept_table entry rows cols kept no_looks (λ c. false) (λ c. false) in
    let has : HasKept entry rows cols kept t = has_kept entry rows cols kept no_looks (λ c. false) (λ c. false) size stand in
    record { table = t; has = has; is = always t has }

-- the table of all that the entry sends
abbrev pub table_with : Content → ℕ → ℕ → Looks → (Charset → Bool) → (Charset → Bool) → Table
table_with entry rows cols looks reached settled = kept_table entry rows cols every looks reached settled

pub has_sent : (entry : Content) (rows cols : ℕ) (looks : Looks) (reached settled : Charset → Bool) → IsSize rows cols → EachStands entry rows cols → HasSent entry rows cols (table_with entry rows cols looks reached settled)
has_sent entry rows cols looks reached settled size stands =
    let h : HasKept entry rows cols every (table_with entry rows cols looks reached settled) = has_kept entry rows cols every looks reached settled size (λ row range on. stands row range) in
    record {
      size = size;
      rows_are = refl;
      sends = λ row range. record { checked = (h.sends row range).sent; unchecked = (h.sends row range).unsent };
      only = h.only;
    }

of_sent : (entry : Content) (rows cols : ℕ) (Is : Table → Type 0) → IsSize rows cols → EachStands entry rows cols → ((t : Table) → HasSent entry rows cols t → Is t) → OfSent entry rows cols Is
of_sent entry rows cols Is size stands always =
    let t : Table = table_with entry rows cols no_looks (λ c. false) (λ c. false) in
    let has : HasSent entry rows cols t = has_sent entry rows cols no_looks (λ c. false) (λ c. false) size stands in
    record { table = t; has = has; is = always t has }

-- among the lines there is one for the row with these bytes
pub record ItsLine (lines : List RowLine) (row : Row) (bytes : List ℕ) : Type 0 where
  pub line : RowLine
  pub among : IsAmong lines line
  pub of_row : line.row ≡ row
  pub bytes_are : line.bytes ≡ bytes

pub its_line : (entry : Content) (rows cols : ℕ) (lines : List RowLine) (t : Table) → HasSent entry rows cols t → AreLines entry rows cols (λ row. Unit {0}) lines → (row : Row) (bytes : List ℕ) → t.line_of row ≡ Some bytes → ItsLine lines row bytes
its_line entry rows cols lines t h are row bytes there =
    let range = h.only row bytes there in
    elim (cases_Bool (is_checked entry row)) [
      | inl checked ↦ (let l = are.all row range checked tt in
          let k = are.each l.line l.among in
          let own : t.line_of l.line.row ≡ Some l.line.bytes = sent_line entry rows cols every t (all_kept entry rows cols t h) l.line.row k.sent.sends.string l.line.bytes k.sent.range k.sent.checked k.sent.sends.there k.sent.sends.sends in
          record { line = l.line; among = l.among; of_row = l.of_row; bytes_are = same_Some l.line.bytes bytes (sym own ∙ (ap (λ (r : Row). t.line_of r) l.of_row ∙ there)) })
      | inr unchecked ↦ absurd (none-some bytes (sym ((h.sends row range).unchecked unchecked) ∙ there))
    ]

-- ---- refusals about all strings together

pub runs_wrong : (rows cols : ℕ) (row : Row) (p : Probe) (t : Table) → Starts rows cols row (screen_of rows cols p) → Misswitches t row p.charset → RunsWrong rows cols row p t
runs_wrong rows cols row p t starts m =
    let start : Screen = screen_of rows cols p in
    let charset : (steps m.leads.tokens start).charset ≡ m.after = over_steps m.leads.tokens start ∙ sym m.leads.is in
    record {
      bytes = m.bytes;
      there = m.there;
      starts = starts;
      after = steps m.leads.tokens start;
      runs = text_runs (record { screen = start; rest = [] }) m.bytes m.leads.tokens refl m.leads.whole;
      inactive = λ a. m.inactive (subst (λ (x : Charset). Activates row x) charset a);
    }

abbrev Clashes : Content → Clash → Table → Type 0
Clashes entry clash t = IsClash (is_some (string_at entry acsc)) t clash

pub no_told : (entry : Content) (rows cols : ℕ) (refusal : No) (clash : Clash) → IsSize rows cols → IsFit entry → EachWritten entry rows cols → IsToldAs rows cols refusal clash → OfAllSent entry rows cols (λ t. IsClash (is_some (string_at entry acsc)) t clash)
    → IsNo entry rows cols refusal
no_told entry rows cols refusal (clashes.Smacs c) size fit written told all =
    let p : Probe = told.0 in
    let at : OfAllSent entry rows cols (Clashes entry (clashes.Smacs p.charset)) = λ t h. subst (λ (x : Charset). Misswitches t Smacs x) (sym told.2) (all t h) in
    OfAll fit written (AtSmacs p told.1 (of_sent entry rows cols (Clashes entry (clashes.Smacs p.charset)) size written.stands at)
    (of_sent entry rows cols (λ t. RunsWrong rows cols Smacs p t) size written.stands (λ t h. runs_wrong rows cols Smacs p t told.3 (at t h))))
no_told entry rows cols refusal (clashes.Rmacs c) size fit written told all =
    let p : Probe = told.0 in
    let at : OfAllSent entry rows cols (Clashes entry (clashes.Rmacs p.charset)) = λ t h. ((all t h).0, subst (λ (x : Charset). Misswitches t Rmacs x) (sym told.2) (all t h).1) in
    OfAll fit written (AtRmacs p told.1 (of_sent entry rows cols (Clashes entry (clashes.Rmacs p.charset)) size written.stands at)
    (of_sent entry rows cols (λ t. RunsWrong rows cols Rmacs p t) size written.stands (λ t h. runs_wrong rows cols Rmacs p t told.3 (at t h).1)))
no_told entry rows cols refusal clashes.Acsc size fit written told all = OfAll fit written (AtAcsc told (of_sent entry rows cols (Clashes entry clashes.Acsc) size written.stands all))
no_told entry rows cols refusal clashes.Clear size fit written told all = OfAll fit written (AtClear told (of_sent entry rows cols (Clashes entry clashes.Clear) size written.stands all))

-- ---- the facts found of all strings hold of each table of what is sent

-- the changes found of the strings that lead out of an unknown state, and of `smacs`
pub record AreChanges (entry : Content) (rows cols : ℕ) (kept : ℕ → Bool) (r : Resync) (smacs : Option Sets) : Type 0 where
  pub smcup : RowChanges entry rows cols kept Smcup r.smcup
  pub enacs : RowChanges entry rows cols kept Enacs r.enacs
  pub sgr0 : RowChanges entry rows cols kept Sgr0 r.sgr0
  pub rmacs : RowChanges entry rows cols kept Rmacs r.rmacs
  pub smacs_is : RowChanges entry rows cols kept Smacs smacs

pub is_found : (entry : Content) (rows cols : ℕ) (kept : ℕ → Bool) (reach : Reach) (changes others : List Sets) (r : Resync) (smacs : Option Sets) (begins : Bool) → IsSize rows cols → KeptStand entry rows cols kept
    → IsSeen entry rows cols kept reach changes capabilities 0 → others ≡ changes → AreChanges entry rows cols kept r smacs
    → (begins ≡ true → OfAllKept entry rows cols kept (λ t. BeginsOpen t → ⊥)) → (begins ≡ false → OfAllKept entry rows cols kept (λ t. BeginsOpen t)) → OfAllKept entry rows cols kept (λ t. IsFound t reach others r smacs begins)
is_found entry rows cols kept reach changes others r smacs begins size stand s same a begun opened t h = record {
  seen = subst (λ (xs : List Sets). AreSeen t reach xs) (sym same) (all_seen entry rows cols kept reach changes s t h);
  smcup_is = a.smcup t h;
  enacs_is = a.enacs t h;
  sgr0_is = a.sgr0 t h;
  rmacs_is = a.rmacs t h;
  smacs_is = a.smacs_is t h;
  widens = csr_keeps entry rows cols kept size stand t h;
  clears = clear_keeps entry rows cols kept size stand t h;
  opens = λ off. opened off t h;
  begins = λ on. begun on t h;
}
