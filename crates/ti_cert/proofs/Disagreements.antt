-- A disagreement that is found is true, and excludes that the certificate is the entry's.
use Rattle.std.proofs.Common.{◌≡◌, ◌<◌, ◌==◌, ◌&&◌, ◌||◌, ℕ, Bool, true, false, not, List, [], ◌∷◌, length, Option, None, Some, if◌then◌else◌, inl, inr, sym, ap, subst, ◌∙◌, arith, rules}
use Rattle.std.specs.Prelude.{is_some}
use Rattle.std.specs.List.{AllByRecursion, slice_get}
use Rattle.std.proofs.lemmas.Bool.{false≢true, or_cases, and_parts, eqb-true, cases_Bool}
use Rattle.ti_caps.specs.Entry as caps
use Rattle.ti_caps.specs.Entry.{flag_at, number_at, string_at}
use Rattle.ti_conforms.specs.Alternates.{Plain, letters, found, fallback_of}
use Rattle.ti_rows.specs.declared.rows.Row.{Row}
use Rattle.ti_rows.specs.declared.rows.Row.TheVariants.{Clear, Cup, Sgr0}
use Rattle.ti_rows.specs.Lists.{IsFirst, IsInRange, rank}
use Rattle.ti_rows.specs.Names.{order}
use Rattle.ti_conforms.specs.Agreement.{SomeLine}
use Rattle.ti_conforms.specs.Entries.{acsc, is_checked, has_string, EntrySends, LineAgrees, EntryAgrees, IsNotAgreed}
use Rattle.ti_conforms.specs.declared.agreement.Disagreement as sends
use Rattle.ti_conforms.specs.declared.agreement.Disagreement.TheVariants as other
use Rattle.ti_conforms.specs.Conforms.{IsFit, xmc, hc, gn, os}
use Rattle.ti_cert.specs.Strings.{Strings, allows, group_at, has_group, row_string}
use Rattle.ti_cert.specs.Table.{CheckedTable}
use Rattle.ti_conforms.specs.Unfit.{is_flag_out, IsRequired, HasMisfit, IsUnfit, cap_of_unfit}
use Rattle.ti_conforms.specs.declared.fitness.Unfit.{Unfit}
use Rattle.ti_conforms.specs.declared.fitness.Unfit.TheVariants.{FlagOut, Absent, AcsByte}
use Rattle.ti_cert.specs.Disagreements.{IsDisagreement, RuledOut, OtherPairs, OtherLine, IsDisagreeing, IsAtRow, IsAtCap, TextDisagrees}
use Rattle.ti_cert.specs.Texts.{IsTableOf}
use Rattle.ti_cert.specs.declared.faults.AgreeFault.{AgreeFault}
use Rattle.ti_cert.specs.declared.faults.AgreeFault.TheVariants.{Disagree, NoMemory}
use Rattle.ti_cert.proofs.GroupFacts.{if_true, there_some, first_string}
use Rattle.ti_cert.proofs.Ranges.{is_allowed}

-- ---- a disagreement that is found is true

-- a capability with a line has one for its first parameter list
first_there : (s : Strings) (row : Row) → IsFirst s.rows s.cols row → SomeLine (λ r. row_string s r) (order row) → (x : List ℕ) × (row_string s row ≡ Some x)
first_there s row first some =
    let there : has_group s some.row ≡ true = there_some s some.row some.bytes some.there in
    let x = first_string (group_at s (order row)) (ap (λ (n : ℕ). not (length (group_at s n) == 0)) (sym some.of_cap) ∙ there) in (
      x.0,
      if_true (allows s.rows s.cols row) (slice_get (group_at s (order row)) (rank s.rows s.cols row)) (is_allowed s.rows s.cols row first.range)
          ∙ (ap (λ (k : ℕ). slice_get (group_at s (order row)) k) first.rank_zero ∙ x.1),
    )

other_at : (table : CheckedTable) (entry : caps.Content) (row : Row) (fault : AgreeFault) → IsFit entry → table.acsc ≡ string_at entry acsc → IsAtRow row fault → IsInRange table.known.strings.rows table.known.strings.cols row
    → (LineAgrees entry (row_string table.known.strings row) row → ⊥) → IsDisagreeing table entry fault
other_at table entry row (Disagree cap numbers) fit pairs at range differs = OtherLine fit pairs (record { row = row; cap_is = at.0; params_are = at.1; range = range; differs = differs })
other_at table entry row NoMemory fit pairs at range differs = absurd at

sends_other : (table : CheckedTable) (entry : caps.Content) (rows cols : ℕ) (row : Row) (fault : AgreeFault) → IsFit entry → table.acsc ≡ string_at entry acsc → rows ≡ table.known.strings.rows → cols ≡ table.known.strings.cols → IsAtRow row fault
    → IsInRange rows cols row → is_checked entry row ≡ true → (EntrySends entry (row_string table.known.strings row) row → ⊥) → IsDisagreeing table entry fault
sends_other table entry rows cols row fault fit pairs r c at range checked differs =
    other_at table entry row fault fit pairs at (subst (λ (n : ℕ). IsInRange table.known.strings.rows n row) c (subst (λ (n : ℕ). IsInRange n cols row) r range)) (λ l. differs (l.checked checked))

sends_none : (table : CheckedTable) (entry : caps.Content) (rows cols : ℕ) (row : Row) (fault : AgreeFault) → IsFit entry → table.acsc ≡ string_at entry acsc → rows ≡ table.known.strings.rows → cols ≡ table.known.strings.cols → IsAtRow row fault
    → IsFirst rows cols row → is_checked entry row ≡ false → SomeLine (λ r. row_string table.known.strings r) (order row) → IsDisagreeing table entry fault
sends_none table entry rows cols row fault fit pairs r c at first unchecked some =
    let is_first : IsFirst table.known.strings.rows table.known.strings.cols row = subst (λ (n : ℕ). IsFirst table.known.strings.rows n row) c (subst (λ (n : ℕ). IsFirst n cols row) r first) in
    let x = first_there table.known.strings row is_first some in
    other_at table entry row fault fit pairs at is_first.range (λ l. let no : None ≡ Some x.0 = sym (l.unchecked unchecked) ∙ x.1 in cc no)

-- a line that differs is a disagreement
pub line_differs : (table : CheckedTable) (entry : caps.Content) (rows cols : ℕ) (e : sends.Disagreement) (row : Row) (fault : AgreeFault) → IsFit entry → table.acsc ≡ string_at entry acsc → rows ≡ table.known.strings.rows → cols ≡ table.known.strings.cols → IsAtRow row fault
    → e ≡ other.Disagree row → IsNotAgreed rows cols entry (λ r. row_string table.known.strings r) e → IsDisagreeing table entry fault
line_differs table entry rows cols e row fault fit pairs r c at is h =
    let f = subst (λ (x : sends.Disagreement). IsNotAgreed rows cols entry (λ r. row_string table.known.strings r) x) is h in
    sends_other table entry rows cols row fault fit pairs r c at f.0 f.1 f.2

pub line_unwanted : (table : CheckedTable) (entry : caps.Content) (rows cols : ℕ) (e : sends.Disagreement) (row : Row) (fault : AgreeFault) → IsFit entry → table.acsc ≡ string_at entry acsc → rows ≡ table.known.strings.rows → cols ≡ table.known.strings.cols → IsAtRow row fault
    → e ≡ other.Unwanted row → IsNotAgreed rows cols entry (λ r. row_string table.known.strings r) e → IsDisagreeing table entry fault
line_unwanted table entry rows cols e row fault fit pairs r c at is h =
    let f = subst (λ (x : sends.Disagreement). IsNotAgreed rows cols entry (λ r. row_string table.known.strings r) x) is h in
    sends_none table entry rows cols row fault fit pairs r c at f.0 f.1 f.2

pub unfit_at : (table : CheckedTable) (entry : caps.Content) (why : Unfit) (cap : ℕ) (fault : AgreeFault) → cap ≡ cap_of_unfit why → IsAtCap cap fault → IsUnfit entry why → IsDisagreeing table entry fault
unfit_at table entry why cap (Disagree named numbers) is at h = RuledOut why h (at.0 ∙ is) at.1
unfit_at table entry why cap NoMemory is at h = absurd at

pub pairs_at : (table : CheckedTable) (entry : caps.Content) (cap : ℕ) (fault : AgreeFault) → IsFit entry → IsAtCap cap fault → cap ≡ acsc → (table.acsc ≡ string_at entry acsc → ⊥) → IsDisagreeing table entry fault
pairs_at table entry cap (Disagree named numbers) fit at is differs = OtherPairs fit (at.0 ∙ is) differs at.1
pairs_at table entry cap NoMemory fit at is differs = absurd at

-- a disagreement of a text's table is one of the text
pub text_disagrees : (rows cols : ℕ) (text : List ℕ) (entry : caps.Content) (table : CheckedTable) (fault : AgreeFault) → table.known.strings.rows ≡ rows → table.known.strings.cols ≡ cols → IsTableOf rows cols text table
    → IsDisagreeing table entry fault → TextDisagrees rows cols text entry fault
text_disagrees rows cols text entry table fault r c made h = record { table = table; rows_are = r; cols_are = c; made = made; disagrees = h }

-- ---- a disagreement excludes a yes

none_there : (o : Option ℕ) → o ≡ None → is_some o ≡ true → ⊥
none_there None e h = false≢true h
none_there (Some n) e h = cc

pub flag_not_out : (entry : caps.Content) (cap : ℕ) → IsFit entry → is_flag_out entry cap ≡ true → ⊥
flag_not_out entry cap fit h = elim (or_cases ((cap == xmc) && is_some (number_at entry cap)) (((cap == hc) || ((cap == gn) || (cap == os))) && flag_at entry cap) h) [
  | inl a ↦ (let p = and_parts (cap == xmc) (is_some (number_at entry cap)) a in
      none_there (number_at entry cap) (ap (number_at entry) (eqb-true cap xmc p.0) ∙ fit.no_cookies) p.1)
  | inr a ↦ (let p = and_parts ((cap == hc) || ((cap == gn) || (cap == os))) (flag_at entry cap) a in
      let kept : (place : ℕ) → (cap == place) ≡ true → flag_at entry place ≡ false → ⊥ = λ place e none. false≢true (sym (ap (flag_at entry) (eqb-true cap place e) ∙ none) ∙ p.1) in
      elim (or_cases (cap == hc) ((cap == gn) || (cap == os)) p.0) [
        | inl e ↦ kept hc e fit.no_paper
        | inr f ↦ elim (or_cases (cap == gn) (cap == os) f) [ inl e ↦ kept gn e fit.no_generic | inr e ↦ kept os e fit.no_overstrike ]
      ])
]

pub none_lacking : (entry : caps.Content) (row : Row) → IsFit entry → IsRequired row → has_string entry row ≡ false → ⊥
none_lacking entry Clear fit r h = false≢true (sym h ∙ fit.clear)
none_lacking entry (Cup row col) fit r h = false≢true (sym h ∙ fit.cup)
none_lacking entry Sgr0 fit r h = false≢true (sym h ∙ fit.sgr0)
none_lacking entry _ fit r h = absurd r

letter_small : (ps : List Plain) (letter : ℕ) → AllByRecursion (λ (p : Plain). p.letter < 256) ps → is_some (found ps letter) ≡ true → letter < 256
letter_small [] letter h e = absurd (false≢true e)
letter_small (p ∷ ps) letter h e = elim (cases_Bool (p.letter == letter)) [
  | inl same ↦ omega (arith, h.0, eqb-true p.letter letter same)
  | inr other ↦ letter_small ps letter h.1 (sym (ap (λ (t : Bool). is_some (if t then Some p.byte else found ps letter)) other) ∙ e)
]

pub none_misfit : (entry : caps.Content) → IsFit entry → HasMisfit entry → ⊥
none_misfit entry fit m =
    let small : m.letter < 256 = letter_small letters m.letter (search (rules)) (and_parts (is_some (fallback_of m.letter)) _ m.misfit).0 in
    false≢true (sym (fit.partners m.pairs m.there m.letter small) ∙ m.misfit)

none_unfit : (entry : caps.Content) (why : Unfit) → IsFit entry → IsUnfit entry why → ⊥
none_unfit entry (FlagOut cap) fit h = flag_not_out entry cap fit h.1
none_unfit entry (Absent row) fit h = none_lacking entry row fit h.lacking.required h.lacking.absent
none_unfit entry AcsByte fit h = none_misfit entry fit h.1

pub excludes_yes : (table : CheckedTable) (entry : caps.Content) (cap : ℕ) (numbers : List ℕ) → IsDisagreement table entry cap numbers → IsFit entry → table.acsc ≡ string_at entry acsc
    → EntryAgrees table.known.strings.rows table.known.strings.cols entry (λ row. row_string table.known.strings row) → ⊥
excludes_yes table entry cap numbers (RuledOut why h is e) fit pairs lines = none_unfit entry why fit h
excludes_yes table entry cap numbers (OtherPairs f is differs e) fit pairs lines = differs pairs
excludes_yes table entry cap numbers (OtherLine f p h) fit pairs lines = h.differs (lines h.row h.range)
