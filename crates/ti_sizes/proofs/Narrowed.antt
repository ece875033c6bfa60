-- A judged table of the greatest size, with the lines that another size allows.
use Rattle.std.proofs.Common.{◌≡◌, inl, inr, ℕ, ◌-◌, Bool, true, false, if◌then◌else◌, List, [], ◌∷◌, ◌++◌, get_or, Option, Some, None, refl, sym, ap, subst, ◌∙◌, arith}
use Rattle.std.specs.Prelude.{is_some}
use Rattle.std.proofs.lemmas.Bool.{cases_Bool, false≢true}
use Rattle.std.proofs.lemmas.Option.{same_Some}
use Rattle.vt_term.specs.Size.{IsSize, max_rows, max_cols}
use Rattle.vt_term.proofs.Splits.{one_splitting}
use Rattle.vt_term.proofs.Sequences.{empty_open}
use Rattle.vt_effects.specs.declared.effects.Effect.{Effect}
use Rattle.vt_effects.specs.declared.effects.Sets.{Sets}
use Rattle.vt_effects.specs.declared.effects.Switch.TheVariants as switches
use Rattle.vt_effects.specs.Effect.{unchanged}
use Rattle.vt_effects.specs.Record.{record_of}
use Rattle.ti_caps.specs.Entry.{Content}
use Rattle.ti_rows.specs.declared.rows.Row.{Row}
use Rattle.ti_rows.specs.declared.rows.Row.TheVariants.{Csr, Sgr0, Smcup, Enacs, Rmacs}
use Rattle.ti_rows.specs.Asked.{start_of}
use Rattle.ti_rows.specs.Lists.{IsInRange}
use Rattle.ti_conforms.specs.Conforms.{IsFit}
use Rattle.ti_conforms.specs.Entries.{EntryAgrees, LineAgrees, is_checked}
use Rattle.ti_conforms.specs.Judged.{IsJudged, AskedLine, ChangesSets, NoLine, ByLine}
use Rattle.ti_conforms.specs.Table.{Table, has, widening, or_nothing, front_of, resync_of}
use Rattle.ti_conforms.proofs.Conformity.{agreed_conforms}
use Rattle.ti_conforms.proofs.Matches.{same_checked}
use Rattle.ti_cert.specs.Strings.{allows}
use Rattle.ti_cert.proofs.GroupFacts.{if_some, if_true}
use Rattle.ti_cert.proofs.Ranges.{in_range, is_allowed}
use Rattle.ti_sizes.specs.EverySize.{ConformsAtEverySize}
use Rattle.ti_sizes.specs.Lines.{AreSteady}
use Rattle.ti_sizes.specs.Steady.{IsSteady, IsSteadyText}
use Rattle.ti_sizes.proofs.StartFacts.{in_greatest}

abbrev pub line_within : ℕ → ℕ → Table → Row → Option (List ℕ)
line_within rows cols t row = if allows rows cols row then t.line_of row else None

abbrev pub narrowed : ℕ → ℕ → Table → Table
narrowed rows cols t = record {
  rows = rows;
  cols = cols;
  line_of = λ row. line_within rows cols t row;
  looks = t.looks;
  reached = t.reached;
  settled = t.settled;
  resync = resync_of rows (λ row. line_within rows cols t row);
  longest = t.longest;
}

-- the table is for the greatest size
pub record IsGreatest (t : Table) : Type 0 where
  pub rows : t.rows ≡ max_rows
  pub cols : t.cols ≡ max_cols

-- ---- a line

its_record : (t : Table) (row : Row) (bytes : List ℕ) → IsGreatest t → (l : AskedLine t row bytes) → record_of max_rows max_cols (start_of max_rows max_cols row) l.tokens ≡ Some l.effect
its_record t row bytes g l =
    ap (λ (n : ℕ). record_of n max_cols (start_of n max_cols row) l.tokens) (sym g.rows)
    ∙ (ap (λ (n : ℕ). record_of t.rows n (start_of t.rows n row) l.tokens) (sym g.cols) ∙ l.recorded)

its_steady : (t : Table) (row : Row) (bytes : List ℕ) → IsSteadyText row bytes → (l : AskedLine t row bytes) → IsSteady row l.tokens
its_steady t row bytes s l = subst (λ (ts : List (List ℕ)). IsSteady row ts) (sym (one_splitting bytes s.tokens l.tokens [] [] s.whole l.whole).0) s.steady

pub line_too : (t : Table) (rows cols : ℕ) (row : Row) (bytes : List ℕ) → IsGreatest t → IsSize rows cols → IsInRange rows cols row → IsSteadyText row bytes → AskedLine t row bytes → AskedLine (narrowed rows cols t) row bytes
line_too t rows cols row bytes g z range s l = record {
  tokens = l.tokens;
  whole = l.whole;
  effect = l.effect;
  recorded = its_steady t row bytes s l rows cols z range ∙ its_record t row bytes g l;
  asked_for = l.asked_for;
  stays = l.stays;
  settles = l.settles;
  active = l.active;
}

steady_there : (t : Table) (rows cols : ℕ) (row : Row) (bytes : List ℕ) → IsSize rows cols → IsInRange rows cols row → AreSteady t.line_of → t.line_of row ≡ Some bytes → IsSteadyText row bytes
steady_there t rows cols row bytes z range steady there = steady row (in_greatest rows cols row z range) bytes there

change_too : (t : Table) (rows cols : ℕ) (row : Row) (change : Option Sets) → IsGreatest t → IsSize rows cols → IsInRange rows cols row → line_within rows cols t row ≡ t.line_of row → AreSteady t.line_of → ChangesSets t row change
    → ChangesSets (narrowed rows cols t) row change
unfolding line_too
change_too t rows cols row change g z range same steady (NoLine none is) = NoLine (same ∙ none) is
change_too t rows cols row change g z range same steady (ByLine bytes there line is) =
    ByLine bytes (same ∙ there) (line_too t rows cols row bytes g z range (steady_there t rows cols row bytes z range steady there) line) is

-- ---- the bytes of a resynchronization begin alike

never_kept : switches.Kept ≡ switches.Off → ⊥
never_kept e = cc

-- no bytes at all don't make the rendition plain
some_bytes : (t : Table) → AskedLine t Sgr0 [] → ⊥
some_bytes t l =
    let none : l.tokens ≡ [] = (one_splitting [] [] l.tokens [] [] (refl, empty_open) l.whole).0 in
    let same : unchanged ≡ l.effect = same_Some unchanged l.effect (subst (λ (ts : List (List ℕ)). record_of t.rows t.cols (start_of t.rows t.cols Sgr0) ts ≡ Some l.effect) none l.recorded) in
    never_kept (ap (λ (e : Effect). e.rendition.bold) same ∙ ap (λ (e : Effect). e.rendition.bold) l.asked_for)

empty_left : (xs ys : List ℕ) → xs ++ ys ≡ [] → xs ≡ []
empty_left [] ys e = refl
empty_left (x ∷ xs) ys e = cc

empty_right : (xs ys : List ℕ) → xs ++ ys ≡ [] → ys ≡ []
empty_right [] ys e = e
empty_right (x ∷ xs) ys e = cc

front_there : (t : Table) → IsJudged t → front_of t.line_of ≡ [] → ⊥
front_there t j e =
    let none : or_nothing (t.line_of Sgr0) ≡ [] = empty_left (or_nothing (t.line_of Sgr0)) _ (empty_right _ _ e) in
    let bytes : j.sgr0_bytes ≡ [] = sym (ap or_nothing j.makes_plain) ∙ none in
    some_bytes t (subst (λ (b : List ℕ). AskedLine t Sgr0 b) bytes (j.lines Sgr0 j.sgr0_bytes j.makes_plain))

begins_alike : (front x y rest : List ℕ) → (front ≡ [] → ⊥) → front ++ x ≡ 27 ∷ rest → (more : List ℕ) × (front ++ y ≡ 27 ∷ more)
begins_alike [] x y rest some e = absurd (some refl)
begins_alike (b ∷ front) x y rest some e = (front ++ y, ap (λ (n : ℕ). n ∷ (front ++ y)) (ap (λ (l : List ℕ). get_or l 0 0) e))

escapes_too : (t : Table) (rows cols : ℕ) → (j : IsJudged t) → (more : List ℕ) × (resync_of rows (λ row. line_within rows cols t row) ≡ 27 ∷ more)
unfolding resync_of
escapes_too t rows cols j = begins_alike (front_of t.line_of) _ _ j.rest (front_there t j) j.escapes

-- ---- the line that widens the margins

some_within : (b : Bool) (o : Option (List ℕ)) → is_some (if b then o else None) ≡ true → (b ≡ true) × (is_some o ≡ true)
some_within true o h = (refl, h)
some_within false o h = absurd (false≢true h)

whole_range : (rows cols : ℕ) → IsSize rows cols → IsInRange rows cols (Csr 0 (rows - 1))
whole_range rows cols z = (omega (arith, z.0), omega (arith, z.0))

is_checked_there : (entry : Content) (line : Option (List ℕ)) (row : Row) → LineAgrees entry line row → is_some line ≡ true → is_checked entry row ≡ true
is_checked_there entry line row a some = elim (cases_Bool (is_checked entry row)) [
  | inl e ↦ e
  | inr e ↦ absurd (false≢true (sym (ap (λ (o : Option (List ℕ)). is_some o) (a.unchecked e)) ∙ some))
]

whole_there : (entry : Content) (t : Table) (rows cols : ℕ) (row : Row) → IsSize rows cols → EntryAgrees max_rows max_cols entry t.line_of → IsInRange max_rows max_cols row → is_some (t.line_of row) ≡ true
    → is_checked entry (Csr 0 (rows - 1)) ≡ is_checked entry row → is_some (line_within rows cols t (Csr 0 (rows - 1))) ≡ true
whole_there entry t rows cols row z agrees range some alike =
    let w = whole_range rows cols z in
    let c = is_checked_there entry (t.line_of row) row (agrees row range) some in
    let s = (agrees (Csr 0 (rows - 1)) (in_greatest rows cols (Csr 0 (rows - 1)) z w)).checked (alike ∙ c) in
    ap (λ (o : Option (List ℕ)). is_some o) (if_true (allows rows cols (Csr 0 (rows - 1))) (t.line_of (Csr 0 (rows - 1))) (is_allowed rows cols (Csr 0 (rows - 1)) w) ∙ s.sends.line_has)

widens_too : (entry : Content) (t : Table) (rows cols top bottom : ℕ) → IsSize rows cols → EntryAgrees max_rows max_cols entry t.line_of → has (narrowed rows cols t) (Csr top bottom) ≡ true
    → has (narrowed rows cols t) (widening (narrowed rows cols t)) ≡ true
widens_too entry t rows cols top bottom z agrees h =
    let b = some_within (allows rows cols (Csr top bottom)) (t.line_of (Csr top bottom)) h in
    let range = in_greatest rows cols (Csr top bottom) z (in_range rows cols (Csr top bottom) b.0) in
    whole_there entry t rows cols (Csr top bottom) z agrees range b.1 (same_checked entry (Csr 0 (rows - 1)) (Csr top bottom) refl)

-- ---- all lines

judged_line : (t : Table) (rows cols : ℕ) → IsGreatest t → IsSize rows cols → AreSteady t.line_of → IsJudged t → (row : Row) (bytes : List ℕ) → line_within rows cols t row ≡ Some bytes → AskedLine (narrowed rows cols t) row bytes
judged_line t rows cols g z steady j row bytes there =
    let b = if_some (allows rows cols row) (t.line_of row) bytes there in
    let range = in_range rows cols row b.0 in
    line_too t rows cols row bytes g z range (steady_there t rows cols row bytes z range steady b.1) (j.lines row bytes b.1)

pub judged_too : (entry : Content) (t : Table) (rows cols : ℕ) → IsGreatest t → IsSize rows cols → AreSteady t.line_of → EntryAgrees max_rows max_cols entry t.line_of → IsJudged t → IsJudged (narrowed rows cols t)
judged_too entry t rows cols g z steady agrees j = record {
  lines = λ row bytes there. judged_line t rows cols g z steady j row bytes there;
  clear_bytes = j.clear_bytes;
  clears = j.clears;
  sgr0_bytes = j.sgr0_bytes;
  makes_plain = j.makes_plain;
  widens = λ top bottom h. widens_too entry t rows cols top bottom z agrees h;
  changes = j.changes;
  smcup = change_too t rows cols Smcup j.changes.smcup g z tt refl steady j.smcup;
  enacs = change_too t rows cols Enacs j.changes.enacs g z tt refl steady j.enacs;
  sgr0 = change_too t rows cols Sgr0 j.changes.sgr0 g z tt refl steady j.sgr0;
  rmacs = change_too t rows cols Rmacs j.changes.rmacs g z tt refl steady j.rmacs;
  rest = (escapes_too t rows cols j).0;
  escapes = (escapes_too t rows cols j).1;
  quiet = j.quiet;
  starts = j.starts;
  first_settled = j.first_settled;
  settled_reached = j.settled_reached;
  plain = j.plain;
}

pub agrees_too : (entry : Content) (t : Table) (rows cols : ℕ) → IsSize rows cols → EntryAgrees max_rows max_cols entry t.line_of → EntryAgrees rows cols entry (narrowed rows cols t).line_of
agrees_too entry t rows cols z agrees row range =
    subst (λ (o : Option (List ℕ)). LineAgrees entry o row) (sym (if_true (allows rows cols row) (t.line_of row) (is_allowed rows cols row range))) (agrees row (in_greatest rows cols row z range))

pub at_greatest : (entry : Content) (t : Table) → IsGreatest t → EntryAgrees t.rows t.cols entry t.line_of → EntryAgrees max_rows max_cols entry t.line_of
at_greatest entry t g agrees =
    subst (λ (n : ℕ). EntryAgrees max_rows n entry t.line_of) g.cols (subst (λ (n : ℕ). EntryAgrees n t.cols entry t.line_of) g.rows agrees)

-- an entry whose lines for the greatest size are steady conforms at every size
pub everywhere : (entry : Content) (t : Table) → IsFit entry → IsGreatest t → IsJudged t → EntryAgrees t.rows t.cols entry t.line_of → AreSteady t.line_of → ConformsAtEverySize entry
everywhere entry t fit g j agrees steady rows cols z =
    let a = at_greatest entry t g agrees in
    agreed_conforms entry (narrowed rows cols t) fit (judged_too entry t rows cols g z steady a j) (agrees_too entry t rows cols z a)
