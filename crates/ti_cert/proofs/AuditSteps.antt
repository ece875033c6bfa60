-- The judgement of a line, from the meaning of the lines before it.
use Rattle.std.proofs.Common.{◌≡◌, ◌⊎◌, ◌<◌, ◌≤◌, ◌+◌, ◌-◌, ◌==◌, ◌||◌, ℕ, Bool, true, false, not, get_or, if◌then◌else◌, List, [], ◌∷◌, length, replicate, take, drop, Option, Some, None, Result, Ok, Err, inl, inr, refl, sym, ap, subst, ◌∙◌, arith}
use Rattle.std.specs.List.{slice_get}
use Rattle.std.specs.Prelude.{is_some}
use Rattle.std.proofs.lemmas.List.{take-append-drop}
use Rattle.std.proofs.lemmas.Bool.{true≢false, eqb-true, or_cases}
use Rattle.std.proofs.lemmas.Option.{none-some, same_Some, slice_get_cases}
use Rattle.vt_term.specs.Size.{IsSize}
use Rattle.vt_term.specs.Text.{Splits, IsStuck, IsUnfinished}
use Rattle.vt_term.proofs.Splits.{one_splitting, splits_front}
use Rattle.vt_effects.specs.declared.effects.Effect.{Effect}
use Rattle.vt_effects.specs.declared.starts.Start.{Start}
use Rattle.vt_effects.specs.Record.{IsRecordOf, record_of}
use Rattle.ti_conforms.specs.Charsets.{IsAmong}
use Rattle.ti_conforms.specs.declared.closures.Charsets.{Charsets}
use Rattle.ti_rows.specs.declared.rows.Looks.{Looks}
use Rattle.ti_rows.specs.declared.rows.Row.{Row}
use Rattle.ti_rows.specs.declared.rows.Row.TheVariants.{Clear, Sgr0, Csr}
use Rattle.ti_rows.specs.Names.{order, capabilities}
use Rattle.ti_rows.specs.Lists.{IsInRange, rank}
use Rattle.ti_rows.specs.Looks.{learned}
use Rattle.ti_rows.specs.Asked.{start_of, asked}
use Rattle.ti_lines.specs.declared.row_lines.RowLine.{RowLine}
use Rattle.ti_lines.specs.Heads.{IsSizeText, IsAcscText, is_end}
use Rattle.ti_lines.specs.RowLines.{IsTextOf}
use Rattle.ti_cert.specs.Strings.{Strings, allows, group_at, row_string, has_group, total, Adds}
use Rattle.ti_cert.specs.Certificates.{missing_line, rival, Said, Nothing, Sized, Listing, Ended, speaks_of, looks_of, IsWholeText, IsMisfit, JudgesRow, Cut, Wild, Untrue, Unasked, Stands as RowStands, JudgesLast, Lacks, Clashes, Closes, JudgesLater, IsLast, IsRow, IsMisplaced, IsNone, JudgesSecond, HasPairs as SecondHasPairs, HasNoPairs as SecondHasNoPairs, HasSize, HasNoSize, JudgesLine}
use Rattle.ti_conforms.specs.Judged.{IsJudged}
use Rattle.ti_conforms.specs.Looks.{no_looks}
use Rattle.ti_cert.specs.Known.{Known, Holds, IsKept, HasRecord, looks_with}
use Rattle.ti_cert.specs.Table.{checked_of}
use Rattle.ti_cert.specs.Order.{Precedes, HasLine, HasCap, GivesBytes, IsRequiredLine, IsComplete, IsInPlace}
use Rattle.ti_cert.specs.Clashes.{IsClash, GoesTogether}
use Rattle.ti_cert.specs.Places.{missing, place_fault}
use Rattle.ti_cert.specs.Audits.{settled_of, Lists, IsLastRow, IsUpTo, Stands, Tells, Steps, Becomes, AnswersLine, AnswersLater, AnswersRow, AnswersLast, OrNoMemory, IsTokenFault, Misshows, NoRecord, Another, NotAsked, IsMisplacedBy, HasPairs, HasNoPairs, HasNoMemory, LacksRecord, NotSplit, NotRecorded, RanOut, LacksNeeded, NoClear, NoSgr0, NoWidening, IsConcluded, ConcludesBy, Lacking, Together, NoRoom}
use Rattle.ti_cert.specs.declared.audits.Progress.{Progress}
use Rattle.ti_cert.specs.declared.audits.Awaited.{Awaited}
use Rattle.ti_cert.specs.declared.audits.Awaited.TheVariants as lines_awaited
use Rattle.ti_cert.specs.declared.faults.CertFaultKind.{CertFaultKind}
use Rattle.ti_cert.specs.declared.faults.CertFaultKind.TheVariants.{BadLine, NoMemory}
use Rattle.ti_cert.proofs.Ranges.{is_allowed}
use Rattle.ti_cert.proofs.GroupFacts.{if_true, there_within, none_at_first, empty_group}
use Rattle.ti_cert.proofs.Order.{missing_at_end, complete_at_end}
use Rattle.ti_cert.proofs.PlaceFacts.{HasFirstLines, refusal, placed_wrong, placed_right}

-- tokens and records

pub not_unfinished : (text : List ℕ) (at : ℕ) → IsUnfinished text at → IsWholeText text → ⊥
not_unfinished text at u w =
    let e = one_splitting text w.tokens u.tokens [] u.rest w.splits u.splits in
    let z : length u.rest ≡ 0 = ap (λ (l : List ℕ). length l) e.1 in
    let s = u.some in
    omega (arith, s, z)

pub not_stuck : (text : List ℕ) (at : ℕ) → IsStuck text at → IsWholeText text → ⊥
not_stuck text at u w = u.fits_nothing (splits_front (take (at + 1) text) (drop (at + 1) text) w.tokens [] (subst (λ (l : List ℕ). Splits l w.tokens []) (sym (take-append-drop (at + 1) text)) w.splits))

pub not_asked : (k : Known) (row : Row) (stated : Effect) (tokens : List (List ℕ)) (kind : CertFaultKind) (effect : Effect) (looks : Looks)
    → record_of k.strings.rows k.strings.cols (start_of k.strings.rows k.strings.cols row) tokens ≡ Some effect → effect ≡ stated → looks ≡ looks_with k row effect
    → (effect ≡ asked looks row effect → ⊥) → IsMisfit row effect kind → Misshows k row stated tokens kind
not_asked k row stated tokens kind effect looks recorded same l never misfit = subst (λ (s : Effect). Misshows k row s tokens kind) same
    (NotAsked recorded (λ h. never (h ∙ ap (λ (x : Looks). asked x row effect) (sym l))) misfit)

pub not_split : (s : Strings) (row : Row) (bytes : List ℕ) (kind : CertFaultKind) → row_string s row ≡ Some bytes → IsTokenFault bytes kind → LacksRecord s kind
not_split s row bytes kind there (inl f) = NotSplit row bytes there f.1
not_split s row bytes kind there (inr e) = RanOut e

-- lines that were judged have records
pub no_lack : (k : Known) (pairs : Bool) (kind : CertFaultKind) → LacksRecord k.strings kind → Holds k → ConcludesBy k pairs kind
no_lack k pairs kind (RanOut e) h = NoRoom e
no_lack k pairs kind (NotSplit row bytes there never) h = let l : IsKept k h.all row bytes = h.lines row bytes there in absurd (never (record { tokens = l.tokens; splits = l.whole }))
no_lack k pairs kind (NotRecorded row bytes there tokens splits none) h =
    let l : IsKept k h.all row bytes = h.lines row bytes there in
    let same = one_splitting bytes tokens l.tokens [] [] splits l.whole in
    absurd (none-some l.effect (sym none ∙ (ap (λ (ts : List (List ℕ)). record_of k.strings.rows k.strings.cols (start_of k.strings.rows k.strings.cols row) ts) (sym same.0) ∙ l.has.recorded)))

pub no_lack_at : (k j : Known) (pairs : Bool) (kind : CertFaultKind) → j ≡ k → LacksRecord j.strings kind → Holds k → ConcludesBy k pairs kind
no_lack_at k j pairs kind is l h = no_lack k pairs kind (subst (λ (x : Known). LacksRecord x.strings kind) is l) h

pub unrecorded_at : (rows cols r q : ℕ) (st : Start) (row : Row) (ts us : List (List ℕ)) → None ≡ record_of r q st ts → r ≡ rows → q ≡ cols → st ≡ start_of r q row → ts ≡ us → record_of rows cols (start_of rows cols row) us ≡ None
unrecorded_at rows cols r q st row ts us h er eq es et = sym (h ∙ (ap (λ (s : Start). record_of r q s ts) es ∙ (ap (λ (x : List (List ℕ)). record_of r q (start_of r q row) x) et
    ∙ (ap (λ (n : ℕ). record_of n q (start_of n q row) us) er ∙ ap (λ (n : ℕ). record_of rows n (start_of rows n row) us) eq))))

-- answers

pub becomes_by : (p : Progress) (answer : Result Progress CertFaultKind) (J K : Result Said CertFaultKind → Type 0) → ((r : Result Said CertFaultKind) → J r → K r) → Becomes p answer J → Becomes p answer K
becomes_by p (Ok q) J K f s = record { after = s.after; judges = f (Ok s.after) s.judges; tells = s.tells; rows = s.rows; cols = s.cols }
becomes_by p (Err kind) J K f h = f (Err kind) h

or_by : (kind : CertFaultKind) (A B : Result Progress CertFaultKind → Type 0) → ((r : Result Progress CertFaultKind) → A r → B r) → OrNoMemory kind A → OrNoMemory kind B
or_by kind A B f (inl h) = inl (f (Err kind) h)
or_by kind A B f (inr e) = inr e

-- the first two lines

reawaited : (p : Progress) (s : Awaited) (lines : List RowLine) → Stands p lines → Stands (record p { awaited = s }) lines
reawaited p s lines st = record { rows = st.rows; cols = st.cols; holds = st.holds; lists = st.lists; place = st.place }

pub first_ok : (p : Progress) (text : List ℕ) → p.awaited ≡ lines_awaited.First → IsSizeText text p.size.rows p.size.cols → AnswersLine p text (Ok (record p { awaited = lines_awaited.Acsc }))
first_ok p text at is = λ said tells. by_awaited p.awaited at said tells
  where
    by_awaited : (s : Awaited) → s ≡ lines_awaited.First → (said : Said) → Tells p s said → Steps (record p { awaited = lines_awaited.Acsc }) p.size.rows p.size.cols (JudgesLine p.size.rows p.size.cols said text)
    by_awaited lines_awaited.First e Nothing t = record { after = Sized; judges = HasSize is refl; tells = (reawaited p lines_awaited.Acsc [] t.0, t.1); rows = refl; cols = refl }
    by_awaited lines_awaited.First e _ t = absurd t
    by_awaited _ e said t = cc

pub first_wrong : (p : Progress) (text : List ℕ) → p.awaited ≡ lines_awaited.First → (IsSizeText text p.size.rows p.size.cols → ⊥) → AnswersLine p text (Err BadLine)
first_wrong p text at never = λ said tells. by_awaited p.awaited at said tells
  where
    by_awaited : (s : Awaited) → s ≡ lines_awaited.First → (said : Said) → Tells p s said → JudgesLine p.size.rows p.size.cols said text (Err BadLine)
    by_awaited lines_awaited.First e Nothing t = HasNoSize never refl
    by_awaited lines_awaited.First e _ t = absurd t
    by_awaited _ e said t = cc

-- before the second line only the size is known
at_second : (p : Progress) (answer : Result Progress CertFaultKind) (text : List ℕ) → p.awaited ≡ lines_awaited.Acsc
    → (Stands p [] → p.acsc ≡ None → Becomes p answer (JudgesSecond p.size.rows p.size.cols text)) → AnswersLine p text answer
at_second p answer text at f = λ said tells. by_awaited p.awaited at said tells
  where
    by_awaited : (s : Awaited) → s ≡ lines_awaited.Acsc → (said : Said) → Tells p s said → Becomes p answer (JudgesLine p.size.rows p.size.cols said text)
    by_awaited lines_awaited.Acsc e Sized t = f t.0 t.1
    by_awaited lines_awaited.Acsc e _ t = absurd t
    by_awaited _ e said t = cc

pub second_pairs : (p q : Progress) (text bytes : List ℕ) → p.awaited ≡ lines_awaited.Acsc → IsAcscText text bytes → q ≡ record p { acsc = Some bytes; awaited = lines_awaited.Rows } → AnswersLine p text (Ok q)
second_pairs p q text bytes at is e = subst (λ (x : Progress). AnswersLine p text (Ok x)) (sym e) (at_second p (Ok (record p { acsc = Some bytes; awaited = lines_awaited.Rows })) text at (λ st none. record {
  after = Listing (Some bytes) [];
  judges = SecondHasPairs bytes is refl;
  tells = (record { rows = st.rows; cols = st.cols; holds = st.holds; lists = st.lists; place = st.place }, refl);
  rows = refl;
  cols = refl;
}))

-- without pairs the second line is judged as the lines after it
pub second_later : (p : Progress) (text : List ℕ) (answer : Result Progress CertFaultKind) → p.awaited ≡ lines_awaited.Acsc → ((bytes : List ℕ) → IsAcscText text bytes → ⊥) → AnswersLater (record p { awaited = lines_awaited.Rows }) text answer → AnswersLine p text answer
second_later p text answer at never h = at_second p answer text at (λ st none. onto answer (h None [] (reawaited p lines_awaited.Rows [] st) none))
  where
    onto : (a : Result Progress CertFaultKind) → Becomes (record p { awaited = lines_awaited.Rows }) a (JudgesLater p.size.rows p.size.cols None [] text) → Becomes p a (JudgesSecond p.size.rows p.size.cols text)
    onto (Ok q) s = record { after = s.after; judges = SecondHasNoPairs never s.judges; tells = s.tells; rows = s.rows; cols = s.cols }
    onto (Err kind) j = SecondHasNoPairs never j

pub second_refused : (p : Progress) (text : List ℕ) (kind : CertFaultKind) → p.awaited ≡ lines_awaited.Acsc → ((bytes : List ℕ) → IsAcscText text bytes → ⊥) → OrNoMemory kind (AnswersLater (record p { awaited = lines_awaited.Rows }) text) → OrNoMemory kind (AnswersLine p text)
second_refused p text kind at never h = or_by kind (AnswersLater (record p { awaited = lines_awaited.Rows }) text) (AnswersLine p text) (λ r a. second_later p text r at never a) h

-- the lines after the first two

pub later_line : (p : Progress) (text : List ℕ) (answer : Result Progress CertFaultKind) → p.awaited ≡ lines_awaited.Rows → AnswersLater p text answer → AnswersLine p text answer
later_line p text answer at h = λ said tells. by_awaited p.awaited at said tells
  where
    by_awaited : (s : Awaited) → s ≡ lines_awaited.Rows → (said : Said) → Tells p s said → Becomes p answer (JudgesLine p.size.rows p.size.cols said text)
    by_awaited lines_awaited.Rows e (Listing pairs lines) t = h pairs lines t.0 t.1
    by_awaited lines_awaited.Rows e _ t = absurd t
    by_awaited _ e said t = cc

pub later_refused : (p : Progress) (text : List ℕ) (kind : CertFaultKind) → p.awaited ≡ lines_awaited.Rows → OrNoMemory kind (AnswersLater p text) → OrNoMemory kind (AnswersLine p text)
later_refused p text kind at h = or_by kind (AnswersLater p text) (AnswersLine p text) (λ r a. later_line p text r at a) h

pub later_last : (p : Progress) (text : List ℕ) (answer : Result Progress CertFaultKind) → is_end text ≡ true → AnswersLast p answer → AnswersLater p text answer
later_last p text answer e h = λ pairs lines st pa. becomes_by p answer (JudgesLast p.size.rows p.size.cols pairs lines) (JudgesLater p.size.rows p.size.cols pairs lines text) (λ r j. IsLast e j) (h pairs lines st pa)

pub last_refused : (p : Progress) (text : List ℕ) (kind : CertFaultKind) → is_end text ≡ true → OrNoMemory kind (AnswersLast p) → OrNoMemory kind (AnswersLater p text)
last_refused p text kind e h = or_by kind (AnswersLast p) (AnswersLater p text) (λ r a. later_last p text r e a) h

-- the memory into which a line's bytes are read doesn't matter
reroomed : (p : Progress) (room : List ℕ) (lines : List RowLine) → Stands p lines → Stands (record p { room = room }) lines
reroomed p room lines st = record { rows = st.rows; cols = st.cols; holds = st.holds; lists = st.lists; place = st.place }

pub later_row : (p : Progress) (room text : List ℕ) (line : RowLine) (answer : Result Progress CertFaultKind) → is_end text ≡ false → IsTextOf text line → AnswersRow (record p { room = room }) line answer → AnswersLater p text answer
later_row p room text line answer e is h = λ pairs lines st pa. becomes_by p answer (JudgesRow p.size.rows p.size.cols lines line (Listing pairs (line ∷ lines))) (JudgesLater p.size.rows p.size.cols pairs lines text)
    (λ r j. IsRow e line is j) (onto pairs lines answer (h pairs lines (reroomed p room lines st) pa))
  where
    onto : (pairs : Option (List ℕ)) (lines : List RowLine) (a : Result Progress CertFaultKind) → Becomes (record p { room = room }) a (JudgesRow p.size.rows p.size.cols lines line (Listing pairs (line ∷ lines)))
        → Becomes p a (JudgesRow p.size.rows p.size.cols lines line (Listing pairs (line ∷ lines)))
    onto pairs lines (Ok q) s = s
    onto pairs lines (Err kind) j = j

pub row_refused : (p : Progress) (room text : List ℕ) (line : RowLine) (kind : CertFaultKind) → is_end text ≡ false → IsTextOf text line → OrNoMemory kind (AnswersRow (record p { room = room }) line) → OrNoMemory kind (AnswersLater p text)
row_refused p room text line kind e is h = or_by kind (AnswersRow (record p { room = room }) line) (AnswersLater p text) (λ r a. later_row p room text line r e is a) h

pub later_none : (p : Progress) (text : List ℕ) (kind : CertFaultKind) → is_end text ≡ false → ((line : RowLine) → IsTextOf text line → ⊥) → IsMisplacedBy text kind → OrNoMemory kind (AnswersLater p text)
later_none p text kind e none (HasPairs bytes is k) = inl (λ pairs lines st pa. IsMisplaced e none bytes is (ap (λ (x : CertFaultKind). refusal x) k))
later_none p text kind e none (HasNoPairs never k) = inl (λ pairs lines st pa. IsNone e none never (ap (λ (x : CertFaultKind). refusal x) k))
later_none p text kind e none (HasNoMemory k) = inr k

-- the last line

is_no_memory : (kind : CertFaultKind) → (kind ≡ NoMemory) ⊎ (kind ≡ NoMemory → ⊥)
is_no_memory NoMemory = inl refl
is_no_memory _ = inr (λ e. cc)

pub last_lacks : (p : Progress) (row : Row) → Some row ≡ missing p.size.rows p.size.cols p.place.last capabilities → AnswersLast p (Err (missing_line row))
last_lacks p row e = λ pairs lines st pa. Lacks row (missing_at_end p.size.rows p.size.cols lines p.place.last row p.size.limits st.place (sym e)) refl

pub has_cap : (lines : List RowLine) (row other : Row) → order row ≡ order other → speaks_of lines row ≡ true → HasCap lines other
has_cap [] row other same e = absurd (true≢false (sym e))
has_cap (line ∷ lines) row other same e = by_cases (has_cap lines row other same) (or_cases (order row == order line.row) (speaks_of lines row) e)
  where
    by_cases : (speaks_of lines row ≡ true → HasCap lines other) → ((order row == order line.row) ≡ true) ⊎ (speaks_of lines row ≡ true) → HasCap (line ∷ lines) other
    by_cases later (inl f) = record { line = line; among = inl refl; of_cap = sym (eqb-true (order row) (order line.row) f) ∙ same }
    by_cases later (inr f) = let c = later f in record { line = c.line; among = inr c.among; of_cap = c.of_cap }

-- the lines that must be there are there if none is missing
has_needed : (p : Progress) (lines : List RowLine) (kind : CertFaultKind) → Stands p lines → IsComplete p.size.rows p.size.cols lines None → LacksNeeded p.known.strings kind → ⊥
has_needed p lines kind st complete (NoClear none) = complete Clear (record { range = tt; absent = absent; before = tt; due = inl (inl refl) })
  where
    absent : HasLine lines Clear → ⊥
    absent h = none-some h.line.bytes (sym none ∙ (ap (λ (r : Row). row_string p.known.strings r) (sym h.of_row) ∙ st.lists.kept h.line h.among))
has_needed p lines kind st complete (NoSgr0 none) = complete Sgr0 (record { range = tt; absent = absent; before = tt; due = inl (inr (inr refl)) })
  where
    absent : HasLine lines Sgr0 → ⊥
    absent h = none-some h.line.bytes (sym none ∙ (ap (λ (r : Row). row_string p.known.strings r) (sym h.of_row) ∙ st.lists.kept h.line h.among))
has_needed p lines kind st complete (NoWidening some none) = complete (Csr 0 (p.known.strings.rows - 1)) (record { range = range; absent = absent; before = tt; due = inr (inl (has_cap lines (Csr 0 1) (Csr 0 (p.known.strings.rows - 1)) refl (sym (st.lists.groups (Csr 0 1)) ∙ some))) })
  where
    range : (0 < p.known.strings.rows - 1) × (p.known.strings.rows - 1 < p.size.rows)
    range = let two = p.size.limits.0 in let r : p.known.strings.rows ≡ p.size.rows = st.rows in (omega (arith, two, r), omega (arith, two, r))

    absent : HasLine lines (Csr 0 (p.known.strings.rows - 1)) → ⊥
    absent h = none-some h.line.bytes (sym none ∙ (ap (λ (r : Row). row_string p.known.strings r) (sym h.of_row) ∙ st.lists.kept h.line h.among))

pub last_clashes : (p : Progress) (kind : CertFaultKind) (has_pairs : Bool) → has_pairs ≡ is_some p.acsc → None ≡ missing p.size.rows p.size.cols p.place.last capabilities → (Holds p.known → ConcludesBy p.known has_pairs kind) → OrNoMemory kind (AnswersLast p)
last_clashes p kind has_pairs same none h = by_kind (is_no_memory kind)
  where
    by_why : (lines : List RowLine) (pairs : Option (List ℕ)) → (kind ≡ NoMemory → ⊥) → Stands p lines → p.acsc ≡ pairs → IsComplete p.size.rows p.size.cols lines None → ConcludesBy p.known (is_some p.acsc) kind
        → JudgesLast p.size.rows p.size.cols pairs lines (Err kind)
    by_why lines pairs never st pa complete (Lacking l) = absurd (has_needed p lines kind st complete l)
    by_why lines pairs never st pa complete (Together settled clash t e) = Clashes complete clash (record {
      table = checked_of p.known settled;
      rows_are = st.rows;
      cols_are = st.cols;
      found = st.lists.found;
      kept = st.lists.kept;
      is = subst (λ (o : Option (List ℕ)). IsClash (is_some o) (checked_of p.known settled) clash) pa t;
    }) (ap (λ (k : CertFaultKind). Err k) e)
    by_why lines pairs never st pa complete (NoRoom e) = absurd (never e)

    by_kind : (kind ≡ NoMemory) ⊎ (kind ≡ NoMemory → ⊥) → OrNoMemory kind (AnswersLast p)
    by_kind (inl e) = inr e
    by_kind (inr never) = inl (λ pairs lines st pa. by_why lines pairs never st pa (complete_at_end p.size.rows p.size.cols lines p.place.last p.size.limits st.place (sym none)) (subst (λ (b : Bool). ConcludesBy p.known b kind) same (h st.holds)))

pub last_closes : (p : Progress) (settled : Charsets) (has_pairs : Bool) → has_pairs ≡ is_some p.acsc → None ≡ missing p.size.rows p.size.cols p.place.last capabilities → (Holds p.known → IsConcluded p.known has_pairs settled)
    → AnswersLast p (Ok (record p { awaited = lines_awaited.Ended settled }))
last_closes p settled has_pairs same none concluded = λ pairs lines st pa. record {
  after = Ended pairs lines;
  judges = Closes (complete_at_end p.size.rows p.size.cols lines p.place.last p.size.limits st.place (sym none)) (record {
    table = checked_of p.known settled;
    rows_are = st.rows;
    cols_are = st.cols;
    found = st.lists.found;
    kept = st.lists.kept;
    is = subst (λ (b : Bool). GoesTogether b (checked_of p.known settled)) (same ∙ ap (λ (o : Option (List ℕ)). is_some o) pa) (concluded st.holds).together;
  }) refl;
  tells = (reawaited p (lines_awaited.Ended settled) lines st, pa, (concluded st.holds).judged);
  rows = refl;
  cols = refl;
}

-- a line about a capability

-- a property of a size is one of an equal size
pub sized : (P : ℕ → ℕ → Type 0) (a b c d : ℕ) → a ≡ c → b ≡ d → P a b → P c d
sized P a b c d e f h = subst (λ (n : ℕ). P n d) e (subst (λ (n : ℕ). P a n) f h)

-- the lines of a capability are its first ones, as many as it has strings
first_lines : (k : Known) (lines : List RowLine) (row : Row) → Lists k lines → HasFirstLines k.strings.rows k.strings.cols lines row (length (group_at k.strings (order row)))
first_lines k lines row l = record { there = there; below = below }
  where
    there : (other : Row) → IsInRange k.strings.rows k.strings.cols other → order other ≡ order row → rank k.strings.rows k.strings.cols other < length (group_at k.strings (order row)) → HasLine lines other
    there other range same lt = by_string (slice_get_cases (group_at k.strings (order row)) (rank k.strings.rows k.strings.cols other)).1
      where
        by_string : ((x : List ℕ) × (rank k.strings.rows k.strings.cols other < length (group_at k.strings (order row))) × (slice_get (group_at k.strings (order row)) (rank k.strings.rows k.strings.cols other) ≡ Some x)
            × (get_or (group_at k.strings (order row)) (rank k.strings.rows k.strings.cols other) x ≡ x))
            ⊎ ((length (group_at k.strings (order row)) ≤ rank k.strings.rows k.strings.cols other) × (slice_get (group_at k.strings (order row)) (rank k.strings.rows k.strings.cols other) ≡ None)) → HasLine lines other
        by_string (inl h) =
            let is : row_string k.strings other ≡ Some h.0 = if_true (allows k.strings.rows k.strings.cols other) (slice_get (group_at k.strings (order other)) (rank k.strings.rows k.strings.cols other)) (is_allowed k.strings.rows k.strings.cols other range)
            ∙ (ap (λ (n : ℕ). slice_get (group_at k.strings n) (rank k.strings.rows k.strings.cols other)) same ∙ h.2) in
            let f = l.found other h.0 is in record { line = f.line; among = f.among; of_row = f.of_row }
        by_string (inr h) = let g = h.0 in absurd (omega (arith, g, lt))

    below : (other : Row) → HasLine lines other → order other ≡ order row → rank k.strings.rows k.strings.cols other < length (group_at k.strings (order row))
    below other h same = subst (λ (n : ℕ). rank k.strings.rows k.strings.cols other < length (group_at k.strings n)) same
        (there_within k.strings other h.line.bytes (ap (λ (r : Row). row_string k.strings r) (sym h.of_row) ∙ l.kept h.line h.among))

abbrev pub fault_in_place : Progress → Row → Option CertFaultKind
fault_in_place p row = place_fault p.known.strings.rows p.known.strings.cols p.place.last (length (group_at p.known.strings (order row))) row

size_is : (p : Progress) (lines : List RowLine) → Stands p lines → IsSize p.known.strings.rows p.known.strings.cols
size_is p lines st = sized IsSize p.size.rows p.size.cols p.known.strings.rows p.known.strings.cols (sym st.rows) (sym st.cols) p.size.limits

place_is : (p : Progress) (lines : List RowLine) → Stands p lines → IsUpTo p.known.strings.rows p.known.strings.cols lines p.place.last
place_is p lines st = sized (λ r c. IsUpTo r c lines p.place.last) p.size.rows p.size.cols p.known.strings.rows p.known.strings.cols (sym st.rows) (sym st.cols) st.place

in_place : (p : Progress) (lines : List RowLine) (row : Row) → Stands p lines → fault_in_place p row ≡ None → IsInPlace p.size.rows p.size.cols lines row
in_place p lines row st none = sized (λ r c. IsInPlace r c lines row) p.known.strings.rows p.known.strings.cols p.size.rows p.size.cols st.rows st.cols
    (placed_right p.known.strings.rows p.known.strings.cols lines p.place.last row (length (group_at p.known.strings (order row))) (size_is p lines st) (place_is p lines st) (first_lines p.known lines row st.lists) none)

pub row_misplaced : (p : Progress) (line : RowLine) (kind : CertFaultKind) → fault_in_place p line.row ≡ Some kind → AnswersRow p line (Err kind)
row_misplaced p line kind e = λ pairs lines st pa. sized (λ r c. JudgesRow r c lines line (Listing pairs (line ∷ lines)) (Err kind)) p.known.strings.rows p.known.strings.cols p.size.rows p.size.cols st.rows st.cols
    (placed_wrong p.known.strings.rows p.known.strings.cols lines p.place.last line (length (group_at p.known.strings (order line.row))) (Listing pairs (line ∷ lines)) kind (size_is p lines st) (place_is p lines st)
    (first_lines p.known lines line.row st.lists) e)

pub row_cut : (p : Progress) (line : RowLine) (kind : CertFaultKind) → fault_in_place p line.row ≡ None → IsTokenFault line.bytes kind → OrNoMemory kind (AnswersRow p line)
row_cut p line kind none (inl f) = inl (λ pairs lines st pa. Cut (in_place p lines line.row st none) f.1 (ap (λ (x : CertFaultKind). refusal x) f.0))
row_cut p line kind none (inr e) = inr e

-- the looks with a line's are those of the lines with that line
looks_more : (k : Known) (lines : List RowLine) (line : RowLine) → Lists k lines → looks_with k line.row line.effect ≡ looks_of (line ∷ lines)
looks_more k lines line l =
    ap (λ (b : Bool). if b then k.looks else learned line.row line.effect k.looks) (l.groups (rival line.row))
    ∙ ap (λ (x : Looks). if speaks_of lines (rival line.row) then x else learned line.row line.effect x) l.looks

recorded_as : (p : Progress) (lines : List RowLine) (line : RowLine) (tokens : List (List ℕ)) (o : Option Effect) → Stands p lines → record_of p.known.strings.rows p.known.strings.cols (start_of p.known.strings.rows p.known.strings.cols line.row) tokens ≡ o
    → record_of p.size.rows p.size.cols (start_of p.size.rows p.size.cols line.row) tokens ≡ o
recorded_as p lines line tokens o st h = sized (λ r c. record_of r c (start_of r c line.row) tokens ≡ o) p.known.strings.rows p.known.strings.cols p.size.rows p.size.cols st.rows st.cols h

pub row_misshows : (p : Progress) (line : RowLine) (tokens : List (List ℕ)) (kind : CertFaultKind) → fault_in_place p line.row ≡ None → Splits line.bytes tokens [] → Misshows p.known line.row line.effect tokens kind → AnswersRow p line (Err kind)
row_misshows p line tokens kind none splits m = λ pairs lines st pa. by_why pairs lines st m
  where
    by_why : (pairs : Option (List ℕ)) (lines : List RowLine) → Stands p lines → Misshows p.known line.row line.effect tokens kind → JudgesRow p.size.rows p.size.cols lines line (Listing pairs (line ∷ lines)) (Err kind)
    by_why pairs lines st (NoRecord unrecorded k) =
        Wild (in_place p lines line.row st none) (record { tokens = tokens; splits = splits; unrecorded = recorded_as p lines line tokens None st unrecorded }) (ap (λ (x : CertFaultKind). refusal x) k)
    by_why pairs lines st (Another effect recorded never k) =
        Untrue (in_place p lines line.row st none) effect (record { tokens = tokens; splits = splits; recorded = recorded_as p lines line tokens (Some effect) st recorded }) never (ap (λ (x : CertFaultKind). refusal x) k)
    by_why pairs lines st (NotAsked recorded never misfit) =
        Unasked (in_place p lines line.row st none) (record { tokens = tokens; splits = splits; recorded = recorded_as p lines line tokens (Some line.effect) st recorded })
        (λ h. never (h ∙ ap (λ (l : Looks). asked l line.row line.effect) (sym (looks_more p.known lines line st.lists)))) kind misfit refl

-- the strings with one more are those of the lines with one more
lists_more : (k : Known) (lines : List RowLine) (line : RowLine) (new : Known) → Lists k lines → Adds k.strings new.strings line.row line.bytes → new.looks ≡ looks_with k line.row line.effect → Lists new (line ∷ lines)
lists_more k lines line new l a looks = record {
  found = λ row bytes h. by_only row bytes (a.only row bytes h);
  kept = kept;
  groups = λ row. a.groups row ∙ ap (λ (b : Bool). (order row == order line.row) || b) (l.groups row);
  looks = looks ∙ looks_more k lines line l;
  total_is = let new_is = a.total_is in let old_is = l.total_is in omega (arith, new_is, old_is);
}
  where
    by_only : (row : Row) (bytes : List ℕ) → (row_string k.strings row ≡ Some bytes) ⊎ ((row ≡ line.row) × (bytes ≡ line.bytes)) → GivesBytes (line ∷ lines) row bytes
    by_only row bytes (inl h) = let f = l.found row bytes h in record { line = f.line; among = inr f.among; of_row = f.of_row; bytes_are = f.bytes_are }
    by_only row bytes (inr e) = record { line = line; among = inl refl; of_row = sym e.0; bytes_are = sym e.1 }

    kept : (other : RowLine) → IsAmong (line ∷ lines) other → row_string new.strings other.row ≡ Some other.bytes
    kept other (inl e) = subst (λ (x : RowLine). row_string new.strings x.row ≡ Some x.bytes) (sym e) a.there
    kept other (inr h) = a.kept other.row other.bytes (l.kept other h)

-- the new line is the last, and nothing is missing before it
last_more : (rows cols : ℕ) (lines : List RowLine) (line : RowLine) → IsInPlace rows cols lines line.row → IsLastRow rows cols (line ∷ lines) line.row
last_more rows cols lines line i = record {
  range = i.range;
  there = record { line = line; among = inl refl; of_row = refl };
  upper = upper;
  complete = λ row k. i.complete row (record { range = k.range; absent = λ h. k.absent (record { line = h.line; among = inr h.among; of_row = h.of_row }); before = k.before; due = due row k.due });
}
  where
    upper : (other : RowLine) → IsAmong (line ∷ lines) other → (other.row ≡ line.row) ⊎ Precedes rows cols other.row line.row
    upper other (inl e) = inl (ap (λ (x : RowLine). x.row) e)
    upper other (inr h) = inr (i.behind other h)

    of_cap : (row : Row) (other : RowLine) → IsAmong (line ∷ lines) other → order other.row ≡ order row → HasCap lines row ⊎ (order row ≡ order line.row)
    of_cap row other (inl e) o = inr (sym o ∙ ap (λ (x : RowLine). order x.row) e)
    of_cap row other (inr h) o = inl (record { line = other; among = h; of_cap = o })

    due : (row : Row) → IsRequiredLine row ⊎ (HasCap (line ∷ lines) row ⊎ (order row ≡ order line.row)) → IsRequiredLine row ⊎ (HasCap lines row ⊎ (order row ≡ order line.row))
    due row (inl d) = inl d
    due row (inr (inl c)) = inr (of_cap row c.line c.among c.of_cap)
    due row (inr (inr o)) = inr (inr o)

-- a line that is right, and the facts known with it
pub row_stands : (p : Progress) (line : RowLine) (tokens : List (List ℕ)) (effect : Effect) (looks : Looks) (new : Known) → fault_in_place p line.row ≡ None → Splits line.bytes tokens []
    → HasRecord p.known.strings.rows p.known.strings.cols looks line.row tokens effect → effect ≡ line.effect → looks ≡ looks_with p.known line.row effect
    → Adds p.known.strings new.strings line.row line.bytes → new.looks ≡ looks → (Holds p.known → Holds new) → (last : Option Row) → last ≡ Some line.row → (read room : List ℕ)
    → AnswersRow p line (Ok (record { size = p.size; known = new; acsc = p.acsc; place = record { last = last }; awaited = lines_awaited.Rows; scanner = read; room = room }))
row_stands p line tokens effect looks new none splits has same looks_are adds new_looks holds last last_is read room = λ pairs lines st pa. record {
  after = Listing pairs (line ∷ lines);
  judges = RowStands (in_place p lines line.row st none) (record { tokens = tokens; splits = splits; recorded = recorded_as p lines line tokens (Some line.effect) st (has.recorded ∙ ap (λ (e : Effect). Some e) same) })
      (asked_as lines st) refl;
  tells = (
    record {
      rows = adds.rows_kept ∙ st.rows;
      cols = adds.cols_kept ∙ st.cols;
      holds = holds st.holds;
      lists = lists_more p.known lines line new st.lists adds (new_looks ∙ (looks_are ∙ ap (λ (e : Effect). looks_with p.known line.row e) same));
      place = subst (λ (o : Option Row). IsUpTo p.size.rows p.size.cols (line ∷ lines) o) (sym last_is) (last_more p.size.rows p.size.cols lines line (in_place p lines line.row st none));
    },
    pa,
  );
  rows = refl;
  cols = refl;
}
  where
    asked_as : (lines : List RowLine) → Stands p lines → line.effect ≡ asked (looks_of (line ∷ lines)) line.row line.effect
    asked_as lines st = subst (λ (e : Effect). e ≡ asked looks line.row e) same has.asked_for
        ∙ ap (λ (l : Looks). asked l line.row line.effect) (looks_are ∙ (ap (λ (e : Effect). looks_with p.known line.row e) same ∙ looks_more p.known lines line st.lists))

-- the misplaced row again, with its parts under other names

pub row_misplaced_at : (p : Progress) (line : RowLine) (kind : CertFaultKind) (q : Progress) → q ≡ p → fault_in_place q line.row ≡ Some kind → AnswersRow p line (Err kind)
row_misplaced_at p line kind q is h = row_misplaced p line kind (subst (λ (x : Progress). fault_in_place x line.row ≡ Some kind) is h)

in_place_at : (p : Progress) (row : Row) (q : Progress) → q ≡ p → fault_in_place q row ≡ None → fault_in_place p row ≡ None
in_place_at p row q is h = subst (λ (x : Progress). fault_in_place x row ≡ None) is h

pub row_cut_at : (p : Progress) (line : RowLine) (kind : CertFaultKind) (q : Progress) (bytes : List ℕ) → q ≡ p → bytes ≡ line.bytes → fault_in_place q line.row ≡ None → IsTokenFault bytes kind → OrNoMemory kind (AnswersRow p line)
row_cut_at p line kind q bytes is same h f = row_cut p line kind (in_place_at p line.row q is h) (subst (λ (b : List ℕ). IsTokenFault b kind) same f)

pub row_misshows_at : (p : Progress) (line : RowLine) (kind : CertFaultKind) (q : Progress) (k : Known) (bytes : List ℕ) (tokens : List (List ℕ)) → q ≡ p → k ≡ p.known → bytes ≡ line.bytes → fault_in_place q line.row ≡ None
    → Splits bytes tokens [] → Misshows k line.row line.effect tokens kind → AnswersRow p line (Err kind)
row_misshows_at p line kind q k bytes tokens is ek same h splits m = row_misshows p line tokens kind (in_place_at p line.row q is h) (subst (λ (b : List ℕ). Splits b tokens []) same splits)
    (subst (λ (x : Known). Misshows x line.row line.effect tokens kind) ek m)

pub row_stands_at : (p : Progress) (line : RowLine) (q : Progress) (k : Known) (bytes : List ℕ) (tokens : List (List ℕ)) (effect : Effect) (looks : Looks) (new : Known) → q ≡ p → k ≡ p.known → bytes ≡ line.bytes → fault_in_place q line.row ≡ None
    → Splits bytes tokens [] → HasRecord k.strings.rows k.strings.cols looks line.row tokens effect → effect ≡ line.effect → looks ≡ looks_with k line.row effect
    → Adds k.strings new.strings line.row bytes → new.looks ≡ looks → (Holds k → Holds new) → (last : Option Row) → last ≡ Some line.row → (read room : List ℕ)
    → AnswersRow p line (Ok (record { size = q.size; known = new; acsc = q.acsc; place = record { last = last }; awaited = lines_awaited.Rows; scanner = read; room = room }))
row_stands_at p line q k bytes tokens effect looks new is ek same h splits has stated looks_are adds new_looks holds last last_is read room = subst (λ (x : Progress). AnswersRow p line (Ok (record { size = x.size; known = new; acsc = x.acsc; place = record { last = last }; awaited = lines_awaited.Rows; scanner = read; room = room }))) (sym is)
    (row_stands p line tokens effect looks new (in_place_at p line.row q is h)
    (subst (λ (b : List ℕ). Splits b tokens []) same splits) (subst (λ (x : Known). HasRecord x.strings.rows x.strings.cols looks line.row tokens effect) ek has) stated
    (subst (λ (x : Known). looks ≡ looks_with x line.row effect) ek looks_are)
    (subst (λ (b : List ℕ). Adds p.known.strings new.strings line.row b) same (subst (λ (x : Known). Adds x.strings new.strings line.row bytes) ek adds)) new_looks
    (subst (λ (x : Known). Holds x → Holds new) ek holds) last last_is read room)

-- the beginning and the end

pub starts_so : (p : Progress) → p.known.strings ≡ record { rows = p.size.rows; cols = p.size.cols; groups = replicate capabilities [] } → p.known.looks ≡ no_looks → Holds p.known → p.acsc ≡ None → p.place.last ≡ None → Stands p []
starts_so p s looks holds none last = record {
  rows = ap (λ (x : Strings). x.rows) s;
  cols = ap (λ (x : Strings). x.cols) s;
  holds = holds;
  lists = record {
    found = λ row bytes h. absurd (none_at_first p.size.rows p.size.cols row bytes (ap (λ (x : Strings). row_string x row) (sym s) ∙ h));
    kept = λ line among. absurd among;
    groups = λ row. ap (λ (x : Strings). has_group x row) s ∙ ap (λ (g : List (List ℕ)). not (length g == 0)) (empty_group capabilities (order row));
    looks = looks;
    total_is = ap (λ (x : Strings). total x) s;
  };
  place = subst (λ (o : Option Row). IsUpTo p.size.rows p.size.cols [] o) (sym last) (λ line among. among);
}

pub stands_at : (p : Progress) (awaited : Awaited) (pairs : Option (List ℕ)) (lines : List RowLine) → Tells p awaited (Ended pairs lines) → Stands p lines × (p.acsc ≡ pairs)
stands_at p (lines_awaited.Ended settled) pairs lines t = (t.0, t.1)
stands_at p lines_awaited.First pairs lines t = absurd t
stands_at p lines_awaited.Acsc pairs lines t = absurd t
stands_at p lines_awaited.Rows pairs lines t = absurd t

pub judged_at : (p : Progress) (awaited : Awaited) (settled : Charsets) (pairs : Option (List ℕ)) (lines : List RowLine) → settled_of awaited ≡ Some settled → Tells p awaited (Ended pairs lines)
    → IsJudged (checked_of p.known settled)
judged_at p (lines_awaited.Ended other) settled pairs lines e t = subst (λ (c : Charsets). IsJudged (checked_of p.known c)) (same_Some other settled e) t.2
judged_at p lines_awaited.First settled pairs lines e t = absurd t
judged_at p lines_awaited.Acsc settled pairs lines e t = absurd t
judged_at p lines_awaited.Rows settled pairs lines e t = absurd t

-- the record of a line's bytes, with the size under other names
pub recorded_for : (rows cols r q : ℕ) (row : Row) (bytes : List ℕ) (found : Option Effect) → IsRecordOf r q (start_of r q row) bytes found → r ≡ rows → q ≡ cols → IsRecordOf rows cols (start_of rows cols row) bytes found
recorded_for rows cols r q row bytes found h er eq = subst (λ (n : ℕ). IsRecordOf n cols (start_of n cols row) bytes found) er (subst (λ (n : ℕ). IsRecordOf r n (start_of r n row) bytes found) eq h)
