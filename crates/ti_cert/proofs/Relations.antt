-- The judgement of a whole text, by the meaning of its lines.
use Rattle.std.proofs.Common.{◌≡◌, ◌<◌, ◌+◌, ◌-◌, ◌⊎◌, ℕ, List, [], ◌∷◌, ◌++◌, length, Option, None, Result, Ok, Err, IfErr, inl, inr, refl, sym, ap, subst, ◌∙◌, arith}
use Rattle.ti_lines.specs.declared.row_lines.RowLine.{RowLine}
use Rattle.ti_lines.specs.Text.{cut_of}
use Rattle.ti_lines.specs.Reader.{Rose, AtEnd}
use Rattle.ti_lines.proofs.Gaves.{gave_nothing}
use Rattle.ti_lines.specs.Judgements.{fault_at, AtLine, Passes, Fails, TooLong, JudgedLine, JudgedLines, JudgedFrom, Judged, LastCall, GivesOr, Outcome, Whole, Early, Cuts, Reports}
use Rattle.ti_lines.specs.declared.judgements.LineFault.{LineFault}
use Rattle.ti_cert.specs.Clashes.{kind_of}
use Rattle.ti_cert.specs.declared.clashes.Clash.{Clash}
use Rattle.ti_cert.specs.declared.clashes.Clash.TheVariants as clashes
use Rattle.ti_cert.specs.Certificates.{Said, Nothing, Sized, Listing, Ended, Mislooks, Misdoes, JudgesRow, NotAllowed, TooLate, TooEarly, Cut, Wild, Untrue, Unasked, Stands, JudgesLast, Lacks, Clashes, Closes, JudgesLater, IsLast, IsRow, IsMisplaced, IsNone, HasPairs, HasNoPairs, HasSize, HasNoSize, JudgesLine, JudgesEnd, rules_of, limit, IsAnswer, CertFault}
use Rattle.ti_cert.specs.Table.{CheckedTable}
use Rattle.ti_cert.specs.Strings.{row_string, total}
use Rattle.ti_cert.specs.Known.{Known}
use Rattle.ti_cert.specs.Texts.{IsTableOf, IsRefused, IsCertRefused, IsLineRead, Takes}
use Rattle.ti_cert.specs.declared.faults.VerifyFault.{VerifyFault}
use Rattle.ti_cert.specs.declared.faults.VerifyFault.TheVariants.{Cert, Agree}
use Rattle.ti_cert.specs.Audits.{TellsNow, Steps, AnswersEnd, progress_rules, Starts, IsWholeRead, IsTableMade}
use Rattle.ti_cert.specs.declared.audits.Progress.{Progress}
use Rattle.ti_cert.specs.declared.faults.CertFaultKind.{CertFaultKind}
use Rattle.ti_cert.specs.declared.faults.CertFaultKind.TheVariants.{BadLine, NoMemory, ReadFailed}
use Rattle.ti_cert.proofs.AuditSteps.{sized, stands_at}
use Rattle.ti_cert.proofs.Texts.{few_bytes}

-- an answer about the progress of reading, as one about the meaning of the lines
record Reads (q : Progress) (rows cols : ℕ) (Is : Result Said (LineFault CertFaultKind) → Type 0) : Type 0 where
  pairs : Option (List ℕ)
  lines : List RowLine
  is : Is (Ok (Ended pairs lines))
  tells : TellsNow q (Ended pairs lines)
  rows_are : q.size.rows ≡ rows
  cols_are : q.size.cols ≡ cols

abbrev Relates : ℕ → ℕ → Result Progress (LineFault CertFaultKind) → (Result Said (LineFault CertFaultKind) → Type 0) → Type 0
Relates rows cols (Ok q) Is = Reads q rows cols Is
Relates rows cols (Err e) Is = Is (Err e)

relates_by : (rows cols : ℕ) (answer : Result Progress (LineFault CertFaultKind)) (I J : Result Said (LineFault CertFaultKind) → Type 0) → ((r : Result Said (LineFault CertFaultKind)) → I r → J r) → Relates rows cols answer I → Relates rows cols answer J
relates_by rows cols (Ok q) I J f r = record { pairs = r.pairs; lines = r.lines; is = f (Ok (Ended r.pairs r.lines)) r.is; tells = r.tells; rows_are = r.rows_are; cols_are = r.cols_are }
relates_by rows cols (Err e) I J f h = f (Err e) h

abbrev saying : Said → Result Said CertFaultKind
saying s = Ok s

-- the end of the text
at_end : (number : ℕ) (p : Progress) (rows cols : ℕ) (said : Said) (answer : Result Progress (LineFault CertFaultKind)) → p.size.rows ≡ rows → p.size.cols ≡ cols → TellsNow p said → AtLine number (AnswersEnd p) answer
    → Relates rows cols answer (AtLine number (JudgesEnd said))
at_end number p rows cols said (Ok q) r c tells h = by_said said (h said tells)
  where
    after_is : (after : Said) (pairs : Option (List ℕ)) (lines : List RowLine) → saying after ≡ saying (Ended pairs lines) → after ≡ Ended pairs lines
    after_is after pairs lines e = cc

    by_said : (s : Said) → Steps q p.size.rows p.size.cols (JudgesEnd s) → Reads q rows cols (AtLine number (JudgesEnd s))
    by_said (Ended pairs lines) st = record { pairs = pairs; lines = lines; is = refl; tells = subst (λ (x : Said). TellsNow q x) (after_is st.after pairs lines st.judges) st.tells; rows_are = st.rows ∙ r; cols_are = st.cols ∙ c }
    by_said Nothing st = let wrong = st.judges in cc
    by_said Sized st = let wrong = st.judges in cc
    by_said (Listing pairs lines) st = let wrong = st.judges in cc
at_end number p rows cols said (Err e) r c tells h = (h.0, h.1 said tells)

-- the answer to a line and to the lines after it
one_related : (budget number : ℕ) (p : Progress) (rows cols : ℕ) (said : Said) (line : List ℕ) (answer : Result Progress (LineFault CertFaultKind)) (LaterKnown : Progress → Type 0) (LaterSaid : Said → Result Said (LineFault CertFaultKind) → Type 0)
    → p.size.rows ≡ rows → p.size.cols ≡ cols → TellsNow p said
    → ((u : Progress) (s : Said) → u.size.rows ≡ rows → u.size.cols ≡ cols → TellsNow u s → LaterKnown u → Relates rows cols answer (LaterSaid s))
    → JudgedLine progress_rules budget number p line LaterKnown answer → Relates rows cols answer (λ a. JudgedLine (rules_of rows cols) budget number said line (λ s. LaterSaid s a) a)
one_related budget number p rows cols said line answer LaterKnown LaterSaid r c tells after (Passes small u is later) =
    let s : Steps u p.size.rows p.size.cols (JudgesLine p.size.rows p.size.cols said line) = is said tells in
    relates_by rows cols answer (LaterSaid s.after) (λ a. JudgedLine (rules_of rows cols) budget number said line (λ x. LaterSaid x a) a)
    (λ a k. Passes small s.after (sized (λ x y. JudgesLine x y said line (Ok s.after)) p.size.rows p.size.cols rows cols r c s.judges) k)
    (after u s.after (s.rows ∙ r) (s.cols ∙ c) s.tells later)
one_related budget number p rows cols said line answer LaterKnown LaterSaid r c tells after (Fails small kind e is) =
    subst (λ (a : Result Progress (LineFault CertFaultKind)). Relates rows cols a (λ x. JudgedLine (rules_of rows cols) budget number said line (λ s. LaterSaid s x) x)) (sym e)
    (Fails small kind refl (sized (λ x y. JudgesLine x y said line (Err kind)) p.size.rows p.size.cols rows cols r c (is said tells)))
one_related budget number p rows cols said line answer LaterKnown LaterSaid r c tells after (TooLong long e) =
    subst (λ (a : Result Progress (LineFault CertFaultKind)). Relates rows cols a (λ x. JudgedLine (rules_of rows cols) budget number said line (λ s. LaterSaid s x) x)) (sym e) (TooLong long refl)

related : (budget number : ℕ) (p : Progress) (rows cols : ℕ) (said : Said) (lines : List (List ℕ)) (last : List ℕ) (answer : Result Progress (LineFault CertFaultKind)) → p.size.rows ≡ rows → p.size.cols ≡ cols → TellsNow p said
    → JudgedLines progress_rules budget number p lines last answer → Relates rows cols answer (λ a. JudgedLines (rules_of rows cols) budget number said lines last a)
unfolding JudgedLines
related budget number p rows cols said [] [] answer r c tells h = at_end number p rows cols said answer r c tells h
related budget number p rows cols said [] (b ∷ last) answer r c tells h = subst (λ (a : Result Progress (LineFault CertFaultKind)). Relates rows cols a (λ x. x ≡ Err (fault_at number BadLine))) (sym h) refl
related budget number p rows cols said (line ∷ lines) last answer r c tells h =
    one_related budget number p rows cols said line answer (λ u. JudgedLines progress_rules (budget - (length line + 1)) (number + 1) u lines last answer)
    (λ s a. JudgedLines (rules_of rows cols) (budget - (length line + 1)) (number + 1) s lines last a) r c tells
    (λ u s ru cu t later. related (budget - (length line + 1)) (number + 1) u rows cols s lines last answer ru cu t later) h

-- the answer to a whole text
text_related : (p : Progress) (rows cols : ℕ) (text : List ℕ) (answer : Result Progress (LineFault CertFaultKind)) → Starts rows cols p → Judged progress_rules limit p text answer → Relates rows cols answer (IsAnswer rows cols text)
unfolding Judged JudgedFrom
text_related p rows cols text answer s h = related limit 1 p rows cols Nothing (cut_of text).lines (cut_of text).last answer s.rows s.cols s.tells h

abbrev pub read : Result (Unit {0}) (LineFault CertFaultKind)
read = Ok tt

-- everything was read, for this size
pub record ReadWhole (q : Progress) (rows cols : ℕ) : Type 0 where
  pub whole : IsWholeRead q
  pub rows_are : q.size.rows ≡ rows
  pub cols_are : q.size.cols ≡ cols
  pub few : total q.known.strings < limit

-- after an answer without fault a whole text was read
pub whole_read : {R : Type 0} (p q : Progress) (rows cols : ℕ) (left : R → List ℕ → Type 0) (failures : R → ℕ) (reader after : R) → Starts rows cols p
    → Reports progress_rules limit p q left failures reader after (read) → ReadWhole q rows cols
whole_read {R} p q rows cols left failures reader after s r = by_outcome r.outcome
  where
    by_answer : (text : List ℕ) → Judged progress_rules limit p text (Ok q) → ReadWhole q rows cols
    by_answer text h =
        let f = text_related p rows cols text (Ok q) s h in
        let st = stands_at q q.awaited f.pairs f.lines f.tells in
        record {
          whole = record { pairs = f.pairs; lines = f.lines; tells = f.tells };
          rows_are = f.rows_are;
          cols_are = f.cols_are;
          few = subst (λ (n : ℕ). n < limit) (sym st.0.lists.total_is) (few_bytes rows cols text f.pairs f.lines f.is);
        }

    by_outcome : Outcome progress_rules limit p q (AtEnd left after) (Rose (failures reader) (failures after)) r.given (read) → ReadWhole q rows cols
    by_outcome (Whole end h) = by_answer r.given h
    by_outcome (Early h) = by_answer (r.given ++ []) (h [])
    by_outcome (Cuts fault e kind line failed) = cc

pub table_of_text : (p q : Progress) (rows cols : ℕ) (text : List ℕ) (table : CheckedTable) → Starts rows cols p → Judged progress_rules limit p text (Ok q) → IsTableMade q table → IsTableOf rows cols text table
table_of_text p q rows cols text table s h made =
    let f = text_related p rows cols text (Ok q) s h in
    let st = stands_at q q.awaited f.pairs f.lines f.tells in
    record {
      lines = f.lines;
      says = subst (λ (o : Option (List ℕ)). IsAnswer rows cols text (Ok (Ended o f.lines))) (sym (made.acsc ∙ st.1)) f.is;
      found = λ row bytes there. st.0.lists.found row bytes (ap (λ (k : Known). row_string k.strings row) (sym made.known) ∙ there);
      kept = λ line among. ap (λ (k : Known). row_string k.strings line.row) made.known ∙ st.0.lists.kept line among;
    }

pub sizes_of_table : (q : Progress) (rows cols : ℕ) (table : CheckedTable) → ReadWhole q rows cols → IsTableMade q table → (table.known.strings.rows ≡ rows) × (table.known.strings.cols ≡ cols)
sizes_of_table q rows cols table w made =
    let st = stands_at q q.awaited w.whole.pairs w.whole.lines w.whole.tells in
    (ap (λ (k : Known). k.strings.rows) made.known ∙ (st.0.rows ∙ w.rows_are), ap (λ (k : Known). k.strings.cols) made.known ∙ (st.0.cols ∙ w.cols_are))

pub few_of_table : (q : Progress) (rows cols : ℕ) (table : CheckedTable) → ReadWhole q rows cols → IsTableMade q table → total table.known.strings < limit
few_of_table q rows cols table w made = subst (λ (k : Known). total k.strings < limit) (sym made.known) w.few

pub text_refused : (p q : Progress) (rows cols : ℕ) (text : List ℕ) (Failed : Type 0) (fault : LineFault CertFaultKind) → Starts rows cols p
    → GivesOr {X = Unit {0}} progress_rules Failed q (Err fault) (Judged progress_rules limit p text) → IsRefused rows cols text Failed fault
text_refused p q rows cols text Failed fault s (inl (inl h)) = inl (text_related p rows cols text (Err fault) s h)
text_refused p q rows cols text Failed fault s (inl (inr e)) = inr (inl e)
text_refused p q rows cols text Failed fault s (inr e) = inr (inr e)

-- a slice never fails
pub not_rose : Rose 0 0 → ⊥
not_rose (inl h) = omega (arith, h)
not_rose (inr h) = let z = h.0 in omega (arith, z)

pub never_failed : (rows cols : ℕ) (text : List ℕ) (fault : CertFault) → IsRefused rows cols text (Rose 0 0) fault → IsRefused rows cols text ⊥ fault
never_failed rows cols text fault (inl h) = inl h
never_failed rows cols text fault (inr (inl e)) = inr (inl e)
never_failed rows cols text fault (inr (inr e)) = absurd (not_rose e.1)

pub never_failed_there : (rows cols : ℕ) (text : List ℕ) (fault : VerifyFault) → IsCertRefused rows cols text (Rose 0 0) fault → IsCertRefused rows cols text ⊥ fault
never_failed_there rows cols text (Cert fault) h = never_failed rows cols text fault h
never_failed_there rows cols text (Agree fault) h = tt

-- No text is refused because a reader failed.

row_unread : (rows cols : ℕ) (lines : List RowLine) (line : RowLine) (after : Said) → JudgesRow rows cols lines line after (Err ReadFailed) → ⊥
row_unread rows cols lines line after (NotAllowed never e) = cc
row_unread rows cols lines line after (TooLate range late e) = cc
row_unread rows cols lines line after (TooEarly range behind row first e) = cc
row_unread rows cols lines line after (Cut place never e) = cc
row_unread rows cols lines line after (Wild place none e) = cc
row_unread rows cols lines line after (Untrue place effect has never e) = cc
row_unread rows cols lines line after (Unasked place has never kind (Mislooks alone look k) e) = cc
row_unread rows cols lines line after (Unasked place has never kind (Misdoes other k) e) = cc
row_unread rows cols lines line after (Stands place has asked e) = cc

clash_unread : (clash : Clash) → ReadFailed ≡ kind_of clash → ⊥
clash_unread (clashes.Smacs c) e = cc
clash_unread (clashes.Rmacs c) e = cc
clash_unread clashes.Acsc e = cc
clash_unread clashes.Clear e = cc

same_kind : (k l : CertFaultKind) (a : Result Said CertFaultKind) → a ≡ Err k → a ≡ Err l → k ≡ l
same_kind k l a e f = cc

last_unread : (rows cols : ℕ) (pairs : Option (List ℕ)) (lines : List RowLine) → JudgesLast rows cols pairs lines (Err ReadFailed) → ⊥
last_unread rows cols pairs lines (Lacks row first e) = cc
last_unread rows cols pairs lines (Clashes complete clash of_lines e) = clash_unread clash (same_kind ReadFailed (kind_of clash) (Err ReadFailed) refl e)
last_unread rows cols pairs lines (Closes complete together e) = cc

later_unread : (rows cols : ℕ) (pairs : Option (List ℕ)) (lines : List RowLine) (text : List ℕ) → JudgesLater rows cols pairs lines text (Err ReadFailed) → ⊥
later_unread rows cols pairs lines text (IsLast end p) = last_unread rows cols pairs lines p
later_unread rows cols pairs lines text (IsRow off line is p) = row_unread rows cols lines line (Listing pairs (line ∷ lines)) p
later_unread rows cols pairs lines text (IsMisplaced off never bytes is e) = cc
later_unread rows cols pairs lines text (IsNone off never none e) = cc

line_unread : (rows cols : ℕ) (said : Said) (text : List ℕ) → JudgesLine rows cols said text (Err ReadFailed) → ⊥
line_unread rows cols Nothing text (HasSize is e) = cc
line_unread rows cols Nothing text (HasNoSize never e) = cc
line_unread rows cols Sized text (HasPairs bytes is e) = cc
line_unread rows cols Sized text (HasNoPairs none p) = later_unread rows cols None [] text p
line_unread rows cols (Listing pairs lines) text p = later_unread rows cols pairs lines text p
line_unread rows cols (Ended pairs lines) text e = cc

end_unread : (said : Said) → JudgesEnd said (Err ReadFailed) → ⊥
end_unread (Ended pairs lines) e = cc
end_unread Nothing e = cc
end_unread Sized e = cc
end_unread (Listing pairs lines) e = cc

abbrev Answer : Type 0
Answer = Result Said (LineFault CertFaultKind)

one_fault : (e f : LineFault CertFaultKind) (a : Answer) → a ≡ Err e → a ≡ Err f → e ≡ f
one_fault e f a p q = cc

bad_line : ReadFailed ≡ BadLine → ⊥
bad_line e = cc

abbrev erring : LineFault CertFaultKind → Answer
erring e = Err e

never_no_line : (number : ℕ) (e : LineFault CertFaultKind) → erring e ≡ erring (fault_at number BadLine) → e.kind ≡ ReadFailed → ⊥
never_no_line number e h k = bad_line (sym k ∙ ap (λ (f : LineFault CertFaultKind). f.kind) (one_fault e (fault_at number BadLine) (Err e) refl h))

one_unread : (rows cols budget number : ℕ) (said : Said) (line : List ℕ) (Later : Said → Type 0) (e : LineFault CertFaultKind) → ((u : Said) → Later u → ⊥) → JudgedLine (rules_of rows cols) budget number said line Later (Err e) → e.kind ≡ ReadFailed → ⊥
one_unread rows cols budget number said line Later e later (Passes small u is p) k = later u p
one_unread rows cols budget number said line Later e later (Fails small kind h is) k =
    line_unread rows cols said line (subst (λ (x : CertFaultKind). JudgesLine rows cols said line (Err x)) (sym (ap (λ (f : LineFault CertFaultKind). f.kind) (one_fault e (fault_at number kind) (Err e) refl h)) ∙ k) is)
one_unread rows cols budget number said line Later e later (TooLong long h) k = never_no_line number e h k

lines_unread : (rows cols budget number : ℕ) (said : Said) (lines : List (List ℕ)) (last : List ℕ) (e : LineFault CertFaultKind) → JudgedLines (rules_of rows cols) budget number said lines last (Err e) → e.kind ≡ ReadFailed → ⊥
unfolding JudgedLines
lines_unread rows cols budget number said [] [] e h k = end_unread said (subst (λ (x : CertFaultKind). JudgesEnd said (Err x)) k h.1)
lines_unread rows cols budget number said [] (b ∷ last) e h k = never_no_line number e h k
lines_unread rows cols budget number said (line ∷ lines) last e h k =
    one_unread rows cols budget number said line (λ u. JudgedLines (rules_of rows cols) (budget - (length line + 1)) (number + 1) u lines last (Err e)) e
    (λ u p. lines_unread rows cols (budget - (length line + 1)) (number + 1) u lines last e p k) h k

text_unread : (rows cols : ℕ) (text : List ℕ) (e : LineFault CertFaultKind) → IsAnswer rows cols text (Err e) → e.kind ≡ ReadFailed → ⊥
unfolding Judged JudgedFrom
text_unread rows cols text e h k = lines_unread rows cols limit 1 Nothing (cut_of text).lines (cut_of text).last e h k

no_memory_read : (k : CertFaultKind) → k ≡ NoMemory → k ≡ ReadFailed → ⊥
no_memory_read k e f = cc

same_answer : (e f : LineFault CertFaultKind) (a : Result (Unit {0}) (LineFault CertFaultKind)) → a ≡ Err e → a ≡ Err f → e ≡ f
same_answer e f a p q = cc

abbrev AtLineRead : Result (Unit {0}) (LineFault CertFaultKind) → List ℕ → Type 0
AtLineRead answer given = IfErr answer (IsLineRead given)

-- the bytes taken from a reader, and the line in which it failed
takes : {R : Type 0} (p q : Progress) (rows cols : ℕ) (left : R → List ℕ → Type 0) (failures : R → ℕ) (reader after : R) (answer : Result (Unit {0}) (LineFault CertFaultKind)) → Starts rows cols p
    → Reports progress_rules limit p q left failures reader after answer → Takes left failures reader after (AtLineRead answer)
takes {R} p q rows cols left failures reader after answer s r = record { given = r.given; gave = r.gave; few = r.few; reading = by_answer answer r.outcome r.last }
  where
    of_text : (text : List ℕ) (e : LineFault CertFaultKind) → Judged progress_rules limit p text (Err e) ⊎ (e.kind ≡ NoMemory) → e.kind ≡ ReadFailed → ⊥
    of_text text e (inl h) k = text_unread rows cols text e (text_related p rows cols text (Err e) s h) k
    of_text text e (inr h) k = no_memory_read e.kind h k

    by_answer : (a : Result (Unit {0}) (LineFault CertFaultKind)) → Outcome progress_rules limit p q (AtEnd left after) (Rose (failures reader) (failures after)) r.given a → IfErr a (λ e. LastCall r.given e.line) → AtLineRead a r.given
    by_answer (Ok x) o l = tt
    by_answer (Err e) (Whole end h) l = record { last = l; failed = λ k. absurd (of_text r.given e h k) }
    by_answer (Err e) (Early h) l = record { last = l; failed = λ k. absurd (of_text (r.given ++ []) e (h []) k) }
    by_answer (Err e) (Cuts fault is kind line failed) l = record { last = l; failed = λ k. ap (λ (f : LineFault CertFaultKind). f.line) (same_answer e fault (Err e) refl is) ∙ line }

pub takes_by : {R : Type 0} (left : R → List ℕ → Type 0) (failures : R → ℕ) (old new : R) (P Q : List ℕ → Type 0) → ((given : List ℕ) → P given → Q given) → Takes left failures old new P → Takes left failures old new Q
takes_by left failures old new P Q f t = record { given = t.given; gave = t.gave; few = t.few; reading = f t.given t.reading }

pub takes_nothing : {R : Type 0} (left : R → List ℕ → Type 0) (failures : R → ℕ) (reader : R) (P : List ℕ → Type 0) → P [] → Takes left failures reader reader P
takes_nothing left failures reader P so = record { given = []; gave = gave_nothing left failures reader; few = omega arith; reading = so }

-- nothing failed while a table was made
pub taken : {R : Type 0} (p q : Progress) (rows cols : ℕ) (left : R → List ℕ → Type 0) (failures : R → ℕ) (reader after : R) (table : CheckedTable) → Starts rows cols p
    → Reports progress_rules limit p q left failures reader after (read) → Takes left failures reader after (λ n. IfErr (Ok table) (IsLineRead n))
taken p q rows cols left failures reader after table s r = takes_by left failures reader after (AtLineRead (read)) (λ n. IfErr (Ok table) (IsLineRead n)) (λ n t. tt) (takes p q rows cols left failures reader after (read) s r)

pub failed_at : {R : Type 0} (p q : Progress) (rows cols : ℕ) (left : R → List ℕ → Type 0) (failures : R → ℕ) (reader after : R) (fault : LineFault CertFaultKind) → Starts rows cols p
    → Reports {X = Unit {0}} progress_rules limit p q left failures reader after (Err fault) → Takes left failures reader after (λ n. IsLineRead n fault)
failed_at p q rows cols left failures reader after fault s r = takes p q rows cols left failures reader after (Err fault) s r

-- nothing was read
pub refused_unread : (fault : CertFault) → fault.kind ≡ NoMemory → fault.line ≡ 1 → IsLineRead [] fault
refused_unread fault e first = record {
  failed = λ k. absurd (no_memory_read fault.kind e k);
  last = record { before = []; piece = []; parts = refl; few = omega arith; open_line = omega (arith, first) };
}
