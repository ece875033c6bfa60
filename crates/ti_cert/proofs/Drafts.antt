-- The lines that a draft has are those of a text that is accepted.
use Rattle.std.proofs.Common.{◌≡◌, ◌==◌, ◌<◌, ◌≤◌, ◌+◌, ◌*◌, ℕ, true, false, not, List, [], ◌∷◌, ◌++◌, length, reverse, is_some, Option, Some, None, Ok, inl, inr, refl, sym, ap, subst, ◌∙◌, arith, append-nil, below_more}
use Rattle.std.proofs.lemmas.Bool.{eq-eqb, false≢true, or_left, or_right}
use Rattle.std.specs.List.{AllByRecursion}
use Rattle.std.proofs.lemmas.List.{reverse-reverse}
use Rattle.hex.specs.Hex.{lower_digits}
use Rattle.hex.proofs.HexLemmas.{length-encode_with}
use Rattle.vt_effects.specs.declared.effects.Effect.{Effect}
use Rattle.vt_term.specs.Size.{IsSize}
use Rattle.ti_caps.specs.Entry.{Content, IsEntry, string_at, value_at}
use Rattle.ti_conforms.proofs.Matches.{same_checked}
use Rattle.ti_conforms.specs.Entries.{EntryAgrees, LineAgrees, acsc, is_checked, string_of}
use Rattle.ti_conforms.specs.Sends.{Sends}
use Rattle.ti_lines.specs.declared.row_lines.RowLine.{RowLine}
use Rattle.ti_lines.specs.Heads.{size_text, acsc_text}
use Rattle.ti_lines.specs.Hex.{hex_text}
use Rattle.ti_lines.specs.RowLines.{line_text, IsLine}
use Rattle.ti_lines.specs.Texts.{acsc_lines, row_lines, ended, IsAcsc}
use Rattle.ti_forms.proofs.FormSends.{form_sends}
use Rattle.ti_forms.specs.Forms.{IsOfForm, IsStandardSent, standard_bytes, standard_effect, standard_line}
use Rattle.ti_forms.proofs.LineTexts.{line_short}
use Rattle.ti_rows.proofs.NameFacts.{orders_small}
use Rattle.ti_rows.specs.Lists.{IsInRange}
use Rattle.ti_rows.specs.Names.{capabilities, order, string_in_order}
use Rattle.ti_rows.specs.declared.rows.Row.{Row}
use Rattle.ti_cert.specs.Audits.{TellsNow, Tells, Stands, Steps, AnswersRow, AnswersLast, Starts, IsTableMade}
use Rattle.ti_cert.specs.Certification.{HasText, text_bytes, Follow, most, ArePairsShort, IsSent, AreSent, HasCaps, IsDraft, IsDraftWith, AddsLine, AddsSent, AddsCaps, TakesRoom, IsFinished}
use Rattle.ti_cert.specs.Certificates.{Said, Nothing, Listing, Ended, JudgesRow, JudgesLast, IsAnswer, limit, speaks_of}
use Rattle.ti_cert.specs.Clashes.{GoesTogether, OfLines}
use Rattle.ti_cert.specs.Known.{Known, Holds}
use Rattle.ti_cert.specs.Order.{GivesBytes, HasLine, IsComplete, IsLacking}
use Rattle.ti_cert.specs.Places.{place_fault}
use Rattle.ti_cert.specs.Strings.{Adds, allows, group_at, has_group, row_string, total}
use Rattle.ti_cert.specs.Table.{CheckedTable}
use Rattle.ti_cert.specs.Texts.{IsCertificate, StandInOrder, StandsNext}
use Rattle.ti_cert.specs.declared.audits.Awaited.{Awaited}
use Rattle.ti_cert.specs.declared.audits.Awaited.TheVariants as lines_awaited
use Rattle.ti_cert.specs.declared.audits.Progress.{Progress}
use Rattle.ti_cert.specs.declared.certification.Draft.{Draft}
use Rattle.ti_cert.proofs.AuditSteps.{has_cap, row_stands_at, sized, stands_at}
use Rattle.ti_cert.proofs.BasicLines.{size_is, size_short}
use Rattle.ti_cert.proofs.Converse.{accepted_certificate}
use Rattle.ti_cert.proofs.Spellings.{line_is, pairs_are}
use Rattle.ti_cert.proofs.Standards.{StandardTells, standard_tells}
use Rattle.ti_cert.proofs.Texts.{row_passes, last_passes, ended_length, few_bytes, turned}

-- ---- one line after another

starts_at : (p : Progress) (awaited : Awaited) → Tells p awaited Nothing → Stands p []
starts_at p lines_awaited.First t = t.0
starts_at p lines_awaited.Acsc t = absurd t
starts_at p lines_awaited.Rows t = absurd t
starts_at p (lines_awaited.Ended settled) t = absurd t

pub begins : (rows cols : ℕ) (entry : Content) (p : Progress) (d : Draft) → Starts rows cols p → ArePairsShort (string_at entry acsc) → d.progress ≡ record p { acsc = string_at entry acsc } → d.room ≡ most → IsDraft rows cols entry 0 d
begins rows cols entry p d s short same room =
    let st : Stands p [] = starts_at p p.awaited s.tells in
    record {
      lines = [];
      stands = subst (λ (x : Progress). Stands x []) (sym same) (record { rows = st.rows; cols = st.cols; holds = st.holds; lists = st.lists; place = st.place });
      rows_are = ap (λ (x : Progress). x.size.rows) same ∙ s.rows;
      cols_are = ap (λ (x : Progress). x.size.cols) same ∙ s.cols;
      pairs_are = ap (λ (x : Progress). x.acsc) same;
      short = short;
      follow = tt;
      few = omega (arith, room);
      sent = λ line a. absurd a;
      caps = λ row lt c. absurd (omega (arith, lt));
    }

listing_at : (p : Progress) (awaited : Awaited) (pairs : Option (List ℕ)) (lines : List RowLine) → Tells p awaited (Listing pairs lines) → Stands p lines × (p.acsc ≡ pairs)
listing_at p lines_awaited.Rows pairs lines t = (t.0, t.1)
listing_at p lines_awaited.First pairs lines t = absurd t
listing_at p lines_awaited.Acsc pairs lines t = absurd t
listing_at p (lines_awaited.Ended settled) pairs lines t = absurd t

-- each line before is one that the entry sends, and so is this one
sent_with : (entry : Content) (line : RowLine) (lines : List RowLine) → IsSent entry line.row line.bytes → AreSent entry lines → AreSent entry (line ∷ lines)
sent_with entry line lines is sent one (inl same) = subst (λ (l : RowLine). IsSent entry l.row l.bytes) (sym same) is
sent_with entry line lines is sent one (inr a) = sent one a

-- the capabilities that had lines have them still, and so has that of the new line
caps_with : (entry : Content) (n : ℕ) (p q : Progress) (line : RowLine) (lines : List RowLine) → Stands p lines → Stands q (line ∷ lines) → HasCaps entry n p → HasCaps entry n q
caps_with entry n p q line lines before after caps row lt checked =
    after.lists.groups row ∙ or_right (order row == order line.row) (speaks_of lines row) (sym (before.lists.groups row) ∙ caps row lt checked)

own_cap : (q : Progress) (line : RowLine) (lines : List RowLine) → Stands q (line ∷ lines) → has_group q.known.strings line.row ≡ true
own_cap q line lines after = after.lists.groups line.row ∙ or_left (order line.row == order line.row) (speaks_of lines line.row) (eq-eqb (order line.row) (order line.row) refl)

-- one more line that stands, whose text fits into the room
pub pushed : (old mid taken new : Draft) (row : Row) (effect : Effect) (a b : List ℕ) (q : Progress) (room : List ℕ) → mid.progress ≡ record old.progress { room = room } → mid.room ≡ old.room → a ≡ b
    → TakesRoom (record { row = row; bytes = a; effect = effect }) mid taken → AnswersRow taken.progress (record { row = row; bytes = b; effect = effect }) (Ok q) → new.progress ≡ q → new.room ≡ taken.room → AddsLine row b old new
pushed old mid taken new row effect a b q room is_mid room_mid bytes_same takes answers same room_new = λ rows cols entry n sent d.
    let line : RowLine = record { row = row; bytes = b; effect = effect } in
    let p : Progress = taken.progress in
    let is : p ≡ record old.progress { room = room } = takes.same ∙ is_mid in
    let taken_of : taken.room + (length (line_text line) + 1) ≤ mid.room = subst (λ (x : List ℕ). taken.room + (length (line_text (record { row = row; bytes = x; effect = effect })) + 1) ≤ mid.room) bytes_same takes.taken in
    let before : Stands p d.lines = subst (λ (x : Progress). Stands x d.lines) (sym is) (record { rows = d.stands.rows; cols = d.stands.cols; holds = d.stands.holds; lists = d.stands.lists; place = d.stands.place }) in
    let pairs : Option (List ℕ) = string_at entry acsc in
    let s : Steps q p.size.rows p.size.cols (JudgesRow p.size.rows p.size.cols d.lines line (Listing pairs (line ∷ d.lines))) = answers pairs d.lines before (ap (λ (x : Progress). x.acsc) is ∙ d.pairs_are) in
    let r = row_passes p.size.rows p.size.cols d.lines line (Listing pairs (line ∷ d.lines)) s.after s.judges in
    let t = listing_at q q.awaited pairs (line ∷ d.lines) (subst (λ (x : Said). TellsNow q x) r.1 s.tells) in
    let after : Stands new.progress (line ∷ d.lines) = subst (λ (x : Progress). Stands x (line ∷ d.lines)) (sym same) t.0 in
    let rows_same : p.size.rows ≡ rows = ap (λ (x : Progress). x.size.rows) is ∙ d.rows_are in
    let cols_same : p.size.cols ≡ cols = ap (λ (x : Progress). x.size.cols) is ∙ d.cols_are in
    let f = d.few in
    record {
      draft = record {
        lines = line ∷ d.lines;
        stands = after;
        rows_are = ap (λ (x : Progress). x.size.rows) same ∙ (s.rows ∙ rows_same);
        cols_are = ap (λ (x : Progress). x.size.cols) same ∙ (s.cols ∙ cols_same);
        pairs_are = ap (λ (x : Progress). x.acsc) same ∙ t.1;
        short = d.short;
        follow = (sized (λ r c. StandsNext r c d.lines line) p.size.rows p.size.cols rows cols rows_same cols_same r.0, d.follow);
        few = omega (arith, f, taken_of, room_mid, room_new);
        sent = sent_with entry line d.lines sent d.sent;
        caps = caps_with entry n old.progress new.progress line d.lines d.stands after d.caps;
      };
      has = own_cap new.progress line d.lines after;
    }

-- the line of a standard string stands
pub standard_stands : (p q : Progress) (row : Row) (bytes : List ℕ) (new : Known) (last : Option Row) → q ≡ p → IsOfForm row bytes → allows q.known.strings.rows q.known.strings.cols row ≡ true
    → place_fault q.known.strings.rows q.known.strings.cols q.place.last (length (group_at q.known.strings (order row))) row ≡ None
    → Adds p.known.strings new.strings row bytes → new.looks ≡ p.known.looks → (Holds p.known → Holds new) → last ≡ Some row
    → AnswersRow p (standard_line row) (Ok (record { size = p.size; known = new; acsc = p.acsc; place = record { last = last }; awaited = lines_awaited.Rows; scanner = p.scanner; room = p.room }))
standard_stands p q row bytes new last is form fits place adds looks holds after =
    let t : StandardTells p.known row bytes = standard_tells p.known row bytes form (subst (λ (x : Progress). allows x.known.strings.rows x.known.strings.cols row ≡ true) is fits) in
    let here : place_fault p.known.strings.rows p.known.strings.cols p.place.last (length (group_at p.known.strings (order row))) row ≡ None
    = subst (λ (x : Progress). place_fault x.known.strings.rows x.known.strings.cols x.place.last (length (group_at x.known.strings (order row))) row ≡ None) is place in
    row_stands_at p (standard_line row) p p.known bytes t.tokens (standard_effect row) p.known.looks new refl refl form.bytes_are here t.splits t.has refl t.looks_are adds looks holds last after p.scanner p.room

-- one more line with a standard string
pub standard_pushed : (old new : Draft) (row : Row) (bytes : List ℕ) (q : Progress) → IsOfForm row bytes → AnswersRow old.progress (standard_line row) (Ok q) → new.progress ≡ q → new.room + 65 ≤ old.room → AddsLine row bytes old new
standard_pushed old new row bytes q form answers same taken =
    let short : length (line_text (standard_line row)) ≤ 64 = line_short row form.has in
    subst (λ (b : List ℕ). AddsLine row b old new) (sym form.bytes_are)
    (pushed old old (record old { room = new.room }) new row (standard_effect row) (standard_bytes row) (standard_bytes row) q old.progress.room refl refl refl (record { same = refl; taken = omega (arith, short, taken) }) answers same refl)

-- the memory in which bytes are made doesn't matter
rebuffered : (old mid : Draft) (rows cols : ℕ) (entry : Content) (n : ℕ) → mid.progress ≡ old.progress → mid.room ≡ old.room → IsDraft rows cols entry n old → IsDraft rows cols entry n mid
rebuffered old mid rows cols entry n same room d =
    let f = d.few in
    record {
      lines = d.lines;
      stands = subst (λ (x : Progress). Stands x d.lines) (sym same) d.stands;
      rows_are = ap (λ (x : Progress). x.size.rows) same ∙ d.rows_are;
      cols_are = ap (λ (x : Progress). x.size.cols) same ∙ d.cols_are;
      pairs_are = ap (λ (x : Progress). x.acsc) same ∙ d.pairs_are;
      short = d.short;
      follow = d.follow;
      few = omega (arith, f, room);
      sent = d.sent;
      caps = subst (λ (x : Progress). HasCaps entry n x) (sym same) d.caps;
    }

-- the string of a checked row sends these bytes
sent_by : (entry : Content) (row : Row) (string bytes : List ℕ) → string_of entry row ≡ Some string → is_checked entry row ≡ true → Sends string row bytes → IsSent entry row bytes
sent_by entry row string bytes there checked sends = record {
  checked = checked;
  sends = record { string = string; there = there; sends = record { bytes = bytes; sends = sends; line_has = refl } };
}

-- a line of this string is a line that it sends
pub adds_judged : (string bytes : List ℕ) (row : Row) (old new : Draft) → Sends string row bytes → AddsLine row bytes old new → AddsSent string row old new
adds_judged string bytes row old new sends adds = λ rows cols entry n there checked d. adds rows cols entry n (sent_by entry row string bytes there checked sends) d

-- the line of a standard string
pub adds_standard : (string bytes : List ℕ) (row : Row) (old mid new : Draft) → mid.progress ≡ old.progress → mid.room ≡ old.room → IsStandardSent row string bytes → AddsLine row bytes mid new → AddsSent string row old new
adds_standard string bytes row old mid new same room is adds = λ rows cols entry n there checked d.
    adds rows cols entry n (sent_by entry row string bytes there checked (form_sends string row bytes is.form.has is.string_is is.form.bytes_are)) (rebuffered old mid rows cols entry n same room d)

-- the line of any other string
pub adds_other : (string : List ℕ) (row : Row) (old mid new : Draft) → mid.progress ≡ old.progress → mid.room ≡ old.room → AddsSent string row mid new → AddsSent string row old new
adds_other string row old mid new same room adds = λ rows cols entry n there checked d. adds rows cols entry n there checked (rebuffered old mid rows cols entry n same room d)

-- one capability has one string
same_string : (entry : Content) (row other : Row) → order row ≡ order other → string_of entry row ≡ string_of entry other
same_string entry row other e = ap (λ (n : ℕ). string_at entry (83 + string_in_order n)) e

-- the place in the order tells whether a capability has lines
at_order : (p : Progress) (row other : Row) → order row ≡ order other → has_group p.known.strings other ≡ true → has_group p.known.strings row ≡ true
at_order p row other same h = subst (λ (k : ℕ). not (length (group_at p.known.strings k) == 0) ≡ true) (sym same) h

-- the string of one row is that of the next
pub adds_next : (string : List ℕ) (first row : Row) (old mid new : Draft) → order row ≡ order first → ((rows cols : ℕ) (entry : Content) (n : ℕ) → string_of entry first ≡ Some string → is_checked entry first ≡ true → IsDraft rows cols entry n old → IsDraft rows cols entry n mid)
    → AddsSent string row mid new → AddsSent string first old new
adds_next string first row old mid new same before adds = λ rows cols entry n there checked d.
    let a : IsDraftWith rows cols entry n row new = adds rows cols entry n (same_string entry row first same ∙ there) (same_checked entry row first same ∙ checked) (before rows cols entry n there checked d) in
    record { draft = a.draft; has = at_order new.progress first row (sym same) a.has }

-- the capability at the next place has lines too, if it is checked
more_caps : (rows cols : ℕ) (entry : Content) (first : Row) (d : Draft) → IsDraft rows cols entry (order first) d → (is_checked entry first ≡ true → has_group d.progress.known.strings first ≡ true) → IsDraft rows cols entry (order first + 1) d
more_caps rows cols entry first d draft own =
    let At : ℕ → Type 0 = λ k. (row : Row) → order row ≡ k → is_checked entry row ≡ true → has_group d.progress.known.strings row ≡ true in
    let here : At (order first) = λ row same checked. at_order d.progress row first same (own (sym (same_checked entry row first same) ∙ checked)) in
    let below : (k : ℕ) → k < order first → At k = λ k lt row same checked. draft.caps row (omega (arith, lt, same)) checked in
    record {
      lines = draft.lines;
      stands = draft.stands;
      rows_are = draft.rows_are;
      cols_are = draft.cols_are;
      pairs_are = draft.pairs_are;
      short = draft.short;
      follow = draft.follow;
      few = draft.few;
      sent = draft.sent;
      caps = λ row lt checked. below_more At (order first) below here (order row) lt row refl checked;
    }

pub skips_cap : (entry : Content) (first : Row) (d : Draft) → is_checked entry first ≡ false → AddsCaps entry (order first) (order first + 1) d d
skips_cap entry first d unchecked = λ rows cols draft. more_caps rows cols entry first d draft (λ checked. absurd (false≢true (sym unchecked ∙ checked)))

pub adds_cap : (entry : Content) (first : Row) (string : List ℕ) (old new : Draft) → is_checked entry first ≡ true → string_of entry first ≡ Some string → AddsSent string first old new → AddsCaps entry (order first) (order first + 1) old new
adds_cap entry first string old new checked there adds = λ rows cols draft.
    let a : IsDraftWith rows cols entry (order first) first new = adds rows cols entry (order first) there checked draft in
    more_caps rows cols entry first new a.draft (λ c. a.has)

-- ---- all lines in the order of a text

in_order : (rows cols : ℕ) (before lines : List RowLine) → Follow rows cols before → StandInOrder rows cols before lines → StandInOrder rows cols [] (reverse before ++ lines)
in_order rows cols [] lines f s = s
in_order rows cols (line ∷ before) lines f s = subst (λ (l : List RowLine). StandInOrder rows cols [] l) (sym (turned line before lines)) (in_order rows cols before (line ∷ lines) f.1 (f.0, s))

each_is : (rows cols : ℕ) (before lines : List RowLine) → IsSize rows cols → Follow rows cols before → AllByRecursion IsLine lines → AllByRecursion IsLine (reverse before ++ lines)
each_is rows cols [] lines size f each = each
each_is rows cols (line ∷ before) lines size f each = subst (λ (l : List RowLine). AllByRecursion IsLine l) (sym (turned line before lines))
    (each_is rows cols before (line ∷ lines) size f.1 (line_is rows cols line size f.0.place.range f.0.has, each))

lines_length : (before lines : List RowLine) → length (ended (row_lines (reverse before ++ lines))) ≡ text_bytes before + length (ended (row_lines lines))
lines_length [] lines = omega arith
lines_length (line ∷ before) lines =
    let e : length (ended (row_lines (reverse (line ∷ before) ++ lines))) ≡ length (ended (row_lines (reverse before ++ (line ∷ lines)))) = ap (λ (l : List RowLine). length (ended (row_lines l))) (turned line before lines) in
    let h : length (ended (row_lines (reverse before ++ (line ∷ lines)))) ≡ text_bytes before + length (ended (row_lines (line ∷ lines))) = lines_length before (line ∷ lines) in
    let l = ended_length (line_text line) (row_lines lines) in
    omega (arith, e, h, l)

hex_short : (bytes : List ℕ) → length (hex_text bytes) ≤ 2 * length bytes + 1
hex_short [] = omega arith
hex_short (b ∷ bytes) = let l = length-encode_with lower_digits (b ∷ bytes) in omega (arith, l)

pairs_short : (pairs : Option (List ℕ)) (rest : List (List ℕ)) → ArePairsShort pairs → length (ended (acsc_lines pairs ++ rest)) ≤ 2000100 + length (ended rest)
pairs_short None rest short = omega arith
pairs_short (Some bytes) rest short =
    let l = ended_length (acsc_text bytes) rest in
    let h : length (hex_text bytes) ≤ 2 * length bytes + 1 = hex_short bytes in
    let a : length (acsc_text bytes) ≡ 5 + length (hex_text bytes) = omega arith in
    omega (arith, l, h, a, short)

-- the text of these lines, which are listed with the latest first
abbrev text_of : ℕ → ℕ → Option (List ℕ) → List RowLine → List ℕ
text_of rows cols pairs lines = ended (size_text rows cols ∷ (acsc_lines pairs ++ row_lines (reverse lines)))

text_short : (rows cols : ℕ) (pairs : Option (List ℕ)) (lines : List RowLine) → IsSize rows cols → ArePairsShort pairs → text_bytes lines ≤ most → length (text_of rows cols pairs lines) ≤ limit
text_short rows cols pairs lines size short few =
    let first = ended_length (size_text rows cols) (acsc_lines pairs ++ row_lines (reverse lines)) in
    let s : length (size_text rows cols) < 100 = size_short rows cols size in
    let p : length (ended (acsc_lines pairs ++ row_lines (reverse lines))) ≤ 2000100 + length (ended (row_lines (reverse lines))) = pairs_short pairs (row_lines (reverse lines)) short in
    let e : length (ended (row_lines (reverse lines))) ≡ length (ended (row_lines (reverse lines ++ []))) = ap (λ (l : List RowLine). length (ended (row_lines l))) (sym (append-nil (reverse lines))) in
    let l : length (ended (row_lines (reverse lines ++ []))) ≡ text_bytes lines + length (ended (row_lines [])) = lines_length lines [] in
    let last : length (ended (row_lines [])) ≡ 4 = refl in
    omega (arith, first, s, p, e, l, last, few)

certificate : (rows cols : ℕ) (pairs : Option (List ℕ)) (lines : List RowLine) → IsSize rows cols → IsAcsc pairs → ArePairsShort pairs → Follow rows cols lines → IsComplete rows cols lines None → text_bytes lines ≤ most
    → IsCertificate rows cols (text_of rows cols pairs lines) pairs (reverse lines)
certificate rows cols pairs lines size acsc short follow complete few = record {
  spelled = record {
    size = size_is rows cols size;
    acsc = acsc;
    lines = subst (λ (l : List RowLine). AllByRecursion IsLine l) (append-nil (reverse lines)) (each_is rows cols lines [] size follow tt);
    spelled = refl;
  };
  stands = subst (λ (l : List RowLine). StandInOrder rows cols [] l) (append-nil (reverse lines)) (in_order rows cols lines [] follow complete);
  few = text_short rows cols pairs lines size short few;
}

-- the last line
pub finishes : (rows cols : ℕ) (entry : Content) (d : Draft) (q : Progress) → IsSize rows cols → IsEntry entry → IsDraft rows cols entry capabilities d → AnswersLast d.progress (Ok q) → IsFinished rows cols entry q
finishes rows cols entry d q size is draft answers =
    let pairs : Option (List ℕ) = string_at entry acsc in
    let s : Steps q d.progress.size.rows d.progress.size.cols (JudgesLast d.progress.size.rows d.progress.size.cols pairs draft.lines) = answers pairs draft.lines draft.stands draft.pairs_are in
    let l = last_passes d.progress.size.rows d.progress.size.cols pairs draft.lines s.after s.judges in
    let tells : TellsNow q (Ended pairs draft.lines) = subst (λ (x : Said). TellsNow q x) l.2 s.tells in
    let st = stands_at q q.awaited pairs draft.lines tells in
    let complete : IsComplete rows cols draft.lines None = sized (λ r c. IsComplete r c draft.lines None) d.progress.size.rows d.progress.size.cols rows cols draft.rows_are draft.cols_are l.0 in
    let together : OfLines rows cols draft.lines (λ t. GoesTogether (is_some pairs) t)
    = sized (λ r c. OfLines r c draft.lines (λ t. GoesTogether (is_some pairs) t)) d.progress.size.rows d.progress.size.cols rows cols draft.rows_are draft.cols_are l.1 in
    let f = draft.few in
    record {
      whole = record { pairs = pairs; lines = draft.lines; tells = tells };
      stands = st.0;
      rows_are = s.rows ∙ draft.rows_are;
      cols_are = s.cols ∙ draft.cols_are;
      pairs_are = st.1;
      sent = draft.sent;
      caps = λ row checked. st.0.lists.groups row ∙ (sym (draft.stands.lists.groups row) ∙ draft.caps row (orders_small row) checked);
      complete = complete;
      text = text_of rows cols pairs draft.lines;
      says = subst (λ (ls : List RowLine). IsAnswer rows cols (text_of rows cols pairs draft.lines) (Ok (Ended pairs ls))) (reverse-reverse draft.lines)
          (accepted_certificate rows cols (text_of rows cols pairs draft.lines) pairs (reverse draft.lines)
          (certificate rows cols pairs draft.lines size (pairs_are (value_at entry acsc) (is.bytes acsc)) draft.short draft.follow complete (omega (arith, f)))
          (subst (λ (ls : List RowLine). OfLines rows cols ls (λ t. GoesTogether (is_some pairs) t)) (sym (reverse-reverse draft.lines)) together));
    }

-- the last line, behind those that the entry's strings have
pub finished : (entry : Content) (rows cols : ℕ) (old new : Draft) (q : Progress) → IsSize rows cols → IsEntry entry → IsDraft rows cols entry 0 old → AddsCaps entry 0 capabilities old new → AnswersLast new.progress (Ok q) → IsFinished rows cols entry q
finished entry rows cols old new q size is draft adds answers = finishes rows cols entry new q size is (adds rows cols draft) answers

-- ---- the lines are those of the entry

-- the line of a row, if there is one, is sent
given_sent : (entry : Content) (p : Progress) (lines : List RowLine) (row : Row) (bytes : List ℕ) → Stands p lines → AreSent entry lines → row_string p.known.strings row ≡ Some bytes → IsSent entry row bytes
given_sent entry p lines row bytes stands sent there =
    let g : GivesBytes lines row bytes = stands.lists.found row bytes there in
    subst (λ (r : Row). IsSent entry r bytes) g.of_row (subst (λ (b : List ℕ). IsSent entry g.line.row b) g.bytes_are (sent g.line g.among))

-- no line is about a row for which there are no bytes
not_given : (p : Progress) (lines : List RowLine) (row : Row) → Stands p lines → row_string p.known.strings row ≡ None → HasLine lines row → ⊥
not_given p lines row stands none h =
    let some : row_string p.known.strings row ≡ Some h.line.bytes = subst (λ (r : Row). row_string p.known.strings r ≡ Some h.line.bytes) h.of_row (stands.lists.kept h.line h.among) in
    let no : None ≡ Some h.line.bytes = sym none ∙ some in
    absurd cc

-- the lines are those that the entry sends
pub finished_agrees : (rows cols : ℕ) (entry : Content) (p : Progress) → IsFinished rows cols entry p → EntryAgrees rows cols entry (λ row. row_string p.known.strings row)
finished_agrees rows cols entry p f = λ row range. agrees_on row range (row_string p.known.strings row) refl
  where
    lacking : (row : Row) → IsInRange rows cols row → is_checked entry row ≡ true → row_string p.known.strings row ≡ None → IsLacking rows cols f.whole.lines None row
    lacking row range checked none = record {
      range = range;
      absent = not_given p f.whole.lines row f.stands none;
      before = tt;
      due = inr (inl (has_cap f.whole.lines row row refl (sym (f.stands.lists.groups row) ∙ f.caps row checked)));
    }

    agrees_on : (row : Row) → IsInRange rows cols row → (line : Option (List ℕ)) → row_string p.known.strings row ≡ line → LineAgrees entry line row
    agrees_on row range (Some bytes) there =
        let s : IsSent entry row bytes = given_sent entry p f.whole.lines row bytes f.stands f.sent there in
        record { checked = λ c. s.sends; unchecked = λ u. absurd (false≢true (sym u ∙ s.checked)) }
    agrees_on row range None none = record { checked = λ c. absurd (f.complete row (lacking row range c none)); unchecked = λ u. refl }

-- ---- the table

pub sizes_in_table : (rows cols : ℕ) (entry : Content) (q : Progress) (table : CheckedTable) → IsFinished rows cols entry q → IsTableMade q table → (table.known.strings.rows ≡ rows) × (table.known.strings.cols ≡ cols)
sizes_in_table rows cols entry q table f made =
    (ap (λ (k : Known). k.strings.rows) made.known ∙ (f.stands.rows ∙ f.rows_are), ap (λ (k : Known). k.strings.cols) made.known ∙ (f.stands.cols ∙ f.cols_are))

pub has_text : (rows cols : ℕ) (entry : Content) (q : Progress) (table : CheckedTable) → IsFinished rows cols entry q → IsTableMade q table → HasText rows cols table
has_text rows cols entry q table f made = record {
  text = f.text;
  is = record {
    lines = f.whole.lines;
    says = subst (λ (o : Option (List ℕ)). IsAnswer rows cols f.text (Ok (Ended o f.whole.lines))) (sym (made.acsc ∙ f.pairs_are)) f.says;
    found = λ row bytes h. f.stands.lists.found row bytes (ap (λ (k : Known). row_string k.strings row) (sym made.known) ∙ h);
    kept = λ line a. ap (λ (k : Known). row_string k.strings line.row) made.known ∙ f.stands.lists.kept line a;
  };
}

pub few_in_table : (rows cols : ℕ) (entry : Content) (q : Progress) (table : CheckedTable) → IsFinished rows cols entry q → IsTableMade q table → total table.known.strings < limit
few_in_table rows cols entry q table f made =
    let few = few_bytes rows cols f.text (string_at entry acsc) f.whole.lines f.says in
    let is = f.stands.lists.total_is in
    let same : total table.known.strings ≡ total q.known.strings = ap (λ (k : Known). total k.strings) made.known in
    omega (arith, few, is, same)

pub acsc_in_table : (rows cols : ℕ) (entry : Content) (q : Progress) (table : CheckedTable) → IsFinished rows cols entry q → IsTableMade q table → table.acsc ≡ string_at entry acsc
acsc_in_table rows cols entry q table f made = made.acsc ∙ f.pairs_are

pub agrees_in_table : (rows cols : ℕ) (entry : Content) (q : Progress) (table : CheckedTable) → IsFinished rows cols entry q → IsTableMade q table
    → EntryAgrees table.known.strings.rows table.known.strings.cols entry (λ row. row_string table.known.strings row)
agrees_in_table rows cols entry q table f made =
    let sizes = sizes_in_table rows cols entry q table f made in
    subst (λ (k : Known). EntryAgrees table.known.strings.rows table.known.strings.cols entry (λ row. row_string k.strings row)) (sym made.known)
    (sized (λ r c. EntryAgrees r c entry (λ row. row_string q.known.strings row)) rows cols table.known.strings.rows table.known.strings.cols (sym sizes.0) (sym sizes.1) (finished_agrees rows cols entry q f))
