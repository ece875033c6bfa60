-- The rows before a refused one stand, and their lines are written.
use Rattle.std.proofs.Common.{◌≡◌, ◌⊎◌, inl, inr, ◌<◌, ◌≤◌, ◌+◌, ℕ, true, false, List, [], ◌∷◌, ◌++◌, length, None, Some, refl, sym, ap, subst, ◌∙◌, arith}
use Rattle.std.proofs.Math.Nat.{eq-or-lt_of_le}
use Rattle.std.proofs.lemmas.Bool.{false≢true}
use Rattle.std.proofs.lemmas.Option.{same_Some}
use Rattle.vt_term.specs.Size.{IsSize}
use Rattle.vt_effects.specs.declared.effects.Effect.{Effect}
use Rattle.ti_caps.specs.Entry.{Content}
use Rattle.ti_conforms.specs.Charsets.{IsAmong}
use Rattle.ti_rows.specs.declared.rows.Row.{Row}
use Rattle.ti_rows.specs.Names.{order, cap_of, capabilities}
use Rattle.ti_rows.specs.Params.{params}
use Rattle.ti_rows.specs.Lists.{IsFirst, IsInRange, Follows, next, rank, count}
use Rattle.ti_rows.proofs.NameFacts.{orders_small}
use Rattle.ti_rows.proofs.ListFacts.{last_is_last, ranks_below, one_of_rank}
use Rattle.ti_lines.specs.declared.row_lines.RowLine.{RowLine}
use Rattle.ti_lines.specs.RowLines.{line_text}
use Rattle.ti_conforms.specs.Entries.{is_checked, string_of}
use Rattle.ti_conforms.proofs.Walks.{same_count}
use Rattle.ti_cert.specs.Order.{Precedes, HasLine}
use Rattle.ti_cert.proofs.Elements.{among_front, among_behind, among_either}
use Rattle.ti_checker.specs.No.{IsRowRefused, IsRowFault, IsOfRow}
use Rattle.ti_checker.specs.First.{SendsAsked, RowStands, IsDrafted}
use Rattle.ti_checker.specs.Limit.{IsLineOf, AreLines, IsUpTo, PassesLimit, StaysWithin, IsLineFor, AddsLine, Overflows, front_with, most}
use Rattle.ti_checker.specs.declared.causes.Cause.{Cause}
use Rattle.ti_checker.specs.declared.causes.Cause.TheVariants.{TooLong}
use Rattle.ti_checker.specs.declared.causes.No.{No}
use Rattle.ti_checker.proofs.Order.{order_end}
use Rattle.ti_checker.proofs.Passages.{front_end, text_length}
use Rattle.ti_conforms.proofs.Matches.{same_checked}

abbrev IsBefore : ℕ → ℕ → Row → Row → Type 0
IsBefore rows cols row other = Precedes rows cols other row

-- ---- one more line

line_of : (entry : Content) (rows cols : ℕ) (string : List ℕ) (row : Row) (line : RowLine) → IsInRange rows cols row → is_checked entry row ≡ true → string_of entry row ≡ Some string → line.row ≡ row → IsLineFor rows cols string line
    → IsLineOf entry rows cols line
line_of entry rows cols string row line range checked there e is =
    record {
      sent = record {
        range = subst (λ (r : Row). IsInRange rows cols r) (sym e) range;
        checked = ap (λ (r : Row). is_checked entry r) e ∙ checked;
        sends = record { string = string; there = ap (λ (r : Row). string_of entry r) e ∙ there; sends = is.sends };
      };
      has = is.has;
    }

lines_end : (entry : Content) (rows cols : ℕ) (row : Row) (lines : List RowLine) (line : RowLine) → AreLines entry rows cols (IsBefore rows cols row) lines → IsLineOf entry rows cols line → line.row ≡ row
    → AreLines entry rows cols (IsUpTo rows cols row) (lines ++ line ∷ [])
lines_end entry rows cols row lines line a is e = record {
  ordered = order_end rows cols lines line a.ordered (λ other among. subst (λ (r : Row). Precedes rows cols other.row r) (sym e) (a.held other among));
  each = λ other among. each other (among_either lines (line ∷ []) other among);
  held = λ other among. held other (among_either lines (line ∷ []) other among);
  all = all;
}
  where
    each : (other : RowLine) → IsAmong lines other ⊎ IsAmong (line ∷ []) other → IsLineOf entry rows cols other
    each other (inl b) = a.each other b
    each other (inr (inl k)) = subst (λ (l : RowLine). IsLineOf entry rows cols l) (sym k) is
    each other (inr (inr b)) = absurd b

    held : (other : RowLine) → IsAmong lines other ⊎ IsAmong (line ∷ []) other → IsUpTo rows cols row other.row
    held other (inl b) = inr (a.held other b)
    held other (inr (inl k)) = inl (ap (λ (l : RowLine). l.row) k ∙ e)
    held other (inr (inr b)) = absurd b

    all : (other : Row) → IsInRange rows cols other → is_checked entry other ≡ true → IsUpTo rows cols row other → HasLine (lines ++ line ∷ []) other
    all other range checked (inl k) = record { line = line; among = among_behind lines (line ∷ []) line (inl refl); of_row = e ∙ sym k }
    all other range checked (inr p) = let h = a.all other range checked p in record { line = h.line; among = among_front lines (line ∷ []) h.line h.among; of_row = h.of_row }

-- the text of the lines before, with one more line
added_is : (entry : Content) (rows cols : ℕ) (lines : List RowLine) (string : List ℕ) (row : Row) (old new : List ℕ) (a : AddsLine rows cols string row old new) → old ≡ front_with entry rows cols lines
    → new ≡ front_with entry rows cols (lines ++ a.line ∷ [])
added_is entry rows cols lines string row old new a e =
    a.added ∙ (ap (λ (l : List ℕ). l ++ (line_text a.line ++ 10 ∷ [])) e ∙ sym (front_end entry rows cols lines a.line))

-- as `added_is`, with the text and the bytes before
pub added_same : (old between new : List ℕ) (row : Row) (a b : List ℕ) (e : Effect) → between ≡ old → a ≡ b → new ≡ between ++ (line_text (record { row = row; bytes = a; effect = e }) ++ 10 ∷ [])
    → new ≡ old ++ (line_text (record { row = row; bytes = b; effect = e }) ++ 10 ∷ [])
added_same old between new row a b e p q h =
    h ∙ (ap (λ (t : List ℕ). t ++ (line_text (record { row = row; bytes = a; effect = e }) ++ 10 ∷ [])) p ∙ ap (λ (x : List ℕ). old ++ (line_text (record { row = row; bytes = x; effect = e }) ++ 10 ∷ [])) q)

-- the line of a row whose bytes were judged is added
pub adds_judged : (rows cols : ℕ) (string : List ℕ) (row : Row) (old between new a b : List ℕ) (e : Effect) → between ≡ old → a ≡ b → IsLineFor rows cols string (record { row = row; bytes = b; effect = e })
    → new ≡ between ++ (line_text (record { row = row; bytes = a; effect = e }) ++ 10 ∷ []) → AddsLine rows cols string row old new
adds_judged rows cols string row old between new a b e p q is h =
    record { line = record { row = row; bytes = b; effect = e }; of_row = refl; is = is; added = added_same old between new row a b e p q h }

right_stands : (entry : Content) (rows cols : ℕ) (row : Row) (string : List ℕ) → string_of entry row ≡ Some string → SendsAsked rows cols string row → RowStands entry rows cols row
right_stands entry rows cols row string there right checked other found =
    subst (λ (x : List ℕ). SendsAsked rows cols x row) (same_Some string other (sym there ∙ found)) right

pub one_more : (entry : Content) (rows cols : ℕ) (string : List ℕ) (row : Row) (old new : List ℕ) → IsInRange rows cols row → is_checked entry row ≡ true → string_of entry row ≡ Some string → SendsAsked rows cols string row
    → AddsLine rows cols string row old new → length new ≤ most → IsDrafted entry rows cols (IsBefore rows cols row) old → IsDrafted entry rows cols (IsUpTo rows cols row) new
one_more entry rows cols string row old new range checked there right adds short d = record {
  stand = stand;
  written = record {
    lines = d.written.lines ++ adds.line ∷ [];
    are = lines_end entry rows cols row d.written.lines adds.line d.written.are (line_of entry rows cols string row adds.line range checked there adds.of_row adds.is) adds.of_row;
    text_is = added_is entry rows cols d.written.lines string row old new adds d.written.text_is;
    short = short;
  };
}
  where
    stand : (other : Row) → IsInRange rows cols other → IsUpTo rows cols row other → RowStands entry rows cols other
    stand other in_range (inl e) = subst (λ (r : Row). RowStands entry rows cols r) (sym e) (right_stands entry rows cols row string there right)
    stand other in_range (inr p) = d.stand other in_range p

-- ---- the drafted rows, described in another way

pub drafted_as : (entry : Content) (rows cols : ℕ) (P Q : Row → Type 0) (text : List ℕ) → ((row : Row) → IsInRange rows cols row → P row → Q row) → ((row : Row) → IsInRange rows cols row → is_checked entry row ≡ true → Q row → P row)
    → IsDrafted entry rows cols P text → IsDrafted entry rows cols Q text
drafted_as entry rows cols P Q text over back d = record {
  stand = λ row range q checked string there. d.stand row range (back row range checked q) checked string there;
  written = record {
    lines = d.written.lines;
    are = record {
      ordered = d.written.are.ordered;
      each = d.written.are.each;
      held = λ line among. over line.row (d.written.are.each line among).sent.range (d.written.are.held line among);
      all = λ row range checked q. d.written.are.all row range checked (back row range checked q);
    };
    text_is = d.written.text_is;
    short = d.written.short;
  };
}

-- the rows drafted before a capability's first row
pub before_first : (entry : Content) (rows cols : ℕ) (first : Row) (text : List ℕ) → IsFirst rows cols first → IsDrafted entry rows cols (λ row. order row < order first) text → IsDrafted entry rows cols (IsBefore rows cols first) text
before_first entry rows cols first text is d = drafted_as entry rows cols (λ row. order row < order first) (IsBefore rows cols first) text (λ row range lt. inl lt) back d
  where
    back : (row : Row) → IsInRange rows cols row → is_checked entry row ≡ true → Precedes rows cols row first → order row < order first
    back row range checked (inl lt) = lt
    back row range checked (inr same) = let zero = is.rank_zero in let lt = same.1 in absurd (omega (arith, zero, lt))

-- the rows drafted before the next row
pub before_next : (entry : Content) (rows cols : ℕ) (row other : Row) (text : List ℕ) → IsInRange rows cols row → Follows rows cols row other → IsDrafted entry rows cols (IsUpTo rows cols row) text
    → IsDrafted entry rows cols (IsBefore rows cols other) text
before_next entry rows cols row other text range f d = drafted_as entry rows cols (IsUpTo rows cols row) (IsBefore rows cols other) text over back d
  where
    over : (one : Row) → IsInRange rows cols one → IsUpTo rows cols row one → Precedes rows cols one other
    over one in_range (inl e) = let k = f.rank_next in let r = ap (λ (x : Row). rank rows cols x) e in inr (ap (λ (x : Row). order x) e ∙ sym f.same_order, omega (arith, k, r))
    over one in_range (inr (inl lt)) = let k = f.same_order in inl (omega (arith, lt, k))
    over one in_range (inr (inr same)) = let k = f.rank_next in let lt = same.1 in inr (same.0 ∙ sym f.same_order, omega (arith, lt, k))

    by_rank : (one : Row) → IsInRange rows cols one → order one ≡ order row → (rank rows cols one ≡ rank rows cols row) ⊎ (rank rows cols one < rank rows cols row) → IsUpTo rows cols row one
    by_rank one in_range same (inl e) = inl (one_of_rank rows cols one row in_range range same e)
    by_rank one in_range same (inr lt) = inr (inr (same, lt))

    back : (one : Row) → IsInRange rows cols one → is_checked entry one ≡ true → Precedes rows cols one other → IsUpTo rows cols row one
    back one in_range checked (inl lt) = let k = f.same_order in inr (inl (omega (arith, lt, k)))
    back one in_range checked (inr same) = let k = f.rank_next in let lt = same.1 in by_rank one in_range (same.0 ∙ f.same_order) (eq-or-lt_of_le (omega (arith, lt, k)))

-- ---- a capability whose rows are all done

-- the rows drafted after a capability's last row
pub after_last : (entry : Content) (rows cols n : ℕ) (row : Row) (text : List ℕ) → IsSize rows cols → IsInRange rows cols row → order row ≡ n → next rows cols row ≡ None → IsDrafted entry rows cols (IsUpTo rows cols row) text
    → IsDrafted entry rows cols (λ one. order one < n + 1) text
after_last entry rows cols n row text size range same last d = drafted_as entry rows cols (IsUpTo rows cols row) (λ one. order one < n + 1) text over back d
  where
    over : (one : Row) → IsInRange rows cols one → IsUpTo rows cols row one → order one < n + 1
    over one in_range (inl e) = let k = ap (λ (x : Row). order x) e in omega (arith, k, same)
    over one in_range (inr (inl lt)) = omega (arith, lt, same)
    over one in_range (inr (inr p)) = let k = p.0 in omega (arith, k, same)

    by_rank : (one : Row) → IsInRange rows cols one → order one ≡ order row → (rank rows cols one ≡ rank rows cols row) ⊎ (rank rows cols one < rank rows cols row) → IsUpTo rows cols row one
    by_rank one in_range k (inl e) = inl (one_of_rank rows cols one row in_range range k e)
    by_rank one in_range k (inr lt) = inr (inr (k, lt))

    by_order : (one : Row) → IsInRange rows cols one → (order one ≡ n) ⊎ (order one < n) → IsUpTo rows cols row one
    by_order one in_range (inl e) =
        let most_rank : rank rows cols row + 1 ≡ count rows cols row = last_is_last rows cols row size range last in
        let alike : count rows cols one ≡ count rows cols row = same_count rows cols one row (e ∙ sym same) in
        let below : rank rows cols one < count rows cols one = ranks_below rows cols one size in_range in
        by_rank one in_range (e ∙ sym same) (eq-or-lt_of_le (omega (arith, most_rank, alike, below)))
    by_order one in_range (inr lt) = inr (inl (omega (arith, lt, same)))

    back : (one : Row) → IsInRange rows cols one → is_checked entry one ≡ true → order one < n + 1 → IsUpTo rows cols row one
    back one in_range checked lt = by_order one in_range (eq-or-lt_of_le (omega (arith, lt)))

-- a capability that isn't checked
pub unchecked_cap : (entry : Content) (rows cols n : ℕ) (first : Row) (text : List ℕ) → order first ≡ n → is_checked entry first ≡ false → IsDrafted entry rows cols (λ one. order one < n) text
    → IsDrafted entry rows cols (λ one. order one < n + 1) text
unchecked_cap entry rows cols n first text same unchecked d = drafted_as entry rows cols (λ one. order one < n) (λ one. order one < n + 1) text (λ one range lt. omega (arith, lt)) back d
  where
    by_order : (one : Row) → is_checked entry one ≡ true → (order one ≡ n) ⊎ (order one < n) → order one < n
    by_order one checked (inl e) = absurd (false≢true (sym unchecked ∙ (same_checked entry first one (same ∙ sym e) ∙ checked)))
    by_order one checked (inr lt) = lt

    back : (one : Row) → IsInRange rows cols one → is_checked entry one ≡ true → order one < n + 1 → order one < n
    back one in_range checked lt = by_order one checked (eq-or-lt_of_le (omega (arith, lt)))

-- ---- a row that is refused

within : (entry : Content) (rows cols : ℕ) (row : Row) (text : List ℕ) → IsDrafted entry rows cols (IsBefore rows cols row) text → StaysWithin entry rows cols row
within entry rows cols row text d = record {
  lines = d.written.lines;
  are = d.written.are;
  short = let l = text_length entry rows cols d.written.lines in
      let e = ap (λ (x : List ℕ). length x) d.written.text_is in
      let s = d.written.short in
      omega (arith, l, e, s);
}

passes : (entry : Content) (rows cols : ℕ) (string : List ℕ) (row : Row) (text : List ℕ) → IsInRange rows cols row → is_checked entry row ≡ true → string_of entry row ≡ Some string
    → IsDrafted entry rows cols (IsBefore rows cols row) text → Overflows rows cols string row text → PassesLimit entry rows cols row
passes entry rows cols string row text range checked there d o = record {
  lines = d.written.lines ++ o.adds.line ∷ [];
  are = lines_end entry rows cols row d.written.lines o.adds.line d.written.are (line_of entry rows cols string row o.adds.line range checked there o.adds.of_row o.adds.is) o.adds.of_row;
  long = let l = text_length entry rows cols (d.written.lines ++ o.adds.line ∷ []) in
      let e = ap (λ (x : List ℕ). length x) (added_is entry rows cols d.written.lines string row text o.new o.adds d.written.text_is) in
      let k = o.long in
      omega (arith, l, e, k);
}

fault_of : (entry : Content) (rows cols : ℕ) (string : List ℕ) (row : Row) (text : List ℕ) (cause : Cause) → IsInRange rows cols row → is_checked entry row ≡ true → string_of entry row ≡ Some string
    → IsRowRefused rows cols string row text cause → IsDrafted entry rows cols (IsBefore rows cols row) text → IsRowFault entry rows cols row cause
fault_of entry rows cols string row text TooLong range checked there h d = passes entry rows cols string row text range checked there d h
fault_of entry rows cols string row text _ range checked there h d = record { string = string; there = there; faulty = h }

pub refused_row : (entry : Content) (rows cols : ℕ) (string : List ℕ) (row : Row) (text : List ℕ) (refusal : No) → IsInRange rows cols row → is_checked entry row ≡ true → string_of entry row ≡ Some string
    → refusal.cap ≡ cap_of row → refusal.params.items ≡ params row → IsRowRefused rows cols string row text refusal.cause → IsDrafted entry rows cols (IsBefore rows cols row) text → IsOfRow entry rows cols refusal
refused_row entry rows cols string row text refusal range checked there cap numbers h d = record {
  row = row;
  cap_is = cap;
  params_are = numbers;
  range = range;
  checked = checked;
  fault = fault_of entry rows cols string row text refusal.cause range checked there h d;
  earlier = d.stand;
  within = within entry rows cols row text d;
}

-- ---- all capabilities

pub all_caps : (entry : Content) (rows cols n : ℕ) (text : List ℕ) → capabilities ≤ n → IsDrafted entry rows cols (λ row. order row < n) text → IsDrafted entry rows cols (λ row. order row < capabilities) text
all_caps entry rows cols n text all d = drafted_as entry rows cols (λ row. order row < n) (λ row. order row < capabilities) text (λ row range lt. orders_small row) (λ row range checked lt. omega (arith, lt, all)) d
