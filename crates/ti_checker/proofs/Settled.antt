-- The facts seen of an entry's strings hold in every table of what it sends.
use Rattle.std.proofs.Common.{◌≡◌, ◌⊎◌, inl, inr, ℕ, ◌+◌, ◌<◌, ◌≤◌, ◌&&◌, Bool, true, false, List, [], ◌∷◌, ◌++◌, Option, None, Some, refl, sym, ap, subst, ◌∙◌, arith, below_more}
use Rattle.std.specs.Prelude.{IfNone, IfSome}
use Rattle.std.proofs.lemmas.Bool.{false≢true, cases_Bool}
use Rattle.std.proofs.lemmas.Option.{same_Some, none-some}
use Rattle.vt_term.specs.Size.{IsSize}
use Rattle.vt_term.specs.Text.{Splits}
use Rattle.vt_effects.specs.declared.effects.Effect.{Effect}
use Rattle.vt_effects.specs.declared.effects.Sets.{Sets}
use Rattle.ti_caps.specs.Entry.{Content}
use Rattle.ti_conforms.specs.declared.reach.Reach.{Reach}
use Rattle.ti_conforms.specs.Charsets.{IsAmong, joined, reach_of}
use Rattle.ti_conforms.proofs.Reaches.{reach_of-append}
use Rattle.ti_rows.specs.declared.rows.Row.{Row}
use Rattle.ti_rows.specs.Lists.{IsFirst, IsInRange, Follows, next, rank, count}
use Rattle.ti_rows.specs.Names.{order, capabilities}
use Rattle.ti_rows.proofs.ListFacts.{last_is_last, ranks_below, one_of_rank}
use Rattle.ti_rows.proofs.NameFacts.{orders_small}
use Rattle.ti_conforms.specs.Sends.{Sends}
use Rattle.ti_conforms.specs.Entries.{is_checked, string_of}
use Rattle.ti_conforms.proofs.Matches.{same_checked}
use Rattle.ti_conforms.proofs.Walks.{same_count}
use Rattle.ti_conforms.specs.Table.{Table, settles}
use Rattle.ti_conforms.specs.Sets.{Occurs}
use Rattle.ti_cert.specs.Known.{with_change}
use Rattle.ti_cert.proofs.Decided.{record_sets}
use Rattle.ti_checker.specs.Limit.{IsLineFor}
use Rattle.ti_cert.proofs.Elements.{among_front, among_behind}
use Rattle.ti_cert.proofs.Preservation.{kept_among, new_among}
use Rattle.ti_cert.specs.Seen.{IsOfLine, IsLineSeen, AreSeen, NoLine, ByLine}
use Rattle.ti_checker.specs.Kept.{every, is_sent, HasKept, OfAllKept}
use Rattle.ti_checker.specs.Switches.{HasSent, IsChangeOf, IsBefore, IsCounted, IsSeen, IsSeenToo, RowChanges}

-- ---- rows of one capability, and all capabilities

pub same_sent : (entry : Content) (kept : ℕ → Bool) (row other : Row) → order row ≡ order other → is_sent entry kept row ≡ is_sent entry kept other
same_sent entry kept row other e =
    ap (λ (n : ℕ). kept n && is_checked entry row) e ∙ ap (λ (b : Bool). kept (order other) && b) (same_checked entry row other e)

-- what the entry sends is what it sends for all capabilities
pub all_kept : (entry : Content) (rows cols : ℕ) (t : Table) → HasSent entry rows cols t → HasKept entry rows cols every t
all_kept entry rows cols t h = record {
  size = h.size;
  rows_are = h.rows_are;
  sends = λ row range. record { sent = (h.sends row range).checked; unsent = (h.sends row range).unchecked };
  only = h.only;
}

-- ---- lines

pub sent_line : (entry : Content) (rows cols : ℕ) (kept : ℕ → Bool) (t : Table) → HasKept entry rows cols kept t → (row : Row) (string bytes : List ℕ) → IsInRange rows cols row → is_sent entry kept row ≡ true → string_of entry row ≡ Some string
    → Sends string row bytes → t.line_of row ≡ Some bytes
sent_line entry rows cols kept t h row string bytes range sent there s =
    let own = (h.sends row range).sent sent in
    let same : own.string ≡ string = cc (own.there, there) in
    let sends : Sends string row own.sends.bytes = subst (λ (x : List ℕ). Sends x row own.sends.bytes) same own.sends.sends in
    let is : own.sends.bytes ≡ bytes = cc (sends.sends, s.sends) in
    own.sends.line_has ∙ ap (λ (x : List ℕ). Some x) is

-- ---- one more row

among_both : (P : List ℕ → Type 0) (ts us : List (List ℕ)) (x : List ℕ) → ((y : List ℕ) → IsAmong ts y → P y) → ((y : List ℕ) → IsAmong us y → P y) → IsAmong (ts ++ us) x → P x
among_both P [] us x f g a = g x a
among_both P (t ∷ ts) us x f g (inl e) = f x (inl e)
among_both P (t ∷ ts) us x f g (inr a) = among_both P ts us x (λ y b. f y (inr b)) g a

last_change : (P : Sets → Type 0) (cs : List Sets) (c x : Sets) → ((y : Sets) → IsAmong cs y → P y) → P c → IsAmong (cs ++ c ∷ []) x → P x
last_change P [] c x f p (inl e) = subst P (sym e) p
last_change P [] c x f p (inr a) = absurd a
last_change P (d ∷ cs) c x f p (inl e) = f x (inl e)
last_change P (d ∷ cs) c x f p (inr a) = last_change P cs c x (λ y b. f y (inr b)) p a

one_change : (P : Sets → Type 0) (b : Bool) (cs : List Sets) (c x : Sets) → ((y : Sets) → IsAmong cs y → P y) → (b ≡ true → P c) → IsAmong (with_change b cs c) x → P x
one_change P true cs c x f p a = last_change P cs c x f (p refl) a
one_change P false cs c x f p a = f x a

counted_more : (entry : Content) (kept : ℕ → Bool) (ts more : List (List ℕ)) (b : Bool) (cs : List Sets) (c : Sets) (row : Row) → IsCounted entry kept ts cs row → IsCounted entry kept (ts ++ more) (with_change b cs c) row
counted_more entry kept ts more b cs c row k = record {
  tokens = k.tokens;
  change = k.change;
  of_row = k.of_row;
  reached = λ token a. among_front ts more token (k.reached token a);
  settled = λ keeps. kept_among b cs c k.change (k.settled keeps);
}

-- a row before the next rank is before this row, or is this row
step_before : (rows cols : ℕ) (row other : Row) → IsInRange rows cols row → IsInRange rows cols other → IsBefore rows cols (order row) (rank rows cols row + 1) other
    → IsBefore rows cols (order row) (rank rows cols row) other ⊎ (row ≡ other)
step_before rows cols row other r o (inl lt) = inl (inl lt)
step_before rows cols row other r o (inr p) =
    below_more (λ k. rank rows cols other ≡ k → IsBefore rows cols (order row) (rank rows cols row) other ⊎ (row ≡ other)) (rank rows cols row)
    (λ k lt e. inl (inr (p.0, subst (λ (n : ℕ). n < rank rows cols row) (sym e) lt)))
    (λ e. inr (one_of_rank rows cols row other r o (sym p.0) (sym e)))
    (rank rows cols other) p.1 refl

now_counted : (entry : Content) (rows cols : ℕ) (kept : ℕ → Bool) (row : Row) (tokens : List (List ℕ)) (change : Sets) (ts : List (List ℕ)) (cs : List Sets) → IsChangeOf entry kept row tokens change → (other : Row)
    → (IsBefore rows cols (order row) (rank rows cols row) other → IsCounted entry kept ts cs other) → IsBefore rows cols (order row) (rank rows cols row) other ⊎ (row ≡ other)
    → IsCounted entry kept (ts ++ tokens) (with_change (settles row) cs change) other
now_counted entry rows cols kept row tokens change ts cs k other before (inl b) = counted_more entry kept ts tokens (settles row) cs change other (before b)
now_counted entry rows cols kept row tokens change ts cs k other before (inr e) = subst (λ (x : Row). IsCounted entry kept (ts ++ tokens) (with_change (settles row) cs change) x) e (record {
  tokens = tokens;
  change = change;
  of_row = k;
  reached = λ token a. among_behind ts tokens token a;
  settled = λ keeps. new_among (settles row) cs change keeps;
})

pub seen_more : (entry : Content) (rows cols : ℕ) (kept : ℕ → Bool) (row : Row) (tokens : List (List ℕ)) (change : Sets) (old new : Reach) (before after : List Sets) → IsInRange rows cols row → IsChangeOf entry kept row tokens change
    → new ≡ joined old (reach_of tokens) → after ≡ with_change (settles row) before change
    → IsSeen entry rows cols kept old before (order row) (rank rows cols row) → IsSeen entry rows cols kept new after (order row) (rank rows cols row + 1)
seen_more entry rows cols kept row tokens change old new before after range of_row reach changes s =
    let k = of_row.is in
    record {
      tokens = s.tokens ++ tokens;
      reach_is = reach ∙ (ap (λ (r : Reach). joined r (reach_of tokens)) s.reach_is ∙ sym (reach_of-append s.tokens tokens));
      occurs = λ t h token among. among_both (λ x. Occurs t x) s.tokens tokens token (s.occurs t h)
          (λ x a. record { row = row; bytes = k.bytes; there = sent_line entry rows cols kept t h row of_row.string k.bytes range of_row.sent of_row.there k.sends; tokens = tokens; whole = k.whole; among = a })
          among;
      told = λ t h x among. one_change (λ c. IsOfLine t c) (settles row) before change x (s.told t h)
          (λ keeps. record {
            row = row;
            bytes = k.bytes;
            there = sent_line entry rows cols kept t h row of_row.string k.bytes range of_row.sent of_row.there k.sends;
            keeps = keeps;
            leads = record { tokens = tokens; whole = k.whole; leads = k.leads };
          })
          (subst (λ (xs : List Sets). IsAmong xs x) changes among);
      counted = λ other r sent b. subst (λ (xs : List Sets). IsCounted entry kept (s.tokens ++ tokens) xs other) (sym changes)
          (now_counted entry rows cols kept row tokens change s.tokens before of_row other (λ p. s.counted other r sent p) (step_before rows cols row other range r b));
    }

-- the facts seen hold at another place, if no row is added
seen_at : (entry : Content) (rows cols : ℕ) (kept : ℕ → Bool) (reach : Reach) (changes : List Sets) (n k m l : ℕ) → (s : IsSeen entry rows cols kept reach changes n k)
    → ((row : Row) → IsInRange rows cols row → is_sent entry kept row ≡ true → IsBefore rows cols m l row → IsBefore rows cols n k row) → IsSeen entry rows cols kept reach changes m l
seen_at entry rows cols kept reach changes n k m l s f = record {
  tokens = s.tokens;
  reach_is = s.reach_is;
  occurs = s.occurs;
  told = s.told;
  counted = λ row range sent before. s.counted row range sent (f row range sent before);
}

-- after the last list of a capability
next_cap : (rows cols : ℕ) (row other : Row) → IsSize rows cols → IsInRange rows cols row → IsInRange rows cols other → next rows cols row ≡ None → IsBefore rows cols (order row + 1) 0 other
    → IsBefore rows cols (order row) (rank rows cols row + 1) other
next_cap rows cols row other size range r last (inl lt) =
    below_more (λ k. order other ≡ k → IsBefore rows cols (order row) (rank rows cols row + 1) other) (order row)
    (λ k less e. inl (subst (λ (n : ℕ). n < order row) (sym e) less))
    (λ e.
    let most : rank rows cols row + 1 ≡ count rows cols row = last_is_last rows cols row size range last in
    let alike : count rows cols row ≡ count rows cols other = same_count rows cols row other (sym e) in
    let below : rank rows cols other < count rows cols other = ranks_below rows cols other size r in
    inr (e, omega (arith, most, alike, below)))
    (order other) lt refl
next_cap rows cols row other size range r last (inr p) = let no : ⊥ = omega (arith, p.1) in absurd no

pub seen_cap : (entry : Content) (rows cols : ℕ) (kept : ℕ → Bool) (row : Row) (reach : Reach) (changes : List Sets) → IsSize rows cols → IsInRange rows cols row → next rows cols row ≡ None
    → IsSeen entry rows cols kept reach changes (order row) (rank rows cols row + 1) → IsSeen entry rows cols kept reach changes (order row + 1) 0
seen_cap entry rows cols kept row reach changes size range last s =
    seen_at entry rows cols kept reach changes (order row) (rank rows cols row + 1) (order row + 1) 0 s (λ other r sent b. next_cap rows cols row other size range r last b)

none_before : (rows cols : ℕ) (row : Row) → IsBefore rows cols 0 0 row → ⊥
none_before rows cols row (inl lt) = omega (arith, lt)
none_before rows cols row (inr p) = omega (arith, p.1)

-- the facts that the line of a string adds
pub is_seen_too : (rows cols : ℕ) (string : List ℕ) (row : Row) (bytes : List ℕ) (e : Effect) (old new : Reach) (before after : List Sets) → IsLineFor rows cols string (record { row = row; bytes = bytes; effect = e })
    → ((tokens : List (List ℕ)) → Splits bytes tokens [] → new ≡ joined old (reach_of tokens)) → after ≡ with_change (settles row) before e.charset → IsSeenToo string row old before new after
is_seen_too rows cols string row bytes e old new before after is reach changes = record {
  tokens = is.has.tokens;
  change = e.charset;
  is = record { bytes = bytes; sends = is.sends; whole = is.has.splits; leads = record_sets rows cols row is.has.tokens e is.has.recorded };
  reach_is = reach is.has.tokens is.has.splits;
  changes_are = changes;
}

-- a row of a string
pub seen_too : (entry : Content) (rows cols : ℕ) (kept : ℕ → Bool) (string : List ℕ) (row : Row) (old new : Reach) (before after : List Sets) → IsInRange rows cols row → is_sent entry kept row ≡ true → string_of entry row ≡ Some string
    → IsSeenToo string row old before new after → IsSeen entry rows cols kept old before (order row) (rank rows cols row) → IsSeen entry rows cols kept new after (order row) (rank rows cols row + 1)
seen_too entry rows cols kept string row old new before after range sent there s seen =
    seen_more entry rows cols kept row s.tokens s.change old new before after range (record { sent = sent; string = string; there = there; is = s.is }) s.reach_is s.changes_are seen

pub seen_first : (entry : Content) (rows cols : ℕ) (kept : ℕ → Bool) (first : Row) (reach : Reach) (changes : List Sets) → IsFirst rows cols first → IsSeen entry rows cols kept reach changes (order first) 0
    → IsSeen entry rows cols kept reach changes (order first) (rank rows cols first)
seen_first entry rows cols kept first reach changes is s = subst (λ (k : ℕ). IsSeen entry rows cols kept reach changes (order first) k) (sym is.rank_zero) s

pub seen_next : (entry : Content) (rows cols : ℕ) (kept : ℕ → Bool) (row next : Row) (reach : Reach) (changes : List Sets) → Follows rows cols row next → IsSeen entry rows cols kept reach changes (order row) (rank rows cols row + 1)
    → IsSeen entry rows cols kept reach changes (order next) (rank rows cols next)
seen_next entry rows cols kept row next reach changes f s =
    subst (λ (n : ℕ). IsSeen entry rows cols kept reach changes n (rank rows cols next)) (sym f.same_order) (subst (λ (k : ℕ). IsSeen entry rows cols kept reach changes (order row) k) (sym f.rank_next) s)

pub seen_last : (entry : Content) (rows cols : ℕ) (kept : ℕ → Bool) (row first : Row) (reach : Reach) (changes : List Sets) → IsSize rows cols → IsInRange rows cols row → next rows cols row ≡ None → order row ≡ order first
    → IsSeen entry rows cols kept reach changes (order row) (rank rows cols row + 1) → IsSeen entry rows cols kept reach changes (order first + 1) 0
seen_last entry rows cols kept row first reach changes size range last same s =
    subst (λ (n : ℕ). IsSeen entry rows cols kept reach changes (n + 1) 0) same (seen_cap entry rows cols kept row reach changes size range last s)

pub seen_unsent_cap : (entry : Content) (rows cols : ℕ) (kept : ℕ → Bool) (first : Row) (reach : Reach) (changes : List Sets) → is_sent entry kept first ≡ false → IsSeen entry rows cols kept reach changes (order first) 0
    → IsSeen entry rows cols kept reach changes (order first + 1) 0
seen_unsent_cap entry rows cols kept first reach changes unsent s = seen_at entry rows cols kept reach changes (order first) 0 (order first + 1) 0 s (λ other range sent b. earlier other sent b)
  where
    earlier : (other : Row) → is_sent entry kept other ≡ true → IsBefore rows cols (order first + 1) 0 other → IsBefore rows cols (order first) 0 other
    earlier other sent (inl lt) = below_more (λ k. order other ≡ k → IsBefore rows cols (order first) 0 other) (order first)
        (λ k less e. inl (subst (λ (n : ℕ). n < order first) (sym e) less))
        (λ e. absurd (false≢true (sym unsent ∙ (sym (same_sent entry kept other first e) ∙ sent))))
        (order other) lt refl
    earlier other sent (inr p) = let no : ⊥ = omega (arith, p.1) in absurd no

-- the rows of all capabilities
pub seen_whole : (entry : Content) (rows cols place : ℕ) (kept : ℕ → Bool) (reach : Reach) (changes : List Sets) → capabilities ≤ place → IsSeen entry rows cols kept reach changes place 0 → IsSeen entry rows cols kept reach changes capabilities 0
seen_whole entry rows cols place kept reach changes le s = seen_at entry rows cols kept reach changes place 0 capabilities 0 s (λ other range sent b. earlier other b)
  where
    earlier : (other : Row) → IsBefore rows cols capabilities 0 other → IsBefore rows cols place 0 other
    earlier other (inl lt) = inl (omega (arith, lt, le))
    earlier other (inr p) = let no : ⊥ = omega (arith, p.1) in absurd no

pub nothing_seen : (entry : Content) (rows cols : ℕ) (kept : ℕ → Bool) (reach : Reach) (changes : List Sets) → reach ≡ reach_of [] → changes ≡ [] → IsSeen entry rows cols kept reach changes 0 0
nothing_seen entry rows cols kept reach changes r e = record {
  tokens = [];
  reach_is = r;
  occurs = λ t h token among. absurd among;
  told = λ t h change among. let a : IsAmong [] change = subst (λ (xs : List Sets). IsAmong xs change) e among in absurd a;
  counted = λ row range sent b. absurd (none_before rows cols row b);
}

-- ---- the changes by a row's line

pub unsent_changes : (entry : Content) (rows cols : ℕ) (kept : ℕ → Bool) (row : Row) → IsInRange rows cols row → is_sent entry kept row ≡ false → RowChanges entry rows cols kept row None
unsent_changes entry rows cols kept row range unsent t h = NoLine ((h.sends row range).unsent unsent)

pub sent_changes : (entry : Content) (rows cols : ℕ) (kept : ℕ → Bool) (row : Row) (tokens : List (List ℕ)) (change : Sets) → IsInRange rows cols row → IsChangeOf entry kept row tokens change → RowChanges entry rows cols kept row (Some change)
sent_changes entry rows cols kept row tokens change range k t h =
    ByLine k.is.bytes (sent_line entry rows cols kept t h row k.string k.is.bytes range k.sent k.there k.is.sends) change (record { tokens = tokens; whole = k.is.whole; leads = k.is.leads })

-- ---- all lines were seen

line_seen : (entry : Content) (rows cols : ℕ) (kept : ℕ → Bool) (reach : Reach) (changes : List Sets) (s : IsSeen entry rows cols kept reach changes capabilities 0) (t : Table) → HasKept entry rows cols kept t → (row : Row) (bytes : List ℕ) → t.line_of row ≡ Some bytes
    → IsLineSeen s.tokens changes row bytes
line_seen entry rows cols kept reach changes s t h row bytes there =
    let range = h.only row bytes there in
    elim (cases_Bool (is_sent entry kept row)) [
      | inl sent ↦ (let k = s.counted row range sent (inl (orders_small row)) in
          let own : t.line_of row ≡ Some k.of_row.is.bytes = sent_line entry rows cols kept t h row k.of_row.string k.of_row.is.bytes range sent k.of_row.there k.of_row.is.sends in
          let same : k.of_row.is.bytes ≡ bytes = same_Some k.of_row.is.bytes bytes (sym own ∙ there) in
          record {
            change = k.change;
            leads = record { tokens = k.tokens; whole = subst (λ (b : List ℕ). Splits b k.tokens []) same k.of_row.is.whole; leads = k.of_row.is.leads };
            reached = k.reached;
            settled = k.settled;
          })
      | inr unsent ↦ absurd (none-some bytes (sym ((h.sends row range).unsent unsent) ∙ there))
    ]

pub all_seen : (entry : Content) (rows cols : ℕ) (kept : ℕ → Bool) (reach : Reach) (changes : List Sets) → IsSeen entry rows cols kept reach changes capabilities 0 → OfAllKept entry rows cols kept (λ t. AreSeen t reach changes)
all_seen entry rows cols kept reach changes s t h =
    record { tokens = s.tokens; reach_is = s.reach_is; occurs = s.occurs t h; told = s.told t h; lines = λ row bytes there. line_seen entry rows cols kept reach changes s t h row bytes there }

pub found_some : {A : Type 0} (o : Option A) (x : A) (P : A → Type 0) → o ≡ Some x → IfSome o P → P x
found_some (Some y) x P e h = subst P (same_Some y x e) h
found_some None x P e h = cc

pub found_none : {A : Type 0} {P : Type 0} (o : Option A) → o ≡ None → IfNone o P → P
found_none None e h = h
found_none (Some y) e h = cc
