-- A table whose lines hold gives a painter what it relies on.
use Rattle.std.proofs.Common.{◌≡◌, ◌+◌, ◌<◌, ◌&&◌, ℕ, not, get_or, length, take, Bool, true, false, if◌then◌else◌, List, [], ◌∷◌, ◌++◌, append_assoc, append-nil, Option, Some, None, refl, sym, ap, subst, ◌∙◌}
use Rattle.std.specs.Prelude.{is_some}
use Rattle.std.specs.List.{AllByRecursion, concat}
use Rattle.std.proofs.lemmas.List.{take_more}
use Rattle.vt_term.specs.Screen.{State}
use Rattle.vt_term.specs.Ends.{Closed, Drives, Ends}
use Rattle.ti_rows.specs.declared.rows.Row.{Row}
use Rattle.ti_rows.specs.declared.rows.Row.TheVariants.{Clear, Sgr0, Enacs, Rmacs, Cnorm, Smcup}
use Rattle.ti_rows.specs.Right.{sets_visible}
use Rattle.ti_rows.specs.Starts.{Starts}
use Rattle.ti_conforms.specs.Lost as lost
use Rattle.ti_conforms.specs.Table.{Table, has, or_nothing, text_of, widening, resync, resync_of, IsLost, Ended}
use Rattle.ti_conforms.specs.Resync.{resync_rows, texts_of}
use Rattle.ti_conforms.specs.Holds.{LineHolds, IsResynced, TableHolds}
use Rattle.ti_conforms.specs.Certified.{IsBlank, IsPiece, Line, line_in, sendable}

-- `cnorm` itself is never withheld
kept_by_itself : (o : Option (List ℕ)) → is_some (if true && not (is_some o) then None else o) ≡ is_some o
kept_by_itself None = refl
kept_by_itself (Some x) = refl

shows : (t : Table) → has (sendable t) Cnorm ≡ has t Cnorm
shows t = kept_by_itself (t.line_of Cnorm)

-- the lost states of both are the same
as_lost : (t : Table) (s : State) → IsLost (sendable t) s → IsLost t s
as_lost t s h = subst (λ (shown : Bool). lost.IsLost t.rows t.cols (has t (widening t)) shown t.reached s) (shows t) h

from_lost : (t : Table) (s : State) → IsLost t s → IsLost (sendable t) s
from_lost t s h = subst (λ (shown : Bool). lost.IsLost t.rows t.cols (has t (widening t)) shown t.reached s) (sym (shows t)) h

ends_lost : (t : Table) (s : State) (bytes : List ℕ) → Ends s bytes (IsLost t) → Ends s bytes (IsLost (sendable t))
ends_lost t s bytes e = record { after = e.after; runs = e.runs; there = from_lost t e.after e.there }

-- a value that the test doesn't withhold is there, and the test is false
pub let_through : (b : Bool) (o : Option (List ℕ)) (x : List ℕ) → (if b then None else o) ≡ Some x → (b ≡ false) × (o ≡ Some x)
let_through true o x h = cc
let_through false o x h = (refl, h)

-- a row's line is the entry's
pub line_there : (t : Table) (row : Row) (bytes : List ℕ) → line_in t row ≡ Some bytes → t.line_of row ≡ Some bytes
line_there t row bytes h = (let_through (sets_visible row && not (has t Cnorm)) (t.line_of row) bytes h).1

-- if a line for the cursor is sent, `cnorm` has a line
shown_again : (b h : Bool) → (b && not h) ≡ false → b ≡ true → h ≡ true
shown_again true true e f = refl
shown_again true false e f = sym e
shown_again false h e f = cc

can_show : (t : Table) (row : Row) (bytes : List ℕ) → line_in t row ≡ Some bytes → sets_visible row ≡ true → has t Cnorm ≡ true
can_show t row bytes h = shown_again (sets_visible row) (has t Cnorm) (let_through (sets_visible row && not (has t Cnorm)) (t.line_of row) bytes h).0

ended : (t : Table) (row : Row) (s : State) (bytes : List ℕ) → Ends s bytes (Closed (Ended t row s.screen)) → Ends s bytes (Closed (Ended (sendable t) row s.screen))
ended t row s bytes e =
    let there : Ended t row s.screen e.after.screen = e.there.screen in
    record {
      after = e.after;
      runs = e.runs;
      there = record {
        rest = e.there.rest;
        screen = record { wants = there.wants; settled = there.settled; active = there.active; reached = there.reached };
      };
    }

pub drives : (t : Table) → TableHolds t → (row : Row) (bytes : List ℕ) → line_in t row ≡ Some bytes
    → Drives (Starts t.rows t.cols row) (Ended (sendable t) row) (IsLost (sendable t)) bytes
drives t k row bytes h =
    let line : LineHolds t row bytes = k.lines row bytes (line_there t row bytes h) in
    record {
      right = λ s rest starts. ended t row s bytes (line.ends s rest starts);
      fronts = λ s rest l front back e. ends_lost t s front (line.fronts (can_show t row bytes h) s rest (as_lost t s l) front back e);
    }

blank : (t : Table) (s : State) → IsLost (sendable t) s → (u : State) → IsResynced t s.screen.visible u → IsBlank (sendable t) s.screen.visible u
blank t s l u h = record {
  ready = record {
    sized = h.cleared.sized;
    rest = h.cleared.rest.rest;
    tame = record { autowrap = h.cleared.rest.autowrap; inserting = h.cleared.rest.inserting };
    whole = record { top = h.cleared.rest.top; bottom = h.cleared.rest.bottom };
    settled = h.settled;
    visible = λ e. h.cleared.visible ∙ l.visible e;
  };
  cleared = h.cleared;
  set = h.cleared.rest.charset;
}

pub resyncs : (t : Table) → TableHolds t → (s : State) → IsLost (sendable t) s → Ends s (resync t) (IsBlank (sendable t) s.screen.visible)
resyncs t k s l =
    let e : Ends s (resync t) (IsResynced t s.screen.visible) = k.resyncs (has t Cnorm) s (as_lost t s l) in
    record { after = e.after; runs = e.runs; there = blank t s l e.after e.there }

pub resync_fronts : (t : Table) → TableHolds t → (s : State) → IsLost (sendable t) s → (front back : List ℕ) → resync t ≡ front ++ back → Ends s front (IsLost (sendable t))
resync_fronts t k s l front back e = ends_lost t s front (k.resync_fronts s (as_lost t s l) front back e)

-- one more piece, if there is such a line
abbrev with_piece : Option (List ℕ) → List (List ℕ) → List (List ℕ)
with_piece None pieces = pieces
with_piece (Some x) pieces = x ∷ pieces

-- the lines of these rows, as far as there are any
abbrev pub pieces_of : Table → List Row → List (List ℕ)
pieces_of t [] = []
pieces_of t (row ∷ rows) = with_piece (t.line_of row) (pieces_of t rows)

one_more : (t : Table) (row : Row) (pieces : List (List ℕ)) → AllByRecursion (IsPiece t) pieces → (o : Option (List ℕ)) → t.line_of row ≡ o → AllByRecursion (IsPiece t) (with_piece o pieces)
one_more t row pieces h None e = h
one_more t row pieces h (Some x) e = (Line row e, h)

pub each_piece : (t : Table) (rows : List Row) → AllByRecursion (IsPiece t) (pieces_of t rows)
each_piece t [] = tt
each_piece t (row ∷ rows) = one_more t row (pieces_of t rows) (each_piece t rows) (t.line_of row) refl

cut_off : (o : Option (List ℕ)) (pieces : List (List ℕ)) → concat (with_piece o pieces) ≡ or_nothing o ++ concat pieces
cut_off None pieces = refl
cut_off (Some x) pieces = refl

all_joined : (t : Table) (rows : List Row) → concat (pieces_of t rows) ≡ texts_of t.line_of rows
all_joined t [] = refl
all_joined t (row ∷ rows) = cut_off (t.line_of row) (pieces_of t rows) ∙ ap (λ (x : List ℕ). text_of t row ++ x) (all_joined t rows)

six : (a b c d e f : List ℕ) → ((a ++ b) ++ (c ++ d)) ++ (e ++ f) ≡ a ++ (b ++ (c ++ (d ++ (e ++ (f ++ [])))))
six a b c d e f = simp (append_assoc, append-nil)

-- a resynchronization is its strings, one after another
pub in_order : (t : Table) → resync t ≡ texts_of t.line_of (resync_rows t.rows)
unfolding resync_of
in_order t = six (text_of t Smcup) (text_of t Enacs) (text_of t Sgr0) (text_of t Rmacs) (text_of t (widening t)) (text_of t Clear)

-- a resynchronization is made of lines
pub made : (t : Table) → resync t ≡ concat (pieces_of (sendable t) (resync_rows t.rows))
made t = in_order t ∙ sym (all_joined (sendable t) (resync_rows t.rows))

texts-append : (line_of : Row → Option (List ℕ)) (a b : List Row) → texts_of line_of (a ++ b) ≡ texts_of line_of a ++ texts_of line_of b
texts-append line_of [] b = refl
texts-append line_of (row ∷ a) b =
    ap (λ (x : List ℕ). or_nothing (line_of row) ++ x) (texts-append line_of a b) ∙ sym (append_assoc (or_nothing (line_of row)) (texts_of line_of a) (texts_of line_of b))

-- one more line
pub texts_more : (line_of : Row → Option (List ℕ)) (old now new : List ℕ) (rows : List Row) (i : ℕ) (d row : Row) → i < length rows → row ≡ get_or rows i d → new ≡ now ++ or_nothing (line_of row)
    → now ≡ old ++ texts_of line_of (take i rows) → new ≡ old ++ texts_of line_of (take (i + 1) rows)
texts_more line_of old now new rows i d row lt is e h =
    let last : texts_of line_of (take (i + 1) rows) ≡ texts_of line_of (take i rows) ++ (or_nothing (line_of row) ++ [])
    = ap (λ (l : List Row). texts_of line_of l) (take_more rows i d lt) ∙ (texts-append line_of (take i rows) (get_or rows i d ∷ [])
    ∙ ap (λ (r : Row). texts_of line_of (take i rows) ++ (or_nothing (line_of r) ++ [])) (sym is)) in
    e ∙ (ap (λ (l : List ℕ). l ++ or_nothing (line_of row)) h ∙ (append_assoc old (texts_of line_of (take i rows)) (or_nothing (line_of row))
    ∙ ap (λ (l : List ℕ). old ++ l) (ap (λ (l : List ℕ). texts_of line_of (take i rows) ++ l) (sym (append-nil (or_nothing (line_of row)))) ∙ sym last)))
