-- A call on one window that is refused changes nothing, except with NoScroll.
use Rattle.std.proofs.Common.{◌≡◌, ◌≢◌, ℕ, ◌+◌, ◌&&◌, ◌||◌, ◌==◌, nat_lt, bit_xor, zero, suc, Bool, true, false, Result, Ok, Err, ℤ, refl, if◌then◌else◌}
use Rattle.cur_drawing.specs.declared.puts.Put.{Put}
use Rattle.cur_drawing.specs.declared.puts.Border.{Border}
use Rattle.cur_drawing.specs.declared.refusals.Refusal.{Refusal}
use Rattle.cur_drawing.specs.declared.refusals.Refusal.TheVariants.{NoScroll}
use Rattle.cur_drawing.specs.Grids.{filled}
use Rattle.cur_drawing.specs.Windows.{checked, is_pair, cells_of, content}
use Rattle.cur_drawing.specs.Calls as calls
use Rattle.cur_drawing.specs.Calls.{Canvas, CanvasStep, canvas, done, and_then, if_accepted, checked_cell, checked_border, tab_width}
use Rattle.cur_drawing.specs.Laws.{ChangesNothingIfRefused, ChangesNothingIfRefusedButNoScroll}

good_back : (s t : Canvas) (r : Result (Unit {0}) Refusal) (e : Refusal) → (if_accepted r s (t, Ok tt)).1 ≡ Err e → (if_accepted r s (t, Ok tt)).0 ≡ s
good_back s t (Ok u) e h = absurd cc
good_back s t (Err x) e h = refl

abbrev either : Bool → Canvas → Canvas → Refusal → CanvasStep
either b s t x = if b then (t, Ok tt) else (s, Err x)

choice_back : (s t : Canvas) (b : Bool) (x e : Refusal) → (either b s t x).1 ≡ Err e → (either b s t x).0 ≡ s
choice_back s t true x e h = absurd cc
choice_back s t false x e h = refl

pub insert_char : (p : Put) → ChangesNothingIfRefused (calls.insert_char p)
insert_char p s e h = good_back s _ (checked_cell p) e h

pub horizontal : (p : Put) (n : ℤ) → ChangesNothingIfRefused (calls.horizontal p n)
horizontal p n s e h = good_back s _ (checked_cell p) e h

pub vertical : (p : Put) (n : ℤ) → ChangesNothingIfRefused (calls.vertical p n)
vertical p n s e h = good_back s _ (checked_cell p) e h

pub bordered : (b : Border) → ChangesNothingIfRefused (calls.bordered b)
bordered b s e h = good_back s _ (checked_border b) e h

pub change_background : (p : Put) → ChangesNothingIfRefused (calls.change_background p)
change_background p s e h = good_back s _ (checked_cell p) e h

pub scroll_by : (n : ℤ) → ChangesNothingIfRefused (calls.scroll_by n)
scroll_by n s e h = choice_back s _ s.window.scrolls NoScroll e h

-- ---- the refusals of a character once it was judged
abbrev Only : CanvasStep → Type 0
Only x = (e : Refusal) → x.1 ≡ Err e → e ≡ NoScroll

only_if : (b : Bool) (x y : CanvasStep) → Only x → Only y → Only (if b then x else y)
only_if true x y p q = p
only_if false x y p q = q

only_then : (r : CanvasStep) (next : Canvas → CanvasStep) → Only r → ((t : Canvas) → Only (next t)) → Only (and_then r next)
only_then (t, Ok u) next p q = q t
only_then (t, Err x) next p q = p

abbrev fine : Result (Unit {0}) Refusal
fine = Ok tt

only_done : (e : Refusal) → fine ≡ Err e → e ≡ NoScroll
only_done e h = absurd cc

abbrev stopped : Result (Unit {0}) Refusal
stopped = Err NoScroll

only_refused : (e : Refusal) → stopped ≡ Err e → e ≡ NoScroll
only_refused e h = cc

advanced : (s : Canvas) → Only (calls.advanced s)
advanced s = only_if (s.window.scrolls && (s.window.row == s.window.region_bottom)) _ _ only_done
    (only_if ((s.window.row + 1) == s.window.area.rows) _ _ only_refused only_done)

written : (p : Put) (s : Canvas) → Only (calls.written p s)
written p s = only_if (nat_lt (s.window.col + 1) s.window.area.cols) _ _ only_done
    (advanced (canvas (filled (cells_of s.window s.window.row s.window.col 1) (content s.window p) s.grid) s.window))

written_times : (n : ℕ) (p : Put) (s : Canvas) → Only (calls.written_times n p s)
written_times zero p s = only_done
written_times (suc n) p s = only_then (calls.written p s) (λ t. calls.written_times n p t) (written p s) (λ t. written_times n p t)

character : (p : Put) (s : Canvas) → Only (calls.character p s)
character p s =
    only_if (p.byte == 10) _ _ (advanced (canvas (calls.line_cleared s.window s.grid) s.window))
    (only_if (p.byte == 9) _ _ (written_times (tab_width s.window) (record p { byte = 32 }) s)
    (only_if (p.byte == 8) _ _ only_done
    (only_if (p.byte == 13) _ _ only_done
    (only_if (nat_lt p.byte 32 || (p.byte == 127)) _ _
    (only_then (calls.written (record p { byte = 94 }) s) (λ t. calls.written (record p { byte = bit_xor p.byte 64 }) t) (written (record p { byte = 94 }) s) (λ t. written (record p { byte = bit_xor p.byte 64 }) t))
    (written p s)))))

added_back : (s : Canvas) (r : Result (Unit {0}) Refusal) (x : CanvasStep) (e : Refusal) → e ≢ NoScroll → Only x → (if_accepted r s x).1 ≡ Err e → (if_accepted r s x).0 ≡ s
added_back s (Ok u) x e other only h = absurd (other (only e h))
added_back s (Err y) x e other only h = refl

pub added : (p : Put) → ChangesNothingIfRefusedButNoScroll (calls.added p)
added p s e other h = added_back s (checked (nat_lt p.byte 128) (is_pair p.pair)) _ e other (character p s) h
