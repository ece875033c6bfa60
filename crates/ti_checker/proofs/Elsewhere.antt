-- An effect that no probe shows wrong leads to a wanted place, from any start of the row.
use Rattle.std.proofs.Common.{◌≡◌, ℕ, ◌-◌, ◌<◌, ◌≤◌, ◌&&◌, Bool, true, false, if◌then◌else◌, Option, None, Some, inl, inr, refl, sym, ap, subst, ◌∙◌, arith}
use Rattle.std.proofs.lemmas.Bool.{cases_eq, lt-ltb, true≢false, false≢true}
use Rattle.vt_term.specs.Screen.{Screen}
use Rattle.vt_term.specs.Size.{IsSize}
use Rattle.vt_effects.specs.declared.effects.Effect.{Effect}
use Rattle.vt_effects.specs.declared.effects.Move.{Move}
use Rattle.vt_effects.specs.declared.effects.Move.TheVariants as moves
use Rattle.vt_effects.specs.declared.effects.Region.{Region}
use Rattle.vt_effects.specs.declared.starts.Start.{Start}
use Rattle.vt_effects.specs.declared.starts.Margins.{Margins}
use Rattle.vt_effects.specs.declared.starts.Margins.TheVariants as margins
use Rattle.vt_effects.specs.Effect.{applied, moved, top_of, bottom_of}
use Rattle.vt_effects.specs.Start.{Allows, HasMargins}
use Rattle.ti_rows.specs.Asked.{start_of, asked, is_default, ink_of, on_or_kept, is_on, just, rendering, showing, defaults_both_inks}
use Rattle.ti_rows.specs.Looks.{shown}
use Rattle.ti_rows.specs.declared.rows.Looks.{Looks}
use Rattle.ti_rows.specs.declared.rows.Row.{Row}
use Rattle.ti_rows.specs.declared.rows.Row.TheVariants.{Clear, Sgr, Cvvis, Ind, Ri}
use Rattle.ti_rows.specs.Starts.{Starts}
use Rattle.ti_rows.specs.Wants.{Wants}
use Rattle.ti_rows.proofs.StartFacts.{starts_allowed}
use Rattle.ti_rows.proofs.WantFacts.{asked_is_wanted}
use Rattle.ti_checker.specs.Breakage.{AgreeBefore}
use Rattle.ti_checker.specs.Strays.{HaveOnePlace}
use Rattle.ti_checker.specs.Trials.{choices_of, top_by, bottom_by, probe_by, EndsAsWanted, EndsBelow}
use Rattle.ti_checker.specs.declared.probes.Probe.{Probe}
use Rattle.ti_checker.proofs.Ends.{ends_as}

-- ---- moves that lead to one place from the ends of a range do so from all of it

between : (m n : Move) (x y z : ℕ) → x ≤ z → z ≤ y → moved m x ≡ moved n x → moved m y ≡ moved n y → moved m z ≡ moved n z
between moves.Kept moves.Kept x y z lo hi p q = refl
between moves.Kept (moves.To k) x y z lo hi p q = omega (arith, lo, hi, p, q)
between moves.Kept (moves.Back k) x y z lo hi p q = omega (arith, lo, hi, p, q)
between moves.Kept (moves.Forward k) x y z lo hi p q = omega (arith, lo, hi, p, q)
between (moves.To j) moves.Kept x y z lo hi p q = omega (arith, lo, hi, p, q)
between (moves.To j) (moves.To k) x y z lo hi p q = p
between (moves.To j) (moves.Back k) x y z lo hi p q = omega (arith, lo, hi, p, q)
between (moves.To j) (moves.Forward k) x y z lo hi p q = omega (arith, lo, hi, p, q)
between (moves.Back j) moves.Kept x y z lo hi p q = omega (arith, lo, hi, p, q)
between (moves.Back j) (moves.To k) x y z lo hi p q = omega (arith, lo, hi, p, q)
between (moves.Back j) (moves.Back k) x y z lo hi p q = omega (arith, lo, hi, p, q)
between (moves.Back j) (moves.Forward k) x y z lo hi p q = omega (arith, lo, hi, p, q)
between (moves.Forward j) moves.Kept x y z lo hi p q = omega (arith, lo, hi, p, q)
between (moves.Forward j) (moves.To k) x y z lo hi p q = omega (arith, lo, hi, p, q)
between (moves.Forward j) (moves.Back k) x y z lo hi p q = omega (arith, lo, hi, p, q)
between (moves.Forward j) (moves.Forward k) x y z lo hi p q = omega (arith, lo, hi, p, q)

-- ---- a pending wrap

pending_kept : (a b s : Bool) → (if a then false else true) ≡ (if b then false else true) → (if a then false else s) ≡ (if b then false else s)
pending_kept true true s h = refl
pending_kept true false s h = absurd (false≢true h)
pending_kept false true s h = absurd (true≢false h)
pending_kept false false s h = refl

none_kept : (a b s : Bool) → s ≡ false → (if a then false else s) ≡ (if b then false else s)
none_kept true true s h = refl
none_kept true false s h = sym h
none_kept false true s h = h
none_kept false false s h = refl

pending_by : (allowed a b s : Bool) → (allowed ≡ false → s ≡ false) → (if a then false else (true && allowed)) ≡ (if b then false else (true && allowed)) → (if a then false else s) ≡ (if b then false else s)
pending_by true a b s calm h = pending_kept a b s h
pending_by false a b s calm h = none_kept a b s (calm refl)

-- ---- margins

-- two changes lead these margins to the same margins
record Bound (a d : Option Region) (top bottom : ℕ) : Type 0 where
  top_same : top_of a top ≡ top_of d top
  bottom_same : bottom_of a bottom ≡ bottom_of d bottom

at_these : (a d : Option Region) (t b top bottom : ℕ) → t ≡ top → b ≡ bottom → Bound a d t b → Bound a d top bottom
at_these a d t b top bottom p q h = record {
  top_same = subst (λ (x : ℕ). top_of a x ≡ top_of d x) p h.top_same;
  bottom_same = subst (λ (x : ℕ). bottom_of a x ≡ bottom_of d x) q h.bottom_same;
}

of_two : (a d : Option Region) (t b u c top bottom : ℕ) → (t ≡ u → b ≡ c → ⊥) → Bound a d t b → Bound a d u c → Bound a d top bottom
of_two None None t b u c top bottom apart h k = record { top_same = refl; bottom_same = refl }
of_two None (Some r) t b u c top bottom apart h k = absurd (apart (h.top_same ∙ sym k.top_same) (h.bottom_same ∙ sym k.bottom_same))
of_two (Some r) None t b u c top bottom apart h k = absurd (apart (sym h.top_same ∙ k.top_same) (sym h.bottom_same ∙ k.bottom_same))
of_two (Some q) (Some r) t b u c top bottom apart h k = record { top_same = h.top_same; bottom_same = h.bottom_same }

-- the rows of a start whose margins depend on the cursor
abbrev Spans : ℕ → ℕ → ℕ → Margins → Type 0
Spans rows least greatest margins.OnBottom = (least ≡ 1) × (greatest ≡ rows - 1)
Spans rows least greatest margins.OnTop = (least ≡ 0) × (greatest ≡ rows - 1 - 1)
Spans rows least greatest _ = Unit {0}

spans : (rows cols : ℕ) (row : Row) → Spans rows (start_of rows cols row).row_min (start_of rows cols row).row_max (start_of rows cols row).margins
spans rows cols Clear = tt
spans rows cols Ind = (refl, refl)
spans rows cols Ri = (refl, refl)
spans rows cols _ = tt

-- a second region, unless the screen has two lines
legal_top : (least last : ℕ) → 1 < last → top_by true margins.Legal least last ≡ 1
legal_top least last h = ap (λ (b : Bool). if b then 1 else 0) (lt-ltb 1 last h)

bound_by : (m : Margins) (rows least greatest : ℕ) (a d : Option Region) (s : Screen) → 2 ≤ rows → s.rows ≡ rows → s.top < s.bottom → s.bottom < s.rows → HasMargins m s → least ≤ s.row → s.row ≤ greatest → Spans rows least greatest m
    → Bound a d (top_by false m least (rows - 1)) (bottom_by false m least (rows - 1)) → Bound a d (top_by false m greatest (rows - 1)) (bottom_by false m greatest (rows - 1)) → Bound a d (top_by true m least (rows - 1)) (bottom_by true m least (rows - 1))
    → Bound a d s.top s.bottom
bound_by margins.Whole rows least greatest a d s two size region on has lo hi span first last narrow =
    at_these a d 0 (rows - 1) s.top s.bottom (sym has.0) (let e = has.1 in omega (arith, size, e)) first
bound_by margins.Legal rows least greatest a d s two size region on has lo hi span first last narrow = elim (cases_eq rows 2) [
  | inl e ↦ at_these a d 0 (rows - 1) s.top s.bottom (omega (arith, e, size, region, on)) (omega (arith, e, size, region, on)) first
  | inr n ↦ of_two a d 0 (rows - 1) 1 (rows - 1) s.top s.bottom (λ p q. omega (arith, p)) first (at_these a d (top_by true margins.Legal least (rows - 1)) (rows - 1) 1 (rows - 1) (legal_top least (rows - 1) (omega (arith, two, n))) refl narrow)
]
bound_by margins.OnBottom rows least greatest a d s two size region on has lo hi span first last narrow = elim (cases_eq rows 2) [
  | inl e ↦ (let one = span.0 in at_these a d 0 least s.top s.bottom (omega (arith, e, size, region, on)) (omega (arith, e, one, size, region, on)) first)
  | inr n ↦ (let one = span.0 in let far = span.1 in of_two a d 0 least 0 greatest s.top s.bottom (λ p q. omega (arith, q, one, far, two, n)) first last)
]
bound_by margins.OnTop rows least greatest a d s two size region on has lo hi span first last narrow = elim (cases_eq rows 2) [
  | inl e ↦ (let none = span.0 in at_these a d least (rows - 1) s.top s.bottom (omega (arith, e, none, size, region, on)) (omega (arith, e, size, region, on)) first)
  | inr n ↦ (let none = span.0 in let far = span.1 in of_two a d least (rows - 1) greatest (rows - 1) s.top s.bottom (λ p q. omega (arith, p, none, far, two, n)) first last)
]

-- ---- the place of a wanted end

-- from a probe two effects leave the same place of the cursor, the same pending wrap and the same margins
record EndsThere (e w : Effect) (p : Probe) : Type 0 where
  row : moved e.row p.row ≡ moved w.row p.row
  col : moved e.col p.col ≡ moved w.col p.col
  pending : (if e.ends_pending then false else p.pending) ≡ (if w.ends_pending then false else p.pending)
  bound : Bound e.margins w.margins p.top p.bottom

ends_there : {rows cols : ℕ} → (taught : Looks) (row : Row) (e : Effect) (p : Probe) → EndsAsWanted rows cols taught row e p → EndsThere e (asked taught row e) p
ends_there taught row e p h =
    let is = ends_as _ taught row e h.wanted h.is in
    record {
      row = h.so.row ∙ ap (λ (m : Move). moved m p.row) is.row;
      col = h.so.col ∙ ap (λ (m : Move). moved m p.col) is.col;
      pending = h.so.pending ∙ ap (λ (b : Bool). if b then false else p.pending) is.ends_pending;
      bound = record {
        top_same = h.so.top ∙ ap (λ (r : Option Region). top_of r p.top) is.margins_are;
        bottom_same = h.so.bottom ∙ ap (λ (r : Option Region). bottom_of r p.bottom) is.margins_are;
      };
    }

one_place : (rows cols : ℕ) (start : Start) (e w : Effect) (s : Screen) → 2 ≤ rows → Allows rows cols start s → Spans rows start.row_min start.row_max start.margins
    → ((k : ℕ) → k < 32 → EndsThere e w (probe_by (choices_of k) start rows)) → HaveOnePlace (applied e s) (applied w s)
one_place rows cols start e w s two allowed span ends =
    let b : Bound e.margins w.margins s.top s.bottom = bound_by start.margins rows start.row_min start.row_max e.margins w.margins s two allowed.rows allowed.screen.region allowed.screen.bottom allowed.margins allowed.row_from allowed.row_to span
    (ends 0 (omega arith)).bound (ends 1 (omega arith)).bound (ends 16 (omega arith)).bound in
    record {
      row = between e.row w.row start.row_min start.row_max s.row allowed.row_from allowed.row_to (ends 0 (omega arith)).row (ends 1 (omega arith)).row;
      col = between e.col w.col start.col_min start.col_max s.col allowed.col_from allowed.col_to (ends 0 (omega arith)).col (ends 2 (omega arith)).col;
      pending = pending_by start.pending e.ends_pending w.ends_pending s.pending allowed.pending (ends 4 (omega arith)).pending;
      top = b.top_same;
      bottom = b.bottom_same;
    }

-- ---- the end of the effect that is asked for is wanted

both_again : (b : Bool) → (is_default (ink_of b) && is_default (ink_of b)) ≡ b
both_again true = refl
both_again false = refl

on_again : (b : Bool) → is_on (on_or_kept b) ≡ b
on_again true = refl
on_again false = refl

asked_again : (l : Looks) (row : Row) (e : Effect) → asked l row e ≡ asked l row (asked l row e)
asked_again l (Sgr a) e = sym (ap (λ (b : Bool). rendering (just (shown l a) (ink_of b)) e) (both_again (defaults_both_inks e.rendition)))
asked_again l Cvvis e = sym (ap (λ (b : Bool). showing (on_or_kept b)) (on_again (is_on e.visible)))
asked_again l _ e = refl

pub end_wanted : (rows cols : ℕ) (l : Looks) (row : Row) (e : Effect) (s : Screen) → Starts rows cols row s → Wants l row s (applied (asked l row e) s)
end_wanted rows cols l row e s starts = asked_is_wanted rows cols l row (asked l row e) (asked_again l row e) s starts

pub agree_with_itself : (row : Row) (l : Looks) → AgreeBefore row l l
agree_with_itself (Sgr a) l = λ b lt. refl
agree_with_itself _ l = tt

pub same_place : (rows cols : ℕ) (taught : Looks) (row : Row) (e : Effect) (s : Screen) → IsSize rows cols → Starts rows cols row s → EndsBelow rows cols taught row e 32 → HaveOnePlace (applied e s) (applied (asked taught row e) s)
same_place rows cols taught row e s size starts ends =
    one_place rows cols (start_of rows cols row) e (asked taught row e) s size.0 (starts_allowed rows cols row s starts) (spans rows cols row)
    (λ k lt. ends_there taught row e (probe_by (choices_of k) (start_of rows cols row) rows) (ends k lt))
