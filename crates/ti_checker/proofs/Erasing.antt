-- The cells that each row wants, and the proof that an effect which no probe shows wrong leaves them so.
use Rattle.std.proofs.Common.{◌≡◌, inl, inr, ℕ, ◌-◌, ◌<◌, ◌≤◌, Bool, true, false, length, refl, sym, ap, subst, ◌∙◌, arith}
use Rattle.std.proofs.lemmas.Bool.{lt-leb, ne_eqb, true≢false}
use Rattle.vt_term.specs.Grid.{line_at}
use Rattle.vt_term.specs.Look.{blank}
use Rattle.vt_term.specs.Screen.{Screen}
use Rattle.vt_term.specs.Size.{IsSize}
use Rattle.vt_effects.specs.declared.effects.Effect.{Effect}
use Rattle.vt_effects.specs.declared.effects.Erasure.{Erasure}
use Rattle.vt_effects.specs.declared.effects.Scroll.{Scroll}
use Rattle.vt_effects.specs.declared.effects.Scroll.TheVariants as scrolls
use Rattle.vt_effects.specs.declared.starts.Start.{Start}
use Rattle.vt_effects.specs.declared.starts.Margins.TheVariants as margins
use Rattle.vt_effects.specs.Effect.{applied}
use Rattle.vt_effects.specs.Start.{Allows}
use Rattle.ti_rows.specs.Asked.{start_of, starting, asked}
use Rattle.ti_rows.specs.Lists.{IsInRange}
use Rattle.ti_rows.specs.declared.rows.Looks.{Looks}
use Rattle.ti_rows.specs.declared.rows.Row.{Row}
use Rattle.ti_rows.specs.declared.rows.Row.TheVariants.{Clear, El, El1, Ed, Ech, Ind, Ri, Cvvis, Smcup, Rmcup}
use Rattle.ti_rows.specs.Starts.{Starts}
use Rattle.ti_rows.proofs.StartFacts.{starts_allowed}
use Rattle.ti_checker.specs.Breakage.{is_free}
use Rattle.ti_checker.specs.Cells.{is_blank_after, is_erased}
use Rattle.ti_checker.specs.Probes.{screen_of}
use Rattle.ti_checker.specs.Strays.{IsRecorded}
use Rattle.ti_checker.specs.Trials.{choices_of, probe_by, EndsAsWanted, EndsBelow}
use Rattle.ti_checker.specs.declared.probes.Probe.{Probe}
use Rattle.ti_checker.proofs.Ends.{ends_as}
use Rattle.ti_checker.proofs.OneChange.{IsAtMargin, IsOneChange, one_change}
use Rattle.ti_checker.proofs.OneGrid.{Agree, Corners, IsOne, SameCells, same_grid, none_cells, screen_cells, tail_cells, head_cells, rest_cells, next_cells, up_cells, down_cells}
use Rattle.ti_checker.proofs.ProbeStarts.{probe_starts}

-- ---- the cells, if a probe shows nothing wrong

abbrev AgreesAt : ℕ → ℕ → Looks → Row → Effect → Probe → Type 0
AgreesAt rows cols taught row e p = Agree rows cols e.erasure e.scroll (asked taught row e).erasure (asked taught row e).scroll p.top p.bottom p.row p.col

agrees : (rows cols : ℕ) (taught : Looks) (row : Row) (e : Effect) (p : Probe) → is_free row ≡ false → EndsAsWanted rows cols taught row e p → AgreesAt rows cols taught row e p
agrees rows cols taught row e p bound h = λ i j lt near.
    let is = ends_as _ taught row e h.wanted h.is in
    h.so.cells i j lt near
    ∙ (ap (λ (x : Erasure). is_blank_after h.wanted.scroll p.top p.bottom (λ k. is_erased x p.row p.col k j) i) is.erasure
    ∙ ap (λ (z : Scroll). is_blank_after z p.top p.bottom (λ k. is_erased (asked taught row e).erasure p.row p.col k j) i) (is.scroll bound))

agrees_by : (rows cols : ℕ) (taught : Looks) (row : Row) (e : Effect) (k : ℕ) → k < 32 → is_free row ≡ false → EndsBelow rows cols taught row e 32 → AgreesAt rows cols taught row e (probe_by (choices_of k) (start_of rows cols row) rows)
agrees_by rows cols taught row e k lt bound ends = agrees rows cols taught row e (probe_by (choices_of k) (start_of rows cols row) rows) bound (ends k lt)

one : (rows cols : ℕ) (row : Row) (e : Effect) → IsOneChange rows (start_of rows cols row) e → IsOne e.erasure e.scroll
one rows cols row e (inl h) = inl h
one rows cols row e (inr h) = inr h.0

-- a row whose starts have any place isn't at a margin, so it doesn't scroll
no_margin : (rows cols : ℕ) → 2 ≤ rows → IsAtMargin rows (start_of rows cols Smcup) → ⊥
no_margin rows cols two (inl h) = true≢false (sym h ∙ lt-leb rows 1 (omega (arith, two)))
no_margin rows cols two (inr h) = true≢false (sym h ∙ ne_eqb (rows - 1) 0 (λ e. omega (arith, two, e)))

kept_still : (rows cols : ℕ) (e : Effect) → 2 ≤ rows → IsOneChange rows (start_of rows cols Smcup) e → e.scroll ≡ scrolls.Still
kept_still rows cols e two (inl h) = h
kept_still rows cols e two (inr h) = absurd (no_margin rows cols two h.1)

-- ---- of each row

abbrev SameAsAsked : ℕ → Looks → Row → Effect → Type 0
SameAsAsked cols taught row e = SameCells cols e.erasure e.scroll (asked taught row e).erasure (asked taught row e).scroll

nothing : (rows cols : ℕ) (taught : Looks) (row : Row) (e : Effect) → IsSize rows cols → IsInRange rows cols row → IsOneChange rows (start_of rows cols row) e → EndsBelow rows cols taught row e 32
    → is_free row ≡ false → (asked taught row e).erasure ≡ (asked taught Cvvis e).erasure → (asked taught row e).scroll ≡ scrolls.Still → SameAsAsked cols taught row e
nothing rows cols taught row e size range h ends bound none still =
    let p : Probe = probe_by (choices_of 0) (start_of rows cols row) rows in
    let allowed : Allows rows cols (start_of rows cols row) (screen_of rows cols p) = starts_allowed rows cols row (screen_of rows cols p) (probe_starts rows cols row (choices_of 0) size range) in
    let seen : Agree rows cols e.erasure e.scroll (asked taught Cvvis e).erasure scrolls.Still p.top p.bottom p.row p.col = subst (λ (x : Erasure). Agree rows cols e.erasure e.scroll x scrolls.Still p.top p.bottom p.row p.col) none
    (subst (λ (z : Scroll). Agree rows cols e.erasure e.scroll (asked taught row e).erasure z p.top p.bottom p.row p.col) still (agrees_by rows cols taught row e 0 (omega arith) bound ends)) in
    subst (λ (x : Erasure). SameCells cols e.erasure e.scroll x (asked taught row e).scroll) (sym none)
    (subst (λ (z : Scroll). SameCells cols e.erasure e.scroll (asked taught Cvvis e).erasure z) (sym still)
    (none_cells rows cols p.top p.bottom p.row p.col allowed.screen.row allowed.screen.col allowed.screen.region allowed.screen.bottom e.erasure e.scroll (one rows cols row e h) seen))

-- the facts known of an erasure: those that the probes at the first place, in the last line and in the last column show
corners : (rows cols : ℕ) (taught : Looks) (row : Row) (e : Effect) (pending : Bool) → IsSize rows cols → is_free row ≡ false → start_of rows cols row ≡ starting rows cols pending margins.Whole → (asked taught row e).scroll ≡ scrolls.Still
    → EndsBelow rows cols taught row e 32 → Corners rows cols e.erasure e.scroll (asked taught row e).erasure
corners rows cols taught row e pending size bound whole still ends =
    let at : (k : ℕ) → Probe = λ k. probe_by (choices_of k) (starting rows cols pending margins.Whole) rows in
    let seen : (k : ℕ) → k < 32 → Agree rows cols e.erasure e.scroll (asked taught row e).erasure scrolls.Still (at k).top (at k).bottom (at k).row (at k).col = λ k lt.
    subst (λ (z : Scroll). Agree rows cols e.erasure e.scroll (asked taught row e).erasure z (at k).top (at k).bottom (at k).row (at k).col) still
    (subst (λ (s : Start). AgreesAt rows cols taught row e (probe_by (choices_of k) s rows)) whole (agrees_by rows cols taught row e k lt bound ends)) in
    record {
      tall = size.0;
      wide = size.2;
      home = seen 0 (omega arith);
      low = seen 1 (omega arith);
      right = seen 2 (omega arith);
    }

same_as_asked : (rows cols : ℕ) (taught : Looks) (row : Row) (e : Effect) → IsSize rows cols → IsInRange rows cols row → IsOneChange rows (start_of rows cols row) e → EndsBelow rows cols taught row e 32 → SameAsAsked cols taught row e
same_as_asked rows cols taught Clear e size range h ends = screen_cells rows cols e.erasure e.scroll (one rows cols Clear e h) (corners rows cols taught Clear e true size refl refl refl ends)
same_as_asked rows cols taught El e size range h ends = tail_cells rows cols e.erasure e.scroll (one rows cols El e h) (corners rows cols taught El e false size refl refl refl ends)
same_as_asked rows cols taught El1 e size range h ends = head_cells rows cols e.erasure e.scroll (one rows cols El1 e h) (corners rows cols taught El1 e false size refl refl refl ends)
same_as_asked rows cols taught Ed e size range h ends = rest_cells rows cols e.erasure e.scroll (one rows cols Ed e h) (corners rows cols taught Ed e false size refl refl refl ends)
same_as_asked rows cols taught (Ech n) e size range h ends = next_cells rows cols n range.0 e.erasure e.scroll (one rows cols (Ech n) e h) (corners rows cols taught (Ech n) e false size refl refl refl ends)
same_as_asked rows cols taught Ind e size range h ends = up_cells rows cols e.erasure e.scroll (one rows cols Ind e h) (record {
  tall = size.0;
  wide = size.2;
  left = agrees_by rows cols taught Ind e 0 (omega arith) refl ends;
  right = agrees_by rows cols taught Ind e 2 (omega arith) refl ends;
})
same_as_asked rows cols taught Ri e size range h ends = down_cells rows cols e.erasure e.scroll (one rows cols Ri e h) (record {
  tall = size.0;
  wide = size.2;
  left = agrees_by rows cols taught Ri e 0 (omega arith) refl ends;
  right = agrees_by rows cols taught Ri e 2 (omega arith) refl ends;
})
same_as_asked rows cols taught Smcup e size range h ends = record { scroll = kept_still rows cols e size.0 h; chosen = λ row col i j lt. refl }
same_as_asked rows cols taught Rmcup e size range h ends = record { scroll = kept_still rows cols e size.0 h; chosen = λ row col i j lt. refl }
same_as_asked rows cols taught _ e size range h ends = nothing rows cols taught _ e size range h ends refl refl refl

pub same_cells : (rows cols : ℕ) (taught : Looks) (row : Row) (e : Effect) (s : Screen) → IsSize rows cols → IsInRange rows cols row → IsRecorded rows cols row e → Starts rows cols row s → EndsBelow rows cols taught row e 32
    → (applied e s).grid ≡ (applied (asked taught row e) s).grid
same_cells rows cols taught row e s size range text starts ends =
    let w : Effect = asked taught row e in
    let allowed : Allows rows cols (start_of rows cols row) s = starts_allowed rows cols row s starts in
    let wide : (k : ℕ) → k < length s.grid → length (line_at s.grid k) ≤ cols = λ k lt. (let c = allowed.screen.columns k (let lines = allowed.screen.lines in omega (arith, lt, lines)) in let width = allowed.cols in omega (arith, c, width)) in
    same_grid cols e.erasure w.erasure e.scroll w.scroll s.top s.bottom s.row s.col (blank s.rendition) s.grid wide
    (same_as_asked rows cols taught row e size range (one_change rows cols (start_of rows cols row) text.0 e text.1) ends)
