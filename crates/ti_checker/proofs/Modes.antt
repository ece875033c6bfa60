-- An effect that no probe shows wrong leaves the wanted sets and visibility, from any start of the row.
use Rattle.std.proofs.Common.{◌≡◌, ℕ, ◌<◌, Bool, true, false, refl, sym, ap, ◌∙◌, arith}
use Rattle.vt_term.specs.Screen.{Charset}
use Rattle.vt_effects.specs.declared.effects.Effect.{Effect}
use Rattle.vt_effects.specs.declared.effects.Sets.{Sets}
use Rattle.vt_effects.specs.declared.effects.Switch.{Switch}
use Rattle.vt_effects.specs.Effect.{designated, switched}
use Rattle.ti_rows.specs.Asked.{start_of, asked, on_or_kept}
use Rattle.ti_rows.specs.declared.rows.Looks.{Looks}
use Rattle.ti_rows.specs.declared.rows.Row.{Row}
use Rattle.ti_rows.specs.declared.rows.Row.TheVariants.{Cvvis}
use Rattle.ti_rows.proofs.StartFacts.{never}
use Rattle.ti_checker.specs.Trials.{choices_of, probe_by, IsEnd, Only, WithDefaults, WithoutDefaults, EndsAsWanted, EndsBelow}
use Rattle.ti_checker.specs.declared.probes.Probe.{Probe}
use Rattle.ti_checker.proofs.Ends.{ends_as, is_told}
use Rattle.ti_checker.proofs.OneRendition.{by_both}

-- ---- sets

sets_at : {rows cols : ℕ} → (taught : Looks) (row : Row) (e : Effect) (p : Probe) → EndsAsWanted rows cols taught row e p → designated e.charset p.charset ≡ designated (asked taught row e).charset p.charset
sets_at taught row e p h = h.so.charset ∙ ap (λ (x : Sets). designated x p.charset) (ends_as _ taught row e h.wanted h.is).charset

abbrev all_sets : Bool → Charset
all_sets on = record { g0_graphic = on; g1_graphic = on; shifted_out = on }

sets_by_both : (x y : Sets) (c : Charset) → designated x (all_sets false) ≡ designated y (all_sets false) → designated x (all_sets true) ≡ designated y (all_sets true) → designated x c ≡ designated y c
sets_by_both x y c h k =
    let zero : switched x.g0_graphic c.g0_graphic ≡ switched y.g0_graphic c.g0_graphic = by_both x.g0_graphic y.g0_graphic c.g0_graphic (ap (λ (d : Charset). d.g0_graphic) h) (ap (λ (d : Charset). d.g0_graphic) k) in
    let one : switched x.g1_graphic c.g1_graphic ≡ switched y.g1_graphic c.g1_graphic = by_both x.g1_graphic y.g1_graphic c.g1_graphic (ap (λ (d : Charset). d.g1_graphic) h) (ap (λ (d : Charset). d.g1_graphic) k) in
    let out : switched x.shifted_out c.shifted_out ≡ switched y.shifted_out c.shifted_out = by_both x.shifted_out y.shifted_out c.shifted_out (ap (λ (d : Charset). d.shifted_out) h) (ap (λ (d : Charset). d.shifted_out) k) in
    ap (λ (b : Bool). record (designated x c) { g0_graphic = b }) zero
    ∙ (ap (λ (b : Bool). record (designated x c) { g0_graphic = switched y.g0_graphic c.g0_graphic; g1_graphic = b }) one
    ∙ ap (λ (b : Bool). record (designated y c) { shifted_out = b }) out)

pub same_sets : (rows cols : ℕ) (taught : Looks) (row : Row) (e : Effect) (c : Charset) → EndsBelow rows cols taught row e 32 → designated e.charset c ≡ designated (asked taught row e).charset c
same_sets rows cols taught row e c ends =
    let at : (k : ℕ) → k < 32 → designated e.charset (probe_by (choices_of k) (start_of rows cols row) rows).charset ≡ designated (asked taught row e).charset (probe_by (choices_of k) (start_of rows cols row) rows).charset =
    λ k lt. sets_at taught row e (probe_by (choices_of k) (start_of rows cols row) rows) (ends k lt) in
    sets_by_both e.charset (asked taught row e).charset c (at 0 (omega arith)) (at 8 (omega arith))

-- ---- the cursor

seen_at : {rows cols : ℕ} → (taught : Looks) (row : Row) (e : Effect) (p : Probe) → is_told row ≡ true → EndsAsWanted rows cols taught row e p → switched e.visible p.visible ≡ switched (asked taught row e).visible p.visible
seen_at taught row e p told h = h.so.visible ∙ ap (λ (x : Switch). switched x p.visible) ((ends_as _ taught row e h.wanted h.is).visible told)

pub told_seen : (rows cols : ℕ) (taught : Looks) (row : Row) (e : Effect) (v : Bool) → is_told row ≡ true → EndsBelow rows cols taught row e 32 → switched e.visible v ≡ switched (asked taught row e).visible v
told_seen rows cols taught row e v told ends =
    let at : (k : ℕ) → k < 32 → switched e.visible (probe_by (choices_of k) (start_of rows cols row) rows).visible ≡ switched (asked taught row e).visible (probe_by (choices_of k) (start_of rows cols row) rows).visible =
    λ k lt. seen_at taught row e (probe_by (choices_of k) (start_of rows cols row) rows) told (ends k lt) in
    by_both e.visible (asked taught row e).visible v (at 8 (omega arith)) (at 0 (omega arith))

-- it may become visible, or stay as it was
record IsSeenSo (e : Effect) (p : Probe) : Type 0 where
  shows : Bool
  so : switched e.visible p.visible ≡ switched (on_or_kept shows) p.visible

seen_so : {rows cols : ℕ} → (taught : Looks) (e : Effect) (p : Probe) → (h : EndsAsWanted rows cols taught Cvvis e p) → (l : Looks) → IsEnd l Cvvis e h.wanted → IsSeenSo e p
seen_so taught e p h l (Only one is) = never one
seen_so taught e p h l (WithDefaults choice is) = record { shows = true; so = h.so.visible ∙ ap (λ (g : Effect). switched g.visible p.visible) is }
seen_so taught e p h l (WithoutDefaults choice is) = record { shows = false; so = h.so.visible ∙ ap (λ (g : Effect). switched g.visible p.visible) is }

stays_seen : (b : Bool) → switched (on_or_kept b) true ≡ true
stays_seen true = refl
stays_seen false = refl

pub record IsChosen (e : Effect) (v : Bool) : Type 0 where
  pub shows : Bool
  pub same : switched e.visible v ≡ switched (on_or_kept shows) v

pub chosen_seen : (rows cols : ℕ) (taught : Looks) (e : Effect) (v : Bool) → EndsBelow rows cols taught Cvvis e 32 → IsChosen e v
chosen_seen rows cols taught e v ends =
    let at : (k : ℕ) → k < 32 → IsSeenSo e (probe_by (choices_of k) (start_of rows cols Cvvis) rows) = λ k lt. seen_so taught e (probe_by (choices_of k) (start_of rows cols Cvvis) rows) (ends k lt) _ (ends k lt).is in
    let hidden : IsSeenSo e (probe_by (choices_of 8) (start_of rows cols Cvvis) rows) = at 8 (omega arith) in
    let seen : IsSeenSo e (probe_by (choices_of 0) (start_of rows cols Cvvis) rows) = at 0 (omega arith) in
    record { shows = hidden.shows; same = by_both e.visible (on_or_kept hidden.shows) v hidden.so (seen.so ∙ (stays_seen seen.shows ∙ sym (stays_seen hidden.shows))) }
