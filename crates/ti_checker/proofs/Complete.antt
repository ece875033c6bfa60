-- An effect that no probe shows wrong leads to an end that is wanted, from each start of the row.
use Rattle.std.proofs.Common.{◌≡◌, ℕ, Bool, true, false, refl, sym, ap, subst, ◌∙◌}
use Rattle.vt_term.specs.Grid.{Grid}
use Rattle.vt_term.specs.Look.{Rendition}
use Rattle.vt_term.specs.Screen.{Charset, Screen}
use Rattle.vt_term.specs.Size.{IsSize}
use Rattle.vt_effects.specs.declared.effects.Effect.{Effect}
use Rattle.vt_effects.specs.declared.effects.Rendering.{Rendering}
use Rattle.vt_effects.specs.declared.effects.Sets.{Sets}
use Rattle.vt_effects.specs.declared.effects.Switch.{Switch}
use Rattle.vt_effects.specs.Effect.{applied, designated, rendered, switched}
use Rattle.ti_rows.specs.Asked.{asked, ink_of, just, no_marks, on_or_kept}
use Rattle.ti_rows.specs.Lists.{IsInRange}
use Rattle.ti_rows.specs.Looks.{shown}
use Rattle.ti_rows.specs.Starts.{Starts}
use Rattle.ti_rows.specs.Wants.{Wants}
use Rattle.ti_rows.specs.declared.rows.Attributes.{Attributes}
use Rattle.ti_rows.specs.declared.rows.Looks.{Looks}
use Rattle.ti_rows.specs.declared.rows.Row.{Row}
use Rattle.ti_rows.specs.declared.rows.Row.TheVariants.{Sgr, Smso, Cvvis}
use Rattle.ti_checker.specs.Breakage.{marks_after, with_defaults, without_defaults}
use Rattle.ti_checker.specs.Strays.{HaveOnePlace, IsAlwaysWanted, IsRecorded}
use Rattle.ti_checker.specs.Trials.{EndsBelow}
use Rattle.ti_checker.proofs.Elsewhere.{agree_with_itself, end_wanted, same_place}
use Rattle.ti_checker.proofs.Erasing.{same_cells}
use Rattle.ti_checker.proofs.Modes.{same_sets, told_seen, chosen_seen}
use Rattle.ti_checker.proofs.OneRendition.{fixed_rendered, standout_rendered, set_rendered, IsRendered}

-- ---- two effects have one end if they have all of its parts

abbrev built : Screen → Grid → ℕ → ℕ → Bool → Rendition → Charset → ℕ → ℕ → Bool → Screen
built s g r c p n k t b v = record s { grid = g; row = r; col = c; pending = p; rendition = n; charset = k; top = t; bottom = b; visible = v }

one_end : (e w : Effect) (s : Screen) → (applied e s).grid ≡ (applied w s).grid → HaveOnePlace (applied e s) (applied w s) → rendered e.rendition s.rendition ≡ rendered w.rendition s.rendition
    → designated e.charset s.charset ≡ designated w.charset s.charset → switched e.visible s.visible ≡ switched w.visible s.visible → applied e s ≡ applied w s
one_end e w s cells place rendition sets seen =
    let x : Screen = applied e s in
    let y : Screen = applied w s in
    ap (λ (g : Grid). built s g x.row x.col x.pending x.rendition x.charset x.top x.bottom x.visible) cells
    ∙ (ap (λ (r : ℕ). built s y.grid r x.col x.pending x.rendition x.charset x.top x.bottom x.visible) place.row
    ∙ (ap (λ (c : ℕ). built s y.grid y.row c x.pending x.rendition x.charset x.top x.bottom x.visible) place.col
    ∙ (ap (λ (p : Bool). built s y.grid y.row y.col p x.rendition x.charset x.top x.bottom x.visible) place.pending
    ∙ (ap (λ (n : Rendition). built s y.grid y.row y.col y.pending n x.charset x.top x.bottom x.visible) rendition
    ∙ (ap (λ (k : Charset). built s y.grid y.row y.col y.pending y.rendition k x.top x.bottom x.visible) sets
    ∙ (ap (λ (t : ℕ). built s y.grid y.row y.col y.pending y.rendition y.charset t x.bottom x.visible) place.top
    ∙ (ap (λ (b : ℕ). built s y.grid y.row y.col y.pending y.rendition y.charset y.top b x.visible) place.bottom
    ∙ ap (λ (v : Bool). built s y.grid y.row y.col y.pending y.rendition y.charset y.top y.bottom v) seen)))))))

-- the end of an effect is wanted if it equals the one that is asked for
wanted_by : (rows cols : ℕ) (looks : Looks) (row : Row) (e f : Effect) (s : Screen) → Starts rows cols row s → applied e s ≡ applied (asked looks row f) s → Wants looks row s (applied e s)
wanted_by rows cols looks row e f s starts same = subst (λ (t : Screen). Wants looks row s t) (sym same) (end_wanted rows cols looks row f s starts)

-- the effect whose colors and visibility are the default ones, or stay
abbrev chosen : Bool → Effect → Effect
chosen true e = with_defaults e
chosen false e = without_defaults e

set_asked : (b : Bool) (l : Looks) (a : Attributes) (e : Effect) → (asked l (Sgr a) (chosen b e)).rendition ≡ just (shown l a) (ink_of b)
set_asked true l a e = refl
set_asked false l a e = refl

set_sets : (b : Bool) (l m : Looks) (a : Attributes) (e : Effect) → (asked m (Sgr a) e).charset ≡ (asked l (Sgr a) (chosen b e)).charset
set_sets true l m a e = refl
set_sets false l m a e = refl

choice_seen : (b : Bool) (l : Looks) (e : Effect) → (asked l Cvvis (chosen b e)).visible ≡ on_or_kept b
choice_seen true l e = refl
choice_seen false l e = refl

-- ---- each row

pub always_wanted : (rows cols : ℕ) (taught : Looks) (row : Row) (e : Effect) → IsSize rows cols → IsInRange rows cols row → EndsBelow rows cols taught row e 32 → IsRecorded rows cols row e → IsAlwaysWanted rows cols taught row e
always_wanted rows cols taught (Sgr a) e size range ends text =
    let r : IsRendered taught a e = set_rendered rows cols taught a e ends in
    let b : Bool = r.defaults in
    let w : Effect = asked r.looks (Sgr a) (chosen b e) in
    record {
      looks = r.looks;
      agree = r.agree;
      wanted = λ s starts.
          let place = same_place rows cols taught (Sgr a) e s size starts ends in
          wanted_by rows cols r.looks (Sgr a) e (chosen b e) s starts
          (one_end e w s (same_cells rows cols taught (Sgr a) e s size range text starts ends) (record { row = place.row; col = place.col; pending = place.pending; top = place.top; bottom = place.bottom })
          (r.same s.rendition ∙ ap (λ (q : Rendering). rendered q s.rendition) (sym (set_asked b r.looks a e)))
          (same_sets rows cols taught (Sgr a) e s.charset ends ∙ ap (λ (q : Sets). designated q s.charset) (set_sets b r.looks taught a e))
          (told_seen rows cols taught (Sgr a) e s.visible refl ends));
    }
always_wanted rows cols taught Smso e size range ends text =
    let looks : Looks = record taught { standout = marks_after e.rendition no_marks } in
    record {
      looks = looks;
      agree = tt;
      wanted = λ s starts.
          let place = same_place rows cols taught Smso e s size starts ends in
          wanted_by rows cols looks Smso e e s starts
          (one_end e (asked looks Smso e) s (same_cells rows cols taught Smso e s size range text starts ends) (record { row = place.row; col = place.col; pending = place.pending; top = place.top; bottom = place.bottom })
          (standout_rendered rows cols taught e s.rendition ends) (same_sets rows cols taught Smso e s.charset ends) (told_seen rows cols taught Smso e s.visible refl ends));
    }
always_wanted rows cols taught Cvvis e size range ends text = record {
  looks = taught;
  agree = agree_with_itself Cvvis taught;
  wanted = λ s starts.
      let v = chosen_seen rows cols taught e s.visible ends in
      let place = same_place rows cols taught Cvvis e s size starts ends in
      wanted_by rows cols taught Cvvis e (chosen v.shows e) s starts
      (one_end e (asked taught Cvvis (chosen v.shows e)) s (same_cells rows cols taught Cvvis e s size range text starts ends) (record { row = place.row; col = place.col; pending = place.pending; top = place.top; bottom = place.bottom })
      (fixed_rendered rows cols taught Cvvis e s.rendition refl ends) (same_sets rows cols taught Cvvis e s.charset ends)
      (v.same ∙ ap (λ (q : Switch). switched q s.visible) (sym (choice_seen v.shows taught e))));
}
always_wanted rows cols taught row e size range ends text = record {
  looks = taught;
  agree = agree_with_itself row taught;
  wanted = λ s starts.
      wanted_by rows cols taught row e e s starts
      (one_end e (asked taught row e) s (same_cells rows cols taught row e s size range text starts ends) (same_place rows cols taught row e s size starts ends)
      (fixed_rendered rows cols taught row e s.rendition refl ends) (same_sets rows cols taught row e s.charset ends) (told_seen rows cols taught row e s.visible refl ends));
}
