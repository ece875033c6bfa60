-- Full repaints, which begin with the resynchronization or with a clearing.
use Rattle.std.proofs.Common.{◌≡◌, ℕ, ◌+◌, ◌≤◌, Bool, true, false, List, [], ◌++◌, length, Option, Some, None, Result, Err, refl, sym, ap, subst, ◌∙◌, inl, arith}
use Rattle.std.proofs.lemmas.List.{append-nil}
use Rattle.std.specs.Prelude.{OnOk}
use Rattle.vt_term.specs.Look.{Rendition, blank}
use Rattle.vt_term.specs.Grid.{drawn}
use Rattle.vt_term.specs.Screen.{State}
use Rattle.cur_steps.specs.Wire.{IsWire, StopsIn}
use Rattle.cur_steps.specs.Leads.{Leads}
use Rattle.cur_steps.specs.WireSteps.{Steps, then_kind}
use Rattle.cur_steps.proofs.Leads.{leads_then, leads_wider}
use Rattle.cur_steps.proofs.Paints.{sends_then}
use Rattle.cur_steps.proofs.Stops.{on_ok_map}
use Rattle.cur_steps.proofs.Completion.{ends_as}
use Rattle.ti_rows.specs.declared.rows.Row.TheVariants.{Clear}
use Rattle.cur_steps.specs.declared.beliefs.Belief.{Belief}
use Rattle.cur_steps.specs.declared.inks.Ink.{Ink}
use Rattle.ti_conforms.specs.Certified.{Table, IsLost, IsBlank, IsChecked, IsPiece, Line, or_nothing}
use Rattle.cur_steps.specs.Inks.{blank_ink, plain_brush, rendition_of}
use Rattle.cur_steps.specs.declared.inks.Brush.{Brush}
use Rattle.cur_steps.specs.Beliefs.{Agrees, Turns}
use Rattle.cur_steps.specs.declared.beliefs.Mode.{Mode}
use Rattle.cur_steps.specs.declared.beliefs.Mode.TheVariants.{Normal}
use Rattle.cur_steps.proofs.Turns.{free_of, by_screen, look_at-drawn, stands_at}
use Rattle.cur_paint.specs.Cleared.{IsLeft, at_corner, at_start}
use Rattle.cur_paint.specs.Rests.{EndsAt, IsRested, IsSet}
use Rattle.cur_paint.specs.Limits.{fresh_limit, IsPlaced, IsWithin, paint_limit, renewal_limit}
use Rattle.cur_paint.specs.Modes.{OnlyPaints, shown_mode}
use Rattle.cur_paint.specs.Scenes.{Sets}
use Rattle.cur_paint.specs.Update.{Anew, Begins, Draws, IsFresh, Meets, opening, refresh_limit}
use Rattle.cur_paint.specs.declared.updates.Wanted.{Wanted}
use Rattle.cur_paint.specs.declared.updates.Status.{Status}
use Rattle.cur_paint.specs.declared.updates.Status.TheVariants.{Fresh, Known, Lost}
use Rattle.cur_steps.proofs.Actions.{agrees_lost, line_leads}
use Rattle.cur_paint.proofs.Bounds.{placed_at}
use Rattle.cur_paint.proofs.ModeFacts.{quiet_first}
use Rattle.cur_paint.proofs.Agreeing.{blank_agrees}

-- the first bytes were cut short
pub anew_failed : {W T E : Type 0} (went : W → W → List ℕ → Type 0) (failures : W → ℕ) (a z : W) (v : E) (t : Table) (limit : ℕ) (A B C : State → Type 0) (first : List ℕ) (now : Option Mode) (w : Wanted) → ((s : State) → B s → IsLost t s) → length first ≤ limit
    → Leads (IsPiece t) (length first) (IsLost t) A first B → StopsIn went failures a z first → Anew {T = T} {E = E} went failures a z (Err v) t limit A C first now w
anew_failed went failures a z v t limit A B C first now w lost le h stops = record {
  step = record {
    bytes = first;
    leads = leads_wider (IsPiece t) (length first) limit (IsLost t) A B A (IsLost t) first le (λ s x. x) lost h;
    sends = stops;
  };
  begins = record { more = []; begins = sym (append-nil first) };
  quiet = tt;
}

-- they went out, and all was painted
pub anew_then : {W T E : Type 0} (went : W → W → List ℕ → Type 0) (failures : W → ℕ) → IsWire went failures → (a m z : W) (answer : Result T E) (t : Table) (limit : ℕ) (A B C : State → Type 0) (first : List ℕ) (now : Option Mode) (w : Wanted) (k : ℕ) → length first + k ≤ limit
    → Leads (IsPiece t) (length first) (IsLost t) A first B → went a m first → Sets went failures m z answer t k now w.cursor w.mode B C → Anew went failures a z answer t limit A C first now w
anew_then went failures laws a m z answer t limit A B C first now w k le h sent rest =
    let steps = rest.step in
    let D : State → Type 0 = then_kind answer C (IsLost t) in
    record {
      step = record {
        bytes = first ++ steps.bytes;
        leads = leads_wider (IsPiece t) (length first + k) limit (IsLost t) A D A D (first ++ steps.bytes) le (λ s x. x) (λ s x. x)
            (leads_then (IsPiece t) (length first) k (IsLost t) A B D first steps.bytes h steps.leads);
        sends = sends_then went failures laws a m z first steps.bytes answer sent steps.sends;
      };
      begins = record { more = steps.bytes; begins = refl };
      quiet = quiet_first answer t first now w.cursor w.mode steps.bytes rest.quiet;
    }

pub resync_leads : (t : Table) → IsChecked t → (mode : Option Mode) → Leads (IsPiece t) (length t.resync) (IsLost t) (IsLeft t mode) t.resync (Agrees t (λ i j. blank_ink) (at_start mode))
resync_leads t checked mode = record {
  pieces = checked.resync_pieces;
  made = checked.resync_made;
  each = checked.resync_each;
  bound = omega arith;
  ends = λ s a. ends_as s t.resync (IsBlank t s.screen.visible) (Agrees t (λ i j. blank_ink) (at_start mode)) (blank_agrees t mode s.screen.visible a.seen) (checked.resyncs s a.lost);
  cut = λ front back e s a. checked.resync_fronts s a.lost front back e;
}

-- all is erased in the default rendition
pub all_cleared : (t : Table) (g : ℕ → ℕ → Ink) (b : Belief) → b.brush ≡ plain_brush → Turns t Clear g b (λ i j. blank_ink) (at_corner b)
all_cleared t g b plain = record {
  starts = λ s h. free_of t s h.ready;
  ends = λ s u h sized closed w. by_screen t (Agrees t (λ i j. blank_ink) (at_corner b)) u
      (record s.screen { grid = drawn (λ i j old. blank s.screen.rendition) s.screen.grid; row = 0; col = 0; pending = false }) sized closed w.wants
      (λ k. record {
        ready = record { sized = k; rest = refl; tame = record { autowrap = h.ready.tame.autowrap; inserting = h.ready.tame.inserting }; whole = record { top = h.ready.whole.top; bottom = h.ready.whole.bottom }; settled = h.ready.settled; visible = h.ready.visible };
        cells = λ i j li lj.
            look_at-drawn (λ i j old. blank s.screen.rendition) s.screen.grid i j (omega (arith, h.ready.sized.state.screen.columns i (omega (arith, h.ready.sized.rows)), h.ready.sized.cols))
            ∙ ap (λ (r : Rendition). blank r) h.brush
            ∙ ap (λ (x : Brush). blank (rendition_of t.looks x)) plain;
        place = stands_at t.cols 0 0 (omega (arith, h.ready.sized.state.screen.col, h.ready.sized.cols));
        brush = h.brush;
        colored = h.colored;
        set = h.set;
        seen = h.seen;
      });
}

pub clear_leads : (t : Table) → IsChecked t → (line : List ℕ) → t.line_of Clear ≡ Some line → (g : ℕ → ℕ → Ink) (b : Belief) → b.brush ≡ plain_brush
    → Leads (IsPiece t) (length line) (IsLost t) (Agrees t g b) line (Agrees t (λ i j. blank_ink) (at_corner b))
clear_leads t checked line is g b plain = line_leads (IsPiece t) t checked Clear line is (Line Clear is) (length line) (omega arith) g (λ i j. blank_ink) b (at_corner b) (all_cleared t g b plain)

one_line : (o : Option (List ℕ)) (a b : List ℕ) → o ≡ Some a → o ≡ Some b → a ≡ b
one_line o a b e f = cc

-- the string that clears was cut short; whichever line is meant, it is the one that was sent
pub clear_cut : {W F : Type 0} (went : W → W → List ℕ → Type 0) (failures : W → ℕ) (a z : W) (u : F) (t : Table) (sent line : List ℕ) (shown new : ℕ → ℕ → Ink) (b : Belief) (w : Wanted)
    → IsChecked t → t.line_of Clear ≡ Some sent → t.line_of Clear ≡ Some line → b.brush ≡ plain_brush → StopsIn went failures a z sent
    → Anew {T = Unit {0}} {E = F} went failures a z (Err u) t (length line + renewal_limit t (λ i j. blank_ink) new) (Agrees t shown b) (Agrees t new (at_corner b)) line b.mode w
clear_cut {W} {F} went failures a z u t sent line shown new b w checked its is plain stops =
    let blank : ℕ → ℕ → Ink = λ i j. blank_ink in
    let limit : ℕ = renewal_limit t blank new in
    let P : List ℕ → Type 0 = λ l. Anew {T = Unit {0}} {E = F} went failures a z (Err u) t (length l + limit) (Agrees t shown b) (Agrees t new (at_corner b)) l b.mode w in
    subst P (one_line (t.line_of Clear) sent line its is)
    (anew_failed went failures a z u t (length sent + limit) (Agrees t shown b) (Agrees t blank (at_corner b)) (Agrees t new (at_corner b)) sent b.mode w (agrees_lost t checked blank (at_corner b)) (omega arith)
    (clear_leads t checked sent its shown b plain) stops)

-- it went out, and all was painted
pub clear_then : {W T E : Type 0} (went : W → W → List ℕ → Type 0) (failures : W → ℕ) → IsWire went failures → (a m z : W) (answer : Result T E) (t : Table) (sent line : List ℕ) (shown new : ℕ → ℕ → Ink) (b after : Belief) (w : Wanted)
    → IsChecked t → t.line_of Clear ≡ Some sent → t.line_of Clear ≡ Some line → b.brush ≡ plain_brush → went a m sent
    → Sets went failures m z answer t (renewal_limit t (λ i j. blank_ink) new) b.mode w.cursor w.mode (Agrees t (λ i j. blank_ink) (at_corner b)) (Agrees t new after)
    → Anew went failures a z answer t (length line + renewal_limit t (λ i j. blank_ink) new) (Agrees t shown b) (Agrees t new after) line b.mode w
clear_then went failures laws a m z answer t sent line shown new b after w checked its is plain goes rest =
    let blank : ℕ → ℕ → Ink = λ i j. blank_ink in
    let limit : ℕ = renewal_limit t blank new in
    let P : List ℕ → Type 0 = λ l. Anew went failures a z answer t (length l + limit) (Agrees t shown b) (Agrees t new after) l b.mode w in
    subst P (one_line (t.line_of Clear) sent line its is)
    (anew_then went failures laws a m z answer t (length sent + limit) (Agrees t shown b) (Agrees t blank (at_corner b)) (Agrees t new after) sent b.mode w limit (omega arith)
    (clear_leads t checked sent its shown b plain) goes rest)

-- bytes that draw, from the states that the status allows
draws_by : {W T E : Type 0} {went : W → W → List ℕ → Type 0} {failures : W → ℕ} {a z : W} {answer : Result T E} (t : Table) (shown g : ℕ → ℕ → Ink) (w : Wanted) (clear : Bool) (status : Status) (b after : Belief)
    (step : Steps went failures a z answer (IsPiece t) (refresh_limit t shown g status b (record w { clear = clear })) (IsLost t) (Meets t shown status b) (Agrees t g after)) → Begins t status clear step.bytes
    → OnOk answer (OnlyPaints t (opening t status clear) (shown_mode status b.mode) w.cursor w.mode step.bytes) → IsWithin t w.cursor → OnOk answer (IsSet w after)
    → Draws went failures a z answer t shown g (record w { clear = clear }) status b after
draws_by {W} {T} {E} {went} {failures} {a} {z} {answer} t shown g w clear status b after step begins quiet within set = record {
  step = step;
  begins = begins;
  there = on_ok_map answer (IsSet w after) (IsPlaced t.cols w.cursor after.place) (λ x. placed_at t w.cursor after.place within x.at) set;
  at = on_ok_map answer (IsSet w after) (EndsAt w.cursor (refresh_limit t shown g status b (record w { clear = clear })) after.place) (λ x. inl x.at) set;
  rested = on_ok_map answer (IsSet w after) (IsRested after) (λ x. x.rested) set;
  mode = on_ok_map answer (IsSet w after) (after.mode ≡ Some w.mode) (λ x. x.mode) set;
  quiet = quiet;
}

pub draws_fresh : {W T E : Type 0} {went : W → W → List ℕ → Type 0} {failures : W → ℕ} {a z : W} {answer : Result T E} {t : Table} {shown g : ℕ → ℕ → Ink} {w : Wanted} {status : Status} {b after : Belief} → status ≡ Fresh
    → Anew went failures a z answer t (fresh_limit t) (IsLeft t (Some Normal)) (Agrees t g after) t.resync (Some Normal) w → IsWithin t w.cursor → OnOk answer (IsSet w after) → Draws went failures a z answer t shown g w status b after
draws_fresh {W} {T} {E} {went} {failures} {a} {z} {answer} {t} {shown} {g} {w} {status} {b} {after} e h within set =
    let D : State → Type 0 = then_kind answer (Agrees t g after) (IsLost t) in
    let P : Status → Type 0 = λ x. Draws went failures a z answer t shown g w x b after in
    subst P (sym e) (draws_by t shown g w w.clear Fresh b after (record { bytes = h.step.bytes; leads = leads_wider (IsPiece t) (fresh_limit t) (fresh_limit t) (IsLost t) (IsLeft t (Some Normal)) D (IsFresh t) D h.step.bytes (omega arith) (λ s x. record { lost = x.lost; seen = x.visible }) (λ s x. x) h.step.leads; sends = h.step.sends }) h.begins h.quiet within set)

pub draws_lost : {W T E : Type 0} {went : W → W → List ℕ → Type 0} {failures : W → ℕ} {a z : W} {answer : Result T E} {t : Table} {shown g : ℕ → ℕ → Ink} {w : Wanted} {status : Status} {b after : Belief} → status ≡ Lost
    → Anew went failures a z answer t (fresh_limit t) (IsLeft t None) (Agrees t g after) t.resync None w → IsWithin t w.cursor → OnOk answer (IsSet w after) → Draws went failures a z answer t shown g w status b after
draws_lost {W} {T} {E} {went} {failures} {a} {z} {answer} {t} {shown} {g} {w} {status} {b} {after} e h within set =
    let D : State → Type 0 = then_kind answer (Agrees t g after) (IsLost t) in
    let P : Status → Type 0 = λ x. Draws went failures a z answer t shown g w x b after in
    subst P (sym e) (draws_by t shown g w w.clear Lost b after (record { bytes = h.step.bytes; leads = leads_wider (IsPiece t) (fresh_limit t) (fresh_limit t) (IsLost t) (IsLeft t None) D (IsLost t) D h.step.bytes (omega arith) (λ s x. record { lost = x; seen = tt }) (λ s x. x) h.step.leads; sends = h.step.sends }) h.begins h.quiet within set)

as_wanted : (w : Wanted) (x : Bool) → w.clear ≡ x → w ≡ record w { clear = x }
as_wanted w x e = ap (λ (y : Bool). record w { clear = y }) e

-- a known screen was mended
pub draws_sets : {W T E : Type 0} {went : W → W → List ℕ → Type 0} {failures : W → ℕ} {a z : W} {answer : Result T E} {t : Table} {shown g : ℕ → ℕ → Ink} {b after : Belief} (w : Wanted)
    → Sets went failures a z answer t (paint_limit t shown g b w.cursor w.mode) b.mode w.cursor w.mode (Agrees t shown b) (Agrees t g after)
    → IsWithin t w.cursor → OnOk answer (IsSet w after) → Draws went failures a z answer t shown g (record w { clear = false }) Known b after
draws_sets {W} {T} {E} {went} {failures} {a} {z} {answer} {t} {shown} {g} {b} {after} w h within set = draws_by t shown g w false Known b after h.step tt h.quiet within set

-- under other words for what is known and wanted
pub draws_known : {W T E : Type 0} {went : W → W → List ℕ → Type 0} {failures : W → ℕ} {a z : W} {answer : Result T E} {t : Table} {shown g : ℕ → ℕ → Ink} {w : Wanted} {status : Status} {b after : Belief} → status ≡ Known → w.clear ≡ false
    → Draws went failures a z answer t shown g (record w { clear = false }) Known b after → Draws went failures a z answer t shown g w status b after
draws_known {W} {T} {E} {went} {failures} {a} {z} {answer} {t} {shown} {g} {w} {status} {b} {after} e f h =
    let P : Status → Type 0 = λ x. Draws went failures a z answer t shown g w x b after in
    let Q : Wanted → Type 0 = λ x. Draws went failures a z answer t shown g x Known b after in
    subst P (sym e) (subst Q (sym (as_wanted w false f)) h)

pub draws_clear : {W T E : Type 0} {went : W → W → List ℕ → Type 0} {failures : W → ℕ} {a z : W} {answer : Result T E} {t : Table} {shown g : ℕ → ℕ → Ink} {w : Wanted} {status : Status} {b after : Belief} {line : List ℕ} {n : ℕ} → status ≡ Known → w.clear ≡ true
    → t.line_of Clear ≡ Some line → n ≤ fresh_limit t → Anew went failures a z answer t n (Agrees t shown b) (Agrees t g after) line b.mode w
    → IsWithin t w.cursor → OnOk answer (IsSet w after) → Draws went failures a z answer t shown g w status b after
draws_clear {W} {T} {E} {went} {failures} {a} {z} {answer} {t} {shown} {g} {w} {status} {b} {after} {line} {n} e f is le h within set =
    let P : Status → Type 0 = λ x. Draws went failures a z answer t shown g w x b after in
    let Q : Wanted → Type 0 = λ x. Draws went failures a z answer t shown g x Known b after in
    let D : State → Type 0 = then_kind answer (Agrees t g after) (IsLost t) in
    subst P (sym e) (subst Q (sym (as_wanted w true f)) (draws_by t shown g w true Known b after (record { bytes = h.step.bytes; leads = leads_wider (IsPiece t) n (fresh_limit t) (IsLost t) (Agrees t shown b) D (Agrees t shown b) D h.step.bytes le (λ s x. x) (λ s x. x) h.step.leads; sends = h.step.sends }) (record { line = line; is = is; begins = h.begins })
    (subst (λ (l : List ℕ). OnOk answer (OnlyPaints t l b.mode w.cursor w.mode h.step.bytes)) (sym (ap or_nothing is)) h.quiet) within set))
