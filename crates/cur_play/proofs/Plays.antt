-- From a call's drawing and its sending to the whole call.
use Rattle.std.proofs.Common.{◌≡◌, ℕ, List, [], true, false, Option, refl, sym, ◌∙◌, ap, subst}
use Rattle.std.specs.Prelude.{Result, Ok, Err}
use Rattle.cur_drawing.specs.declared.refusals.Refusal.{Refusal}
use Rattle.cur_drawing.specs.declared.refusals.Refusal.TheVariants.{NoMemory}
use Rattle.cur_windows.specs.Desks.{State, DeskStep, step}
use Rattle.cur_windows.specs.TouchedWindows.{KeepsShown}
use Rattle.cur_screens.specs.Touched.{Markings}
use Rattle.cur_screens.specs.VirtualScreen.{Screen, refreshed}
use Rattle.ti_conforms.specs.Certified.{Table, IsChecked}
use Rattle.cur_steps.specs.declared.beliefs.Mode.{Mode}
use Rattle.cur_paint.specs.declared.updates.Status.{Status}
use Rattle.cur_paint.specs.declared.updates.Status.TheVariants.{Fresh, Known, Lost}
use Rattle.cur_update.specs.Painters.{Painted}
use Rattle.cur_scripts.specs.declared.calls.Call.{Call}
use Rattle.cur_scripts.specs.declared.calls.Call.TheVariants.{Newwin, Newpad, Dupwin}
use Rattle.cur_steps.specs.Wire.{IsWire}
use Rattle.cur_play.proofs.Deliveries.{IsBound, carries}
use Rattle.cur_play.proofs.Performances.{draws_answer, drawn_sizes}
use Rattle.cur_play.specs.Deliveries.{Carries}
use Rattle.cur_play.specs.Drawings.{Draws, Drawn, NoSpace, SameSizes}
use Rattle.cur_play.specs.Outputs.{IsQuiet, Puts, poised}
use Rattle.cur_play.specs.Scenes.{IsStage, Scene, Stage, scene_of, stage_of}
use Rattle.cur_play.specs.Sends.{Delivers, Leaves}
use Rattle.cur_play.specs.Steps.{CallStep, DoesAlone, Stepped, NoRoom, Failed, Step, answer_of, drawn, is_sent, on_desk, output_of, then_sent}
use Rattle.cur_play.specs.Windows.{takes_memory}
use Rattle.cur_play.specs.StaleMarks.{IsKnown}
use Rattle.cur_play.specs.declared.stale_marks.StaleMarks.{StaleMarks}
use Rattle.cur_play.specs.declared.answers.Answer.{Answer}
use Rattle.cur_play.specs.declared.answers.Answer.TheVariants.{Done, Was, Refused, WireFailed}
use Rattle.cur_play.specs.declared.sends.Emission.{Emission}
use Rattle.cur_play.specs.declared.sends.Emission.TheVariants.{Nothing, Update, Bell, End}

-- all of it went out, or the wire failed
pub data IsSent (t : Table) (o : Emission) (x : Step) (after : Scene) (a : Answer) : Type 0 where
  All : (after, a) ≡ then_sent t o x → IsSent t o x after a
  Cut : is_sent o ≡ true → (then_sent t o x).1 ≡ Done → a ≡ WireFailed → after ≡ record x.0 { status = Lost } → IsSent t o x after a

left : (s : Scene) (v w : Screen) (to after : Status) → Leaves v to w after → record s { screen = w; status = after } ≡ record s { screen = v; status = to }
left s v w to after h =
    ap (λ (y : Screen). record s { screen = y; status = after }) h.screen ∙ ap (λ (y : Status). record s { screen = v; status = y }) h.status

with : (s u : Scene) (a : Answer) → u ≡ s → ◌≡◌ {A = Step} (u, a) (s, a)
with s u a e = ap (λ (y : Scene). let x : Step = (y, a) in x) e

sent_as : (t : Table) (o : Emission) (s : Scene) (a : Answer) (w : Screen) (after : Status) → Delivers t o s.screen s.status a w after → IsSent t o (s, Done) (record s { screen = w; status = after }) a
sent_as t Nothing s Done w after h = All (with s _ Done (left s s.screen w s.status after h))
sent_as t Nothing s (Was n) w after h = absurd h
sent_as t Nothing s (Refused r) w after h = absurd h
sent_as t Nothing s WireFailed w after h = absurd h
sent_as t Update s Done w after h = All (with (record s { screen = refreshed s.screen; status = Known }) _ Done (left s (refreshed s.screen) w Known after h))
sent_as t Update s (Was n) w after h = absurd h
sent_as t Update s (Refused r) w after h = absurd h
sent_as t Update s WireFailed w after h = Cut refl refl refl (left s s.screen w Lost after h)
sent_as t Bell s Done w after h = All (with s _ Done (left s s.screen w s.status after h.leaves) ∙ ap (λ (y : Answer). (s, y)) (sym h.answers))
sent_as t Bell s (Was n) w after h = absurd h
sent_as t Bell s (Refused r) w after h = All (with s _ (Refused r) (left s s.screen w s.status after h.leaves) ∙ ap (λ (y : Answer). (s, y)) (sym h.answers))
sent_as t Bell s WireFailed w after h = Cut refl h.answers refl (left s s.screen w Lost after h.leaves)
sent_as t End s Done w after h = All (with (record s { status = Fresh }) _ Done (left s s.screen w Fresh after h))
sent_as t End s (Was n) w after h = absurd h
sent_as t End s (Refused r) w after h = absurd h
sent_as t End s WireFailed w after h = Cut refl refl refl (left s s.screen w Lost after h)

step_of : (t : Table) (s : Scene) (call : Call) (a : Answer) (after : Scene) → IsSent t (output_of call) (drawn t s call) after a → CallStep t s call a after
step_of t s call a after (All e) = Stepped e
step_of t s call a after (Cut sent done e f) = Failed sent done e f

not_refused : (r : Refusal) → Done ≡ Refused r → ⊥
not_refused r e = cc

-- the scene before the sending
drawn_as : (t : Table) (s : Scene) (call : Call) (mid : Scene) → Draws t s call Done mid → (mid, Done) ≡ drawn t s call
drawn_as t s call mid (Drawn e) = e
drawn_as t s call mid (NoSpace k done r same) = absurd (not_refused NoMemory r)

pub drawn_scene : (t : Table) (s : Scene) (call : Call) (mid : Scene) → Draws t s call Done mid → mid ≡ (drawn t s call).0
drawn_scene t s call mid h = ap (λ (y : Step). y.0) (drawn_as t s call mid h)

pub call_done : (t : Table) (s : Scene) (call : Call) (mid : Scene) (a : Answer) (w : Screen) (after : Status) → Draws t s call Done mid → Delivers t (output_of call) mid.screen mid.status a w after
    → CallStep t s call a (record mid { screen = w; status = after })
call_done t s call mid a w after h k =
    let P : Step → Type 0 = λ x. IsSent t (output_of call) x (record mid { screen = w; status = after }) a in
    step_of t s call a (record mid { screen = w; status = after }) (subst P (drawn_as t s call mid h) (sent_as t (output_of call) mid a w after k))

then_kept : (t : Table) (o : Emission) (x : Step) → (x.1 ≡ Done → ⊥) → then_sent t o x ≡ x
then_kept t o (s, Done) h = absurd (h refl)
then_kept t o (s, Was n) h = refl
then_kept t o (s, Refused r) h = refl
then_kept t o (s, WireFailed) h = refl

nothing_sent : (t : Table) (x : Step) → x.1 ≡ Done → (then_sent t Nothing x).1 ≡ Done
nothing_sent t (s, Done) e = refl
nothing_sent t (s, Was n) e = e
nothing_sent t (s, Refused r) e = e
nothing_sent t (s, WireFailed) e = e

no : false ≡ true → ⊥
no e = cc

makers_send_nothing : (call : Call) → takes_memory call ≡ true → output_of call ≡ Nothing
makers_send_nothing (Newwin n lines cols y x) e = refl
makers_send_nothing (Newpad n lines cols) e = refl
makers_send_nothing (Dupwin n w) e = refl
makers_send_nothing _ e = absurd (no e)

pub call_refused : (t : Table) (s : Scene) (call : Call) (a : Answer) (mid : Scene) → (a ≡ Done → ⊥) → Draws t s call a mid → CallStep t s call a mid
call_refused t s call a mid h (Drawn e) =
    let kept : then_sent t (output_of call) (drawn t s call) ≡ drawn t s call = then_kept t (output_of call) (drawn t s call) (λ d. h (ap (λ (y : Step). y.1) e ∙ d)) in
    Stepped (e ∙ sym kept)
call_refused t s call a mid h (NoSpace takes done r same) =
    let P : Emission → Type 0 = λ o. (then_sent t o (drawn t s call)).1 ≡ Done in
    NoRoom takes (subst P (sym (makers_send_nothing call takes)) (nothing_sent t (drawn t s call) done)) r same

-- ---- the bytes that go out

pub poised_is : {C : Type 0} (t : Table) (p : Stage C) (call : Call) (mid : Scene) (q : Painted C) → q ≡ record p.painter { mode = q.mode } → mid ≡ (drawn t (scene_of p) call).0 → q.mode ≡ mid.mode → q ≡ poised t p call
poised_is t p call mid q e f g = e ∙ ap (λ (m : Mode). record p.painter { mode = m }) (g ∙ ap (λ (y : Scene). y.mode) f)

pub puts_done : {W C : Type 0} (went : W → W → List ℕ → Type 0) (failures : W → ℕ) (old new : W) (t : Table) (partners : ℕ → Option ℕ) (p : Stage C) (call : Call) (mid : Scene) (a : Answer) (bytes : List ℕ) (q r : Painted C)
    → Draws t (scene_of p) call Done mid → q ≡ record p.painter { mode = q.mode } → q.mode ≡ mid.mode
    → Puts went failures old new t partners mid.screen (output_of call) a bytes q r → Puts went failures old new t partners (drawn t (scene_of p) call).0.screen (output_of call) a bytes (poised t p call) r
puts_done {W} {C} went failures old new t partners p call mid a bytes q r h e g k =
    let f = drawn_scene t (scene_of p) call mid h in
    let P : Painted C → Type 0 = λ y. Puts went failures old new t partners mid.screen (output_of call) a bytes y r in
    let Q : Scene → Type 0 = λ y. Puts went failures old new t partners y.screen (output_of call) a bytes (poised t p call) r in
    subst Q f (subst P (poised_is t p call mid q e f g) k)

quiet_puts : {W C : Type 0} (went : W → W → List ℕ → Type 0) (failures : W → ℕ) (old new : W) (t : Table) (partners : ℕ → Option ℕ) (v : Screen) (o : Emission) (a : Answer) (q r : Painted C)
    → (a ≡ Done → ⊥) → (a ≡ WireFailed → ⊥) → IsQuiet old new [] q r → Puts went failures old new t partners v o a [] q r
quiet_puts went failures old new t partners v o Done q r h k w = absurd (h refl)
quiet_puts went failures old new t partners v o WireFailed q r h k w = absurd (k refl)
quiet_puts went failures old new t partners v Nothing (Was n) q r h k w = w
quiet_puts went failures old new t partners v Update (Was n) q r h k w = w
quiet_puts went failures old new t partners v Bell (Was n) q r h k w = w
quiet_puts went failures old new t partners v End (Was n) q r h k w = w
quiet_puts went failures old new t partners v Nothing (Refused x) q r h k w = w
quiet_puts went failures old new t partners v Update (Refused x) q r h k w = w
quiet_puts went failures old new t partners v Bell (Refused x) q r h k w = w
quiet_puts went failures old new t partners v End (Refused x) q r h k w = w

pub puts_refused : {W C : Type 0} (went : W → W → List ℕ → Type 0) (failures : W → ℕ) (w : W) (t : Table) (partners : ℕ → Option ℕ) (p : Stage C) (call : Call) (a : Answer) (q : Painted C)
    → (a ≡ Done → ⊥) → (a ≡ WireFailed → ⊥) → q ≡ record p.painter { mode = q.mode }
    → Puts went failures w w t partners (drawn t (scene_of p) call).0.screen (output_of call) a [] (poised t p call) q
puts_refused {W} {C} went failures w t partners p call a q h k e =
    quiet_puts went failures w w t partners (drawn t (scene_of p) call).0.screen (output_of call) a (poised t p call) q h k
    (record { none = refl; wire = refl; session = ap (λ (y : Painted C). y.session) e; shown = ap (λ (y : Painted C). y.shown) e })

pub stage_kept : {C : Type 0} (table : C → Table) (p q : Painted C) (d e : State) (v w : Screen) → IsStage (table p.checked) d v → SameSizes d v e w → q.checked ≡ p.checked → IsStage (table q.checked) e w
stage_kept {C} table p q d e v w h k f =
    let P : C → Type 0 = λ y. IsStage (table y) e w in
    subst P (sym f) (record { rows = k.rows ∙ h.rows; cols = k.cols ∙ h.cols; desk_rows = k.desk_rows ∙ h.desk_rows; desk_cols = k.desk_cols ∙ h.desk_cols })

pub checked_kept : {C : Type 0} (table : C → Table) (p q : Painted C) → IsChecked (table p.checked) → q.checked ≡ p.checked → IsChecked (table q.checked)
checked_kept {C} table p q h f = let P : C → Type 0 = λ y. IsChecked (table y) in subst P (sym f) h

-- the sizes after the sending
screen_sizes : (t : Table) (o : Emission) (v w : Screen) (status after : Status) (a : Answer) → Delivers t o v status a w after → (w.rows ≡ v.rows) × (w.cols ≡ v.cols)
screen_sizes t Nothing v w status after Done h = (ap (λ (y : Screen). y.rows) h.screen, ap (λ (y : Screen). y.cols) h.screen)
screen_sizes t Nothing v w status after (Was n) h = absurd h
screen_sizes t Nothing v w status after (Refused r) h = absurd h
screen_sizes t Nothing v w status after WireFailed h = absurd h
screen_sizes t Update v w status after Done h = (ap (λ (y : Screen). y.rows) h.screen, ap (λ (y : Screen). y.cols) h.screen)
screen_sizes t Update v w status after (Was n) h = absurd h
screen_sizes t Update v w status after (Refused r) h = absurd h
screen_sizes t Update v w status after WireFailed h = (ap (λ (y : Screen). y.rows) h.screen, ap (λ (y : Screen). y.cols) h.screen)
screen_sizes t Bell v w status after Done h = (ap (λ (y : Screen). y.rows) h.leaves.screen, ap (λ (y : Screen). y.cols) h.leaves.screen)
screen_sizes t Bell v w status after (Was n) h = absurd h
screen_sizes t Bell v w status after (Refused r) h = (ap (λ (y : Screen). y.rows) h.leaves.screen, ap (λ (y : Screen). y.cols) h.leaves.screen)
screen_sizes t Bell v w status after WireFailed h = (ap (λ (y : Screen). y.rows) h.leaves.screen, ap (λ (y : Screen). y.cols) h.leaves.screen)
screen_sizes t End v w status after Done h = (ap (λ (y : Screen). y.rows) h.screen, ap (λ (y : Screen). y.cols) h.screen)
screen_sizes t End v w status after (Was n) h = absurd h
screen_sizes t End v w status after (Refused r) h = absurd h
screen_sizes t End v w status after WireFailed h = (ap (λ (y : Screen). y.rows) h.screen, ap (λ (y : Screen). y.cols) h.screen)

pub sizes_sent : (t : Table) (o : Emission) (d e : State) (u v w : Screen) (status after : Status) (a : Answer) → SameSizes d u e v → Delivers t o v status a w after → SameSizes d u e w
sizes_sent t o d e u v w status after a sizes h =
    let left = screen_sizes t o v w status after a h in
    record { desk_rows = sizes.desk_rows; desk_cols = sizes.desk_cols; rows = left.0 ∙ sizes.rows; cols = left.1 ∙ sizes.cols }

-- ---- a whole call, over the certificates that the painters hold

pub record Played {W C : Type 0} (went : W → W → List ℕ → Type 0) (failures : W → ℕ) (old new : W) (table : C → Table) (partners : C → ℕ → Option ℕ) (p : Stage C) (call : Call) (a : Answer) (q : Stage C) : Type 0 where
  pub step : CallStep (table p.painter.checked) (scene_of p) call a (scene_of q)
  pub carries : Carries went failures old new (table p.painter.checked) (partners p.painter.checked) (drawn (table p.painter.checked) (scene_of p) call).0.screen (output_of call) a (poised (table p.painter.checked) p call) q.painter
  pub sizes : SameSizes p.desk p.screen q.desk q.screen
  pub certificate : q.painter.checked ≡ p.painter.checked

carried : {W C : Type 0} (went : W → W → List ℕ → Type 0) (failures : W → ℕ) → IsWire went failures → IsBound → (old new : W) (t : Table) (partners : ℕ → Option ℕ) (p : Stage C) (call : Call) (a : Answer) (bytes : List ℕ) (r : Painted C)
    → IsChecked t → p.screen.rows ≡ t.rows → p.screen.cols ≡ t.cols
    → Puts went failures old new t partners (drawn t (scene_of p) call).0.screen (output_of call) a bytes (poised t p call) r
    → Carries went failures old new t partners (drawn t (scene_of p) call).0.screen (output_of call) a (poised t p call) r
carried went failures laws bound old new t partners p call a bytes r checked rows cols h =
    let k = drawn_sizes t (scene_of p) call in
    carries went failures laws bound old new t partners (drawn t (scene_of p) call).0.screen (output_of call) a bytes (poised t p call) r checked (k.rows ∙ rows) (k.cols ∙ cols) h

pub played_done : {W C : Type 0} (went : W → W → List ℕ → Type 0) (failures : W → ℕ) → IsWire went failures → IsBound → (old new : W) (table : C → Table) (partners : C → ℕ → Option ℕ) (d : State) (v : Screen) (p : Painted C) (call : Call)
    (mid_desk : State) (mid_screen : Screen) (q : Painted C) (drawn_answer : Answer) (a : Answer) (o : Emission) (bytes : List ℕ) (w : Screen) (r : Painted C)
    → IsChecked (table p.checked) → v.rows ≡ (table p.checked).rows → v.cols ≡ (table p.checked).cols
    → drawn_answer ≡ Done
    → Draws (table p.checked) (scene_of (stage_of d v p)) call drawn_answer (record { desk = mid_desk; screen = mid_screen; mode = q.mode; status = p.session.status })
    → SameSizes d v mid_desk mid_screen → q ≡ record p { mode = q.mode } → o ≡ output_of call
    → Delivers (table q.checked) o mid_screen q.session.status a w r.session.status
    → Puts went failures old new (table q.checked) (partners q.checked) mid_screen o a bytes q r
    → r.checked ≡ q.checked → r.mode ≡ q.mode
    → Played went failures old new table partners (stage_of d v p) call a (stage_of mid_desk w r)
played_done {W} {C} went failures laws bound old new table partners d v p call md mv q da a o bytes w r verified rows cols done draws sizes poised_q out delivers puts checked mode =
    let t = table p.checked in
    let st = stage_of d v p in
    let mid : Scene = record { desk = md; screen = mv; mode = q.mode; status = p.session.status } in
    let drawn_done : Draws t (scene_of st) call Done mid = subst (λ (x : Answer). Draws t (scene_of st) call x mid) done draws in
    let same : q.checked ≡ p.checked = ap (λ (y : Painted C). y.checked) poised_q in
    let status : q.session.status ≡ p.session.status = ap (λ (y : Painted C). y.session.status) poised_q in
    let D : C → Type 0 = λ y. Delivers (table y) o mv q.session.status a w r.session.status in
    let E : Status → Type 0 = λ y. Delivers t o mv y a w r.session.status in
    let F : Emission → Type 0 = λ y. Delivers t y mv p.session.status a w r.session.status in
    let sent : Delivers t (output_of call) mv p.session.status a w r.session.status = subst F out (subst E status (subst D same delivers)) in
    let G : C → Type 0 = λ y. Puts went failures old new (table y) (partners y) mv o a bytes q r in
    let H : Emission → Type 0 = λ y. Puts went failures old new t (partners p.checked) mv y a bytes q r in
    let goes : Puts went failures old new t (partners p.checked) (drawn t (scene_of st) call).0.screen (output_of call) a bytes (poised t st call) r =
    puts_done went failures old new t (partners p.checked) st call mid a bytes q r drawn_done poised_q refl (subst H out (subst G same puts)) in
    let step : CallStep t (scene_of st) call a (record mid { screen = w; status = r.session.status }) = call_done t (scene_of st) call mid a w r.session.status drawn_done sent in
    let M : Mode → Type 0 = λ m. CallStep t (scene_of st) call a (record { desk = md; screen = w; mode = m; status = r.session.status }) in
    record {
      step = subst M (sym mode) step;
      carries = carried went failures laws bound old new t (partners p.checked) st call a bytes r verified rows cols goes;
      sizes = sizes_sent t (output_of call) d md v mv w p.session.status r.session.status a sizes sent;
      certificate = checked ∙ same;
    }

pub played_refused : {W C : Type 0} (went : W → W → List ℕ → Type 0) (failures : W → ℕ) → IsWire went failures → IsBound → (wire : W) (table : C → Table) (partners : C → ℕ → Option ℕ) (d : State) (v : Screen) (p : Painted C) (call : Call)
    (mid_desk : State) (mid_screen : Screen) (q : Painted C) (a : Answer)
    → IsChecked (table p.checked) → v.rows ≡ (table p.checked).rows → v.cols ≡ (table p.checked).cols
    → (a ≡ Done → ⊥)
    → Draws (table p.checked) (scene_of (stage_of d v p)) call a (record { desk = mid_desk; screen = mid_screen; mode = q.mode; status = p.session.status })
    → SameSizes d v mid_desk mid_screen → q ≡ record p { mode = q.mode }
    → Played went failures wire wire table partners (stage_of d v p) call a (stage_of mid_desk mid_screen q)
played_refused {W} {C} went failures laws bound wire table partners d v p call md mv q a verified rows cols other draws sizes poised_q =
    let t = table p.checked in
    let st = stage_of d v p in
    let mid : Scene = record { desk = md; screen = mv; mode = q.mode; status = p.session.status } in
    let status : q.session.status ≡ p.session.status = ap (λ (y : Painted C). y.session.status) poised_q in
    let M : Status → Type 0 = λ m. CallStep t (scene_of st) call a (record { desk = md; screen = mv; mode = q.mode; status = m }) in
    let goes : Puts went failures wire wire t (partners p.checked) (drawn t (scene_of st) call).0.screen (output_of call) a [] (poised t st call) q =
    puts_refused went failures wire t (partners p.checked) st call a q other (draws_answer t (scene_of st) call a mid draws) poised_q in
    record {
      step = subst M (sym status) (call_refused t (scene_of st) call a mid other draws);
      carries = carried went failures laws bound wire wire t (partners p.checked) st call a [] q verified rows cols goes;
      sizes = sizes;
      certificate = ap (λ (y : Painted C). y.checked) poised_q;
    }

-- ---- a call on windows alone, by itself

-- sizes and marks are kept
pub kept_alone : {C : Type 0} (table : C → Table) (p : Painted C) (call : Call) (d e : State) (v : Screen) (x : DeskStep) (r : Result (Unit {0}) Refusal) (s : StaleMarks) (m : Markings)
    → drawn (table p.checked) (scene_of (stage_of d v p)) call ≡ on_desk (scene_of (stage_of d v p)) x → step e r ≡ x → KeepsShown s.window d m e
    → IsStage (table p.checked) d v × IsChecked (table p.checked) × IsKnown s d v p.shown.grid
    → IsStage (table p.checked) e v × IsChecked (table p.checked) × IsKnown (record s { window = m }) e v p.shown.grid
kept_alone {C} table p call d e v x r s m is e_is marks i =
    let t = table p.checked in
    let P : DeskStep → Type 0 = λ y. drawn t (scene_of (stage_of d v p)) call ≡ on_desk (scene_of (stage_of d v p)) y in
    let sizes : SameSizes d v e v = subst (λ (y : Step). SameSizes d v y.0.desk y.0.screen) (subst P (sym e_is) is) (drawn_sizes t (scene_of (stage_of d v p)) call) in (
      stage_kept table p p d e v v i.0 sizes refl,
      i.1,
      record { window = marks v.grid i.2.window; screen = i.2.screen },
    )

alone_as : {W C : Type 0} (went : W → W → List ℕ → Type 0) (failures : W → ℕ) → IsWire went failures → IsBound → (wire : W) (table : C → Table) (partners : C → ℕ → Option ℕ) (p : Stage C) (call : Call)
    → IsChecked (table p.painter.checked) → p.screen.rows ≡ (table p.painter.checked).rows → p.screen.cols ≡ (table p.painter.checked).cols
    → (x : DeskStep) → drawn (table p.painter.checked) (scene_of p) call ≡ on_desk (scene_of p) x → output_of call ≡ Nothing
    → Played went failures wire wire table partners p call (answer_of x.1) (record p { desk = x.0 })
alone_as {W} {C} went failures laws bound wire table partners p call checked rows cols (d, Ok tt) is quiet =
    let t = table p.painter.checked in
    let s = scene_of p in
    let sizes : SameSizes p.desk p.screen d p.screen = subst (λ (y : Step). SameSizes p.desk p.screen y.0.desk y.0.screen) is (drawn_sizes t s call) in
    played_done went failures laws bound wire wire table partners p.desk p.screen p.painter call d p.screen p.painter Done Done Nothing [] p.screen p.painter
    checked rows cols refl (Drawn (sym is)) sizes refl (sym quiet) (record { screen = refl; status = refl }) (record { none = refl; wire = refl; session = refl; shown = refl }) refl refl
alone_as {W} {C} went failures laws bound wire table partners p call checked rows cols (d, Err r) is quiet =
    let t = table p.painter.checked in
    let s = scene_of p in
    let sizes : SameSizes p.desk p.screen d p.screen = subst (λ (y : Step). SameSizes p.desk p.screen y.0.desk y.0.screen) is (drawn_sizes t s call) in
    played_refused went failures laws bound wire table partners p.desk p.screen p.painter call d p.screen p.painter (Refused r)
    checked rows cols (λ same. not_refused r (sym same)) (Drawn (sym is)) sizes refl

-- it is the call
pub alone_played : {W C : Type 0} (went : W → W → List ℕ → Type 0) (failures : W → ℕ) → IsWire went failures → IsBound → (wire : W) (table : C → Table) (partners : C → ℕ → Option ℕ) (p q : Stage C) (call : Call) (a : Answer) (x : DeskStep)
    → drawn (table p.painter.checked) (scene_of p) call ≡ on_desk (scene_of p) x → output_of call ≡ Nothing → DoesAlone table x p a q
    → Played went failures wire wire table partners p call a q
alone_played {W} {C} went failures laws bound wire table partners p q call a x is quiet does =
    let P : Stage C × Answer → Type 0 = λ r. Played went failures wire wire table partners p call r.1 r.0 in
    subst P (sym does.step) (alone_as went failures laws bound wire table partners p call does.checked does.stage.rows does.stage.cols x is quiet)
