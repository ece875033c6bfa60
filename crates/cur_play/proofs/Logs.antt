-- One call after another, with what went out so far and the log so far.
use Rattle.std.proofs.Common.{◌≡◌, ℕ, ◌+◌, ◌*◌, ◌^◌, ◌<◌, ◌≤◌, true, List, [], ◌∷◌, ◌++◌, length, drop, Option, refl, sym, ap, subst, ◌∙◌, arith, append_assoc, length-append, get_or, add-one, Some}
use Rattle.std.specs.Prelude.{suc}
use Rattle.std.specs.Borrow.{MutBor}
use Rattle.std.proofs.Math.Seq.{drop-cons, drop-length}
use Rattle.std.proofs.lemmas.List.{append-nil}
use Rattle.vt_term.specs.Screen.{State}
use Rattle.vt_term.specs.Text.{IsOpen}
use Rattle.vt_term.proofs.Runs.{runs_nothing, runs_once}
use Rattle.cur_windows.specs.Desks.{State as Desk}
use Rattle.cur_screens.specs.VirtualScreen.{Screen, new_screen, refreshed}
use Rattle.cur_steps.specs.Wire.{IsWire}
use Rattle.cur_steps.specs.Counted.{Counts, counts_joins}
use Rattle.vt_term.specs.Ends.{Ends}
use Rattle.cur_steps.proofs.Leads.{ends_then}
use Rattle.ti_conforms.specs.Certified.{Table, IsChecked}
use Rattle.cur_play.proofs.Deliveries.{fits_lost}
use Rattle.cur_steps.specs.declared.beliefs.Mode.{Mode}
use Rattle.cur_paint.specs.Modes.{shown_mode}
use Rattle.cur_paint.specs.Update.{Fits, IsFresh, Shows}
use Rattle.cur_paint.specs.declared.updates.Status.{Status}
use Rattle.cur_paint.specs.declared.updates.Status.TheVariants.{Fresh, Known}
use Rattle.cur_update.specs.Inks.{ink_at}
use Rattle.cur_update.specs.Painters.{Painted, wanted_of}
use Rattle.cur_scripts.specs.declared.calls.Call.{Call}
use Rattle.cur_play.proofs.Failures.{call_rose, cut_sends, emitted, rose_sooner, shown_same}
use Rattle.cur_play.specs.Deliveries.{Carries, FitsIn, IsLast, IsSettled, IsShown}
use Rattle.cur_play.specs.Log.{IsAfter, Moment, Plays, Subject, Tells, is_shown, last_after, mode_after, first_moment, subject_at}
use Rattle.cur_play.specs.Outputs.{poised}
use Rattle.cur_play.specs.Runs.{RanOn}
use Rattle.cur_play.specs.Scenes.{IsStage, Scene, Stage, first, scene_of}
use Rattle.cur_play.specs.Steps.{CallStep, Stepped, NoRoom, Failed, Step, drawn, output_of, then_sent}
use Rattle.cur_play.specs.declared.answers.Answer.{Answer}
use Rattle.cur_play.specs.declared.answers.Answer.TheVariants.{Done, Was, Refused, WireFailed}
use Rattle.cur_play.specs.declared.runs.LogEntry.{LogEntry}
use Rattle.cur_play.specs.declared.sends.Emission.{Emission}
use Rattle.cur_play.specs.declared.sends.Emission.TheVariants.{Nothing, Update, Bell, End}

-- ---- the scene after a refresh that was done

abbrev shown_scene : Scene → Scene
shown_scene s = record s { screen = refreshed s.screen; status = Known }

done_update : (t : Table) (x : Step) (a : Scene) → (a, Done) ≡ then_sent t Update x → a ≡ shown_scene x.0
done_update t (s, Done) a e = ap (λ (y : Step). y.0) e
done_update t (s, Was n) a e = let f : Done ≡ Was n = ap (λ (y : Step). y.1) e in absurd (cc)
done_update t (s, Refused r) a e = let f : Done ≡ Refused r = ap (λ (y : Step). y.1) e in absurd (cc)
done_update t (s, WireFailed) a e = let f : Done ≡ WireFailed = ap (λ (y : Step). y.1) e in absurd (cc)

pub record IsDone (o : Emission) (given : Answer) : Type 0 where
  pub output : o ≡ Update
  pub answer : given ≡ Done

is_done : (o : Emission) (answer : Answer) → is_shown o answer ≡ true → IsDone o answer
is_done Update Done e = record { output = refl; answer = refl }
is_done Update (Was n) e = absurd (cc)
is_done Update (Refused r) e = absurd (cc)
is_done Update WireFailed e = absurd (cc)
is_done Nothing answer e = absurd (cc)
is_done Bell answer e = absurd (cc)
is_done End answer e = absurd (cc)

not_refused : (a : Answer) (r : _) → a ≡ Done → a ≡ Refused r → ⊥
not_refused a r e f = cc

not_failed : (a : Answer) → a ≡ Done → a ≡ WireFailed → ⊥
not_failed a e f = cc

scene_shown : (t : Table) (b : Scene) (call : Call) (answer : Answer) (a : Scene) → is_shown (output_of call) answer ≡ true → CallStep t b call answer a → a ≡ shown_scene (drawn t b call).0
scene_shown t b call answer a e (Stepped f) =
    let d = is_done (output_of call) answer e in
    let P : Emission → Type 0 = λ o. (a, answer) ≡ then_sent t o (drawn t b call) in
    let Q : Answer → Type 0 = λ x. (a, x) ≡ then_sent t Update (drawn t b call) in
    done_update t (drawn t b call) a (subst Q d.answer (subst P d.output f))
scene_shown t b call answer a e (NoRoom takes done f same) = absurd (not_refused answer _ (is_done (output_of call) answer e).answer f)
scene_shown t b call answer a e (Failed sent done f same) = absurd (not_failed answer (is_done (output_of call) answer e).answer f)

-- the shown screen is the virtual screen after the call
shows_after : (t : Table) (partners : ℕ → Option ℕ) (d : Scene) (a : Scene) (s : State) → a ≡ shown_scene d → Shows t (ink_at t partners d.screen) (wanted_of d.screen d.mode) s → Shows t (ink_at t partners a.screen) (wanted_of a.screen a.mode) s
shows_after t partners d a s e h =
    let P : Scene → Type 0 = λ x. Shows t (ink_at t partners x.screen) (wanted_of x.screen x.mode) s in
    subst P (sym e) (record { closed = h.closed; cells = h.cells; cursor = h.cursor; visible = h.visible })

-- ---- the calls so far

abbrev pub moment : {W : Type 0} → W → List ℕ → Scene → Screen → Mode → Moment W
moment wire bytes scene last last_mode = record { wire = wire; bytes = bytes; scene = scene; last = last; last_mode = last_mode }

-- the calls so far: whatever is played after them, the whole is played from the start
pub record Logged {W C : Type 0} (about : Subject W) (old new : MutBor W) (count : ℕ) (calls : List Call) (i : ℕ) (stage : Stage C) (log : List LogEntry) : Type 0 where
  pub bytes : List ℕ
  pub out : Counts about.went old new 0 count bytes
  pub fits : (s : State) → IsFresh about.table s → Ends s bytes (FitsIn about.table about.partners stage.painter)
  pub sized : IsStage about.table stage.desk stage.screen
  pub last : Screen
  pub rows : last.rows ≡ about.table.rows
  pub cols : last.cols ≡ about.table.cols
  pub is_last : IsLast about.table about.partners stage.painter last
  pub last_mode : Mode
  pub settled : IsSettled stage.painter last_mode
  pub counted : length log ≡ i
  pub few : length bytes ≤ i * 2 ^ 60
  pub plays : (rest : List LogEntry) (to : W) (all : List ℕ) → Plays about (moment new.now bytes (scene_of stage) last last_mode) (drop i calls) rest to all → Plays about (first_moment about old.now) calls (log ++ rest) to all

-- with some log
pub record LoggedSome {W C : Type 0} (about : Subject W) (old new : MutBor W) (count : ℕ) (calls : List Call) (i : ℕ) (stage : Stage C) : Type 0 where
  pub log : List LogEntry
  pub logged : Logged about old new count calls i stage log

-- nothing went out
pub none_counted : {W : Type 0} (went : W → W → List ℕ → Type 0) (failures : W → ℕ) → IsWire went failures → (a : MutBor W) (n : ℕ) → Counts went a a n n []
none_counted went failures laws a n = record { inner = laws.nothing a.now; counted = λ lt. omega arith; same = refl }

last_sized : (o : Emission) (answer : Answer) (last v : Screen) (n : ℕ) (f : Screen → ℕ) → f last ≡ n → f v ≡ n → f (last_after o answer last v) ≡ n
last_sized Update Done last v n f e h = h
last_sized o answer last v n f e h = e

-- the screen shown last is the same whether it is taken from the drawing or from the scene after the call
last_same : {C : Type 0} (t : Table) (partners : ℕ → Option ℕ) (o : Emission) (answer : Answer) (p : Painted C) (last : Screen) (d a : Scene) → (is_shown o answer ≡ true → a ≡ shown_scene d)
    → IsLast t partners p (last_after o answer last d.screen) → IsLast t partners p (last_after o answer last a.screen)
last_same t partners Update Done p last d a e h =
    let P : Scene → Type 0 = λ x. ink_at t partners d.screen ≡ ink_at t partners x.screen in
    λ k. h k ∙ subst P (sym (e refl)) refl
last_same t partners o answer p last d a e h = h

-- the mode shown last is the same whether it is taken from the drawing or from the scene after the call
settled_same : {C : Type 0} (o : Emission) (answer : Answer) (p : Painted C) (last_mode : Mode) (d a : Scene) → (is_shown o answer ≡ true → a ≡ shown_scene d)
    → IsSettled p (mode_after o answer last_mode d.mode) → IsSettled p (mode_after o answer last_mode a.mode)
settled_same Update Done p last_mode d a e h =
    let P : Scene → Type 0 = λ x. IsSettled p x.mode in
    subst P (sym (e refl)) h
settled_same o answer p last_mode d a e h = h

-- ---- one more call

empty_list : {X : Type 0} (xs : List X) → length xs ≡ 0 → xs ≡ []
empty_list [] e = refl
empty_list (x ∷ xs) e = absurd (omega (arith, e))

-- the promise of a call on counted wires about the bytes
abbrev pub CarriesOn : {W V C : Type 0} → Subject W → (V → MutBor W) → (V → ℕ) → V → V → Call → Answer → Stage C → Painted C → Type 0
CarriesOn {W} {V} {C} about wire count old new call answer before after =
    Carries {W = V} (λ x y b. Counts about.went (wire x) (wire y) (count x) (count y) b) (λ x. about.failures (wire x).now) old new about.table about.partners
    (drawn about.table (scene_of before) call).0.screen (output_of call) answer (poised about.table before call) after

-- one call, and then what its wire held back is passed on
log_more : {W V C : Type 0} (about : Subject W) → IsWire about.went about.failures → (wire : V → MutBor W) (count : V → ℕ) (a : MutBor W) (m n z : V) (calls : List Call) (i : ℕ) (call : Call) (before after : Stage C) (log : List LogEntry) (answer : Answer)
    → IsChecked about.table → i < 2 ^ 64 → Logged about a (wire m) (count m) calls i before log → drop i calls ≡ call ∷ drop (i + 1) calls
    → CallStep about.table (scene_of before) call answer (scene_of after) → IsStage about.table after.desk after.screen
    → CarriesOn about wire count m n call answer before after.painter → Counts about.went (wire n) (wire z) (count n) (count z) [] → about.rests (wire z).now
    → Logged about a (wire z) (count z) calls (i + 1) after (log ++ record { answer = answer; sent = count z } ∷ [])
log_more {W} {V} {C} about laws wire count a m n z calls i call before after log answer checked small l left step sized carries passed rests =
    let t : Table = about.table in
    let e : LogEntry = record { answer = answer; sent = count z } in
    let d : Scene = (drawn t (scene_of before) call).0 in
    let b : List ℕ = carries.bytes in
    let A : State → Type 0 = FitsIn t about.partners before.painter in
    let B : State → Type 0 = FitsIn t about.partners after.painter in
    let bytes : List ℕ = l.bytes ++ b in
    let both : Counts about.went (wire m) (wire z) (count m) (count z) (b ++ []) = counts_joins about.went about.failures laws (wire m) (wire n) (wire z) (count m) (count n) (count z) b [] carries.sent passed in
    let C1 : List ℕ → Type 0 = λ x. Counts about.went (wire m) (wire z) (count m) (count z) x in
    let sent : Counts about.went (wire m) (wire z) (count m) (count z) b = subst C1 (append-nil b) both in
    let out : Counts about.went a (wire z) 0 (count z) bytes = counts_joins about.went about.failures laws a (wire m) (wire z) 0 (count m) (count z) l.bytes b l.out sent in
    let there : is_shown (output_of call) answer ≡ true → scene_of after ≡ shown_scene d = λ k. scene_shown t (scene_of before) call answer (scene_of after) k step in
    let last : Screen = last_after (output_of call) answer l.last after.screen in
    let last_mode : Mode = mode_after (output_of call) answer l.last_mode after.painter.mode in
    let few : length bytes ≤ (i + 1) * 2 ^ 60 = omega (arith, l.few, carries.few, length-append l.bytes b) in
    let ends : (s : State) → IsFresh t s → Ends s bytes B = λ s f. ends_then A B s l.bytes b (l.fits s f) carries.fits in
    let known : (s : State) → IsAfter t l.bytes s → A s = λ s h. (let x = l.fits h.begun h.fresh in subst A (sym (runs_once h.begun x.after s l.bytes x.runs h.runs)) x.there) in
    let was : Moment W = moment (wire m).now l.bytes (scene_of before) l.last l.last_mode in
    let next : Moment W = moment (wire z).now bytes (scene_of after) last last_mode in
    let tells : Tells about was call e next = record {
      step = step;
      piece = b;
      went = sent.inner;
      bytes = refl;
      counted = (let exact : count z ≡ 0 + length bytes = out.counted (omega (arith, few, small)) in omega (arith, exact));
      emits = emitted {W = V} (λ x y c. Counts about.went (wire x) (wire y) (count x) (count y) c) (λ x. about.failures (wire x).now) m n t about.partners d.screen (output_of call) answer b (poised t before call) after.painter
          (IsAfter t l.bytes) (shown_mode before.painter.session.status (Some l.last_mode)) known
          (shown_same before.painter.session.status before.painter.session.cursor.mode (Some l.last_mode) l.settled)
          (cut_sends t (scene_of before) call answer (scene_of after) step) carries.puts;
      rests = rests;
      failed = λ k. rose_sooner (about.failures (wire m).now) (about.failures (wire n).now) (about.failures (wire z).now)
          (call_rose {W = V} (λ x y c. Counts about.went (wire x) (wire y) (count x) (count y) c) (λ x. about.failures (wire x).now) m n t about.partners d.screen call (scene_of before) (scene_of after) answer b (poised t before call) after.painter step carries.puts k)
          (laws.counts (wire n).now (wire z).now [] passed.inner);
      takes = λ s f. (let x = ends s f in record {
        after = x.after;
        runs = x.runs;
        there = fits_lost t checked (ink_at t about.partners after.painter.shown) after.painter.session.status after.painter.session.cursor x.after x.there;
      });
      shows = λ k s f. (
          let S : State → Type 0 = Shows t (ink_at t about.partners d.screen) (wanted_of d.screen d.mode) in
          let x : Ends s bytes S = ends_then A S s l.bytes b (l.fits s f) (carries.shows k) in
          record { after = x.after; runs = x.runs; there = shows_after t about.partners d (scene_of after) x.after (there k) x.there });
      bound = λ k. carries.bound k l.last l.rows l.cols l.is_last;
      idle = λ k status s f u. (
          let fits : A s = known s f in
          let shown : IsShown t about.partners d.screen (poised t before call) l.last s = record {
            known = status;
            same = u.same;
            fits = fits;
            cursor = u.cursor;
            mode = l.settled status ∙ ap (λ (m : Mode). Some m) (sym u.mode);
            clear = u.clear;
          } in
          empty_list b (carries.idle k l.last l.rows l.cols l.is_last s shown));
      last = refl;
      last_mode = refl;
    } in
    record {
      bytes = bytes;
      out = out;
      fits = ends;
      sized = sized;
      last = last;
      rows = last_sized (output_of call) answer l.last after.screen t.rows (λ x. x.rows) l.rows sized.rows;
      cols = last_sized (output_of call) answer l.last after.screen t.cols (λ x. x.cols) l.cols sized.cols;
      is_last = last_same t about.partners (output_of call) answer after.painter l.last d (scene_of after) there (carries.last l.last l.is_last);
      last_mode = last_mode;
      settled = settled_same (output_of call) answer after.painter l.last_mode d (scene_of after) there (carries.settled l.last_mode l.settled);
      counted = omega (arith, l.counted, length-append log (e ∷ []));
      few = few;
      plays = λ rest to all h. (
          let R : List Call → Type 0 = λ y. Plays about was y (e ∷ rest) to all in
          let T : List LogEntry → Type 0 = λ y. Plays about (first_moment about a.now) calls y to all in
          let here : Plays about was (call ∷ drop (i + 1) calls) (e ∷ rest) to all = (next, tells, h) in
          subst T (sym (append_assoc log (e ∷ []) rest)) (l.plays (e ∷ rest) to all (subst R (sym left) here)));
    }

fresh_known : (s : Status) → s ≡ Fresh → s ≡ Known → ⊥
fresh_known s e f = cc

nothing_open : (t : Table) (s : State) → IsFresh t s → IsOpen s.rest
nothing_open t s f = f.lost.sized.state.rest

pub log_none : {W C : Type 0} (about : Subject W) → IsWire about.went about.failures → (a : MutBor W) (to : ℕ) (calls : List Call) (stage : Stage C) (log : List LogEntry)
    → to ≡ 0 → scene_of stage ≡ first about.table → length log ≡ 0 → Logged about a a to calls 0 stage log
log_none {W} about laws a to calls stage log none begins empty =
    let t : Table = about.table in
    let status : stage.painter.session.status ≡ Fresh = ap (λ (x : Scene). x.status) begins in
    let desk : stage.desk ≡ (first t).desk = ap (λ (x : Scene). x.desk) begins in
    let screen : stage.screen ≡ (first t).screen = ap (λ (x : Scene). x.screen) begins in
    let nil : log ≡ [] = empty_list log empty in
    record {
      bytes = [];
      out = record { inner = laws.nothing a.now; counted = λ lt. omega (arith, none); same = refl };
      fits = λ s f. (let P : Status → Type 0 = λ x. Fits t (ink_at t about.partners stage.painter.shown) x stage.painter.session.cursor s in
          record { after = s; runs = runs_nothing s (nothing_open t s f); there = subst P (sym status) f });
      sized = record {
        rows = ap (λ (x : Screen). x.rows) screen;
        cols = ap (λ (x : Screen). x.cols) screen;
        desk_rows = ap (λ (x : Desk). x.rows) desk;
        desk_cols = ap (λ (x : Desk). x.cols) desk;
      };
      last = new_screen t.rows t.cols;
      rows = refl;
      cols = refl;
      is_last = λ k. absurd (fresh_known stage.painter.session.status status k);
      last_mode = (first t).mode;
      settled = λ k. absurd (fresh_known stage.painter.session.status status k);
      counted = empty;
      few = omega arith;
      plays = λ rest last_wire all h. (
          let P : Scene → Type 0 = λ x. Plays about (moment a.now [] x (new_screen t.rows t.cols) (first t).mode) calls rest last_wire all in
          let R : List LogEntry → Type 0 = λ l. Plays about (first_moment about a.now) calls (l ++ rest) last_wire all in
          subst R (sym nil) (subst P begins h));
    }

pub log_whole : {W C : Type 0} (about : Subject W) → IsWire about.went about.failures → (a z : MutBor W) (to : ℕ) (calls : List Call) (i : ℕ) (stage : Stage C) (log : List LogEntry)
    → i ≡ length calls → Logged about a z to calls i stage log → RanOn about a z calls log
log_whole {W} about laws a z to calls i stage log all l = record {
  ran = record {
    bytes = l.bytes;
    sent = l.out.inner;
    counted = l.counted ∙ all;
    plays = (
        let none : drop i calls ≡ [] = ap (λ (n : ℕ). drop n calls) all ∙ drop-length calls in
        let P : List Call → Type 0 = λ x. Plays about (moment z.now l.bytes (scene_of stage) l.last l.last_mode) x [] z.now l.bytes in
        let R : List LogEntry → Type 0 = λ x. Plays about (first_moment about a.now) calls x z.now l.bytes in
        let over : P [] = (laws.nothing z.now, refl) in
        subst R (append-nil log) (l.plays [] z.now l.bytes (subst P (sym none) over)));
  };
  same = l.out.same;
}

-- `log_more`, stated with the tables of the session's certificates
pub log_call : {W V C : Type 0} (went : W → W → List ℕ → Type 0) (failures : W → ℕ) (rests : W → Type 0) → IsWire went failures → (wire : V → MutBor W) (count : V → ℕ) (a : MutBor W) (m n z : V) (table : C → Table) (partners : C → ℕ → Option ℕ) (given : C) (calls : List Call) (i : ℕ) (call : Call) (before after : Stage C) (log : List LogEntry) (answer : Answer)
    → Logged (subject_at went failures rests (table given) (partners given)) a (wire m) (count m) calls i before log → i < 2 ^ 64 → drop i calls ≡ call ∷ drop (i + 1) calls
    → before.painter.checked ≡ given → after.painter.checked ≡ before.painter.checked
    → CallStep (table before.painter.checked) (scene_of before) call answer (scene_of after) → IsStage (table after.painter.checked) after.desk after.screen → IsChecked (table after.painter.checked)
    → CarriesOn (subject_at went failures rests (table before.painter.checked) (partners before.painter.checked)) wire count m n call answer before after.painter
    → Counts went (wire n) (wire z) (count n) (count z) [] → rests (wire z).now
    → Logged (subject_at went failures rests (table given) (partners given)) a (wire z) (count z) calls (i + 1) after (log ++ record { answer = answer; sent = count z } ∷ [])
log_call {W} {V} {C} went failures rests laws wire count a m n z table partners given calls i call before after log answer l small left same kept step sized checked carries passed still =
    let S : C → Type 0 = λ y. CallStep (table y) (scene_of before) call answer (scene_of after) in
    let G : C → Type 0 = λ y. IsStage (table y) after.desk after.screen in
    let H : C → Type 0 = λ y. IsChecked (table y) in
    let K : C → Type 0 = λ y. CarriesOn (subject_at went failures rests (table y) (partners y)) wire count m n call answer before after.painter in
    log_more (subject_at went failures rests (table given) (partners given)) laws wire count a m n z calls i call before after log answer (subst H (kept ∙ same) checked) small l left
    (subst S same step) (subst G (kept ∙ same) sized) (subst K same carries) passed still

pub next_call : (calls : List Call) (i : ℕ) (call : Call) → i < length calls → call ≡ get_or calls i call → drop i calls ≡ call ∷ drop (i + 1) calls
next_call calls i call lt e =
    let P : Call → Type 0 = λ x. drop i calls ≡ x ∷ drop (suc i) calls in
    subst P (sym e) (drop-cons calls i call lt) ∙ ap (λ (n : ℕ). call ∷ drop n calls) (sym (add-one i))
