-- From the effects of the groups of calls to the drawing of a call.
use Rattle.std.proofs.Common.{◌≡◌, ◌==◌, ℕ, Bool, true, false, Option, Some, None, Result, Ok, Err, refl, sym, ◌∙◌, ap, subst, inl, inr}
use Rattle.std.specs.Prelude.{ℤ, pos, if◌then◌else◌}
use Rattle.cur_drawing.specs.declared.refusals.Refusal.{Refusal}
use Rattle.cur_drawing.specs.declared.refusals.Refusal.TheVariants.{NoMemory, OutOfScreen, OutOfWindow}
use Rattle.cur_drawing.specs.Spans.{rectangle}
use Rattle.cur_drawing.specs.Windows.{place_below}
use Rattle.cur_windows.specs.Desks.{State, DeskStep, slot_of}
use Rattle.cur_windows.specs.Copies.{in_order}
use Rattle.cur_windows.specs.Creations.{window_only}
use Rattle.cur_screens.specs.VirtualScreen.{Screen, init_pair, initialized}
use Rattle.cur_windows.specs.Refreshes.{Refresh, if_shown, lines_of, noutrefresh, noutrefresh_lines}
use Rattle.cur_pads.specs.Creations.{pad_of}
use Rattle.cur_pads.specs.Ranges.{between, from}
use Rattle.cur_pads.specs.Displays.{pnoutrefresh, start}
use Rattle.ti_conforms.specs.Certified.{Table}
use Rattle.cur_scripts.specs.declared.calls.Call.{Call}
use Rattle.cur_scripts.specs.declared.calls.Call.TheVariants.{Newwin, Newpad, Part, Dupwin, Plain, Number, Numbers, Flag, Attributes, Cell, Addstr, Line, DrawBorder, DrawBox, Lay, Copywin, Show, ShowPad, Screen as OnScreen, CursSet, InitPair}
use Rattle.cur_play.specs.Drawings.{Draws, Drawn, NoSpace, SameSizes}
use Rattle.cur_play.specs.Groups.{Does, Makes}
use Rattle.cur_play.specs.Scenes.{Scene}
use Rattle.cur_update.specs.Painters.{set_mode}
use Rattle.cur_play.specs.Steps.{Step, answer_of, drawn, mode_answer, on_desk}
use Rattle.cur_play.specs.Groups.{changing, making, showing}
use Rattle.cur_play.specs.Windows.{takes_memory}
use Rattle.cur_play.specs.declared.answers.Answer.{Answer}
use Rattle.cur_play.specs.declared.answers.Answer.TheVariants.{Done, Refused, WireFailed}
use Rattle.cur_play.proofs.Sizes.{MaySize, making_sized, changing_sized}

-- a step that may be refused for lack of memory
pub data Performs (takes : Bool) (x : Step) (before : Scene) (answer : Answer) (after : Scene) : Type 0 where
  AsDefined : (after, answer) ≡ x → Performs takes x before answer after
  Short : takes ≡ true → x.1 ≡ Done → answer ≡ Refused NoMemory → after ≡ before → Performs takes x before answer after

abbrev or_else : Scene → Option DeskStep → Step → Step
or_else s (Some x) other = on_desk s x
or_else s None other = other

-- the groups one after another, as the code goes through them
abbrev pub grouped : Table → Scene → Call → Step
grouped t s call = or_else s (making s.desk call) (or_else s (changing s.desk call) (showing t s call))

pub grouped_is : (t : Table) (s : Scene) (call : Call) → grouped t s call ≡ drawn t s call
grouped_is t s (Newwin n lines cols y x) = refl
grouped_is t s (Newpad n lines cols) = refl
grouped_is t s (Part k n w lines cols y x) = refl
grouped_is t s (Dupwin n w) = refl
grouped_is t s (Plain k n) = refl
grouped_is t s (Number k n x) = refl
grouped_is t s (Numbers k n x y) = refl
grouped_is t s (Flag k n on) = refl
grouped_is t s (Attributes k n a) = refl
grouped_is t s (Cell k n p) = refl
grouped_is t s (Addstr n text) = refl
grouped_is t s (Line k n p x) = refl
grouped_is t s (DrawBorder n b) = refl
grouped_is t s (DrawBox n v h) = refl
grouped_is t s (Lay k from to) = refl
grouped_is t s (Copywin skip from to from_row from_col row col last_row last_col) = refl
grouped_is t s (Show k n) = refl
grouped_is t s (ShowPad k n row col top left bottom right) = refl
grouped_is t s (OnScreen k) = refl
grouped_is t s (CursSet n) = refl
grouped_is t s (InitPair p f b) = refl

to_draws : (t : Table) (s : Scene) (call : Call) (answer : Answer) (a : Scene) → Performs (takes_memory call) (grouped t s call) s answer a → Draws t s call answer a
to_draws t s call answer a (AsDefined e) = Drawn (e ∙ grouped_is t s call)
to_draws t s call answer a (Short k done r same) = NoSpace k (ap (λ (x : Step). x.1) (sym (grouped_is t s call)) ∙ done) r same

to_performs : (t : Table) (s : Scene) (call : Call) (answer : Answer) (a : Scene) → Draws t s call answer a → Performs (takes_memory call) (grouped t s call) s answer a
to_performs t s call answer a (Drawn e) = AsDefined (e ∙ sym (grouped_is t s call))
to_performs t s call answer a (NoSpace k done r same) = Short k (ap (λ (x : Step). x.1) (grouped_is t s call) ∙ done) r same

made : (s : Scene) (d : State) (r : Result (Unit {0}) Refusal) (takes : Bool) (o : Option DeskStep) (other : Step) → Makes s.desk d (Some r) takes o → Performs takes (or_else s o other) s (answer_of r) (record s { desk = d })
made s d r takes (Some x) other (inl n) = Short n.takes (ap answer_of n.done) (ap answer_of n.refused) (ap (λ (y : State). record s { desk = y }) n.same)
made s d r takes (Some x) other (inr e) = AsDefined (ap (λ (y : DeskStep). on_desk s y) e)
made s d r takes None other h = absurd h

pub make_draws : (t : Table) (s : Scene) (call : Call) (d : State) (r : Result (Unit {0}) Refusal) → Makes s.desk d (Some r) (takes_memory call) (making s.desk call) → Draws t s call (answer_of r) (record s { desk = d })
make_draws t s call d r h = to_draws t s call (answer_of r) (record s { desk = d }) (made s d r (takes_memory call) (making s.desk call) (or_else s (changing s.desk call) (showing t s call)) h)

pub record IsOther (d e : State) (o : Option DeskStep) : Type 0 where
  pub none : o ≡ None
  pub same : e ≡ d

pub not_made : (d e : State) (takes : Bool) (o : Option DeskStep) → Makes d e None takes o → IsOther d e o
not_made d e takes None h = record { none = refl; same = h }
not_made d e takes (Some x) h = absurd h

pub not_done : (d e : State) (o : Option DeskStep) → Does d e None o → IsOther d e o
not_done d e None h = record { none = refl; same = h }
not_done d e (Some x) h = absurd h

done_some : (s : Scene) (d : State) (r : Result (Unit {0}) Refusal) (takes : Bool) (o : Option DeskStep) (other : Step) → Does s.desk d (Some r) o → Performs takes (or_else s o other) s (answer_of r) (record s { desk = d })
done_some s d r takes (Some x) other e = AsDefined (ap (λ (y : DeskStep). on_desk s y) e)
done_some s d r takes None other h = absurd h

pub change_draws : (t : Table) (s : Scene) (call : Call) (d e : State) (r : Result (Unit {0}) Refusal) → Makes s.desk d None (takes_memory call) (making s.desk call) → Does d e (Some r) (changing d call)
    → Draws t s call (answer_of r) (record s { desk = e })
change_draws t s call d e r m h =
    let n = not_made s.desk d (takes_memory call) (making s.desk call) m in
    let P : Option DeskStep → Type 0 = λ o. Performs (takes_memory call) (or_else s o (or_else s (changing s.desk call) (showing t s call))) s (answer_of r) (record s { desk = e }) in
    let Q : State → Type 0 = λ x. Does x e (Some r) (changing x call) in
    to_draws t s call (answer_of r) (record s { desk = e }) (subst P (sym n.none) (done_some s e r (takes_memory call) (changing s.desk call) (showing t s call) (subst Q n.same h)))

pub show_draws : (t : Table) (s : Scene) (call : Call) (d e : State) (a : Scene) (answer : Answer) → Makes s.desk d None (takes_memory call) (making s.desk call) → Does d e None (changing d call)
    → (a, answer) ≡ showing t (record s { desk = e }) call → Draws t s call answer a
show_draws t s call d e a answer m h f =
    let n = not_made s.desk d (takes_memory call) (making s.desk call) m in
    let Q : State → Type 0 = λ x. Does x e None (changing x call) in
    let o = not_done s.desk e (changing s.desk call) (subst Q n.same h) in
    let P : Option DeskStep → Type 0 = λ x. Performs (takes_memory call) (or_else s x (or_else s (changing s.desk call) (showing t s call))) s answer a in
    let R : Option DeskStep → Type 0 = λ x. Performs (takes_memory call) (or_else s None (or_else s x (showing t s call))) s answer a in
    let S : State → Type 0 = λ x. (a, answer) ≡ showing t (record s { desk = x }) call in
    to_draws t s call answer a (subst P (sym n.none) (subst R (sym o.none) (AsDefined (subst S o.same f))))

-- ---- sizes

same_sizes : (d : State) (v : Screen) → SameSizes d v d v
same_sizes d v = record { desk_rows = refl; desk_cols = refl; rows = refl; cols = refl }

if_sized : {A : Type 0} (r : Result A Refusal) (d : State) (v : Screen) (next : A → Refresh) → ((a : A) → SameSizes d v (next a).0 (next a).1) → SameSizes d v (if_shown r d v next).0 (if_shown r d v next).1
if_sized (Ok a) d v next h = h a
if_sized (Err e) d v next h = same_sizes d v

noutrefresh_sizes : (d : State) (v : Screen) (n : ℕ) → SameSizes d v (noutrefresh d v n).0 (noutrefresh d v n).1
noutrefresh_sizes d v n = if_sized (slot_of d n) d v _ (λ s. if_sized (window_only d s) d v _ (λ u. record { desk_rows = refl; desk_cols = refl; rows = refl; cols = refl }))

pub noutrefresh_lines_sizes : (d : State) (v : Screen) (n : ℕ) (t b : ℤ) → SameSizes d v (noutrefresh_lines d v n t b).0 (noutrefresh_lines d v n t b).1
noutrefresh_lines_sizes d v n t b = if_sized (slot_of d n) d v _ (λ s. if_sized (window_only d s) d v _ (λ u.
    if_sized (lines_of t b s.window.area) d v _ (λ a. record { desk_rows = refl; desk_cols = refl; rows = refl; cols = refl })))

pnoutrefresh_sizes : (d : State) (v : Screen) (n : ℕ) (pr pc sr sc er ec : ℤ) → SameSizes d v (pnoutrefresh d v n pr pc sr sc er ec).0 (pnoutrefresh d v n pr pc sr sc er ec).1
pnoutrefresh_sizes d v n pr pc sr sc er ec =
    if_sized (pad_of d n) d v _ (λ s. if_sized (in_order (pos (start sr)) er (pos (start sc)) ec) d v _ (λ u.
    if_sized (rectangle (between (start sr) er d.rows) (between (start sc) ec d.cols) OutOfScreen) d v _ (λ to.
    if_sized (rectangle (from (start pr) to.rows s.window.area.rows) (from (start pc) to.cols s.window.area.cols) OutOfWindow) d v _ (λ part.
    record { desk_rows = refl; desk_cols = refl; rows = refl; cols = refl }))))

either_sized : (b : Bool) (d : State) (v : Screen) (x y : Screen × Result (Unit {0}) Refusal) → SameSizes d v d x.0 → SameSizes d v d y.0 → SameSizes d v d (if b then x else y).0
either_sized true d v x y h k = h
either_sized false d v x y h k = k

pair_sizes : (d : State) (v : Screen) (p f b : Option ℕ) → SameSizes d v d (initialized p f b v).0
pair_sizes d v (Some p) (Some f) (Some b) = either_sized (p == 0) d v _ _ (same_sizes d v) (record { desk_rows = refl; desk_cols = refl; rows = refl; cols = refl })
pair_sizes d v (Some p) (Some f) None = same_sizes d v
pair_sizes d v (Some p) None b = same_sizes d v
pair_sizes d v None f b = same_sizes d v

showing_sizes : (t : Table) (s : Scene) (call : Call) → SameSizes s.desk s.screen (showing t s call).0.desk (showing t s call).0.screen
showing_sizes t s (Show k n) = noutrefresh_sizes s.desk s.screen n
showing_sizes t s (ShowPad k n row col top left bottom right) = pnoutrefresh_sizes s.desk s.screen n row col top left bottom right
showing_sizes t s (CursSet n) = same_sizes s.desk s.screen
showing_sizes t s (InitPair p f b) = pair_sizes s.desk s.screen (place_below p 64) (place_below f 8) (place_below b 8)
showing_sizes t s _ = same_sizes s.desk s.screen

or_sizes : (s : Scene) (o : Option DeskStep) (other : Step) → MaySize s.desk o → SameSizes s.desk s.screen other.0.desk other.0.screen → SameSizes s.desk s.screen (or_else s o other).0.desk (or_else s o other).0.screen
or_sizes s (Some x) other h k = record { desk_rows = h.rows; desk_cols = h.cols; rows = refl; cols = refl }
or_sizes s None other h k = k

grouped_sizes : (t : Table) (s : Scene) (call : Call) → SameSizes s.desk s.screen (grouped t s call).0.desk (grouped t s call).0.screen
grouped_sizes t s call = or_sizes s (making s.desk call) (or_else s (changing s.desk call) (showing t s call)) (making_sized s.desk call)
    (or_sizes s (changing s.desk call) (showing t s call) (changing_sized s.desk call) (showing_sizes t s call))

pub drawn_sizes : (t : Table) (s : Scene) (call : Call) → SameSizes s.desk s.screen (drawn t s call).0.desk (drawn t s call).0.screen
drawn_sizes t s call = subst (λ (x : Step). SameSizes s.desk s.screen x.0.desk x.0.screen) (grouped_is t s call) (grouped_sizes t s call)

performed_sizes : (takes : Bool) (x : Step) (s : Scene) (answer : Answer) (a : Scene) → SameSizes s.desk s.screen x.0.desk x.0.screen → Performs takes x s answer a → SameSizes s.desk s.screen a.desk a.screen
performed_sizes takes x s answer a h (AsDefined e) =
    let f : a ≡ x.0 = ap (λ (y : Step). y.0) e in
    let P : Scene → Type 0 = λ y. SameSizes s.desk s.screen y.desk y.screen in subst P (sym f) h
performed_sizes takes x s answer a h (Short k done r same) =
    let P : Scene → Type 0 = λ y. SameSizes s.desk s.screen y.desk y.screen in subst P (sym same) (same_sizes s.desk s.screen)

pub draws_sizes : (t : Table) (s : Scene) (call : Call) (answer : Answer) (a : Scene) → Draws t s call answer a → SameSizes s.desk s.screen a.desk a.screen
draws_sizes t s call answer a h = performed_sizes (takes_memory call) (grouped t s call) s answer a (grouped_sizes t s call) (to_performs t s call answer a h)

-- ---- answers

done_not_wire : Done ≡ WireFailed → ⊥
done_not_wire e = cc

refused_not_wire : (a : Answer) (r : Refusal) → a ≡ Refused r → a ≡ WireFailed → ⊥
refused_not_wire a r e f = cc

not_wire : (r : Result (Unit {0}) Refusal) → answer_of r ≡ WireFailed → ⊥
not_wire (Ok u) e = cc
not_wire (Err r) e = cc

mode_not_wire : (r : Result ℕ Refusal) → mode_answer r ≡ WireFailed → ⊥
mode_not_wire (Ok n) e = cc
mode_not_wire (Err r) e = cc

showing_sends_nothing : (t : Table) (s : Scene) (call : Call) → (showing t s call).1 ≡ WireFailed → ⊥
showing_sends_nothing t s (Show k n) e = not_wire (noutrefresh s.desk s.screen n).2 e
showing_sends_nothing t s (ShowPad k n row col top left bottom right) e = not_wire (pnoutrefresh s.desk s.screen n row col top left bottom right).2 e
showing_sends_nothing t s (CursSet n) e = mode_not_wire (set_mode t n s.mode).1 e
showing_sends_nothing t s (InitPair p f b) e = not_wire (init_pair p f b s.screen).1 e
showing_sends_nothing t s _ e = done_not_wire e

or_sends_nothing : (s : Scene) (o : Option DeskStep) (other : Step) → (other.1 ≡ WireFailed → ⊥) → (or_else s o other).1 ≡ WireFailed → ⊥
or_sends_nothing s (Some x) other h e = not_wire x.1 e
or_sends_nothing s None other h e = h e

performed_answer : (takes : Bool) (x : Step) (s : Scene) (answer : Answer) (a : Scene) → (x.1 ≡ WireFailed → ⊥) → Performs takes x s answer a → answer ≡ WireFailed → ⊥
performed_answer takes x s answer a h (AsDefined e) f = h (ap (λ (y : Step). y.1) (sym e) ∙ f)
performed_answer takes x s answer a h (Short k done r same) f = refused_not_wire answer NoMemory r f

pub draws_answer : (t : Table) (s : Scene) (call : Call) (answer : Answer) (a : Scene) → Draws t s call answer a → answer ≡ WireFailed → ⊥
draws_answer t s call answer a h = performed_answer (takes_memory call) (grouped t s call) s answer a
    (or_sends_nothing s (making s.desk call) (or_else s (changing s.desk call) (showing t s call)) (or_sends_nothing s (changing s.desk call) (showing t s call) (showing_sends_nothing t s call))) (to_performs t s call answer a h)
