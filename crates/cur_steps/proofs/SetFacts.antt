-- The set that is active after a string of attributes, and its rendition.
use Rattle.std.proofs.Common.{◌≡◌, ℕ, ◌≤◌, ◌==◌, ◌||◌, Bool, true, false, nat_le, List, [], ◌∷◌, Option, Some, None, IfSome, is_some, if◌then◌else◌, refl, sym, ap, subst, ◌∙◌, inl, inr, arith}
use Rattle.std.proofs.lemmas.Bool.Decides.{nat_tests}
use Rattle.std.specs.List.{AllByRecursion, list_all}
use Rattle.std.specs.Option.{unwrap_or}
use Rattle.vt_term.specs.Function.{Function, SelectRendition, function_of}
use Rattle.vt_term.specs.Function as functions
use Rattle.vt_term.specs.Parameters.{is_numeral}
use Rattle.vt_term.specs.Parameters as parameters
use Rattle.vt_term.specs.Run.{Runs}
use Rattle.vt_term.specs.Screen.{Screen, State, IsOfSize, is_graphic}
use Rattle.vt_term.specs.Look.{Rendition, plain}
use Rattle.vt_term.specs.Step.{act, all_rendered}
use Rattle.vt_term.specs.Step.{rendered as one_rendered}
use Rattle.vt_term.specs.Text.{IsParameter, IsWhole}
use Rattle.vt_term.specs.Ends.{Closed, Ends}
use Rattle.vt_term.proofs.Readers.{sequence_push}
use Rattle.vt_term.proofs.Runs.{run_keeps, runs_append, runs_once}
use Rattle.ti_rows.specs.Looks.{shown}
use Rattle.ti_rows.specs.declared.rows.Marks.{Marks}
use Rattle.ti_rows.specs.Wants.{marked, Renders, HasJust}
use Rattle.ti_rows.specs.declared.rows.Attributes.{Attributes}
use Rattle.ti_rows.specs.declared.rows.Row.TheVariants.{Sgr, Rmacs}
use Rattle.ti_conforms.specs.Certified.{Table, IsReady, IsChecked, IsCheckedLine}
use Rattle.cur_steps.specs.Beliefs.{Agrees, Belief, IsSo, LeadsTo}
use Rattle.cur_steps.specs.Sets.{IsBeside, Before, Behind, IsRendition, LeavesSet, FixesRendition, EndsUncolored, begins_plain}
use Rattle.cur_steps.specs.declared.inks.Ink.{Ink}
use Rattle.cur_steps.proofs.Actions.{line_ends}
use Rattle.cur_steps.proofs.Prints.{token_runs}
use Rattle.cur_steps.proofs.Sameness.{both, equal_numbers}
use Rattle.cur_steps.proofs.Turns.{attributes_set, free_of}
use Rattle.cur_steps.proofs.Turns.{rendered as rendered_as}

-- ---- options

pub mapped : {A : Type 0} (P Q : A → Type 0) (o : Option A) → ((x : A) → P x → Q x) → IfSome o P → IfSome o Q
mapped P Q None f h = tt
mapped P Q (Some x) f h = f x h

pub some_of : {A : Type 0} (P : A → Type 0) (o : Option A) → is_some o ≡ true → IfSome o P → (x : A) × P x
some_of P None e h = absurd (cc)
some_of P (Some x) e h = (x, h)

-- ---- one SGR

le_of : (m n : ℕ) → nat_le m n ≡ true → m ≤ n
le_of m n h = grind (arith, nat_tests)

either : (b : ℕ) (x y : Bool) → (x ≡ true → b ≤ 0x3f) → (y ≡ true → b ≤ 0x3f) → (x || y) ≡ true → b ≤ 0x3f
either b true y h k e = h refl
either b false y h k e = k e

numeral : (b : ℕ) → is_numeral b ≡ true → IsParameter b
numeral b h =
    let p = both (nat_le 48 b) (nat_le b 57 || (b == 59)) h in
    (le_of 48 b p.0, either b (nat_le b 57) (b == 59) (λ e. let le : b ≤ 57 = le_of b 57 e in omega (arith, le)) (λ e. let is : b ≡ 59 = equal_numbers b 59 e in omega (arith, is)) p.1)

numerals : (xs : List ℕ) → list_all is_numeral xs ≡ true → AllByRecursion IsParameter xs
numerals [] h = tt
numerals (x ∷ xs) h = let p = both (is_numeral x) (list_all is_numeral xs) h in (numeral x p.0, numerals xs p.1)

whole : (bytes numerals : List ℕ) → IsRendition bytes numerals → IsWhole bytes
whole bytes n h = inr (inl (record {
  parameters = n;
  intermediates = [];
  final = 109;
  spelled = h.spelled;
  each_parameter = numerals n h.each;
  each_intermediate = tt;
  ends = (omega arith, omega arith);
  short = h.short;
}))

chosen : (b : Bool) (f g : Function) → b ≡ true → (if b then f else g) ≡ f
chosen true f g e = refl
chosen false f g e = absurd (cc)

selects : (bytes n : List ℕ) → IsRendition bytes n → function_of bytes ≡ SelectRendition (parameters.numbers n)
selects bytes n h =
    ap (λ (l : List ℕ). function_of l) h.spelled
    ∙ sequence_push n 109
    ∙ chosen (list_all is_numeral n) (SelectRendition (parameters.numbers n)) (functions.marked 109 n) h.each

-- only the rendition differs, as these numbers change it, and nothing is left open
pub record IsRendered (n : List ℕ) (s u : State) : Type 0 where
  pub rest : u.rest ≡ []
  pub screen : u.screen ≡ record s.screen { rendition = all_rendered (parameters.numbers n) s.screen.rendition }

rendered : (bytes n : List ℕ) → IsRendition bytes n → (s : State) → s.rest ≡ [] → Ends s bytes (IsRendered n s)
rendered bytes n h s e =
    let f : Function = SelectRendition (parameters.numbers n) in
    record {
      after = record { screen = act f s.screen; rest = [] };
      runs = token_runs s bytes (act f s.screen) e (whole bytes n h) (ap (λ (x : Function). act x s.screen) (selects bytes n h));
      there = record { rest = refl; screen = refl };
    }

-- ---- beside the string for the plain set

-- a state is as ready in another rendition
ready_in : (t : Table) (s u : State) (r : Rendition) → IsReady t s → u.rest ≡ [] → u.screen ≡ record s.screen { rendition = r } → IsOfSize t.rows t.cols u → IsReady t u
ready_in t s u r h closed e sized =
    let P : Screen → Type 0 = λ x. IsOfSize t.rows t.cols (record { screen = x; rest = [] }) → IsReady t (record { screen = x; rest = [] }) in
    let Q : List ℕ → Type 0 = λ l. IsOfSize t.rows t.cols (record { screen = u.screen; rest = l }) → IsReady t (record { screen = u.screen; rest = l }) in
    subst Q (sym closed) (subst P (sym e) (λ k. record {
      sized = k;
      rest = refl;
      tame = record { autowrap = h.tame.autowrap; inserting = h.tame.inserting };
      whole = record { top = h.whole.top; bottom = h.whole.bottom };
      settled = h.settled;
      visible = h.visible;
    })) sized

-- the plain set is active, and the rendition is this one
pub record IsPlainIn (r : Rendition) (x : Screen) : Type 0 where
  pub set : is_graphic x.charset ≡ false
  pub rendition : x.rendition ≡ r

plain_set : (t : Table) → IsChecked t → (other : List ℕ) → t.line_of Rmacs ≡ Some other → (s : State) → IsReady t s → Ends s other (Closed (IsPlainIn s.screen.rendition))
plain_set t checked other is s h =
    let e = (checked.lines Rmacs other is).drives.right s h.rest (free_of t s h) in
    record {
      after = e.after;
      runs = e.runs;
      there = record { rest = e.there.rest; screen = record { set = e.there.screen.active h.settled; rendition = ap (λ (x : Screen). x.rendition) e.there.screen.wants } };
    }

ends_beside : (t : Table) → IsChecked t → (bytes other n : List ℕ) → t.line_of Rmacs ≡ Some other → IsBeside bytes other n → (s : State) → IsReady t s
    → Ends s bytes (λ u. IsPlainIn (all_rendered (parameters.numbers n) s.screen.rendition) u.screen)
ends_beside t checked bytes other n is (Before x r e) s h =
    let m = rendered x n r s h.rest in
    let u = plain_set t checked other is m.after (ready_in t s m.after _ h m.there.rest m.there.screen (run_keeps t.rows t.cols s m.after x h.sized m.runs)) in
    record {
      after = u.after;
      runs = subst (λ (l : List ℕ). Runs s l u.after) (sym e) (runs_append s m.after u.after x other m.runs u.runs);
      there = record { set = u.there.screen.set; rendition = u.there.screen.rendition ∙ ap (λ (y : Screen). y.rendition) m.there.screen };
    }
ends_beside t checked bytes other n is (Behind x r e) s h =
    let m = plain_set t checked other is s h in
    let u = rendered x n r m.after m.there.rest in
    record {
      after = u.after;
      runs = subst (λ (l : List ℕ). Runs s l u.after) (sym e) (runs_append s m.after u.after other x m.runs u.runs);
      there = record {
        set = ap (λ (y : Screen). is_graphic y.charset) u.there.screen ∙ m.there.screen.set;
        rendition = ap (λ (y : Screen). y.rendition) u.there.screen ∙ ap (λ (y : Rendition). all_rendered (parameters.numbers n) y) m.there.screen.rendition;
      };
    }

-- ---- the rendition after them

-- numbers that begin with 0 don't depend on the rendition before
same_rendered : (ns : List (Option ℕ)) → begins_plain ns ≡ true → (r q : Rendition) → all_rendered ns r ≡ all_rendered ns q
same_rendered [] e r q = absurd (cc)
same_rendered (n ∷ ns) e r q =
    let zero : unwrap_or n 0 ≡ 0 = equal_numbers (unwrap_or n 0) 0 e in
    ap (λ (k : ℕ). all_rendered ns (one_rendered k r)) zero ∙ sym (ap (λ (k : ℕ). all_rendered ns (one_rendered k q)) zero)

pub fixed_alone : (t : Table) (bytes n : List ℕ) → IsRendition bytes n → begins_plain (parameters.numbers n) ≡ true → FixesRendition t bytes
fixed_alone t bytes n r begins =
    let ns = parameters.numbers n in (
      all_rendered ns plain,
      λ s u h runs. (let e = rendered bytes n r s h.rest in
          ap (λ (y : State). y.screen.rendition) (runs_once s e.after u bytes e.runs runs) ∙ ap (λ (y : Screen). y.rendition) e.there.screen ∙ same_rendered ns begins s.screen.rendition plain),
    )

pub fixed_beside : (t : Table) → IsChecked t → (bytes other n : List ℕ) → t.line_of Rmacs ≡ Some other → IsBeside bytes other n → begins_plain (parameters.numbers n) ≡ true → FixesRendition t bytes
fixed_beside t checked bytes other n is beside begins =
    let ns = parameters.numbers n in (
      all_rendered ns plain,
      λ s u h runs. (let e = ends_beside t checked bytes other n is beside s h in
          ap (λ (y : State). y.screen.rendition) (runs_once s e.after u bytes e.runs runs) ∙ e.there.rendition ∙ same_rendered ns begins s.screen.rendition plain),
    )

-- ---- the set known after them

pub leaves_plain : (t : Table) → IsChecked t → (bytes other n : List ℕ) → t.line_of Rmacs ≡ Some other → IsBeside bytes other n → (before : Option Bool) → LeavesSet t bytes before (Some false)
leaves_plain t checked bytes other n is beside before s u h so runs =
    let e = ends_beside t checked bytes other n is beside s h in
    ap (λ (y : State). is_graphic y.screen.charset) (runs_once s e.after u bytes e.runs runs) ∙ e.there.set

pub leaves_kept : (t : Table) (bytes n : List ℕ) → IsRendition bytes n → (before : Option Bool) → LeavesSet t bytes before before
leaves_kept t bytes n r before s u h so runs =
    let e = rendered bytes n r s h.rest in
    let same : is_graphic u.screen.charset ≡ is_graphic s.screen.charset =
    ap (λ (y : State). is_graphic y.screen.charset) (runs_once s e.after u bytes e.runs runs) ∙ ap (λ (y : Screen). is_graphic y.charset) e.there.screen in
    subst (λ (b : Bool). IsSo before b) (sym same) so

pub leaves_any : (t : Table) (bytes : List ℕ) (before : Option Bool) → LeavesSet t bytes before None
leaves_any t bytes before s u h so runs = tt

-- ---- a step

with_set : (t : Table) (g : ℕ → ℕ → Ink) (b : Belief) (x : Option Bool) (s : State) → IsSo x (is_graphic s.screen.charset) → Agrees t g b s → Agrees t g (record b { graphic = x }) s
with_set t g b x s so h = record { ready = h.ready; cells = h.cells; place = h.place; brush = h.brush; colored = h.colored; set = so; seen = h.seen }

pub set_forgotten : (t : Table) (g : ℕ → ℕ → Ink) (b : Belief) (s : State) → Agrees t g b s → Agrees t g (record b { graphic = None }) s
set_forgotten t g b s h = with_set t g b None s tt h

-- bytes that lead to the second belief, and leave a set that is known better
pub with_set_left : (t : Table) (bytes : List ℕ) (g h : ℕ → ℕ → Ink) (b c : Belief) (x : Option Bool) → LeadsTo t bytes g b h c → LeavesSet t bytes b.graphic x → LeadsTo t bytes g b h (record c { graphic = x })
with_set_left t bytes g h b c x leads leaves s k =
    let e = leads s k in
    record { after = e.after; runs = e.runs; there = with_set t h c x e.after (leaves s e.after k.ready k.set e.runs) e.there }

-- ---- attributes

abbrev uncolored : Screen → Screen
uncolored s = record s { rendition = record s.rendition { foreground = None; background = None } }

uncolored_ready : (t : Table) (s : State) → IsReady t s → IsReady t (record s { screen = uncolored s.screen })
uncolored_ready t s h =
    let k = h.sized.state.screen in
    ready_in t s (record s { screen = uncolored s.screen }) _ h h.rest refl (record {
      state = record {
        screen = record { size = k.size; lines = k.lines; columns = k.columns; characters = k.characters; row = k.row; col = k.col; region = k.region; bottom = k.bottom };
        rest = h.sized.state.rest;
      };
      rows = h.sized.rows;
      cols = h.sized.cols;
    })

renders : (s u : Screen) (q r : Rendition) → Renders q s u → u.rendition ≡ r → Renders r s u
renders s u q r h e = h ∙ ap (λ (x : Rendition). record s { rendition = x; charset = u.charset }) (sym (ap (λ (x : Screen). x.rendition) h) ∙ e)

-- from default colors, `sgr` leads to these
uncolored_end : (m : Marks) (s u : Screen) → HasJust m (uncolored s) u → u.rendition ≡ marked m None None
uncolored_end m s u (inl h) = ap (λ (x : Screen). x.rendition) h
uncolored_end m s u (inr h) = ap (λ (x : Screen). x.rendition) h

renders_so : (m : Marks) (s u : Screen) (r : Rendition) → HasJust m s u → u.rendition ≡ r → Renders r s u
renders_so m s u r (inl h) e = renders s u _ r h e
renders_so m s u r (inr h) e = renders s u _ r h e

-- where the line leads to one rendition, that is the one after default colors
pub attributes_fixed : (t : Table) → IsChecked t → (a : Attributes) (bytes : List ℕ) → t.line_of (Sgr a) ≡ Some bytes → FixesRendition t bytes → (g : ℕ → ℕ → Ink) (b : Belief)
    → LeadsTo t bytes g b g (record b { brush = record { attributes = a; foreground = None; background = None }; graphic = None })
attributes_fixed t checked a bytes is (r, fixed) g b s k =
    let line : IsCheckedLine t (Sgr a) bytes = checked.lines (Sgr a) bytes is in
    let z : State = record s { screen = uncolored s.screen } in
    let still = uncolored_ready t s k.ready in
    let e = line.drives.right s k.ready.rest (free_of t s k.ready) in
    let f = line.drives.right z k.ready.rest (free_of t z still) in
    let m = shown t.looks a in
    let same : e.after.screen.rendition ≡ marked m None None =
    fixed s e.after k.ready e.runs ∙ sym (fixed z f.after still f.runs) ∙ uncolored_end m s.screen f.after.screen f.there.screen.wants in
    record {
      after = e.after;
      runs = e.runs;
      there = rendered_as t g b (record { attributes = a; foreground = None; background = None }) (record { foreground = λ o. refl; background = λ o. refl }) s e.after k
          (run_keeps t.rows t.cols s e.after bytes k.ready.sized e.runs) e.there.rest (e.there.screen.settled refl k.ready.settled)
          (renders_so m s.screen e.after.screen _ e.there.screen.wants same);
    }

-- the line of `sgr`, where the colors are default ones after it
pub attributes_lead : (t : Table) → IsChecked t → (a : Attributes) (bytes : List ℕ) → t.line_of (Sgr a) ≡ Some bytes → (g : ℕ → ℕ → Ink) (b : Belief) → EndsUncolored t bytes b.brush
    → LeadsTo t bytes g b g (record b { brush = record { attributes = a; foreground = None; background = None }; graphic = None })
attributes_lead t checked a bytes is g b (inl fixed) = attributes_fixed t checked a bytes is fixed g b
attributes_lead t checked a bytes is g b (inr none) =
    line_ends t checked (Sgr a) bytes is g g b _ (attributes_set t g b a none.0 none.1)
