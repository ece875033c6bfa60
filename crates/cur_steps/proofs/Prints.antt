-- The effect of a printed character on a state that agrees with a belief.
use Rattle.std.proofs.Common.{◌≡◌, ℕ, ◌+◌, ◌-◌, ◌<◌, ◌≤◌, ◌==◌, ◌&&◌, Bool, true, false, nat_le, nat_lt, min, List, [], ◌∷◌, ◌++◌, Option, Some, Result, refl, sym, ap, subst, ◌∙◌, inl, inr, arith, if◌then◌else◌}
use Rattle.std.proofs.lemmas.List.{append-nil}
use Rattle.std.proofs.lemmas.Bool.Decides.{nat_tests}
use Rattle.vt_term.specs.Look.{Rendition, IsPrinted}
use Rattle.vt_term.specs.Grid.{look_at, put}
use Rattle.vt_term.specs.Screen.{Screen, State, IsScreen, IsOfSize, is_graphic}
use Rattle.vt_term.specs.Text.{IsWhole}
use Rattle.vt_term.specs.Function.{Function, Print, function_of, single}
use Rattle.vt_term.specs.Step.{act}
use Rattle.vt_term.specs.Step as step
use Rattle.vt_term.specs.Run.{Runs}
use Rattle.grids.specs.Grids.{is_in, one}
use Rattle.vt_term.proofs.Sequences.{empty_open}
use Rattle.vt_term.proofs.Runs.{text_runs, run_keeps}
use Rattle.cur_steps.specs.Wire.{Sends}
use Rattle.cur_steps.specs.Leads.{Leads}
use Rattle.vt_term.specs.Ends.{Ends}
use Rattle.cur_steps.specs.WireSteps.{Steps}
use Rattle.cur_steps.proofs.Completion.{stays, ends_as}
use Rattle.cur_steps.proofs.Stops.{leads_line, steps_sent}
use Rattle.cur_steps.specs.declared.inks.Brush.{Brush}
use Rattle.cur_steps.specs.declared.inks.Ink.{Ink}
use Rattle.ti_conforms.specs.Certified.{Table, IsLost, IsChecked}
use Rattle.cur_steps.specs.Pieces.{IsPaint, Printed}
use Rattle.cur_steps.specs.Inks.{rendition_of, look_of, put_at}
use Rattle.cur_steps.specs.Beliefs.{Agrees, Belief, Place, IsHere, IsNext, IsSo}
use Rattle.cur_steps.proofs.Actions.{agrees_lost}
use Rattle.cur_steps.proofs.Turns.{drawn_look, look_at-drawn, one_place, placed, calmly}

-- a token is run if nothing is open
pub token_runs : (s : State) (token : List ℕ) (x : Screen) → s.rest ≡ [] → IsWhole token → act (function_of token) s.screen ≡ x → Runs s token (record { screen = x; rest = [] })
token_runs s token x e h is =
    subst (λ (x : Screen). Runs s token (record { screen = x; rest = [] })) is
    (text_runs s token (token ∷ []) e ([], sym (append-nil token), inl h, (refl, empty_open)))

single_print : (b : ℕ) → IsPrinted b → single b ≡ Print b
single_print b h =
    let p : nat_le 32 b ≡ true = below 32 b h.0 in
    let q : nat_le b 126 ≡ true = below b 126 h.1 in
    rw (p, q) refl
  where
    below : (m n : ℕ) → m ≤ n → nat_le m n ≡ true
    below m n le = grind (arith, nat_tests)

-- a character printed with no pending wrap and no insertion
typed : Screen → ℕ → Screen
typed s b = record s { grid = put s.row s.col (step.shown s b) s.grid; col = min (s.col + 1) (s.cols - 1); pending = (s.col + 1 == s.cols) && s.autowrap }

types : (s : Screen) (b : ℕ) → s.pending ≡ false → s.inserting ≡ false → act (Print b) s ≡ typed s b
unfolding typed
types s b e i = rw (e, i) refl

shown_as : (t : Table) (s : Screen) (x : Ink) → is_graphic s.charset ≡ x.graphic → s.rendition ≡ rendition_of t.looks x.brush → step.shown s x.byte ≡ look_of t.looks x
shown_as t s x c e =
    ap (λ (g : Bool). record { byte = x.byte; graphic = g && nat_le 95 x.byte; rendition = s.rendition }) c
    ∙ ap (λ (r : Rendition). record { byte = x.byte; graphic = x.graphic && nat_le 95 x.byte; rendition = r }) e

last_column : (c cols : ℕ) (b : Bool) → c < cols → b ≡ true → ((c + 1 == cols) && b) ≡ nat_le cols (c + 1)
last_column c cols true lt e = grind (arith, nat_tests)
last_column c cols false lt e = absurd (cc)

-- past the last column a wrap is pending
here_after : (cols r c : ℕ) (s : Screen) → s.cols ≡ cols → s.row ≡ r → s.col ≡ c → c < cols → s.autowrap ≡ true
    → IsHere cols (record { row = r; col = c + 1 }) s.row (min (s.col + 1) (s.cols - 1)) ((s.col + 1 == s.cols) && s.autowrap)
here_after cols r c s e p q lt on = (
  p,
  ap (λ (n : ℕ). min (n + 1) (s.cols - 1)) q ∙ ap (λ (n : ℕ). min (c + 1) (n - 1)) e,
  ap (λ (n : ℕ). (n + 1 == s.cols) && s.autowrap) q ∙ ap (λ (n : ℕ). (c + 1 == n) && s.autowrap) e ∙ last_column c cols s.autowrap lt on,
)

-- the belief with the cursor known to be in a place
abbrev pub standing : Belief → ℕ → ℕ → Belief
standing b r c = record b { place = record { row = r; col = c } }

-- printing in a state, if the character has the same effect on a second state, whose cursor is at the place
typed_from : (t : Table) (g : ℕ → ℕ → Ink) (b : Belief) (r c : ℕ) (x : Ink) → c < t.cols → IsPrinted x.byte → b.brush ≡ x.brush → b.graphic ≡ Some x.graphic
    → (s v : State) → s.rest ≡ [] → IsOfSize t.rows t.cols s → act (Print x.byte) s.screen ≡ act (Print x.byte) v.screen → Agrees t g (standing b r c) v → Ends s (x.byte ∷ []) (Agrees t (put_at r c x g) (standing b r (c + 1)))
unfolding typed
typed_from t g b r c x lc printed brush graphic s v closed sized same h =
    let at : (v.screen.row ≡ r) × (v.screen.col ≡ c) × (v.screen.pending ≡ false) = calmly t.cols (record { row = r; col = c }) v.screen.row v.screen.col v.screen.pending lc h.place in
    let so : v.screen.rendition ≡ rendition_of t.looks x.brush = h.brush ∙ ap (λ (y : Brush). rendition_of t.looks y) brush in
    let set : is_graphic v.screen.charset ≡ x.graphic = subst (λ (o : Option Bool). IsSo o (is_graphic v.screen.charset)) graphic h.set in
    let u : State = record { screen = typed v.screen x.byte; rest = [] } in
    let acts : act (function_of (x.byte ∷ [])) s.screen ≡ typed v.screen x.byte =
    ap (λ (f : Function). act f s.screen) (single_print x.byte printed) ∙ same ∙ types v.screen x.byte at.2 h.ready.tame.inserting in
    let runs : Runs s (x.byte ∷ []) u = token_runs s (x.byte ∷ []) (typed v.screen x.byte) closed (inl (inl printed)) acts in
    record {
      after = u;
      runs = runs;
      there = record {
        ready = record { sized = run_keeps t.rows t.cols s u (x.byte ∷ []) sized runs; rest = refl; tame = record { autowrap = h.ready.tame.autowrap; inserting = h.ready.tame.inserting }; whole = record { top = h.ready.whole.top; bottom = h.ready.whole.bottom }; settled = h.ready.settled; visible = h.ready.visible };
        cells = λ i j li lj.
            look_at-drawn (λ i j old. if is_in (one v.screen.row v.screen.col) i j then step.shown v.screen x.byte else old) v.screen.grid i j
            (omega (arith, h.ready.sized.state.screen.columns i (omega (arith, h.ready.sized.rows)), h.ready.sized.cols))
            ∙ ap (λ (p : Bool). if p then step.shown v.screen x.byte else look_at v.screen.grid i j) (one_place v.screen.row v.screen.col i j)
            ∙ ap (λ (n : ℕ). if (i == n) && (j == v.screen.col) then step.shown v.screen x.byte else look_at v.screen.grid i j) at.0
            ∙ ap (λ (n : ℕ). if (i == r) && (j == n) then step.shown v.screen x.byte else look_at v.screen.grid i j) at.1
            ∙ drawn_look t ((i == r) && (j == c)) (step.shown v.screen x.byte) (look_at v.screen.grid i j) x (g i j) (shown_as t v.screen x set so) (h.cells i j li lj);
        place = here_after t.cols r c v.screen h.ready.sized.cols at.0 at.1 lc h.ready.tame.autowrap;
        brush = h.brush;
        colored = h.colored;
        set = h.set;
        seen = h.seen;
      };
    }

-- a wrap that isn't on the last line leads to the start of the next one
wraps : (s : Screen) (r c b : ℕ) → s.pending ≡ true → s.row + 1 ≡ r → c ≡ 0 → r < s.rows → s.bottom + 1 ≡ s.rows → act (Print b) s ≡ act (Print b) (record s { row = r; col = c; pending = false })
wraps s r c b on up start lt whole =
    let above : (s.row == s.bottom) ≡ false = differ s.row s.bottom (omega (arith, up, lt, whole)) in
    let below : nat_lt (s.row + 1) s.rows ≡ true = less (s.row + 1) s.rows (omega (arith, up, lt)) in
    let goes : step.wrapped s ≡ record s { row = r; col = c; pending = false } = rw (on, above, below, start) (ap (λ (n : ℕ). record s { row = n; col = 0; pending = false }) up) in
    ap (λ (y : Screen). step.placed b (step.opened y)) goes
  where
    differ : (m n : ℕ) → m < n → (m == n) ≡ false
    differ m n lt = grind (arith, nat_tests)

    less : (m n : ℕ) → m < n → nat_lt m n ≡ true
    less m n lt = grind (arith, nat_tests)

-- a state whose cursor is elsewhere on the screen
sized_at : (t : Table) (s : State) (r c : ℕ) → r < t.rows → c < t.cols → IsOfSize t.rows t.cols s → IsOfSize t.rows t.cols (record { screen = record s.screen { row = r; col = c; pending = false }; rest = [] })
sized_at t s r c lr lc h =
    let k : IsScreen s.screen = h.state.screen in
    record {
      state = record {
        screen = record { size = k.size; lines = k.lines; columns = k.columns; characters = k.characters; row = omega (arith, lr, h.rows); col = omega (arith, lc, h.cols); region = k.region; bottom = k.bottom };
        rest = empty_open;
      };
      rows = h.rows;
      cols = h.cols;
    }

-- the next character is known to go to the place, in the brush and the set of an ink
pub record IsPoised (cols : ℕ) (b : Belief) (r c : ℕ) (x : Ink) : Type 0 where
  pub place : IsNext cols b.place r c
  pub brush : b.brush ≡ x.brush
  pub set : b.graphic ≡ Some x.graphic

pub typed_agrees : (t : Table) (g : ℕ → ℕ → Ink) (b : Belief) (r c : ℕ) (x : Ink) → r < t.rows → c < t.cols → IsPrinted x.byte → IsPoised t.cols b r c x
    → (s : State) → Agrees t g b s → Ends s (x.byte ∷ []) (Agrees t (put_at r c x g) (standing b r (c + 1)))
typed_agrees t g b r c x lr lc printed poised s h = by_place poised.place
  where
    known : (p : Place) → b.place ≡ p → Agrees t g (record b { place = p }) s
    known p e = record { ready = h.ready; cells = h.cells; place = subst (λ (o : Place). IsHere t.cols o s.screen.row s.screen.col s.screen.pending) e h.place; brush = h.brush; colored = h.colored; set = h.set; seen = h.seen }

    itself : (n : ℕ) → nat_le n n ≡ true
    itself n = grind (arith, nat_tests)

    by_place : IsNext t.cols b.place r c → Ends s (x.byte ∷ []) (Agrees t (put_at r c x g) (standing b r (c + 1)))
    by_place (inl e) = typed_from t g b r c x lc printed poised.brush poised.set s s h.ready.rest h.ready.sized refl (known (record { row = r; col = c }) e)
    by_place (inr e) =
        let p : Place = record { row = r - 1; col = t.cols } in
        let at : IsHere t.cols p s.screen.row s.screen.col s.screen.pending = (known p e.0).place in
        let v : State = record { screen = record s.screen { row = r; col = c; pending = false }; rest = [] } in
        let pending : s.screen.pending ≡ true = at.2 ∙ itself t.cols in
        let up : s.screen.row + 1 ≡ r = omega (arith, at.0, e.1) in
        typed_from t g b r c x lc printed poised.brush poised.set s v h.ready.rest h.ready.sized (wraps s.screen r c x.byte pending up e.2 (omega (arith, lr, h.ready.sized.rows)) h.ready.whole.bottom)
        (placed t g b r c lc s v h (sized_at t s r c lr lc h.ready.sized) refl refl)

-- a prefix of one byte is nothing or that byte
front_lost : (t : Table) (s : State) (x : ℕ) (front back : List ℕ) → x ∷ [] ≡ front ++ back → IsLost t s → s.rest ≡ [] → Ends s (x ∷ []) (IsLost t) → Ends s front (IsLost t)
front_lost t s x [] back e h r k = stays s (IsLost t) r h
front_lost t s x (y ∷ []) back e h r k = let same : x ≡ y = cc in subst (λ (n : ℕ). Ends s (n ∷ []) (IsLost t)) same k
front_lost t s x (y ∷ z ∷ zs) back e h r k = absurd (cc)

-- a character as a piece that leads on
pub print_leads : (t : Table) → IsChecked t → (g : ℕ → ℕ → Ink) (b : Belief) (r c : ℕ) (x : Ink) → r < t.rows → c < t.cols → IsPrinted x.byte → IsPoised t.cols b r c x
    → Leads (IsPaint t) 1 (IsLost t) (Agrees t g b) (x.byte ∷ []) (Agrees t (put_at r c x g) (standing b r (c + 1)))
print_leads t checked g b r c x lr lc printed poised =
    let B : State → Type 0 = Agrees t (put_at r c x g) (standing b r (c + 1)) in
    let lost : (s : State) → B s → IsLost t s = agrees_lost t checked (put_at r c x g) (standing b r (c + 1)) in
    leads_line (IsPaint t) 1 (IsLost t) (Agrees t g b) B (x.byte ∷ []) (Printed x.byte printed refl) (omega arith)
    (typed_agrees t g b r c x lr lc printed poised)
    (λ s h front back e. front_lost t s x.byte front back e (agrees_lost t checked g b s h) h.ready.rest (ends_as s (x.byte ∷ []) B (IsLost t) lost (typed_agrees t g b r c x lr lc printed poised s h)))

-- a character is sent
pub print_steps : {W T E : Type 0} (went : W → W → List ℕ → Type 0) (failures : W → ℕ) (a z : W) (answer : Result T E) (t : Table) → IsChecked t → (g : ℕ → ℕ → Ink) (b : Belief) (r c : ℕ) (x : Ink)
    → r < t.rows → c < t.cols → IsPrinted x.byte → IsPoised t.cols b r c x → Sends went failures a z (x.byte ∷ []) answer
    → Steps went failures a z answer (IsPaint t) 1 (IsLost t) (Agrees t g b) (Agrees t (put_at r c x g) (standing b r (c + 1)))
print_steps went failures a z answer t checked g b r c x lr lc printed poised sends =
    let B : State → Type 0 = Agrees t (put_at r c x g) (standing b r (c + 1)) in
    let lost : (s : State) → B s → IsLost t s = agrees_lost t checked (put_at r c x g) (standing b r (c + 1)) in
    steps_sent went failures a z answer (IsPaint t) 1 (IsLost t) (Agrees t g b) B (x.byte ∷ []) (print_leads t checked g b r c x lr lc printed poised) lost sends
