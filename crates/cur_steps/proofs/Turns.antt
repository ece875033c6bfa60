-- The effect of each line on a state that agrees with a belief.
use Rattle.std.proofs.Common.{◌≡◌, ℕ, ◌<◌, ◌≤◌, ◌==◌, ◌&&◌, ◌⊎◌, Bool, true, false, nat_le, List, [], length, Option, Some, None, refl, sym, ap, subst, ◌∙◌, inl, inr, arith, if◌then◌else◌}
use Rattle.std.proofs.lemmas.Bool.{false≢true}
use Rattle.std.proofs.lemmas.Bool.Decides.{nat_tests}
use Rattle.vt_term.specs.Look.{Rendition, Look, space}
use Rattle.vt_term.specs.Grid.{Grid, line_at, look_at, drawn}
use Rattle.vt_term.specs.Screen.{Screen, State, Charset, IsOfSize, is_graphic}
use Rattle.vt_term.specs.Color.{Color}
use Rattle.grids.proofs.Drawings.{cell_at-drawn}
use Rattle.grids.specs.Grids.{is_in, one}
use Rattle.ti_rows.specs.declared.rows.Attributes.{Attributes}
use Rattle.cur_steps.specs.declared.inks.Brush.{Brush}
use Rattle.cur_steps.specs.declared.inks.Ink.{Ink}
use Rattle.ti_rows.specs.declared.rows.Row.TheVariants.{Cup, Sgr, Setaf, Setab, Op, Smacs, Rmacs, Civis, Cnorm, Cvvis}
use Rattle.ti_rows.specs.Starts.{IsAny, IsFree}
use Rattle.ti_rows.specs.Wants.{marked, Renders, Appears}
use Rattle.ti_rows.specs.Looks.{shown}
use Rattle.ti_conforms.specs.Certified.{Table, IsReady, IsChecked, has, limit_of}
use Rattle.cur_steps.specs.Inks.{rendition_of, look_of, IsColored}
use Rattle.cur_steps.specs.Pieces.{paints}
use Rattle.cur_steps.specs.Beliefs.{Agrees, Belief, CanHide, Place, Passes, Turns, IsHere, set_row, Mode, Hidden, Normal, Prominent, IsSo, IsSeen, is_shown, mode_row}
use Rattle.cur_steps.specs.Grounds.{Ground, Fore, Back, color_limit, color_of, color_row, with_color}

pub look_at-drawn : (f : ℕ → ℕ → Look → Look) (g : Grid) (i j : ℕ) → j < length (line_at g i) → look_at (drawn f g) i j ≡ f i j (look_at g i j)
look_at-drawn f g i j lt = cell_at-drawn f space g i j lt

-- the rectangle of one place
pub one_place : (r c i j : ℕ) → is_in (one r c) i j ≡ ((i == r) && (j == c))
one_place r c i j = grind (arith, nat_tests)

pub any_of : (t : Table) (s : State) → IsReady t s → IsAny t.rows t.cols s.screen
any_of t s h = record { screen = h.sized.state.screen; rows_are = h.sized.rows; cols_are = h.sized.cols; tame = h.tame }

pub free_of : (t : Table) (s : State) → IsReady t s → IsFree t.rows t.cols s.screen
free_of t s h = record { any = any_of t s h; top = h.whole.top; bottom = h.whole.bottom }

-- a state that a line led to, by the wanted screen
pub by_screen : (t : Table) (Q : State → Type 0) (u : State) (x : Screen) → IsOfSize t.rows t.cols u → u.rest ≡ [] → u.screen ≡ x
    → (IsOfSize t.rows t.cols (record { screen = x; rest = [] }) → Q (record { screen = x; rest = [] })) → Q u
by_screen t Q u x sized closed e f =
    let P : List ℕ → Type 0 = λ l. IsOfSize t.rows t.cols (record { screen = u.screen; rest = l }) → Q (record { screen = u.screen; rest = l }) in
    let R : Screen → Type 0 = λ y. IsOfSize t.rows t.cols (record { screen = y; rest = [] }) → Q (record { screen = y; rest = [] }) in
    subst P (sym closed) (subst R (sym e) f) sized

-- on the screen no wrap is pending
pub stands_at : (cols row col : ℕ) → col < cols → IsHere cols (record { row = row; col = col }) row col false
stands_at cols row col lt = (refl, omega (arith, lt), before_end cols col lt)
  where
    before_end : (m n : ℕ) → n < m → false ≡ nat_le m n
    before_end m n lt = grind (arith, nat_tests)

pub calmly : (cols : ℕ) (p : Place) (row col : ℕ) (pending : Bool) → p.col < cols → IsHere cols p row col pending → (row ≡ p.row) × (col ≡ p.col) × (pending ≡ false)
calmly cols p row col pending lt h = (h.0, omega (arith, h.1, lt), h.2 ∙ sym (stands_at cols p.row p.col lt).2)

-- a state with its cursor moved to a place, and no wrap pending
pub placed : (t : Table) (g : ℕ → ℕ → Ink) (b : Belief) (r c : ℕ) → c < t.cols → (s u : State) → Agrees t g b s → IsOfSize t.rows t.cols u → u.rest ≡ [] → u.screen ≡ record s.screen { row = r; col = c; pending = false }
    → Agrees t g (record b { place = record { row = r; col = c } }) u
placed t g b r c lc s u h sized closed e =
    by_screen t (Agrees t g (record b { place = record { row = r; col = c } })) u (record s.screen { row = r; col = c; pending = false }) sized closed e
    (λ k. record {
      ready = record { sized = k; rest = refl; tame = record { autowrap = h.ready.tame.autowrap; inserting = h.ready.tame.inserting }; whole = record { top = h.ready.whole.top; bottom = h.ready.whole.bottom }; settled = h.ready.settled; visible = h.ready.visible };
      cells = h.cells;
      place = stands_at t.cols r c lc;
      brush = h.brush;
      colored = h.colored;
      set = h.set;
      seen = h.seen;
    })

-- the cursor's move by `cup`
pub moved : (t : Table) (g : ℕ → ℕ → Ink) (b : Belief) (r c : ℕ) → c < t.cols → Turns t (Cup r c) g b g (record b { place = record { row = r; col = c } })
moved t g b r c lc = record {
  starts = λ s h. any_of t s h.ready;
  ends = λ s u h sized closed w. placed t g b r c lc s u h sized closed w.wants;
}

-- a ready state is ready under another rendition, with another settled charset, and with the cursor shown or not
ready_as : (t : Table) (s : State) (r : Rendition) (c : Charset) (v : Bool) → IsReady t s → t.settled c ≡ true → (has t Cnorm ≡ false → v ≡ true)
    → IsOfSize t.rows t.cols (record { screen = record s.screen { rendition = r; charset = c; visible = v }; rest = [] })
    → IsReady t (record { screen = record s.screen { rendition = r; charset = c; visible = v }; rest = [] })
ready_as t s r c v h settled needed k =
    record { sized = k; rest = refl; tame = record { autowrap = h.tame.autowrap; inserting = h.tame.inserting }; whole = record { top = h.whole.top; bottom = h.whole.bottom }; settled = settled; visible = needed }

-- unchanged cells and an unmoved cursor, under another rendition, with another active set, or with the cursor shown
-- otherwise
restyled : (t : Table) (g : ℕ → ℕ → Ink) (b : Belief) (x : Brush) (o : Option Bool) (m : Option Mode) (c : Charset) (v : Bool) → IsColored t x → t.settled c ≡ true → IsSo o (is_graphic c) → (has t Cnorm ≡ false → v ≡ true) → IsSeen m v
    → (s u : State) → Agrees t g b s → IsOfSize t.rows t.cols u → u.rest ≡ [] → u.screen ≡ record s.screen { rendition = rendition_of t.looks x; charset = c; visible = v }
    → Agrees t g (record b { brush = x; graphic = o; mode = m }) u
restyled t g b x o m c v colored settled set needed seen s u h sized closed e =
    by_screen t (Agrees t g (record b { brush = x; graphic = o; mode = m })) u (record s.screen { rendition = rendition_of t.looks x; charset = c; visible = v }) sized closed e
    (λ k. record { ready = ready_as t s (rendition_of t.looks x) c v h.ready settled needed k; cells = h.cells; place = h.place; brush = refl; colored = colored; set = set; seen = seen })

-- unchanged cells under another rendition, with the sets as they were
inked : (t : Table) (g : ℕ → ℕ → Ink) (b : Belief) (x : Brush) → IsColored t x → (s u : State) → Agrees t g b s → IsOfSize t.rows t.cols u → u.rest ≡ []
    → u.screen ≡ record s.screen { rendition = rendition_of t.looks x } → Agrees t g (record b { brush = x }) u
inked t g b x colored s u h sized closed e = restyled t g b x b.graphic b.mode s.screen.charset s.screen.visible colored h.ready.settled h.set h.ready.visible h.seen s u h sized closed e

colored_with : (t : Table) (b : Brush) → has t Op ≡ true → IsColored t b
colored_with t b e = record { foreground = λ f. absurd (cc); background = λ f. absurd (cc) }

foreground_set : (t : Table) → has t Op ≡ true → (g : ℕ → ℕ → Ink) (b : Belief) (c : Color) → Turns t (Setaf c) g b g (record b { brush = record b.brush { foreground = Some c } })
foreground_set t is g b c = record {
  starts = λ s h. free_of t s h.ready;
  ends = λ s u h sized closed w. inked t g b (record b.brush { foreground = Some c }) (colored_with t _ is) s u h sized closed
      (w.wants ∙ ap (λ (r : Rendition). record s.screen { rendition = record r { foreground = Some c } }) h.brush);
}

background_set : (t : Table) → has t Op ≡ true → (g : ℕ → ℕ → Ink) (b : Belief) (c : Color) → Turns t (Setab c) g b g (record b { brush = record b.brush { background = Some c } })
background_set t is g b c = record {
  starts = λ s h. free_of t s h.ready;
  ends = λ s u h sized closed w. inked t g b (record b.brush { background = Some c }) (colored_with t _ is) s u h sized closed
      (w.wants ∙ ap (λ (r : Rendition). record s.screen { rendition = record r { background = Some c } }) h.brush);
}

pub colors_gone : (t : Table) (g : ℕ → ℕ → Ink) (b : Belief) → Turns t Op g b g (record b { brush = record b.brush { foreground = None; background = None } })
colors_gone t g b = record {
  starts = λ s h. free_of t s h.ready;
  ends = λ s u h sized closed w. inked t g b (record b.brush { foreground = None; background = None }) (record { foreground = λ e. refl; background = λ e. refl }) s u h sized closed
      (w.wants ∙ ap (λ (r : Rendition). record s.screen { rendition = record r { foreground = None; background = None } }) h.brush);
}

-- a brush without colors is that brush
uncolored : (b : Brush) → b.foreground ≡ None → b.background ≡ None → b ≡ record b { foreground = None; background = None }
uncolored b e f = ap (λ (c : Option Color). record b { foreground = c }) e ∙ ap (λ (c : Option Color). record b { foreground = None; background = c }) f

brush_as : (t : Table) (g : ℕ → ℕ → Ink) (b : Belief) (x : Brush) → b.brush ≡ x → (s : State) → Agrees t g b s → Agrees t g (record b { brush = x }) s
brush_as t g b x e s h = let P : Brush → Type 0 = λ y. Agrees t g (record b { brush = y }) s in subst P e h

pub no_colors : (t : Table) (g : ℕ → ℕ → Ink) (b : Belief) → b.brush.foreground ≡ None → b.brush.background ≡ None → (s : State) → Agrees t g b s → Agrees t g (record b { brush = record b.brush { foreground = None; background = None } }) s
no_colors t g b e f s h = brush_as t g b (record b.brush { foreground = None; background = None }) (uncolored b.brush e f) s h

pub no_color_lines : (t : Table) (g : ℕ → ℕ → Ink) (b : Belief) → has t Op ≡ false → (s : State) → Agrees t g b s → Agrees t g (record b { brush = record b.brush { foreground = None; background = None } }) s
no_color_lines t g b none s h = no_colors t g b (h.colored.foreground none) (h.colored.background none) s h

-- attributes, from default colors to default colors
either : (t : Table) (a : Attributes) (b : Brush) (s : Screen) → s.rendition ≡ rendition_of t.looks b → b.foreground ≡ None → b.background ≡ None
    → (u : Screen) → Renders (marked (shown t.looks a) s.rendition.foreground s.rendition.background) s u ⊎ Renders (marked (shown t.looks a) None None) s u
    → Renders (marked (shown t.looks a) None None) s u
either t a b s e f k u (inl h) =
    h ∙ ap (λ (x : Rendition). record s { rendition = marked (shown t.looks a) x.foreground x.background; charset = u.charset }) e
    ∙ ap (λ (x : Option Color). record s { rendition = marked (shown t.looks a) x b.background; charset = u.charset }) f
    ∙ ap (λ (x : Option Color). record s { rendition = marked (shown t.looks a) None x; charset = u.charset }) k
either t a b s e f k u (inr h) = h

-- unchanged cells under another rendition, with the sets settled
pub rendered : (t : Table) (g : ℕ → ℕ → Ink) (b : Belief) (x : Brush) → IsColored t x → (s u : State) → Agrees t g b s → IsOfSize t.rows t.cols u → u.rest ≡ [] → t.settled u.screen.charset ≡ true
    → u.screen ≡ record s.screen { rendition = rendition_of t.looks x; charset = u.screen.charset } → Agrees t g (record b { brush = x; graphic = None }) u
rendered t g b x colored s u h sized closed settled e = restyled t g b x None b.mode u.screen.charset s.screen.visible colored settled tt h.ready.visible h.seen s u h sized closed e

pub attributes_set : (t : Table) (g : ℕ → ℕ → Ink) (b : Belief) (a : Attributes) → b.brush.foreground ≡ None → b.brush.background ≡ None
    → Turns t (Sgr a) g b g (record b { brush = record { attributes = a; foreground = None; background = None }; graphic = None })
attributes_set t g b a f k = record {
  starts = λ s h. free_of t s h.ready;
  ends = λ s u h sized closed w. rendered t g b (record { attributes = a; foreground = None; background = None }) (record { foreground = λ o. refl; background = λ o. refl }) s u h sized closed (w.settled refl h.ready.settled)
      (either t a b.brush s.screen h.brush f k u.screen w.wants);
}

-- the active set
active_as : (t : Table) (g : ℕ → ℕ → Ink) (b : Belief) (x : Bool) (s u : State) → Agrees t g b s → IsOfSize t.rows t.cols u → u.rest ≡ [] → u.screen ≡ record s.screen { charset = u.screen.charset }
    → t.settled u.screen.charset ≡ true → is_graphic u.screen.charset ≡ x → Agrees t g (record b { graphic = Some x }) u
active_as t g b x s u h sized closed e settled is =
    restyled t g b b.brush (Some x) b.mode u.screen.charset s.screen.visible h.colored settled is h.ready.visible h.seen s u h sized closed
    (e ∙ ap (λ (r : Rendition). record s.screen { rendition = r; charset = u.screen.charset }) h.brush)

pub set_chosen : (t : Table) (g : ℕ → ℕ → Ink) (b : Belief) (x : Bool) → Turns t (set_row x) g b g (record b { graphic = Some x })
set_chosen t g b true = record {
  starts = λ s h. free_of t s h.ready;
  ends = λ s u h sized closed w. active_as t g b true s u h sized closed w.wants (w.settled refl h.ready.settled) (w.active h.ready.settled);
}
set_chosen t g b false = record {
  starts = λ s h. free_of t s h.ready;
  ends = λ s u h sized closed w. active_as t g b false s u h sized closed w.wants (w.settled refl h.ready.settled) (w.active h.ready.settled);
}

-- if there is no line for it, the plain set is active
pub set_plain : (t : Table) → IsChecked t → has t Rmacs ≡ false → (g : ℕ → ℕ → Ink) (b : Belief) (s : State) → Agrees t g b s → Agrees t g (record b { graphic = Some false }) s
set_plain t checked none g b s h = record { ready = h.ready; cells = h.cells; place = h.place; brush = h.brush; colored = h.colored; set = checked.plain_sets none s.screen.charset h.ready.settled; seen = h.seen }

choice : (p : Bool) (l : Look) (c d : Look) (y : Look) → l ≡ c → y ≡ d → (if p then l else y) ≡ (if p then c else d)
choice true l c d y e f = e
choice false l c d y e f = f

choose : (t : Table) (p : Bool) (x y : Ink) → (if p then look_of t.looks x else look_of t.looks y) ≡ look_of t.looks (if p then x else y)
choose t true x y = refl
choose t false x y = refl

-- one place of a grid that was drawn on
pub drawn_look : (t : Table) (p : Bool) (l y : Look) (x z : Ink) → l ≡ look_of t.looks x → y ≡ look_of t.looks z → (if p then l else y) ≡ look_of t.looks (if p then x else z)
drawn_look t p l y x z e f = choice p l (look_of t.looks x) (look_of t.looks z) y e f ∙ choose t p x z

-- a wanted color has its lines
pub colored_has : (x : Bool) (c : Color) → (x ≡ false → Some c ≡ None) → x ≡ true
colored_has true c h = refl
colored_has false c h = absurd (bad (h refl))
  where
    bad : Some c ≡ None → ⊥
    bad e = cc

pub set_known : (t : Table) (g : ℕ → ℕ → Ink) (b : Belief) (x : Bool) → b.graphic ≡ Some x → (s : State) → Agrees t g b s → Agrees t g (record b { graphic = Some x }) s
set_known t g b x e s h = let P : Option Bool → Type 0 = λ y. Agrees t g (record b { graphic = y }) s in subst P e h

pub set_limit : (t : Table) (x : Bool) → limit_of t (set_row x) ≤ t.longest.sets
set_limit t true = omega arith
set_limit t false = omega arith

pub set_paints : (x : Bool) → paints (set_row x) ≡ true
set_paints true = refl
set_paints false = refl

-- a set whose line is absent is the plain one, and active
pub set_absent : (t : Table) → IsChecked t → (x : Bool) → (has t Smacs ≡ false → x ≡ false) → has t (set_row x) ≡ false → (g : ℕ → ℕ → Ink) (b : Belief) (s : State) → Agrees t g b s → Agrees t g (record b { graphic = Some x }) s
set_absent t checked true f e g b s h = absurd (bad (f e))
  where
    bad : true ≡ false → ⊥
    bad e = cc
set_absent t checked false f e g b s h = set_plain t checked e g b s h

-- the cursor is shown or not
visible_as : (t : Table) (g : ℕ → ℕ → Ink) (b : Belief) (m : Mode) → (has t Cnorm ≡ false → is_shown m ≡ true) → (s u : State) → Agrees t g b s → IsOfSize t.rows t.cols u → u.rest ≡ [] → u.screen ≡ record s.screen { visible = is_shown m }
    → Agrees t g (record b { mode = Some m }) u
visible_as t g b m needed s u h sized closed e =
    restyled t g b b.brush b.graphic (Some m) s.screen.charset (is_shown m) h.colored h.ready.settled h.set needed refl s u h sized closed
    (e ∙ ap (λ (r : Rendition). record s.screen { rendition = r; visible = is_shown m }) h.brush)

hidden : (t : Table) → has t Cnorm ≡ true → (g : ℕ → ℕ → Ink) (b : Belief) → Turns t Civis g b g (record b { mode = Some Hidden })
hidden t is g b = record {
  starts = λ s h. free_of t s h.ready;
  ends = λ s u h sized closed w. visible_as t g b Hidden (λ e. absurd (cc)) s u h sized closed w.wants;
}

normal : (t : Table) (g : ℕ → ℕ → Ink) (b : Belief) → Turns t Cnorm g b g (record b { mode = Some Normal })
normal t g b = record {
  starts = λ s h. free_of t s h.ready;
  ends = λ s u h sized closed w. visible_as t g b Normal (λ e. refl) s u h sized closed w.wants;
}

-- a mode that the cursor has may be believed
pub mode_as : (t : Table) (g : ℕ → ℕ → Ink) (b : Belief) (m : Mode) (s : State) → s.screen.visible ≡ is_shown m → Agrees t g b s → Agrees t g (record b { mode = Some m }) s
mode_as t g b m s e h = record { ready = h.ready; cells = h.cells; place = h.place; brush = h.brush; colored = h.colored; set = h.set; seen = e }

always_normal : (t : Table) → has t Cnorm ≡ false → (g : ℕ → ℕ → Ink) (b : Belief) (s : State) → Agrees t g b s → Agrees t g (record b { mode = Some Normal }) s
always_normal t none g b s h = mode_as t g b Normal s (h.ready.visible none) h

shown_so : (b : Belief) → b.mode ≡ Some Normal → (v : Bool) → IsSeen b.mode v → v ≡ true
shown_so b e v h = subst (λ (o : Option Mode). IsSeen o v) e h

stressed_without : (t : Table) (g : ℕ → ℕ → Ink) (b : Belief) → b.mode ≡ Some Normal → (s : State) → Agrees t g b s → Agrees t g (record b { mode = Some Prominent }) s
stressed_without t g b e s h = mode_as t g b Prominent s (shown_so b e s.screen.visible h.seen) h

appeared : (s u : Screen) → s.visible ≡ true → Appears s u → u ≡ record s { visible = true }
appeared s u e (inl h) = h
appeared s u e (inr h) = h ∙ ap (λ (v : Bool). record s { visible = v }) e

stressed : (t : Table) (g : ℕ → ℕ → Ink) (b : Belief) → b.mode ≡ Some Normal → Turns t Cvvis g b g (record b { mode = Some Prominent })
stressed t g b e = record {
  starts = λ s h. free_of t s h.ready;
  ends = λ s u h sized closed w. visible_as t g b Prominent (λ x. refl) s u h sized closed (appeared s.screen u.screen (shown_so b e s.screen.visible h.seen) w.wants);
}

-- the string of a mode
pub mode_set : (t : Table) (m : Mode) → CanHide t m → (g : ℕ → ℕ → Ink) (b : Belief) → (m ≡ Prominent → b.mode ≡ Some Normal) → Passes t (mode_row m) g b (record b { mode = Some m })
mode_set t Hidden can g b shown = record { turns = λ there. hidden t can.1 g b; stays = λ none. absurd (false≢true (sym none ∙ can.0)) }
mode_set t Normal can g b shown = record { turns = λ there. normal t g b; stays = λ none. always_normal t none g b }
mode_set t Prominent can g b shown = record { turns = λ there. stressed t g b (shown refl); stays = λ none. stressed_without t g b (shown refl) }

-- the string of a color
pub color_set : (t : Table) → IsChecked t → has t Op ≡ true → (x : Ground) (g : ℕ → ℕ → Ink) (b : Belief) (c : Color) → Passes t (color_row x c) g b (record b { brush = with_color x (Some c) b.brush })
color_set t checked is Fore g b c = record { turns = λ there. foreground_set t is g b c; stays = λ none. absurd (false≢true (sym none ∙ checked.foregrounds is c)) }
color_set t checked is Back g b c = record { turns = λ there. background_set t is g b c; stays = λ none. absurd (false≢true (sym none ∙ checked.backgrounds is c)) }

-- a color that the brush has may be believed
pub color_kept : (t : Table) (x : Ground) (g : ℕ → ℕ → Ink) (b : Belief) (c : Option Color) → color_of x b.brush ≡ c → (s : State) → Agrees t g b s → Agrees t g (record b { brush = with_color x c b.brush }) s
color_kept t Fore g b c e s h = brush_as t g b (record b.brush { foreground = c }) (ap (λ (f : Option Color). record b.brush { foreground = f }) e) s h
color_kept t Back g b c e s h = brush_as t g b (record b.brush { background = c }) (ap (λ (f : Option Color). record b.brush { background = f }) e) s h

pub color_within : (t : Table) (x : Ground) (c : Color) → limit_of t (color_row x c) ≤ color_limit t x
color_within t Fore c = omega arith
color_within t Back c = omega arith

pub color_paints : (x : Ground) (c : Color) → paints (color_row x c) ≡ true
color_paints Fore c = refl
color_paints Back c = refl
