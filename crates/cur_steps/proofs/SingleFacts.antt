-- The effect of the strings of single attributes on a state that agrees with a belief.
use Rattle.std.proofs.Common.{◌≡◌, ℕ, ◌+◌, ◌<◌, ◌≤◌, ◌&&◌, ◌||◌, Bool, true, false, List, [], ◌∷◌, length, get_or, drop, take, Option, None, refl, sym, ap, subst, ◌∙◌, arith, if◌then◌else◌}
use Rattle.std.proofs.lemmas.Bool.{false≢true}
use Rattle.std.proofs.lemmas.List.{at_drop_more}
use Rattle.std.proofs.lemmas.List.Sums.{sum_by_more, sum_by_more_le}
use Rattle.vt_term.specs.Look.{Rendition}
use Rattle.vt_term.specs.Screen.{Screen, State}
use Rattle.ti_rows.specs.declared.rows.Attributes.{Attributes}
use Rattle.ti_rows.specs.declared.rows.Looks.{Looks}
use Rattle.ti_rows.specs.declared.rows.Marks.{Marks}
use Rattle.ti_rows.specs.declared.rows.Row.{Row}
use Rattle.ti_rows.specs.declared.rows.Row.TheVariants.{Sgr, Sgr0, Smul, Rev, Blink, Dim, Bold, Invis, Smso}
use Rattle.ti_rows.specs.Asked.{no_marks}
use Rattle.ti_rows.specs.Starts.{Starts}
use Rattle.ti_rows.specs.Wants.{Wants, Renders, adding}
use Rattle.cur_steps.specs.declared.inks.Brush.{Brush}
use Rattle.cur_steps.specs.declared.inks.Ink.{Ink}
use Rattle.ti_conforms.specs.Certified.{Table, HasSingles, IsReady, has, limit_of, text_of, lengths, settles, singles}
use Rattle.cur_steps.specs.Inks.{rendition_of, plain_brush, no_attributes}
use Rattle.cur_steps.specs.Beliefs.{Agrees, Belief, Turns}
use Rattle.cur_steps.specs.Pieces.{paints}
use Rattle.cur_steps.specs.Singles.{has_single, turned_on, with_single, with_singles}
use Rattle.cur_steps.proofs.Turns.{free_of, rendered}

-- `sgr0`
pub stripped : (t : Table) (g : ℕ → ℕ → Ink) (b : Belief) → Turns t Sgr0 g b g (record b { brush = plain_brush; graphic = None })
stripped t g b = record {
  starts = λ s h. free_of t s h.ready;
  ends = λ s u h sized closed w. rendered t g b plain_brush (record { foreground = λ e. refl; background = λ e. refl }) s u h sized closed (w.settled refl h.ready.settled) w.wants;
}

-- these attributes in a belief
abbrev pub with_attributes : Belief → Attributes → Belief
with_attributes b a = record b { brush = record b.brush { attributes = a } }

-- a line that changes every rendition as f does
by_rendition : (t : Table) (g : ℕ → ℕ → Ink) (b : Belief) (a : Attributes) (row : Row) (f : Rendition → Rendition) → b.graphic ≡ None → settles row ≡ true
    → ((s : State) → IsReady t s → Starts t.rows t.cols row s.screen) → ((s u : Screen) → Wants t.looks row s u → Renders (f s.rendition) s u)
    → f (rendition_of t.looks b.brush) ≡ rendition_of t.looks (record b.brush { attributes = a }) → Turns t row g b g (with_attributes b a)
by_rendition t g b a row f none keeps starts wants is = record {
  starts = λ s h. starts s h.ready;
  ends = λ s u h sized closed w.
      subst (λ (o : Option Bool). Agrees t g (record b { brush = record b.brush { attributes = a }; graphic = o }) u) (sym none)
      (rendered t g b (record b.brush { attributes = a }) (record { foreground = h.colored.foreground; background = h.colored.background }) s u h sized closed (w.settled keeps h.ready.settled)
      (wants s.screen u.screen w.wants
      ∙ ap (λ (r : Rendition). record s.screen { rendition = f r; charset = u.screen.charset }) h.brush
      ∙ ap (λ (r : Rendition). record s.screen { rendition = r; charset = u.screen.charset }) is));
}

-- the line of an attribute that adds one mark
by_mark : (t : Table) (g : ℕ → ℕ → Ink) (b : Belief) (row : Row) (put : Rendition → Bool → Rendition) (of : Marks → Bool) (l : Bool) → b.graphic ≡ None → settles row ≡ true
    → ((s : State) → IsReady t s → Starts t.rows t.cols row s.screen) → ((s u : Screen) → Wants t.looks row s u → Renders (put s.rendition true) s u)
    → put (rendition_of t.looks b.brush) (l || (b.brush.attributes.standout && of t.looks.standout)) ≡ rendition_of t.looks (record b.brush { attributes = turned_on row b.brush.attributes }) → l ≡ true
    → Turns t row g b g (with_attributes b (turned_on row b.brush.attributes))
by_mark t g b row put of l none keeps starts wants is seen =
    by_rendition t g b (turned_on row b.brush.attributes) row (λ r. put r true) none keeps starts wants
    (ap (λ (x : Bool). put (rendition_of t.looks b.brush) (x || (b.brush.attributes.standout && of t.looks.standout))) (sym seen) ∙ is)

joined : (x y z : Bool) → (x || (y || (z && x))) ≡ (y || x)
joined true true z = refl
joined true false z = refl
joined false true z = refl
joined false false true = refl
joined false false false = refl

-- a rendition with its marks in other words
marks_as : (p : Rendition) (b f u k n c : Bool) → p.bold ≡ b → p.faint ≡ f → p.underline ≡ u → p.blink ≡ k → p.negative ≡ n → p.concealed ≡ c → p ≡ record p { bold = b; faint = f; underline = u; blink = k; negative = n; concealed = c }
marks_as p b f u k n c bold faint underline blink negative concealed =
    ap (λ (y : Bool). record p { bold = y }) bold
    ∙ ap (λ (y : Bool). record p { bold = b; faint = y }) faint
    ∙ ap (λ (y : Bool). record p { bold = b; faint = f; underline = y }) underline
    ∙ ap (λ (y : Bool). record p { bold = b; faint = f; underline = u; blink = y }) blink
    ∙ ap (λ (y : Bool). record p { bold = b; faint = f; underline = u; blink = k; negative = y }) negative
    ∙ ap (λ (y : Bool). record p { bold = b; faint = f; underline = u; blink = k; negative = n; concealed = y }) concealed

-- the rendition of a brush with standout
abbrev stood_out : Looks → Brush → Rendition
stood_out l x = rendition_of l (record x { attributes = record x.attributes { standout = true } })

-- standout on top of the others
standout_joined : (l : Looks) (x : Brush) → adding l.standout (rendition_of l x) ≡ stood_out l x
standout_joined l x =
    let a = x.attributes in
    let m = l.standout in
    let q : Rendition = stood_out l x in
    marks_as (adding m (rendition_of l x)) q.bold q.faint q.underline q.blink q.negative q.concealed (joined m.bold (a.bold && l.bold) a.standout) (joined m.faint (a.dim && l.dim) a.standout)
    (joined m.underline (a.underline && l.underline) a.standout) (joined m.blink (a.blink && l.blink) a.standout) (joined m.negative (a.reverse && l.reverse) a.standout) (joined m.concealed (a.invisible && l.invisible) a.standout)

pub single_set : (t : Table) → HasSingles t → (wanted : Attributes) (row : Row) → has_single row wanted ≡ true → has t row ≡ true → (g : ℕ → ℕ → Ink) (b : Belief) → b.graphic ≡ None
    → Turns t row g b g (with_attributes b (turned_on row b.brush.attributes))
single_set t k wanted Smul on there g b none = by_mark t g b Smul (λ r x. record r { underline = x }) (λ m. m.underline) t.looks.underline none refl (free_of t) (λ s u w. w) refl (k.underline ∙ there)
single_set t k wanted Rev on there g b none = by_mark t g b Rev (λ r x. record r { negative = x }) (λ m. m.negative) t.looks.reverse none refl (free_of t) (λ s u w. w) refl (k.reverse ∙ there)
single_set t k wanted Blink on there g b none = by_mark t g b Blink (λ r x. record r { blink = x }) (λ m. m.blink) t.looks.blink none refl (free_of t) (λ s u w. w) refl (k.blink ∙ there)
single_set t k wanted Dim on there g b none = by_mark t g b Dim (λ r x. record r { faint = x }) (λ m. m.faint) t.looks.dim none refl (free_of t) (λ s u w. w) refl (k.dim ∙ there)
single_set t k wanted Bold on there g b none = by_mark t g b Bold (λ r x. record r { bold = x }) (λ m. m.bold) t.looks.bold none refl (free_of t) (λ s u w. w) refl (k.bold ∙ there)
single_set t k wanted Invis on there g b none = by_mark t g b Invis (λ r x. record r { concealed = x }) (λ m. m.concealed) t.looks.invisible none refl (free_of t) (λ s u w. w) refl (k.invisible ∙ there)
single_set t k wanted Smso on there g b none =
    by_rendition t g b (turned_on Smso b.brush.attributes) Smso (λ r. adding t.looks.standout r) none refl (free_of t) (λ s u w. w) (standout_joined t.looks b.brush)
single_set t k wanted row on there g b none = absurd (false≢true on)

-- an attribute without a string looks like nothing
unseen : (x y l : Bool) → l ≡ false → ((x && l) || y) ≡ (l || y)
unseen true y l e = refl
unseen false y l e = ap (λ (b : Bool). b || y) (sym e)

unseen_last : (y z m : Bool) → m ≡ false → (y || (z && m)) ≡ (y || m)
unseen_last true z m e = refl
unseen_last false true m e = refl
unseen_last false false m e = sym e

standout_unseen : (l : Looks) (x : Brush) → l.standout ≡ no_marks → rendition_of l x ≡ stood_out l x
standout_unseen l x e =
    let a = x.attributes in
    let m = l.standout in
    let q : Rendition = stood_out l x in
    marks_as (rendition_of l x) q.bold q.faint q.underline q.blink q.negative q.concealed (unseen_last (a.bold && l.bold) a.standout m.bold (ap (λ (n : Marks). n.bold) e)) (unseen_last (a.dim && l.dim) a.standout m.faint (ap (λ (n : Marks). n.faint) e))
    (unseen_last (a.underline && l.underline) a.standout m.underline (ap (λ (n : Marks). n.underline) e)) (unseen_last (a.blink && l.blink) a.standout m.blink (ap (λ (n : Marks). n.blink) e))
    (unseen_last (a.reverse && l.reverse) a.standout m.negative (ap (λ (n : Marks). n.negative) e)) (unseen_last (a.invisible && l.invisible) a.standout m.concealed (ap (λ (n : Marks). n.concealed) e))

looks_same : (t : Table) → HasSingles t → (wanted : Attributes) (row : Row) → has_single row wanted ≡ true → has t row ≡ false → (x : Brush) → rendition_of t.looks x ≡ rendition_of t.looks (record x { attributes = turned_on row x.attributes })
looks_same t k wanted Smul on none x = ap (λ (y : Bool). record (rendition_of t.looks x) { underline = y }) (unseen x.attributes.underline (x.attributes.standout && t.looks.standout.underline) t.looks.underline (k.underline ∙ none))
looks_same t k wanted Rev on none x = ap (λ (y : Bool). record (rendition_of t.looks x) { negative = y }) (unseen x.attributes.reverse (x.attributes.standout && t.looks.standout.negative) t.looks.reverse (k.reverse ∙ none))
looks_same t k wanted Blink on none x = ap (λ (y : Bool). record (rendition_of t.looks x) { blink = y }) (unseen x.attributes.blink (x.attributes.standout && t.looks.standout.blink) t.looks.blink (k.blink ∙ none))
looks_same t k wanted Dim on none x = ap (λ (y : Bool). record (rendition_of t.looks x) { faint = y }) (unseen x.attributes.dim (x.attributes.standout && t.looks.standout.faint) t.looks.dim (k.dim ∙ none))
looks_same t k wanted Bold on none x = ap (λ (y : Bool). record (rendition_of t.looks x) { bold = y }) (unseen x.attributes.bold (x.attributes.standout && t.looks.standout.bold) t.looks.bold (k.bold ∙ none))
looks_same t k wanted Invis on none x = ap (λ (y : Bool). record (rendition_of t.looks x) { concealed = y }) (unseen x.attributes.invisible (x.attributes.standout && t.looks.standout.concealed) t.looks.invisible (k.invisible ∙ none))
looks_same t k wanted Smso on none x = standout_unseen t.looks x (k.standout none)
looks_same t k wanted row on none x = absurd (false≢true on)

pub single_absent : (t : Table) → HasSingles t → (wanted : Attributes) (row : Row) → has_single row wanted ≡ true → has t row ≡ false → (g : ℕ → ℕ → Ink) (b : Belief) (s : State) → Agrees t g b s
    → Agrees t g (with_attributes b (turned_on row b.brush.attributes)) s
single_absent t k wanted row on none g b s h = record {
  ready = h.ready;
  cells = h.cells;
  place = h.place;
  brush = h.brush ∙ looks_same t k wanted row on none b.brush;
  colored = record { foreground = h.colored.foreground; background = h.colored.background };
  set = h.set;
  seen = h.seen;
}

-- the string of an attribute paints, and has as many bytes as its limit says
pub single_is : (t : Table) (wanted : Attributes) (row : Row) → has_single row wanted ≡ true → (paints row ≡ true) × (limit_of t row ≤ length (text_of t row))
single_is t wanted Smul on = (refl, omega arith)
single_is t wanted Rev on = (refl, omega arith)
single_is t wanted Blink on = (refl, omega arith)
single_is t wanted Dim on = (refl, omega arith)
single_is t wanted Bold on = (refl, omega arith)
single_is t wanted Invis on = (refl, omega arith)
single_is t wanted Smso on = (refl, omega arith)
single_is t wanted row on = absurd (false≢true on)

-- from no attributes, all the wanted ones
pub all_singles : (w : Attributes) → with_singles w singles no_attributes ≡ w
all_singles w =
    let x1 = record no_attributes { underline = w.underline } in
    let x2 = record x1 { reverse = w.reverse } in
    let x3 = record x2 { blink = w.blink } in
    let x4 = record x3 { dim = w.dim } in
    let x5 = record x4 { bold = w.bold } in
    let x6 = record x5 { invisible = w.invisible } in
    ap (λ (a : Attributes). with_singles w (Rev ∷ Blink ∷ Dim ∷ Bold ∷ Invis ∷ Smso ∷ []) a) (chosen w.underline (λ (b : Bool). record no_attributes { underline = b }) no_attributes refl)
    ∙ ap (λ (a : Attributes). with_singles w (Blink ∷ Dim ∷ Bold ∷ Invis ∷ Smso ∷ []) a) (chosen w.reverse (λ (b : Bool). record x1 { reverse = b }) x1 refl)
    ∙ ap (λ (a : Attributes). with_singles w (Dim ∷ Bold ∷ Invis ∷ Smso ∷ []) a) (chosen w.blink (λ (b : Bool). record x2 { blink = b }) x2 refl)
    ∙ ap (λ (a : Attributes). with_singles w (Bold ∷ Invis ∷ Smso ∷ []) a) (chosen w.dim (λ (b : Bool). record x3 { dim = b }) x3 refl)
    ∙ ap (λ (a : Attributes). with_singles w (Invis ∷ Smso ∷ []) a) (chosen w.bold (λ (b : Bool). record x4 { bold = b }) x4 refl)
    ∙ ap (λ (a : Attributes). with_singles w (Smso ∷ []) a) (chosen w.invisible (λ (b : Bool). record x5 { invisible = b }) x5 refl)
    ∙ chosen w.standout (λ (b : Bool). record x6 { standout = b }) x6 refl
  where
    -- an attribute that is off becomes as wanted
    chosen : (b : Bool) (f : Bool → Attributes) (a : Attributes) → a ≡ f false → (if b then f true else a) ≡ f b
    chosen true f a e = refl
    chosen false f a e = e

-- some line of `sgr` is missing, so all are
pub sgr_absent : (t : Table) → (has t (Sgr no_attributes) ≡ true → (a : Attributes) → has t (Sgr a) ≡ true) → (a : Attributes) → has t (Sgr a) ≡ false → has t (Sgr no_attributes) ≡ false
sgr_absent t every a none = decide (has t (Sgr no_attributes)) refl
  where
    decide : (x : Bool) → has t (Sgr no_attributes) ≡ x → x ≡ false
    decide false e = refl
    decide true e = absurd (false≢true (sym none ∙ every e a))

-- one more row
pub ahead_more : (w : Attributes) (rows : List Row) (n : ℕ) (d : Row) (start b c : Belief) → n < length rows → c ≡ with_attributes b (with_single w (get_or rows n d) b.brush.attributes)
    → with_attributes b (with_singles w (drop n rows) b.brush.attributes) ≡ with_attributes start (with_singles w rows start.brush.attributes)
    → with_attributes c (with_singles w (drop (n + 1) rows) c.brush.attributes) ≡ with_attributes start (with_singles w rows start.brush.attributes)
ahead_more w rows n d start b c lt e h =
    ap (λ (x : Belief). with_attributes x (with_singles w (drop (n + 1) rows) x.brush.attributes)) e
    ∙ ap (λ (a : Attributes). with_attributes b a) (sym (at_drop_more (λ (rs : List Row). with_singles w rs b.brush.attributes) rows n d lt))
    ∙ h

pub lengths_more : (t : Table) (rows : List Row) (n : ℕ) (d : Row) → n < length rows → lengths t (take n rows) + length (text_of t (get_or rows n d)) ≤ lengths t (take (n + 1) rows)
lengths_more t rows n d lt = omega (arith, sum_by_more (λ (row : Row). length (text_of t row)) rows n d lt)

pub lengths_within : (t : Table) (rows : List Row) (n : ℕ) (d : Row) → n < length rows → lengths t (take n rows) + length (text_of t (get_or rows n d)) ≤ lengths t rows
lengths_within t rows n d lt = sum_by_more_le (λ (row : Row). length (text_of t row)) rows n d lt

pub singly_dressed : (w : Attributes) (b c : Belief) → b.brush ≡ plain_brush → c ≡ with_attributes b (with_singles w singles b.brush.attributes) → c.brush ≡ record plain_brush { attributes = w }
singly_dressed w b c plain e =
    ap (λ (x : Belief). x.brush) e
    ∙ ap (λ (x : Brush). record x { attributes = with_singles w singles x.attributes }) plain
    ∙ ap (λ (a : Attributes). record plain_brush { attributes = a }) (all_singles w)
