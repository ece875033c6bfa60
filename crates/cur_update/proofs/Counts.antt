-- No more inks than cells differ.
use Rattle.std.proofs.Common.{◌≡◌, ℕ, ◌+◌, ◌*◌, ◌≤◌, ◌&&◌, ◌==◌, Bool, true, false, nat_lt, cond, Option, Some, None, refl, sym, ap, ◌∙◌, arith, zero, suc}
use Rattle.std.proofs.lemmas.Bool.{eqb-true, eq-eqb}
use Rattle.vt_term.specs.Color.{Color, color_number}
use Rattle.ti_rows.specs.declared.rows.Attributes.{Attributes}
use Rattle.cur_drawing.specs.Cells.{Content}
use Rattle.cur_screens.specs.VirtualScreen.{Screen, colors_at}
use Rattle.cur_screens.specs.declared.virtual_screen.Colors.{Colors}
use Rattle.ti_conforms.specs.Certified.{Table}
use Rattle.cur_steps.specs.Inks.{alike, same_few, same_others, same_attributes, same_color, same, blank_ink}
use Rattle.cur_steps.specs.declared.inks.Ink.{Ink}
use Rattle.cur_paint.specs.Differ.{differs, span, all_differ}
use Rattle.cur_update.specs.Inks.{ink_of, ink_at, content_at}
use Rattle.cur_update.specs.Differ.{same_number, same_colors, same_character, same_at, cells_differ, in_line, in_lines}

both : (a b : Bool) → (a && b) ≡ true → (a ≡ true) × (b ≡ true)
both true b h = (refl, h)
both false b h = (h, absurd (cc))

join : (a b : Bool) → a ≡ true → b ≡ true → (a && b) ≡ true
join a b h k = ap (λ (t : Bool). t && b) h ∙ k

alike_itself : (a : Bool) → alike a a ≡ true
alike_itself true = refl
alike_itself false = refl

color_itself : (c : Option Color) → same_color c c ≡ true
color_itself None = refl
color_itself (Some c) = eq-eqb (color_number c) (color_number c) refl

few_itself : (a : Attributes) → same_few a a ≡ true
few_itself a = join (alike a.standout a.standout) _ (alike_itself a.standout) (join (alike a.underline a.underline) _ (alike_itself a.underline) (alike_itself a.reverse))

others_itself : (a : Attributes) → same_others a a ≡ true
others_itself a =
    join (alike a.blink a.blink) _ (alike_itself a.blink) (join (alike a.dim a.dim) _ (alike_itself a.dim) (join (alike a.bold a.bold) _ (alike_itself a.bold) (alike_itself a.invisible)))

ink_itself : (x : Ink) → same x x ≡ true
ink_itself x =
    let b = x.brush in
    join (x.byte == x.byte) _ (eq-eqb x.byte x.byte refl) (join (alike x.graphic x.graphic) _ (alike_itself x.graphic)
    (join (same_attributes b.attributes b.attributes) _ (join (same_few b.attributes b.attributes) _ (few_itself b.attributes) (others_itself b.attributes))
    (join (same_color b.foreground b.foreground) _ (color_itself b.foreground) (color_itself b.background))))

number_equal : (a b : Option ℕ) → same_number a b ≡ true → a ≡ b
number_equal None None h = refl
number_equal None (Some b) h = absurd (cc)
number_equal (Some a) None h = absurd (cc)
number_equal (Some a) (Some b) h = ap (λ (n : ℕ). Some n) (eqb-true a b h)

colors_equal : (p q : Colors) → same_colors p q ≡ true → p ≡ q
colors_equal p q h =
    let r = both (same_number p.foreground q.foreground) (same_number p.background q.background) h in
    λ k. record { foreground = number_equal p.foreground q.foreground r.0 k; background = number_equal p.background q.background r.1 k }

inks_equal : (t : Table) (partners : ℕ → Option ℕ) (p q : Colors) (c d : Content) → p ≡ q → same_character c d ≡ true → ink_of t partners p c ≡ ink_of t partners q d
inks_equal t partners p q c d e h =
    let r = both (c.byte == d.byte) (c.attrs == d.attrs) h in
    λ k. ink_of t partners (e k) (record { byte = eqb-true c.byte d.byte r.0 k; attrs = eqb-true c.attrs d.attrs r.1 k; pair = 0 })

module _ (t : Table) (partners : ℕ → Option ℕ) (v w : Screen) (rows : v.rows ≡ w.rows) (cols : v.cols ≡ w.cols) where
  equal_at : (i j : ℕ) → same_at v w i j ≡ true → ink_at t partners v i j ≡ ink_at t partners w i j
  equal_at i j h =
      let c = content_at v i j in
      let d = content_at w i j in
      let r = both (same_character c d) (same_colors (colors_at v c.pair) (colors_at w d.pair)) h in
      λ k. cond (nat_lt i (rows k) && nat_lt j (cols k)) (inks_equal t partners (colors_at v c.pair) (colors_at w d.pair) c d (colors_equal (colors_at v c.pair) (colors_at w d.pair) r.1) r.0 k) blank_ink

  least : (a b : Bool) → (b ≡ true → a ≡ true) → cond {A = ℕ} a 0 1 ≤ cond b 0 1
  least true b h = omega arith
  least false true h = let apart : false ≡ true = h refl in absurd (cc)
  least false false h = omega arith

  at_most : (i j : ℕ) → differs (ink_at t partners v) (ink_at t partners w) i j ≤ cells_differ v w i j
  at_most i j = least (same (ink_at t partners v i j) (ink_at t partners w i j)) (same_at v w i j)
      (λ h. ap (λ (x : Ink). same (ink_at t partners v i j) x) (sym (equal_at i j h)) ∙ ink_itself (ink_at t partners v i j))

  line_at_most : (i n : ℕ) → span (ink_at t partners v) (ink_at t partners w) i 0 n ≤ in_line v w i n
  line_at_most i zero = omega arith
  line_at_most i (suc n) =
      let here : differs (ink_at t partners v) (ink_at t partners w) i (0 + n) ≡ differs (ink_at t partners v) (ink_at t partners w) i n =
      ap (λ (j : ℕ). differs (ink_at t partners v) (ink_at t partners w) i j) (omega arith) in
      omega (arith, line_at_most i n, at_most i n, here)

  pub lines_at_most : (width n : ℕ) → all_differ (ink_at t partners v) (ink_at t partners w) width n ≤ in_lines v w width n
  lines_at_most width zero = omega arith
  lines_at_most width (suc n) = omega (arith, lines_at_most width n, line_at_most n width)

pub scaled : (l a b m : ℕ) → a ≤ b → l ≤ (a + 1) * m → l ≤ (b + 1) * m
scaled l a b m h k = search arith
