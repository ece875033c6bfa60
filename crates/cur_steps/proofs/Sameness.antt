-- Inks, brushes and their parts are equal if the tests find them the same.
use Rattle.std.proofs.Common.{◌≡◌, ℕ, ◌==◌, ◌&&◌, Bool, true, false, Option, Some, None, if◌then◌else◌, refl, sym, ap, subst, ◌∙◌, arith}
use Rattle.std.proofs.lemmas.Bool.Decides.{nat_tests}
use Rattle.vt_term.specs.Color.{Color, color_number, Black, Red, Green, Yellow, Blue, Magenta, Cyan, White, color}
use Rattle.ti_rows.specs.declared.rows.Attributes.{Attributes}
use Rattle.cur_steps.specs.declared.inks.Brush.{Brush}
use Rattle.cur_steps.specs.declared.inks.Ink.{Ink}
use Rattle.cur_steps.specs.Inks.{alike, same_few, same_others, same_attributes, same_color, same_brush, same, byte_as}

alike_equal : (a b : Bool) → alike a b ≡ true → a ≡ b
alike_equal true true h = refl
alike_equal false false h = refl
alike_equal true false h = sym h
alike_equal false true h = h

pub both : (a b : Bool) → (a && b) ≡ true → (a ≡ true) × (b ≡ true)
both true b h = (refl, h)
both false b h = (h, absurd (cc))

pub equal_numbers : (m n : ℕ) → (m == n) ≡ true → m ≡ n
equal_numbers m n h = grind (arith, nat_tests)

color_known : (c : Color) → color (color_number c) ≡ c
color_known Black = refl
color_known Red = refl
color_known Green = refl
color_known Yellow = refl
color_known Blue = refl
color_known Magenta = refl
color_known Cyan = refl
color_known White = refl

pub color_equal : (a b : Option Color) → same_color a b ≡ true → a ≡ b
color_equal None None h = refl
color_equal None (Some d) h = absurd (cc)
color_equal (Some c) None h = absurd (cc)
color_equal (Some c) (Some d) h =
    ap (λ (x : Color). Some x) (sym (color_known c) ∙ ap (λ (n : ℕ). color n) (equal_numbers (color_number c) (color_number d) h) ∙ color_known d)

pub attributes_equal : (a b : Attributes) → same_attributes a b ≡ true → a ≡ b
attributes_equal a b h =
    let p = both (same_few a b) (same_others a b) h in
    let q = both (alike a.standout b.standout) (alike a.underline b.underline && alike a.reverse b.reverse) p.0 in
    let r = both (alike a.underline b.underline) (alike a.reverse b.reverse) q.1 in
    let u = both (alike a.blink b.blink) (alike a.dim b.dim && (alike a.bold b.bold && alike a.invisible b.invisible)) p.1 in
    let v = both (alike a.dim b.dim) (alike a.bold b.bold && alike a.invisible b.invisible) u.1 in
    let w = both (alike a.bold b.bold) (alike a.invisible b.invisible) v.1 in
    ap (λ (x : Bool). record a { standout = x }) (alike_equal a.standout b.standout q.0)
    ∙ ap (λ (x : Bool). record a { standout = b.standout; underline = x }) (alike_equal a.underline b.underline r.0)
    ∙ ap (λ (x : Bool). record a { standout = b.standout; underline = b.underline; reverse = x }) (alike_equal a.reverse b.reverse r.1)
    ∙ ap (λ (x : Bool). record b { blink = x; dim = a.dim; bold = a.bold; invisible = a.invisible }) (alike_equal a.blink b.blink u.0)
    ∙ ap (λ (x : Bool). record b { dim = x; bold = a.bold; invisible = a.invisible }) (alike_equal a.dim b.dim v.0)
    ∙ ap (λ (x : Bool). record b { bold = x; invisible = a.invisible }) (alike_equal a.bold b.bold w.0)
    ∙ ap (λ (x : Bool). record b { invisible = x }) (alike_equal a.invisible b.invisible w.1)

pub brush_equal : (a b : Brush) → same_brush a b ≡ true → a ≡ b
brush_equal a b h =
    let p = both (same_attributes a.attributes b.attributes) (same_color a.foreground b.foreground && same_color a.background b.background) h in
    let q = both (same_color a.foreground b.foreground) (same_color a.background b.background) p.1 in
    ap (λ (x : Attributes). record a { attributes = x }) (attributes_equal a.attributes b.attributes p.0)
    ∙ ap (λ (x : Option Color). record a { attributes = b.attributes; foreground = x }) (color_equal a.foreground b.foreground q.0)
    ∙ ap (λ (x : Option Color). record b { background = x }) (color_equal a.background b.background q.1)

pub same_equal : (a b : Ink) → same a b ≡ true → a ≡ b
same_equal a b h =
    let p = both (a.byte == b.byte) (alike a.graphic b.graphic && same_brush a.brush b.brush) h in
    let q = both (alike a.graphic b.graphic) (same_brush a.brush b.brush) p.1 in
    ap (λ (x : ℕ). record a { byte = x }) (equal_numbers a.byte b.byte p.0)
    ∙ ap (λ (x : Bool). record b { graphic = x; brush = a.brush }) (alike_equal a.graphic b.graphic q.0)
    ∙ ap (λ (x : Brush). record b { brush = x }) (brush_equal a.brush b.brush q.1)

when_byte : (t : Bool) (x y : Ink) (b : ℕ) → (t ≡ true → (x.graphic ≡ y.graphic) × (x.brush ≡ y.brush)) → (if t then Some x.byte else None) ≡ Some b → x ≡ record y { byte = b }
when_byte true x y b f e =
    let byte : x.byte ≡ b = cc in
    ap (λ (n : ℕ). record x { byte = n }) byte ∙ ap (λ (g : Bool). record x { byte = b; graphic = g }) (f refl).0 ∙ ap (λ (h : Brush). record y { byte = b; brush = h }) (f refl).1
when_byte false x y b f e = absurd (cc)

pub byte_as_is : (x y : Ink) (b : ℕ) → byte_as x y ≡ Some b → x ≡ record y { byte = b }
byte_as_is x y b e =
    when_byte (alike x.graphic y.graphic && same_brush x.brush y.brush) x y b
    (λ t. (let p = both (alike x.graphic y.graphic) (same_brush x.brush y.brush) t in (alike_equal x.graphic y.graphic p.0, brush_equal x.brush y.brush p.1))) e

alike_self : (b : Bool) → alike b b ≡ true
alike_self true = refl
alike_self false = refl

and_true : (a b : Bool) → a ≡ true → b ≡ true → (a && b) ≡ true
and_true true true p q = refl
and_true true false p q = q
and_true false b p q = p

number_self : (n : ℕ) → (n == n) ≡ true
number_self n = grind (arith, nat_tests)

color_self : (a : Option Color) → same_color a a ≡ true
color_self None = refl
color_self (Some c) = number_self (color_number c)

attributes_self : (a : Attributes) → same_attributes a a ≡ true
attributes_self a =
    let s = alike_self in
    and_true _ _ (and_true _ _ (s a.standout) (and_true _ _ (s a.underline) (s a.reverse)))
    (and_true _ _ (s a.blink) (and_true _ _ (s a.dim) (and_true _ _ (s a.bold) (s a.invisible))))

brush_self : (a : Brush) → same_brush a a ≡ true
brush_self a = and_true _ _ (attributes_self a.attributes) (and_true _ _ (color_self a.foreground) (color_self a.background))

-- the test finds equal brushes the same
pub brush_known : (a b : Brush) → a ≡ b → same_brush a b ≡ true
brush_known a b e = subst (λ (x : Brush). same_brush a x ≡ true) e (brush_self a)

pub byte_as_known : (x y : Ink) (b : ℕ) → x ≡ record y { byte = b } → byte_as x y ≡ Some b
byte_as_known x y b e =
    let same : (alike y.graphic y.graphic && same_brush y.brush y.brush) ≡ true = and_true _ _ (alike_self y.graphic) (brush_self y.brush) in
    subst (λ (z : Ink). byte_as z y ≡ Some b) (sym e) (ap (λ (t : Bool). if t then Some b else None) same)
