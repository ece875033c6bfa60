-- Cells without attributes, in default colors.
use Rattle.std.proofs.Common.{◌≡◌, ◌==◌, ◌&&◌, ◌-◌, ℕ, Bool, true, false, not, if◌then◌else◌, Option, None, slice_index_or, refl, sym, ap, subst, ◌∙◌}
use Rattle.cur_drawing.specs.Cells.{Content}
use Rattle.cur_screens.specs.declared.virtual_screen.Colors.{Colors}
use Rattle.cur_screens.specs.VirtualScreen.{Screen, colors_at}
use Rattle.cur_steps.specs.Inks.{alike, same, same_brush, blank_ink}
use Rattle.cur_steps.specs.declared.inks.Ink.{Ink}
use Rattle.cur_update.specs.declared.inks.Means.{Means}
use Rattle.ti_conforms.specs.Alternates.{in_plain_set}
use Rattle.ti_conforms.specs.declared.partners.Character.{Character as KnownCharacter}
use Rattle.cur_update.specs.Inks.{IsBare, brush_of, has_bit, ink_with, is_other, known_as, plain_ink, printed_cell}

pub plain_is : (m : Means) (f b : Option ℕ) (c : Content) → c.attrs ≡ 0 → f ≡ None → b ≡ None
    → ink_with m (record { foreground = f; background = b }) c ≡ plain_ink c.byte
plain_is m f b c attrs no_f no_b =
    let ink : Option ℕ → Option ℕ → ℕ → Ink = λ f b a. ink_with m (record { foreground = f; background = b }) (record { byte = c.byte; attrs = a; pair = c.pair }) in
    ap (ink f b) attrs ∙ ap (λ (x : Option ℕ). ink x b 0) no_f ∙ ap (λ (x : Option ℕ). ink None x 0) no_b

pub space_told : (m : Means) (p : Colors) (c : Content) → ink_with m p c ≡ plain_ink c.byte → (c.byte == 32) ≡ same (ink_with m p c) blank_ink
space_told m p c e = subst (λ (x : Ink). (c.byte == 32) ≡ same x blank_ink) (sym e) (decide (c.byte == 32))
  where
    decide : (b : Bool) → b ≡ (b && same (plain_ink 32) blank_ink)
    decide true = refl
    decide false = refl

-- a cell of the plain set with another character is printed differently
pub other_told : (m : Means) (p : Colors) (c : Content) (byte : ℕ) (ink : Ink) → is_other c byte ≡ true → same (ink_with m p c) (record ink { byte = byte }) ≡ false
other_told m p c byte ink is = by_set (has_bit c.attrs 128) refl is
  where
    character : Bool → KnownCharacter
    character a = if a then slice_index_or m.alternates (c.byte - 32) (known_as (in_plain_set 32)) else known_as (in_plain_set c.byte)

    others : Bool → Bool
    others a = alike (character a).graphic ink.graphic && same_brush (brush_of m.colored p c) ink.brush

    by_byte : (b : Bool) → (c.byte == byte) ≡ b → not b ≡ true → ((c.byte == byte) && others false) ≡ false
    by_byte true e off = absurd (cc)
    by_byte false e told = ap (λ (b : Bool). b && others false) e

    by_set : (a : Bool) → has_bit c.attrs 128 ≡ a → (not a && not (c.byte == byte)) ≡ true → same (ink_with m p c) (record ink { byte = byte }) ≡ false
    by_set true e off = absurd (cc)
    by_set false e told = ap (λ (a : Bool). ((character a).byte == byte) && others a) e ∙ by_byte (c.byte == byte) refl told

pub told_other : (b shown : Bool) → shown ≡ not b → shown ≡ false → b ≡ true
told_other true shown is off = refl
told_other false shown is off = absurd (let clash : true ≡ false = sym is ∙ off in cc)

off_told : (t : Bool) → not t ≡ false → t ≡ true
off_told true e = refl
off_told false e = absurd (cc)

-- a cell without attributes, of pair 0, which has default colors
pub bare_told : (m : Means) (v : Screen) (c : Content) (byte : ℕ) (ink : Ink) → (colors_at v 0).foreground ≡ None → (colors_at v 0).background ≡ None
    → same blank_ink (record ink { byte = 32 }) ≡ true → IsBare c → is_other c byte ≡ false → same (printed_cell m v c) (record ink { byte = byte }) ≡ true
bare_told m v c byte ink no_f no_b plain (attrs, pair) told =
    let has = off_told (c.byte == byte) (sym (ap (λ (a : ℕ). not (has_bit a 128) && not (c.byte == byte)) attrs) ∙ told) in
    ap (λ (n : ℕ). same (ink_with m (colors_at v n) c) (record ink { byte = byte })) pair
    ∙ (ap (λ (x : Ink). same x (record ink { byte = byte })) (plain_is m (colors_at v 0).foreground (colors_at v 0).background c attrs no_f no_b)
    ∙ (ap (λ (t : Bool). t && (alike blank_ink.graphic ink.graphic && same_brush blank_ink.brush ink.brush)) has ∙ plain))
