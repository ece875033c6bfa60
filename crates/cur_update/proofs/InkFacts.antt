-- Every ink of a virtual screen can be shown.
use Rattle.std.proofs.Common.{◌≡◌, ℕ, ◌+◌, ◌-◌, ◌<◌, ◌&&◌, ◌==◌, Bool, true, false, nat_lt, nat_le, cond, if◌then◌else◌, slice_index_or, List, [], ◌∷◌, Option, Some, None, refl, sym, ap, subst, ◌∙◌, arith}
use Rattle.std.proofs.lemmas.Bool.{ltb-true, leb-true}
use Rattle.std.proofs.lemmas.List.FromFn.{get_or-map-range_with_len}
use Rattle.vt_term.specs.Color.{Color, color}
use Rattle.vt_term.specs.Look.{IsPrinted}
use Rattle.ti_rows.specs.declared.rows.Row.TheVariants.{Op, Smacs}
use Rattle.ti_conforms.specs.Alternates.{Plain, letters, found, or_letter, is_printed, shown, in_plain_set}
use Rattle.ti_conforms.specs.declared.partners.Character.{Character as KnownCharacter}
use Rattle.cur_drawing.specs.Cells.{Content, IsCell}
use Rattle.cur_screens.specs.VirtualScreen.{Screen, colors_at}
use Rattle.cur_screens.specs.declared.virtual_screen.Colors.{Colors}
use Rattle.ti_conforms.specs.Certified.{Table, has}
use Rattle.cur_steps.specs.Inks.{IsInk, CanShow, blank_ink}
use Rattle.cur_steps.specs.declared.inks.Ink.{Ink}
use Rattle.cur_update.specs.declared.inks.Means.{Means}
use Rattle.cur_update.specs.Inks.{has_bit, alternate_of, alternates_of, brush_of, color_of, partner_in, character_of, means_of, ink_of, ink_at, ink_at_with, content_at, known_as, printed_cell}

both : (a b : Bool) → (a && b) ≡ true → (a ≡ true) × (b ≡ true)
both true b h = (refl, h)
both false b h = (h, absurd (cc))

printed : (b : ℕ) → is_printed b ≡ true → IsPrinted b
printed b h = let p = both (nat_le 32 b) (nat_le b 126) h in (leb-true 32 b p.0, leb-true b 126 p.1)

abbrev all_printed : List Plain → Bool
all_printed [] = true
all_printed (p ∷ ps) = is_printed p.byte && all_printed ps

either : (t : Bool) (b letter : ℕ) (rest : Option ℕ) → IsPrinted b → IsPrinted (or_letter rest letter) → IsPrinted (or_letter (cond t (Some b) rest) letter)
either true b letter rest h k = h
either false b letter rest h k = k

found_printed : (ps : List Plain) (letter : ℕ) → all_printed ps ≡ true → IsPrinted letter → IsPrinted (or_letter (found ps letter) letter)
found_printed [] letter h k = k
found_printed (p ∷ ps) letter h k =
    let q = both (is_printed p.byte) (all_printed ps) h in
    either (p.letter == letter) p.byte letter (found ps letter) (printed p.byte q.0) (found_printed ps letter q.1 k)

partner_printed : (g : Bool) (p : Option ℕ) (letter : ℕ) → IsPrinted letter → IsPrinted (shown (partner_in g p) letter).byte
partner_printed false p letter h = found_printed letters letter refl h
partner_printed true None letter h = found_printed letters letter refl h
partner_printed true (Some p) letter h = decide (is_printed p) refl
  where
    decide : (b : Bool) → is_printed p ≡ b → IsPrinted (shown (cond b (Some p) None) letter).byte
    decide true e = printed p e
    decide false e = found_printed letters letter refl h

character_printed : (g : Bool) (partners : ℕ → Option ℕ) (c : Content) → IsPrinted c.byte → IsPrinted (character_of g partners c).byte
character_printed g partners c h = decide (has_bit c.attrs 128)
  where
    decide : (b : Bool) → IsPrinted (cond b (shown (partner_in g (partners c.byte)) c.byte) (in_plain_set c.byte)).byte
    decide true = partner_printed g (partners c.byte) c.byte h
    decide false = h

graphic_off : (g : Bool) (partners : ℕ → Option ℕ) (c : Content) → g ≡ false → (character_of g partners c).graphic ≡ false
graphic_off g partners c h = subst (λ (b : Bool). (character_of b partners c).graphic ≡ false) (sym h) (decide (has_bit c.attrs 128))
  where
    decide : (b : Bool) → (cond b (shown None c.byte) (in_plain_set c.byte)).graphic ≡ false
    decide true = refl
    decide false = refl

colorless : (b : Bool) (o : Option ℕ) → b ≡ false → color_of b o ≡ None
colorless b None h = refl
colorless b (Some n) h = ap (λ (t : Bool). cond {A = Option Color} t (Some (color n)) None) h

can_ink : (t : Table) (partners : ℕ → Option ℕ) (p : Colors) (c : Content) → IsPrinted c.byte → IsInk t (ink_of t partners p c)
can_ink t partners p c h = record {
  printed = character_printed (has t Smacs) partners c h;
  colored = record { foreground = colorless (has t Op) p.foreground; background = colorless (has t Op) p.background };
  set = graphic_off (has t Smacs) partners c;
}

blank_can : (t : Table) → IsInk t blank_ink
blank_can t = record {
  printed = (omega arith, omega arith);
  colored = record { foreground = λ h. refl; background = λ h. refl };
  set = λ h. refl;
}

pub can_show : (t : Table) (partners : ℕ → Option ℕ) (v : Screen) → ((i j : ℕ) → i < v.rows → j < v.cols → IsCell (content_at v i j)) → CanShow t (ink_at t partners v)
can_show t partners v cells i j = decide (nat_lt i v.rows && nat_lt j v.cols) refl
  where
    here : Ink
    here = ink_of t partners (colors_at v (content_at v i j).pair) (content_at v i j)

    decide : (b : Bool) → (nat_lt i v.rows && nat_lt j v.cols) ≡ b → IsInk t (cond b here blank_ink)
    decide true e =
        let q = both (nat_lt i v.rows) (nat_lt j v.cols) e in
        can_ink t partners (colors_at v (content_at v i j).pair) (content_at v i j) (cells i j (ltb-true i v.rows q.0) (ltb-true j v.cols q.1)).printed
    decide false e = blank_can t

-- what was looked up is so of each letter
character_found : (g : Bool) (partners : ℕ → Option ℕ) (c : Content) → IsPrinted c.byte → (on : Bool)
    → (if on then slice_index_or (alternates_of g partners) (c.byte - 32) (known_as (in_plain_set 32)) else known_as (in_plain_set c.byte))
    ≡ known_as (if on then shown (partner_in g (partners c.byte)) c.byte else in_plain_set c.byte)
character_found g partners c (least, most) true =
    let letter : 32 + (c.byte - 32) ≡ c.byte = omega (arith, least) in
    get_or-map-range_with_len (alternate_of g partners) 0 95 (c.byte - 32) (c.byte - 32) (known_as (in_plain_set 32)) (omega (arith, least, most)) (omega arith)
    ∙ ap (λ (n : ℕ). known_as (shown (partner_in g (partners n)) n)) letter
character_found g partners c h false = refl

-- a screen as it is printed, by what was looked up of the certificate's entry
pub as_table : (m : Means) (t : Table) (partners : ℕ → Option ℕ) (v : Screen) → m ≡ means_of t partners → ((i j : ℕ) → i < v.rows → j < v.cols → IsCell (content_at v i j))
    → ink_at_with m v ≡ ink_at t partners v
as_table m t partners v e cells = ap (λ (x : Means). ink_at_with x v) e ∙ (λ k i j. looked_up i j k)
  where
    looked_up : (i j : ℕ) → ink_at_with (means_of t partners) v i j ≡ ink_at t partners v i j
    looked_up i j = decide (nat_lt i v.rows && nat_lt j v.cols) refl
      where
        c : Content
        c = content_at v i j

        decide : (b : Bool) → (nat_lt i v.rows && nat_lt j v.cols) ≡ b
            → cond b (printed_cell (means_of t partners) v c) blank_ink ≡ cond b (ink_of t partners (colors_at v c.pair) c) blank_ink
        decide true e =
            let q = both (nat_lt i v.rows) (nat_lt j v.cols) e in
            ap (λ (x : KnownCharacter). record { byte = x.byte; graphic = x.graphic; brush = brush_of (has t Op) (colors_at v c.pair) c })
            (character_found (has t Smacs) partners c (cells i j (ltb-true i v.rows q.0) (ltb-true j v.cols q.1)).printed (has_bit c.attrs 128))
        decide false e = refl
