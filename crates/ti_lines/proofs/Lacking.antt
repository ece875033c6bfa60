-- The words of a line have no byte below 43: neither LF nor a space.
use Rattle.std.proofs.Common.{◌≡◌, ◌<◌, ◌+◌, ◌==◌, ◌&&◌, ℕ, Bool, true, false, not, if◌then◌else◌, List, [], ◌∷◌, ◌++◌, Option, Some, None, refl, ap, ◌∙◌, arith}
use Rattle.std.specs.Prelude.{nat_le}
use Rattle.std.specs.Fmt.{decimal}
use Rattle.std.specs.List.{list_all}
use Rattle.std.proofs.lemmas.Bool.{agree_below, agree_below_at, and_from, and_parts}
use Rattle.std.proofs.lemmas.Bool.Decides.{nat_tests}
use Rattle.std.proofs.lemmas.List.Folds.{list_all-append}
use Rattle.hex.specs.Hex.{IsBytes}
use Rattle.vt_effects.specs.declared.effects.Move.{Move}
use Rattle.vt_effects.specs.declared.effects.Move.TheVariants as moves
use Rattle.vt_effects.specs.declared.effects.Erasure.{Erasure}
use Rattle.vt_effects.specs.declared.effects.Erasure.TheVariants as erasures
use Rattle.vt_effects.specs.declared.effects.Scroll.{Scroll}
use Rattle.vt_effects.specs.declared.effects.Scroll.TheVariants as scrolls
use Rattle.vt_effects.specs.declared.effects.Switch.{Switch}
use Rattle.vt_effects.specs.declared.effects.Switch.TheVariants as switches
use Rattle.vt_effects.specs.declared.effects.Ink.{Ink}
use Rattle.vt_effects.specs.declared.effects.Ink.TheVariants as inks
use Rattle.vt_effects.specs.declared.effects.Rendering.{Rendering}
use Rattle.vt_effects.specs.declared.effects.Sets.{Sets}
use Rattle.vt_effects.specs.declared.effects.Region.{Region}
use Rattle.vt_effects.specs.declared.effects.Effect.{Effect}
use Rattle.vt_term.specs.Color.{color_number}
use Rattle.ti_rows.specs.declared.rows.Row.{Row}
use Rattle.ti_rows.specs.Names.{order, name_in_order, name_of, capabilities}
use Rattle.ti_rows.proofs.NameFacts.{orders_small}
use Rattle.ti_lines.specs.Hex.{hex_text}
use Rattle.ti_lines.specs.EffectText.{row_name, col_name, look_name, ink_name, set_name, rows_name, nopend, all_name, tail_name, head_name, rest_name, next_name, up_name, down_name, show_name, hide_name, move_text, pending_text, erasure_text, scroll_text, switch_letter, mark_letter, ink_letter, is_dot, lettered, look_letters, look_text, ink_text, set_text, rows_text, visible_text, texts, words, nonempty, IsPlain, IsPlainMove, IsPlainErasure, IsPlainRegion}
use Rattle.ti_lines.proofs.TextCuts.{lacks, AllLack}
use Rattle.ti_lines.proofs.Digits.{decimal_lacks}
use Rattle.ti_lines.proofs.Hex.{encoded_each}

-- each byte is 43 or more
abbrev is_high : List ℕ → Bool
is_high text = list_all (λ b. nat_le 43 b) text

letter_lacks : (c b : ℕ) (text : List ℕ) → (b == c) ≡ false → lacks c text ≡ true → lacks c (b ∷ text) ≡ true
letter_lacks c b text h k = ap (λ (t : Bool). not t && lacks c text) h ∙ k

pub both_lack : (c : ℕ) (xs ys : List ℕ) → lacks c xs ≡ true → lacks c ys ≡ true → lacks c (xs ++ ys) ≡ true
both_lack c xs ys h k = list_all-append (λ b. not (b == c)) xs ys ∙ and_from (lacks c xs) (lacks c ys) h k

apart : (c b : ℕ) → c < 43 → nat_le 43 b ≡ true → (b == c) ≡ false
apart c b lt h = grind (arith, nat_tests)

high_lacks : (c : ℕ) (text : List ℕ) → c < 43 → is_high text ≡ true → lacks c text ≡ true
high_lacks c [] lt h = refl
high_lacks c (b ∷ text) lt h =
    let p = and_parts (nat_le 43 b) (is_high text) h in
    letter_lacks c b text (apart c b lt p.0) (high_lacks c text lt p.1)

-- a number after a mark
number_lacks : (c b n : ℕ) → c < 43 → nat_le 43 b ≡ true → n < 65536 → lacks c (b ∷ decimal n) ≡ true
number_lacks c b n lt h k = letter_lacks c b (decimal n) (apart c b lt h) (decimal_lacks c n (omega (arith, lt)) k)

-- ---- the words of an effect

move_lacks : (c : ℕ) (name : List ℕ) (m : Move) → c < 43 → is_high name ≡ true → IsPlainMove m → lacks c (move_text name m) ≡ true
move_lacks c name moves.Kept lt h p = refl
move_lacks c name (moves.To k) lt h p = both_lack c name (61 ∷ decimal k) (high_lacks c name lt h) (number_lacks c 61 k lt refl p)
move_lacks c name (moves.Back k) lt h p = both_lack c name (45 ∷ decimal k) (high_lacks c name lt h) (number_lacks c 45 k lt refl p.1)
move_lacks c name (moves.Forward k) lt h p = both_lack c name (43 ∷ decimal k) (high_lacks c name lt h) (number_lacks c 43 k lt refl p.1)

pending_lacks : (c : ℕ) (ends : Bool) → c < 43 → lacks c (pending_text ends) ≡ true
pending_lacks c true lt = high_lacks c nopend lt refl
pending_lacks c false lt = refl

erasure_lacks : (c : ℕ) (x : Erasure) → c < 43 → IsPlainErasure x → lacks c (erasure_text x) ≡ true
erasure_lacks c erasures.Nothing lt p = refl
erasure_lacks c erasures.Screen lt p = high_lacks c all_name lt refl
erasure_lacks c erasures.Tail lt p = high_lacks c tail_name lt refl
erasure_lacks c erasures.Head lt p = high_lacks c head_name lt refl
erasure_lacks c erasures.Rest lt p = high_lacks c rest_name lt refl
erasure_lacks c (erasures.Next n) lt p = both_lack c next_name (decimal n) (high_lacks c next_name lt refl) (decimal_lacks c n (omega (arith, lt)) p.1)

scroll_lacks : (c : ℕ) (x : Scroll) → c < 43 → lacks c (scroll_text x) ≡ true
scroll_lacks c scrolls.Still lt = refl
scroll_lacks c scrolls.Up lt = high_lacks c up_name lt refl
scroll_lacks c scrolls.Down lt = high_lacks c down_name lt refl

letters_lack : (c : ℕ) (name letters : List ℕ) → c < 43 → is_high name ≡ true → is_high letters ≡ true → lacks c (lettered name letters) ≡ true
letters_lack c name letters lt h k = by_dots (list_all is_dot letters)
  where
    by_dots : (t : Bool) → lacks c (if t then [] else name ++ letters) ≡ true
    by_dots true = refl
    by_dots false = both_lack c name letters (high_lacks c name lt h) (high_lacks c letters lt k)

switch_high : (on off : ℕ) (s : Switch) → nat_le 43 on ≡ true → nat_le 43 off ≡ true → nat_le 43 (switch_letter on off s) ≡ true
switch_high on off switches.Kept h k = refl
switch_high on off switches.On h k = h
switch_high on off switches.Off h k = k

mark_high : (s : Switch) → nat_le 43 (mark_letter s) ≡ true
mark_high s = switch_high 49 48 s refl refl

ink_high : (i : Ink) → nat_le 43 (ink_letter i) ≡ true
ink_high inks.Kept = refl
ink_high inks.Default = refl
ink_high (inks.Color c) = from_zero (color_number c)
  where
    from_zero : (n : ℕ) → nat_le 43 (48 + n) ≡ true
    from_zero n = grind (arith, nat_tests)

marks_high : (r : Rendering) → is_high (look_letters r) ≡ true
marks_high r =
    and_from _ _ (mark_high r.bold) (and_from _ _ (mark_high r.faint) (and_from _ _ (mark_high r.underline)
    (and_from _ _ (mark_high r.blink) (and_from _ _ (mark_high r.negative) (and_from _ _ (mark_high r.concealed) refl)))))

look_lacks : (c : ℕ) (r : Rendering) → c < 43 → lacks c (look_text r) ≡ true
look_lacks c r lt = letters_lack c look_name (look_letters r) lt refl (marks_high r)

inks_lack : (c : ℕ) (r : Rendering) → c < 43 → lacks c (ink_text r) ≡ true
inks_lack c r lt =
    letters_lack c ink_name (ink_letter r.foreground ∷ ink_letter r.background ∷ []) lt refl
    (and_from _ _ (ink_high r.foreground) (and_from _ _ (ink_high r.background) refl))

sets_lack : (c : ℕ) (x : Sets) → c < 43 → lacks c (set_text x) ≡ true
sets_lack c x lt =
    letters_lack c set_name (switch_letter 48 66 x.g0_graphic ∷ switch_letter 48 66 x.g1_graphic ∷ switch_letter 79 73 x.shifted_out ∷ []) lt refl
    (and_from _ _ (switch_high 48 66 x.g0_graphic refl refl) (and_from _ _ (switch_high 48 66 x.g1_graphic refl refl)
    (and_from _ _ (switch_high 79 73 x.shifted_out refl refl) refl)))

region_lacks : (c : ℕ) (o : Option Region) → c < 43 → IsPlainRegion o → lacks c (rows_text o) ≡ true
region_lacks c None lt p = refl
region_lacks c (Some r) lt p =
    both_lack c rows_name (decimal r.top ++ 44 ∷ decimal r.bottom) (high_lacks c rows_name lt refl)
    (both_lack c (decimal r.top) (44 ∷ decimal r.bottom) (decimal_lacks c r.top (omega (arith, lt)) p.0) (number_lacks c 44 r.bottom lt refl p.1))

visible_lacks : (c : ℕ) (s : Switch) → c < 43 → lacks c (visible_text s) ≡ true
visible_lacks c switches.Kept lt = refl
visible_lacks c switches.On lt = high_lacks c show_name lt refl
visible_lacks c switches.Off lt = high_lacks c hide_name lt refl

texts_lack : (c : ℕ) (e : Effect) → c < 43 → IsPlain e → AllLack c (texts e)
texts_lack c e lt p = (
  move_lacks c row_name e.row lt refl p.row,
  (
    move_lacks c col_name e.col lt refl p.col,
    (
      pending_lacks c e.ends_pending lt,
      (
        erasure_lacks c e.erasure lt p.erasure,
        (
          scroll_lacks c e.scroll lt,
          (look_lacks c e.rendition lt, (inks_lack c e.rendition lt, (sets_lack c e.charset lt, (region_lacks c e.margins lt p.margins, (visible_lacks c e.visible lt, tt))))),
        ),
      ),
    ),
  ),
)

some_lack : (c : ℕ) (ws : List (List ℕ)) → AllLack c ws → AllLack c (nonempty ws)
some_lack c [] h = tt
some_lack c ([] ∷ ws) h = some_lack c ws h.1
some_lack c ((b ∷ bytes) ∷ ws) h = (h.0, some_lack c ws h.1)

pub words_lack : (c : ℕ) (e : Effect) → c < 43 → IsPlain e → AllLack c (words e)
words_lack c e lt p = some_lack c (texts e) (texts_lack c e lt p)

-- ---- the other words

hex_high : (bytes : List ℕ) → IsBytes bytes → is_high (hex_text bytes) ≡ true
hex_high [] h = refl
hex_high (b ∷ bytes) h = encoded_each (λ b. nat_le 43 b) refl (b ∷ bytes) h

pub hex_lacks : (c : ℕ) (bytes : List ℕ) → c < 43 → IsBytes bytes → lacks c (hex_text bytes) ≡ true
hex_lacks c bytes lt h = high_lacks c (hex_text bytes) lt (hex_high bytes h)

each_name_high : agree_below (λ n. is_high (name_in_order n)) (λ _. true) capabilities ≡ true
unfolding name_in_order
each_name_high = refl

pub name_lacks : (c : ℕ) (row : Row) → c < 43 → lacks c (name_of row) ≡ true
name_lacks c row lt = high_lacks c (name_of row) lt (agree_below_at (λ n. is_high (name_in_order n)) (λ _. true) capabilities (order row) each_name_high (orders_small row))
