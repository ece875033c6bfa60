-- Cells of a line that are printed alike.
use Rattle.std.proofs.Common.{◌≡◌, ℕ, ◌+◌, ◌-◌, ◌<◌, ◌≤◌, ◌&&◌, Bool, true, false, nat_lt, if◌then◌else◌, List, length, Some, get_or, slice_index_or, drop, sym, ap, subst, ◌∙◌, arith}
use Rattle.std.specs.List.{slice_range}
use Rattle.std.proofs.lemmas.Bool.Decides.{nat_tests}
use Rattle.std.proofs.lemmas.List.{get_or-drop, get_or-take}
use Rattle.ti_conforms.specs.Alternates.{in_plain_set}
use Rattle.ti_conforms.specs.declared.partners.Character.{Character as KnownCharacter}
use Rattle.cur_drawing.specs.Cells.{Content, space}
use Rattle.cur_drawing.specs.Grids.{line_at}
use Rattle.cur_screens.specs.VirtualScreen.{Screen, colors_at}
use Rattle.cur_steps.specs.Inks.{blank_ink, byte_as, same_brush}
use Rattle.cur_steps.proofs.Sameness.{brush_known, byte_as_known}
use Rattle.cur_steps.specs.Stretches.{IsTextLike}
use Rattle.cur_steps.specs.declared.inks.Brush.{Brush}
use Rattle.cur_steps.specs.declared.inks.Cells.{Cells}
use Rattle.cur_steps.specs.declared.inks.Ink.{Ink}
use Rattle.cur_update.specs.declared.inks.Means.{Means}
use Rattle.cur_update.specs.Inks.{has_bit, brush_of, ink_at_with, content_at, known_as, IsLineText, IsPlainLike, printed_cell}

below : (m n : ℕ) → m < n → nat_lt m n ≡ true
below m n lt = grind (arith, nat_tests)

-- a cell of a part of a line
pub part_cell : (line : List Content) (at end k : ℕ) → at + k < end → get_or (slice_range line at end) k space ≡ get_or line (at + k) space
part_cell line at end k lt = get_or-take (end - at) (drop at line) k space (omega (arith, lt)) ∙ get_or-drop at line k space

module _ (m : Means) (v : Screen) where
  plain_ink : ℕ → ℕ → ℕ → Ink
  plain_ink byte attrs pair = record { byte = byte; graphic = false; brush = brush_of m.colored (colors_at v pair) (record { byte = byte; attrs = attrs; pair = pair }) }

  plainly : (c : Content) → has_bit c.attrs 128 ≡ false → printed_cell m v c ≡ plain_ink c.byte c.attrs c.pair
  unfolding plain_ink
  plainly c e = ap (λ (f : Bool). (let x : KnownCharacter = (if f then slice_index_or m.alternates (c.byte - 32) (known_as (in_plain_set 32)) else known_as (in_plain_set c.byte)) in record { byte = x.byte; graphic = x.graphic; brush = brush_of m.colored (colors_at v c.pair) c })) e

  -- a cell of the screen is printed as it is
  pub inside : (i j : ℕ) → i < v.rows → j < v.cols → ink_at_with m v i j ≡ printed_cell m v (content_at v i j)
  inside i j li lj =
      let here : Ink = printed_cell m v (content_at v i j) in
      ap (λ (f : Bool). if f && nat_lt j v.cols then here else blank_ink) (below i v.rows li) ∙ ap (λ (f : Bool). if f then here else blank_ink) (below j v.cols lj)

  -- a cell of the plain set has the set and the brush of one with its attributes and pair
  pub like_cell : (c d : Content) (b : ℕ) → IsPlainLike c d b → Some b ≡ byte_as (printed_cell m v c) (printed_cell m v d)
  unfolding plain_ink
  like_cell c d b h =
      let plain : has_bit d.attrs 128 ≡ false = subst (λ (n : ℕ). has_bit n 128 ≡ false) h.attrs h.plain in
      let one : printed_cell m v c ≡ plain_ink c.byte c.attrs c.pair = plainly c h.plain in
      let other : printed_cell m v d ≡ plain_ink d.byte d.attrs d.pair = plainly d plain in
      let same : plain_ink c.byte c.attrs c.pair ≡ record (plain_ink d.byte d.attrs d.pair) { byte = b } =
      ap (λ (n : ℕ). plain_ink n c.attrs c.pair) (sym h.byte_is) ∙ ap (λ (n : ℕ). plain_ink b n c.pair) h.attrs ∙ ap (λ (n : ℕ). plain_ink b d.attrs n) h.pair in
      sym (byte_as_known (printed_cell m v c) (printed_cell m v d) b (one ∙ same ∙ ap (λ (x : Ink). record x { byte = b }) (sym other)))

  -- a cell has the brush of one with its attributes and pair
  pub like_brush : (c d : Content) → c.attrs ≡ d.attrs → c.pair ≡ d.pair → true ≡ same_brush (printed_cell m v c).brush (printed_cell m v d).brush
  like_brush c d attrs pair =
      let brush : ℕ → ℕ → Brush = λ a p. brush_of m.colored (colors_at v p) (record { byte = 0; attrs = a; pair = p }) in
      sym (brush_known (printed_cell m v c).brush (printed_cell m v d).brush (ap (λ (a : ℕ). brush a c.pair) attrs ∙ ap (λ (p : ℕ). brush d.attrs p) pair))

-- the text of a line's part is that of the cells of the screen
pub text_found : (m : Means) (v : Screen) (s : Cells) (like n : ℕ) (text : List ℕ) (cells : List Content) → s.row < v.rows → s.from + s.count ≤ v.cols → like < v.cols → cells ≡ line_at v.grid s.row
    → length (slice_range cells s.from (s.from + s.count)) ≡ s.count
    → IsLineText m v (slice_range cells s.from (s.from + s.count)) (slice_index_or cells like space) n text → IsTextLike (ink_at_with m v) s like n text
text_found m v s like n text cells row within lt is long h =
    let g = ink_at_with m v in
    let other : g s.row like ≡ printed_cell m v (slice_index_or cells like space) =
    inside m v s.row like row lt ∙ ap (λ (l : List Content). printed_cell m v (slice_index_or l like space)) (sym is) in
    let here : (k : ℕ) → k < s.count → g s.row (s.from + k) ≡ printed_cell m v (slice_index_or (slice_range cells s.from (s.from + s.count)) k space) =
    λ k less. inside m v s.row (s.from + k) row (omega (arith, less, within))
    ∙ ap (λ (l : List Content). printed_cell m v (slice_index_or l (s.from + k) space)) (sym is)
    ∙ sym (ap (printed_cell m v) (part_cell cells s.from (s.from + s.count) k (omega (arith, less)))) in
    record {
      within = omega (arith, h.within, long);
      room = h.room;
      characters = λ k less. (λ i. byte_as (here k (omega (arith, less, h.within, long)) i) (other i)) ∙ h.characters k less;
      end = λ less room. (λ i. byte_as (here n less i) (other i)) ∙ h.end (omega (arith, less, long)) room;
    }
