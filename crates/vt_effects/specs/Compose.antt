-- Two effects, one after the other, as one.
use Rattle.std.specs.Prelude.{ℕ, ◌+◌, ◌≡◌, ◌&&◌, ◌||◌, nat_le, Bool, true, Option, None, Some, if◌then◌else◌}
use Rattle.std.specs.Option.{option_and_then, option_map}
use Rattle.vt_term.specs.Function as functions
use Rattle.vt_term.specs.Screen.{Screen, IsScreen}
use Rattle.vt_effects.specs.declared.effects.Move.{Move}
use Rattle.vt_effects.specs.declared.effects.Move.TheVariants as moves
use Rattle.vt_effects.specs.declared.effects.Erasure.{Erasure}
use Rattle.vt_effects.specs.declared.effects.Erasure.TheVariants as erasures
use Rattle.vt_effects.specs.declared.effects.Scroll.{Scroll}
use Rattle.vt_effects.specs.declared.effects.Scroll.TheVariants as scrolls
use Rattle.vt_effects.specs.declared.effects.Switch.{Switch}
use Rattle.vt_effects.specs.declared.effects.Switch.TheVariants as switches
use Rattle.vt_effects.specs.declared.effects.Ink.{Ink}
use Rattle.vt_effects.specs.declared.effects.Ink.TheVariants as inks
use Rattle.vt_effects.specs.declared.effects.Rendering.{Rendering}
use Rattle.vt_effects.specs.declared.effects.Sets.{Sets}
use Rattle.vt_effects.specs.declared.effects.Region.{Region}
use Rattle.vt_effects.specs.declared.effects.Effect.{Effect}
use Rattle.vt_effects.specs.Effect.{applied, Applies}
use Rattle.vt_effects.specs.Record.{and_back, and_forward, cells_erased, screen_erased, display_erased, keeps_margins}
use Rattle.vt_effects.specs.Record.{is_still, keeps_background}

-- whether a move back, or forward, by n can follow the move: it must not lead above the first row or left of the
-- first column, and its number must be at most 65535
abbrev pub goes_back : Move → ℕ → Bool
goes_back (moves.To k) n = nat_le n k
goes_back (moves.Back k) n = nat_le (k + n) 65535
goes_back _ n = true

abbrev pub goes_forward : Move → ℕ → Bool
goes_forward (moves.To k) n = nat_le (k + n) 65535
goes_forward (moves.Forward k) n = nat_le (k + n) 65535
goes_forward _ n = true

abbrev pub then_moved : Move → Move → Option Move
then_moved m moves.Kept = Some m
then_moved m (moves.To k) = Some (moves.To k)
then_moved m (moves.Back n) = if goes_back m n then Some (and_back m n) else None
then_moved m (moves.Forward n) = if goes_forward m n then Some (and_forward m n) else None

abbrev pub then_switched : Switch → Switch → Switch
then_switched a switches.Kept = a
then_switched a switches.On = switches.On
then_switched a switches.Off = switches.Off

abbrev pub then_inked : Ink → Ink → Ink
then_inked a inks.Kept = a
then_inked a inks.Default = inks.Default
then_inked a (inks.Color c) = inks.Color c

abbrev pub then_rendered : Rendering → Rendering → Rendering
then_rendered a b = record {
  bold = then_switched a.bold b.bold;
  faint = then_switched a.faint b.faint;
  underline = then_switched a.underline b.underline;
  blink = then_switched a.blink b.blink;
  negative = then_switched a.negative b.negative;
  concealed = then_switched a.concealed b.concealed;
  foreground = then_inked a.foreground b.foreground;
  background = then_inked a.background b.background;
}

abbrev pub then_designated : Sets → Sets → Sets
then_designated a b = record {
  g0_graphic = then_switched a.g0_graphic b.g0_graphic;
  g1_graphic = then_switched a.g1_graphic b.g1_graphic;
  shifted_out = then_switched a.shifted_out b.shifted_out;
}

abbrev pub then_margins : Option Region → Option Region → Option Region
then_margins a None = a
then_margins a (Some r) = Some r

-- an effect, and then an erasure around its cursor
abbrev pub then_erased : Effect → Erasure → Option Effect
then_erased e erasures.Nothing = Some e
then_erased e erasures.Screen = screen_erased e
then_erased e erasures.Rest = display_erased functions.ToEnd e
then_erased e erasures.Tail = cells_erased erasures.Tail e
then_erased e erasures.Head = cells_erased erasures.Head e
then_erased e (erasures.Next n) = cells_erased (erasures.Next n) e

-- whether the first effect and its cells allow a scroll: of the start's region, with the start's background, and only
-- once
abbrev pub scrolls_first : Effect → Effect → Bool
scrolls_first first here = keeps_margins first.margins && (keeps_background first && is_still here.scroll)

abbrev pub then_scrolled : Effect → Effect → Scroll → Option Effect
then_scrolled first here scrolls.Still = Some here
then_scrolled first here x = if scrolls_first first here then Some (record here { scroll = x }) else None

-- the first effect with the cells of both
abbrev pub both_cells : Effect → Effect → Option Effect
both_cells a b = option_and_then (λ here. then_scrolled a here b.scroll) (then_erased a b.erasure)

-- the effect of both, given its cells and moves
abbrev pub both_else : Effect → Effect → Effect → Move → Move → Effect
both_else a b cells row col = record {
  row = row;
  col = col;
  ends_pending = a.ends_pending || b.ends_pending;
  erasure = cells.erasure;
  scroll = cells.scroll;
  rendition = then_rendered a.rendition b.rendition;
  charset = then_designated a.charset b.charset;
  margins = then_margins a.margins b.margins;
  visible = then_switched a.visible b.visible;
}

abbrev pub both_moved : Effect → Effect → Effect → Option Effect
both_moved a b cells =
    option_and_then (λ row. option_map (λ col. both_else a b cells row col) (then_moved a.col b.col))
    (then_moved a.row b.row)

abbrev pub composed : Effect → Effect → Option Effect
composed a b = option_and_then (λ cells. both_moved a b cells) (both_cells a b)

-- applying c is applying a and then b
pub record Joins (a b c : Effect) (s : Screen) : Type 0 where
  pub applies : Applies c s
  pub same : applied b (applied a s) ≡ applied c s

-- c is a and then b on every screen to which both apply
abbrev pub Composes : Effect → Effect → Effect → Type 0
Composes a b c = (s : Screen) → IsScreen s → Applies a s → Applies b (applied a s) → Joins a b c s
