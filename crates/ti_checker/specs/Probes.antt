-- The screen that a probe describes.
use Rattle.std.specs.Prelude.{ℕ, ◌<◌, ◌≤◌, true, false}
use Rattle.vt_term.specs.Look.{Look, plain}
use Rattle.vt_term.specs.Grid.{uniform}
use Rattle.vt_term.specs.Screen.{Screen}
use Rattle.ti_rows.specs.Wants.{marked}
use Rattle.ti_checker.specs.declared.probes.Probe.{Probe}

-- a character of default rendition
abbrev pub filled_with : ℕ → Look
filled_with b = record { byte = b; graphic = false; rendition = plain }

abbrev pub screen_of : ℕ → ℕ → Probe → Screen
screen_of rows cols p = record {
  rows = rows;
  cols = cols;
  grid = uniform rows cols (filled_with p.fill);
  row = p.row;
  col = p.col;
  pending = p.pending;
  rendition = marked p.look p.foreground p.background;
  charset = p.charset;
  top = p.top;
  bottom = p.bottom;
  autowrap = true;
  inserting = false;
  visible = p.visible;
}

-- (Serves the code alone.) the probe's character isn't a space, and its margins lie within `rows`
pub record CanShow (rows : ℕ) (p : Probe) : Type 0 where
  pub fill : 33 ≤ p.fill
  pub bottom : p.bottom < rows
