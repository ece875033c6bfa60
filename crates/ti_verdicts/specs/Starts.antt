-- The state of a terminal that a probe describes.
use Rattle.ti_checker.specs.declared.probes.Probe.{Probe}
use Rattle.vt_term.specs.Look.{Rendition}
use Rattle.vt_term.specs.Screen.{Settings}

-- the marks and the colors
abbrev pub rendition_of : Probe → Rendition
rendition_of probe = record {
  bold = probe.look.bold;
  faint = probe.look.faint;
  underline = probe.look.underline;
  blink = probe.look.blink;
  negative = probe.look.negative;
  concealed = probe.look.concealed;
  foreground = probe.foreground;
  background = probe.background;
}

-- the settings, that is, everything but the cells
abbrev pub settings_of : Probe → Settings
settings_of probe = record {
  row = probe.row;
  col = probe.col;
  pending = probe.pending;
  rendition = rendition_of probe;
  charset = probe.charset;
  top = probe.top;
  bottom = probe.bottom;
  visible = probe.visible;
}
