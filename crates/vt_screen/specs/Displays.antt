-- (Serves the code alone.) The screen that the fields of a display hold.
use Rattle.vt_screen.specs.Screen.{Screen}
use Rattle.vt_screen.specs.declared.displays.Display.TheInside.{Inside}

abbrev pub screen_of : Inside → Screen
screen_of d = record {
  rows = d.size.rows;
  cols = d.size.cols;
  grid = d.grid;
  row = d.row;
  col = d.col;
  pending = d.pending;
  rendition = d.pen;
  charset = d.charset;
  top = d.top;
  bottom = d.bottom;
  autowrap = d.autowrap;
  inserting = d.inserting;
  visible = d.visible;
}
