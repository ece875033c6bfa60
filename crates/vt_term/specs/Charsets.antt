-- The character sets G0 and G1 after each function (ECMA-35, locking shifts and designation; VT100 user guide, SCS).
use Rattle.std.specs.Prelude.{true, false}
use Rattle.vt_term.specs.Function.{Function, ShiftOut, ShiftIn, Designate, G0, G1}
use Rattle.vt_term.specs.Screen.{Charset}

abbrev pub charset_after : Function → Charset → Charset
charset_after ShiftOut c = record c { shifted_out = true }
charset_after ShiftIn c = record c { shifted_out = false }
charset_after (Designate G0 graphic) c = record c { g0_graphic = graphic }
charset_after (Designate G1 graphic) c = record c { g1_graphic = graphic }
charset_after _ c = c
