use Rattle.vt_screen.proofs.Erasures.{display_to_end_erased, display_from_start_erased, display_whole_erased}
use Rattle.vt_screen.proofs.displays.Display.erase_display.Goals as goal

pub returns-in-ToEnd : goal.returns-in-ToEnd
returns-in-ToEnd c = rw (c.erase_lines.ensures, c.erase_part.ensures, c.in-ToEnd.is, ← c.self.view_is) (display_to_end_erased _ c.self.invariant)

pub returns-in-FromStart : goal.returns-in-FromStart
returns-in-FromStart c = rw (c.erase_lines-in-FromStart.ensures, c.erase_part-in-FromStart.ensures, c.in-FromStart.is, ← c.self.view_is) (display_from_start_erased _ c.self.invariant)

pub returns-in-Whole : goal.returns-in-Whole
returns-in-Whole c = rw (c.erase_lines-in-Whole.ensures, c.in-Whole.is, ← c.self.view_is) (display_whole_erased _ c.self.invariant)
