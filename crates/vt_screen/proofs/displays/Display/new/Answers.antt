use Rattle.std.proofs.Common.{refl}
use Rattle.vt_screen.proofs.Resets.{begun_is_screen}
use Rattle.vt_screen.proofs.displays.Display.new.Goals as goal

pub invariant_of-result : goal.invariant_of-result
invariant_of-result c = begun_is_screen _ c.args.size.limits (rw (c.in_ok-grid.ensures, c.blank-blank.ensures, c.plain.ensures) refl) refl refl refl refl
