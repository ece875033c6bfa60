use Rattle.std.proofs.Common.{sym, subst, arith}
use Rattle.vt_screen.specs.Screen.{IsScreen}
use Rattle.vt_screen.proofs.Runs.{front_printed, all_printed_kept}
use Rattle.vt_screen.proofs.displays.Display.print_front.Goals as goal

pub invariant_of-self : goal.invariant_of-self
invariant_of-self c = rw (c.write.ensures, c.min-self-inside.ensures, c.is_graphic.ensures)
    (subst IsScreen (front_printed _ c.args.bytes.now c.characters_before-n.result c.self.invariant c.if-self.false c.characters_before-n.ensures.within (omega (arith, c.characters_before-n.ensures.few, c.self.invariant.columns c.self.inside.row c.self.invariant.row, c.self.invariant.col)))
    (all_printed_kept _ _ c.characters_before-n.ensures.printed c.self.invariant).screen)

pub returns-clause-screen : goal.returns-clause-screen
returns-clause-screen c = rw (← c.self.view_is, c.write.ensures, c.min-self-inside.ensures, c.is_graphic.ensures)
    (sym (front_printed _ c.args.bytes.now c.characters_before-n.result c.self.invariant c.if-self.false c.characters_before-n.ensures.within (omega (arith, c.characters_before-n.ensures.few, c.self.invariant.columns c.self.inside.row c.self.invariant.row, c.self.invariant.col))))
