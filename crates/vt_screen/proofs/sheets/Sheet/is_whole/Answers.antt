use Rattle.std.proofs.Common.{ap, length, arith}
use Rattle.vt_screen.proofs.Rings.{length-rotated_up}
use Rattle.vt_screen.proofs.sheets.Sheet.is_whole.Goals as goal

pub is_all-requires : goal.is_all-requires
is_all-requires c = omega (arith, c.requires, ap length c.lines.ensures, c.self.invariant, ap length c.self.view_is, length-rotated_up c.self.inside.start c.self.inside.grid (omega (arith, c.self.invariant)))

pub returns-clause-all : goal.returns-clause-all
returns-clause-all c = λ h. omega (arith, c.is_all.ensures.all h, ap length c.lines.ensures, c.self.invariant, ap length c.self.view_is, length-rotated_up c.self.inside.start c.self.inside.grid (omega (arith, c.self.invariant)))
