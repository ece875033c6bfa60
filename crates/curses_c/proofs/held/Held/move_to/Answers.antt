use Rattle.std.proofs.Common.{refl}
use Rattle.std.proofs.lemmas.Int.{to_z-of_z}
use Rattle.cur_scripts.specs.declared.calls.Call.TheVariants.{Numbers}
use Rattle.cur_scripts.specs.declared.groups.NumbersCall.TheVariants.{Move}
use Rattle.curses_c.proofs.Alone.{makes_alone}
use Rattle.curses_c.proofs.held.Held.move_to.Goals as goal

pub returns-clause-makes : goal.returns-clause-makes
returns-clause-makes c =
    let x = c.move_to in
    makes_alone c.args.self.now (Numbers Move c.args.window c.args.row c.args.col) x.result x.new.self _ (record { most = c.cells_bounded.ensures.most; none = c.cells_bounded.ensures.none }) refl refl (simp (to_z-of_z, c.ranges.row, c.ranges.col) at x.ensures)
