use Rattle.std.proofs.Common.{refl}
use Rattle.cur_scripts.specs.declared.calls.Call.TheVariants.{Cell}
use Rattle.cur_scripts.specs.declared.groups.CellCall.TheVariants.{Addch}
use Rattle.curses_c.proofs.Alone.{makes_alone}
use Rattle.curses_c.proofs.held.Held.addch.Goals as goal

pub returns-clause-makes : goal.returns-clause-makes
returns-clause-makes c =
    let x = c.addch in
    makes_alone c.args.self.now (Cell Addch c.args.window c.args.put) x.result x.new.self _ (record { most = c.cells_bounded.ensures.most; none = c.cells_bounded.ensures.none }) refl refl x.ensures
