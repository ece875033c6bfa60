use Rattle.std.proofs.Common.{refl}
use Rattle.cur_scripts.specs.declared.calls.Call.TheVariants.{Addstr}
use Rattle.curses_c.proofs.Alone.{makes_alone}
use Rattle.curses_c.proofs.held.Held.addstr.Goals as goal

pub returns-clause-makes : goal.returns-clause-makes
returns-clause-makes c =
    let x = c.addstr in
    makes_alone c.args.self.now (Addstr c.args.window c.args.text.now) x.result x.new.self _ (record { most = c.cells_bounded.ensures.most; none = c.cells_bounded.ensures.none }) refl refl x.ensures
