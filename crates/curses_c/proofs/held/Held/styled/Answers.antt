use Rattle.std.proofs.Common.{refl}
use Rattle.cur_scripts.specs.declared.calls.Call.TheVariants.{Attributes}
use Rattle.curses_c.proofs.Alone.{makes_alone}
use Rattle.curses_c.proofs.held.Held.styled.Goals as goal

pub returns-clause-makes : goal.returns-clause-makes
returns-clause-makes c =
    let x = c.attributes in
    makes_alone c.args.self.now (Attributes c.args.call c.args.window c.args.attrs) x.result x.new.self _ (record { most = c.cells_bounded.ensures.most; none = c.cells_bounded.ensures.none }) refl refl x.ensures
