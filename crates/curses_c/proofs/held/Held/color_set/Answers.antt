use Rattle.std.proofs.Common.{refl}
use Rattle.std.proofs.lemmas.Int.{to_z-of_z}
use Rattle.cur_scripts.specs.declared.calls.Call.TheVariants.{Number}
use Rattle.cur_scripts.specs.declared.groups.NumberCall.TheVariants.{ColorSet}
use Rattle.curses_c.proofs.Alone.{makes_alone}
use Rattle.curses_c.proofs.held.Held.color_set.Goals as goal

pub returns-clause-makes : goal.returns-clause-makes
returns-clause-makes c =
    let x = c.color_set in
    makes_alone c.args.self.now (Number ColorSet c.args.window c.args.pair) x.result x.new.self _ (record { most = c.cells_bounded.ensures.most; none = c.cells_bounded.ensures.none }) refl refl (simp (to_z-of_z, c.ranges.pair) at x.ensures)
