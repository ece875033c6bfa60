use Rattle.std.proofs.Common.{◌≡◌, [], ap, length, arith, refl}
use Rattle.std.proofs.lemmas.List.{get_or_read}
use Rattle.grids.proofs.grids.Grid.write.Goals as goal

pub returns : goal.returns
returns g c =
    let same : length c.self.inside.lines.items ≡ length c.args.self.now = ap length c.self.view_is in
    rw (← c.self.view_is, c.write.ensures, get_or_read c.self.inside.lines.items c.args.row c.index_mut.result.now (omega arith) c.index_mut.ensures.value []) refl
