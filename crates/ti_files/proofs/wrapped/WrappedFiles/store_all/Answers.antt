use Rattle.std.proofs.Common.{rules}
use Rattle.ti_files.proofs.WrappedStorings.{stored_joined}
use Rattle.ti_files.specs.Wrapped.{AreReadSo}
use Rattle.ti_files.proofs.wrapped.WrappedFiles.store_all.Goals as goal

pub returns-in-Ok-true-clause-stored : goal.returns-in-Ok-true-clause-stored
returns-in-Ok-true-clause-stored g c =
    let so : AreReadSo c.args.new_files.now = search rules in
    stored_joined c.store_all.result (g.F.Files.holds c.args.self.now.files.now) (g.F.Files.holds c.store_all.new.self) c.args.new_files.now c.store_all.ensures.stored so
