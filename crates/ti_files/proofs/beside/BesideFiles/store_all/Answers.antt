use Rattle.ti_files.specs.Words.{texts_of}
use Rattle.ti_files.proofs.WrappedStorings.{stored_beside}
use Rattle.ti_files.proofs.beside.BesideFiles.store_all.Goals as goal

pub returns-clause-stored : goal.returns-clause-stored
returns-clause-stored g c =
    stored_beside c.store_all.result (texts_of c.args.self.now.paths.now) (g.F.Files.holds c.args.self.now.files.now) (g.F.Files.holds c.store_all.new.self) c.args.new_files.now c.store_all.ensures.stored
