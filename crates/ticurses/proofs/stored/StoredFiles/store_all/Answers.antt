use Rattle.ticurses.proofs.Storings.{stored_unknown}
use Rattle.ticurses.proofs.stored.StoredFiles.store_all.Goals as goal

pub returns-in-Ok-clause-stored : goal.returns-in-Ok-clause-stored
returns-in-Ok-clause-stored g c = stored_unknown c.commit.result c.args.new_files.now
