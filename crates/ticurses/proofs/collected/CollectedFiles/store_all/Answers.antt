use Rattle.ticurses.proofs.Storings.{all_unknown}
use Rattle.ticurses.proofs.collected.CollectedFiles.store_all.Goals as goal

pub returns-clause-stored : goal.returns-clause-stored
returns-clause-stored g c = all_unknown c.args.new_files.now
