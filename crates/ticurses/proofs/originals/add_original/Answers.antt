use Rattle.ticurses.proofs.OriginalReadings.{read_more}
use Rattle.ticurses.proofs.originals.add_original.Goals as goal

pub returns-in-Ok-clause-read : goal.returns-in-Ok-clause-read
returns-in-Ok-clause-read g c =
    read_more c.add.result (g.F.Files.holds c.args.files.now) c.args.originals.now.items c.add.new.originals.items _ c.add.ensures c.in-Ok.ensures.bytes
