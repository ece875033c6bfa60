use Rattle.std.proofs.Common.{◌∙◌, refl, subst, sym}
use Rattle.ticurses.proofs.OriginalReadings.{none_read}
use Rattle.ticurses.proofs.originals.originals.Goals as goal

pub loop-path-init : goal.loop-path-init
loop-path-init g c = (none_read (g.F.Files.holds c.args.files.now) c.new-originals.result.items c.new-originals.ensures.items, refl)
