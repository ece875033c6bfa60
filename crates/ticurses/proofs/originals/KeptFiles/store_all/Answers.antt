use Rattle.std.proofs.Common.{◌∙◌, sym}
use Rattle.ticurses.proofs.OriginalStorings.{stored_before}
use Rattle.ticurses.proofs.originals.KeptFiles.store_all.Goals as goal

pub returns-then-are_unread-clause-stored : goal.returns-then-are_unread-clause-stored
returns-then-are_unread-clause-stored g c =
    stored_before c.store_all.result c.args.self.now.originals.now (g.F.Files.holds c.args.self.now.files.now) (g.F.Files.holds c.store_all.new.self) c.args.new_files.now
    (sym c.are_unread.ensures ∙ c.if-are_unread.true) c.store_all.ensures.stored
