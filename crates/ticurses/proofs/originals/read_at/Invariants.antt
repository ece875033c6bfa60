use Rattle.std.proofs.Common.{◌≡◌, drop}
use Rattle.ticurses.specs.Originals.{bytes_read}
use Rattle.ticurses.proofs.originals.read_at.Given as goal

-- the originals behind those that were passed decide
abbrev pub invariant-loop-original : goal.invariant-loop-original
invariant-loop-original l = bytes_read (drop l.original-index l.originals) l.path ≡ bytes_read l.originals l.path
