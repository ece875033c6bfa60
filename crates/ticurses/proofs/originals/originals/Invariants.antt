use Rattle.std.proofs.Common.{◌≡◌}
use Rattle.ticurses.specs.Originals.{WereRead}
use Rattle.ticurses.proofs.originals.originals.Given as goal

-- each of those so far was read from the files, of which none has changed
abbrev pub invariant-loop-path : goal.invariant-loop-path
invariant-loop-path g l = WereRead (g.F.Files.holds l.initial.files) l.originals.items × (g.F.Files.holds l.files ≡ g.F.Files.holds l.initial.files)
