-- The bytes read so far are the first ones of the file.
use Rattle.std.specs.Io.KnownBytes.{Consumes}
use Rattle.ti_files.proofs.fronts.read_front.Given as goal

abbrev pub invariant-loop : goal.invariant-loop
invariant-loop g l = Consumes (g.R.Read.remaining l.initial.file) (g.R.Read.remaining l.file) l.front.items
