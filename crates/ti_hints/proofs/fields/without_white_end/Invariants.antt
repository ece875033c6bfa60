use Rattle.std.proofs.Common.{length}
use Rattle.ti_hints.proofs.fields.without_white_end.Given as goal

abbrev pub decreases-loop-rest : goal.decreases-loop-rest
decreases-loop-rest l = length l.rest
