use Rattle.std.proofs.Common.{◌≡◌, ◌≤◌, length}
use Rattle.ti_parm.specs.Codes.{behind_flags, flags_on, no_flags}
use Rattle.ti_parm.proofs.formats.flags_ahead.Given as goal

abbrev pub invariant-loop-more : goal.invariant-loop-more
invariant-loop-more l = record {
  flags : flags_on l.flags l.rest ≡ flags_on no_flags l.text;
  rest : behind_flags l.rest ≡ behind_flags l.text;
  within : length l.rest ≤ length l.text;
}

abbrev pub decreases-loop-more : goal.decreases-loop-more
decreases-loop-more l = length l.rest
