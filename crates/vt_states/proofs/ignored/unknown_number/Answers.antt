use Rattle.vt_states.specs.Ignored.{is_unknown}
use Rattle.vt_states.proofs.Unknown.{from_nothing}
use Rattle.vt_states.proofs.ignored.unknown_number.Goals as goal

pub loop-byte-init : goal.loop-byte-init
loop-byte-init c = from_nothing (is_unknown c.args.kind) c.args.numbers.now
