use Rattle.ti_compiled.proofs.Fills.{numbers_step}
use Rattle.ti_compiled.specs.Readings.{parts_view}
use Rattle.ti_compiled.proofs.unpack.put_numbers.Goals as goal

pub loop-position-preserved : goal.loop-position-preserved
loop-position-preserved c =
    numbers_step (parts_view c.args.parts.now) c.loop-position.position c.loop-position.entry c.put_number.new.entry c.loop-position-test.true c.loop-position.invariant c.put_number.ensures
