use Rattle.std.proofs.Common.{refl, arith}
use Rattle.ti_resolve.proofs.Taken.{entries_go_on}
use Rattle.ti_resolve.proofs.fill.take_entries.Goals as goal

pub loop-place-preserved : goal.loop-place-preserved
loop-place-preserved c = record {
  sized = omega arith;
  taken = entries_go_on c.args.raws.now c.args.places.now c.loop-place.place-index _ c.fields_of.result.now _ _ _ (omega arith) refl c.fields_of.ensures c.in_ok-take_each.ensures c.loop-place.invariant.taken;
}
