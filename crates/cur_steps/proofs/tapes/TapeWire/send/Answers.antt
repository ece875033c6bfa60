use Rattle.std.proofs.Common.{refl, arith}
use Rattle.std.proofs.lemmas.Grind.{common_steps}
use Rattle.cur_steps.proofs.tapes.TapeWire.send.Goals as goal

pub returns-clause-part : goal.returns-clause-part
returns-clause-part c =
    let items = c.extend_from_slice.ensures.items in
    let ok = rw c.unwrap.ensures at items in
    record {
      some = omega arith;
      within = omega arith;
      sent = rw (← c.self.view_is) (record { bytes = grind (arith, common_steps, ok); capacity = refl; failures = omega arith });
      unsent = tt;
      failed = tt;
    }
