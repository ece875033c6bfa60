use Rattle.std.proofs.Common.{arith}
use Rattle.ti_files.proofs.Storings.{stored_none, stored_one}
use Rattle.ti_files.proofs.files.Files.store_all.Goals as goal

pub returns-in-empty-clause-stored : goal.returns-in-empty-clause-stored
returns-in-empty-clause-stored g c = stored_none (g.Self.Files.holds c.args.self.now) c.args.new_files.now (omega (arith, c.in-empty.len_below))

pub returns-in-len1-clause-stored : goal.returns-in-len1-clause-stored
returns-in-len1-clause-stored g c =
    stored_one c.store.result (g.Self.Files.holds c.args.self.now) (g.Self.Files.holds c.store.new.self) c.args.new_files.now c.only-item.result c.as_str.result.now c.as_slice.result.now
    (omega (arith, c.in-len1.len_at_least)) (omega (arith, c.in-len1.len_below)) c.only-item.is c.as_str.ensures.value c.as_slice.ensures.value
    c.store.ensures.stored c.store.ensures.others c.store.ensures.with_kept
