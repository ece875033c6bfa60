use Rattle.std.proofs.Common.{arith}
use Rattle.ti_compiled.proofs.Decoded.{bytes_by_index, read_packed, read_only}
use Rattle.ti_compiled.proofs.packed.decode.Goals as goal

pub returns-clause-packed : goal.returns-clause-packed
returns-clause-packed c = read_packed c.read_file.result c.args.file.now (bytes_by_index c.args.file.now (λ i. omega (arith, c.type_inv.file i))) c.read_file.ensures

pub returns-clause-only : goal.returns-clause-only
returns-clause-only c = read_only c.read_file.result c.args.file.now c.read_file.ensures
