use Rattle.std.proofs.Common.{refl}
use Rattle.ti_source.specs.declared.lines.FieldLine.{FieldLine}
use Rattle.ti_source.proofs.Flags.{flags_none}
use Rattle.ti_source.proofs.lines.Block.new.Goals as goal

pub invariant_of-result : goal.invariant_of-result
invariant_of-result c = rw c.new.ensures.items (flags_none (λ (field : FieldLine). field.cap) _ refl)
