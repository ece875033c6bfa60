use Rattle.std.proofs.Common.{List, Vec, Global, ℕ, arith, subst}
use Rattle.ti_fixes.specs.Texts.{IsWritten}
use Rattle.ti_fixes.proofs.Changed.{written_part}
use Rattle.ti_fixes.proofs.Written.{known_some}
use Rattle.ti_fixes.proofs.changes.put.Goals as goal

-- the field was written into the part of the change's entry
pub returns-in-Some : goal.returns-in-Some
returns-in-Some c = λ _.
    written_part c.args.change.now.cap c.args.change.now.string c.args.parts.now.items c.saturating_add-at.result c.index.result.now c.in-Some.next
    (omega arith) c.index.ensures
    (subst (λ (text : List ℕ). IsWritten c.args.change.now.cap c.args.change.now.string text c.in-Some.next.items) c.as_slice.ensures.value
    (known_some (λ (after : Vec ℕ Global). IsWritten c.args.change.now.cap c.args.change.now.string c.as_slice.result.now after.items) c.in_ok-next.field-0 c.in-Some.next c.in-Some.is c.in_ok-next.ensures))
