use Rattle.std.proofs.Common.{arith}
use Rattle.ti_fixes.proofs.FileFacts.{raws_next}
use Rattle.ti_fixes.proofs.files.all_raws.Goals as goal

-- one more file
pub loop-file-preserved : goal.loop-file-preserved
loop-file-preserved c =
    raws_next c.args.files.now c.loop-file.file-index c.file-item.result c.as_slice.result.now c.loop-file.raws.items c.push_entries.new.copy.items
    (omega arith) c.file-item.is c.as_slice.ensures.value c.in_ok-push_entries.ensures c.loop-file.invariant
