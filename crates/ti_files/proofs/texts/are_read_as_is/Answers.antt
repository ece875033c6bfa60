use Rattle.std.proofs.Common.{◌≡◌, ◌<◌, arith, length, rules}
use Rattle.ti_files.proofs.WrappedStorings.{read_so_next, read_so_none}
use Rattle.ti_files.specs.Wrapped.{read_as}
use Rattle.ti_files.proofs.texts.are_read_as_is.Goals as goal

pub loop-file-init : goal.loop-file-init
loop-file-init c = read_so_none c.args.files.now

pub loop-file-preserved : goal.loop-file-preserved
loop-file-preserved c =
    let here : c.loop-file.file-index < length c.args.files.now = omega arith in
    let so : read_as c.file-item.result.bytes.items ≡ c.file-item.result.bytes.items = search rules in
    read_so_next c.args.files.now c.loop-file.file-index c.file-item.result here c.file-item.is c.loop-file.invariant so
