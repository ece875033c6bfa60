use Rattle.std.proofs.Common.{◌≡◌, ◌++◌, ◌<◌, [], ◌∷◌, arith, length, rules}
use Rattle.ti_repairs.proofs.Placings.{passed_next, placed_next}
use Rattle.ti_repairs.proofs.delivery.new_files.Goals as goal
use Rattle.ti_repairs.proofs.delivery.new_files.Goals.{then-file+in_ok-placed+in_ok-push, else-file}

-- the next file comes into the folder if it has changed
pub loop-file-preserved : goal.loop-file-preserved
loop-file-preserved c =
    let here : c.loop-file.file-index < length c.args.files.now = omega arith in
    elim c.if-file.branch [
      | then-file+in_ok-placed+in_ok-push w ↦
          let longer : c.if-file.news.items ≡ c.loop-file.news.items ++ w.in_ok-placed.field-0 ∷ [] = search rules in
          placed_next c.args.folder.now c.args.files.now c.loop-file.file-index c.file-item.result c.loop-file.news.items c.if-file.news.items w.in_ok-placed.field-0 here c.file-item.is w.if-file.true c.loop-file.invariant w.in_ok-placed.ensures longer
      | else-file w ↦
          let same : c.if-file.news.items ≡ c.loop-file.news.items = search rules in
          passed_next c.args.folder.now c.args.files.now c.loop-file.file-index c.file-item.result c.loop-file.news.items c.if-file.news.items here c.file-item.is w.if-file.false c.loop-file.invariant same
    ]
