use Rattle.std.specs.Prelude.{codes}
use Rattle.ti_caps.specs.Table.{name_at}
use Rattle.ti_files.specs.Shown.{shown}
use Rattle.ti_repairs.proofs.Facts.{three_parts}
use Rattle.ti_repairs.specs.Notes.{own_name}
use Rattle.ti_repairs.proofs.notes.push_faulty.Goals as goal

pub returns : goal.returns
returns c =
    three_parts c.extend_from_slice.result c.args.lines.now.items (shown (own_name c.args.raws.now c.args.place)) (codes " would be at fault in ") c.name.result.now c.push_about.new.lines.items
    c.extend_from_slice.new.self.items (name_at c.args.cap) c.in_ok-push_about.ensures c.name.ensures.value c.extend_from_slice.ensures.items
