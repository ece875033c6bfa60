use Rattle.std.proofs.Common.{◌∙◌}
use Rattle.ti_source.proofs.FieldLines.{block_is}
use Rattle.ti_source.proofs.lines.lines_from.Goals as goal

pub returns : goal.returns
returns c =
    c.into_fields.ensures ∙ block_is _ _ c.new-block.result c.add_first.new.self c.add_lines.new.self c.new-block.ensures c.in_ok-add_first.ensures c.in_ok-add_lines.ensures
