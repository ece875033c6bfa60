use Rattle.std.proofs.Common.{◌∙◌}
use Rattle.ti_sources.proofs.LineBounds.{first_lines_fit}
use Rattle.ti_sources.proofs.lined_texts.first_numbers.Goals as goal

pub lines_behind-requires : goal.lines_behind-requires
lines_behind-requires c = first_lines_fit c.args.before 18446744073709551615 c.args.text.now c.as_slice.result.now c.requires (c.as_slice.ensures.value ∙ c.in_ok-fields.ensures)
