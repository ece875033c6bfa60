use Rattle.std.proofs.Common.{◌∙◌, ap}
use Rattle.ti_compiled.proofs.Fills.{partly_none}
use Rattle.ti_caps.specs.Entry.{bare_entry}
use Rattle.ti_compiled.specs.Readings.{parts_view}
use Rattle.ti_compiled.proofs.unpack.fitting_entry.Goals as goal

pub put_flags-requires : goal.put_flags-requires
put_flags-requires c = c.in_ok-entry.ensures.value ∙ ap bare_entry c.requires.names ∙ partly_none (parts_view c.args.parts.now)
