-- (Serves the code alone.) Values of the code as contracts see them.
use Rattle.ti_source.specs.declared.source.Reader.{Reader}
use Rattle.ti_source.specs.Source.{Progress}

abbrev pub progress_view : Reader → Progress
progress_view reader = record { done = reader.done.items; open_entry = reader.current }
