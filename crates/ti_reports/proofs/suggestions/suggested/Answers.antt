use Rattle.std.specs.Option.{option_copied}
use Rattle.ti_reports.proofs.suggestions.suggested.Goals as goal

pub returns : goal.returns
returns c = record { found = option_copied c.right_string-found.result; right = c.right_string-found.ensures.right; forms = c.in_ok-written.ensures }
