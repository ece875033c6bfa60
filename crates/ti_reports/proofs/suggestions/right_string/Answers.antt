use Rattle.std.proofs.Common.{sym, subst}
use Rattle.std.specs.Option.{option_copied}
use Rattle.std.specs.Prelude.{Option}
use Rattle.ti_faults.specs.declared.mended.Mended.{Mended}
use Rattle.ti_reports.specs.Suggestions.{IsRightFor}
use Rattle.ti_reports.proofs.suggestions.right_string.Goals as goal

pub returns-in-Some-clause-right : goal.returns-in-Some-clause-right
returns-in-Some-clause-right c =
    subst (λ (mended : Option Mended). IsRightFor c.args.entry.now mended c.args.cap (option_copied c.suggestion.result)) (sym c.in-Some.is)
    c.suggestion.ensures.found
