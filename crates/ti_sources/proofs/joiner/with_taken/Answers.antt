use Rattle.std.proofs.Common.{sym, ap, ◌∙◌}
use Rattle.ti_sources.specs.Steps.{scan_of}
use Rattle.ti_sources.proofs.Scans.{scan_more}
use Rattle.ti_sources.proofs.joiner.with_taken.Goals as goal

pub returns-clause-scanned : goal.returns-clause-scanned
returns-clause-scanned c =
    c.over-joiner.ensures ∙ (scan_more c.args.joiner.line.items c.skip_white-more.result.now c.args.joiner.scan c.requires ∙ ap scan_of (sym c.in_ok-extend_from_slice.ensures.items))
