use Rattle.std.proofs.Common.{map, refl}
use Rattle.ti_verdicts.specs.Locations.{source_place}
use Rattle.ti_sources.specs.LinedFiles.{file_text}
use Rattle.ti_verdicts.proofs.Listing.{lists_faults}
use Rattle.ti_verdicts.proofs.fault_lists.reply_of.Goals as goal

pub returns-in_ok-faults_text-in-len1-up-clause-told : goal.returns-in_ok-faults_text-in-len1-up-clause-told
returns-in_ok-faults_text-in-len1-up-clause-told c =
    lists_faults (map file_text c.args.asked.now.originals.now) c.args.asked.now.found.now.entry (source_place c.args.asked.now.found.now.source) c.args.asked.now.size.rows c.args.asked.now.size.cols c.args.nos.now c.first-item.result c.in_ok-mended-in-len1-up.mended _ c.no_failure.result c.in-len1-up.len_at_least c.first-item.is
    c.in_ok-mended-in-len1-up.ensures c.in_ok-faults_text-in-len1-up.ensures refl c.no_failure.ensures
