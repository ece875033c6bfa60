use Rattle.std.proofs.Common.{◌<◌, ap, length, map, arith}
use Rattle.ti_verdicts.specs.Parts.{HasParts}
use Rattle.ti_surveys.specs.Answers.{IsPlacedMore}
use Rattle.ti_verdicts.specs.Locations.{place_if, placed_if, placed_in}
use Rattle.ti_sources.specs.LinedFiles.{file_text}
use Rattle.ti_verdicts.proofs.Parts.{parts_next}
use Rattle.ti_surveys.proofs.lines.places_of.Goals as goal

pub loop-no-init : goal.loop-no-init
unfolding HasParts
loop-no-init g c = ap (map placed_in) c.new-places.ensures.items

-- the next fault at its place follows those so far
pub loop-no-preserved : goal.loop-no-preserved
loop-no-preserved g c =
    let here : c.loop-no.no-index < length c.args.nos.now = omega arith in
    parts_next (IsPlacedMore (map file_text c.args.asked.now.originals.now) (place_if c.args.found.now.stands.now) c.args.found.now.name.now) c.args.nos.now c.loop-no.no-index c.no-item.result (map placed_in c.loop-no.places.items) (placed_if c.in_ok-own.own) (map placed_in c.push_if.new.places.items) here c.no-item.is
    c.in_ok-push_if.ensures c.loop-no.invariant c.in_ok-own.ensures
