use Rattle.std.proofs.Common.{[], refl, arith}
use Rattle.ti_fixes.proofs.Lists.{all_append}
use Rattle.ti_steps.proofs.PartFacts.{no_parts, parts_next}
use Rattle.ti_repairs.specs.Advices.{Fits, IsAdvisedAt, optional}
use Rattle.ti_repairs.proofs.Facts.{advised_here, fits_next}
use Rattle.ti_repairs.proofs.suggestions.all_advices.Goals as goal

pub loop-one-init : goal.loop-one-init
loop-one-init c = record {
  advised = no_parts (IsAdvisedAt c.args.entry.now c.args.mended.now c.args.listed.now) c.new-advices.result.items c.new-advices.ensures.items;
  fits = all_append Fits [] [] c.new-advices.result.items c.new-advices.ensures.items tt tt;
}

-- the suggestion for the next capability
pub loop-one-preserved : goal.loop-one-preserved
loop-one-preserved c = record {
  advised = parts_next (IsAdvisedAt c.args.entry.now c.args.mended.now c.args.listed.now) c.loop-one.one-index c.loop-one.advices.items (optional c.in_ok-found.found) c.push_found.new.advices.items
      c.in_ok-push_found.ensures c.loop-one.invariant.advised (advised_here c.args.entry.now c.args.mended.now c.args.listed.now c.loop-one.one-index c.one-item.result c.in_ok-found.found (omega arith) c.one-item.is c.in_ok-found.ensures.found);
  fits = fits_next c.loop-one.advices.items c.push_found.new.advices.items c.in_ok-found.found c.in_ok-push_found.ensures c.loop-one.invariant.fits c.in_ok-found.ensures.fits;
}
