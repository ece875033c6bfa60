use Rattle.std.proofs.Common.{[]}
use Rattle.ti_steps.specs.Remedies.{Fits, IsAdvisedAt}
use Rattle.ti_fixes.proofs.Lists.{all_append}
use Rattle.ti_steps.proofs.PartFacts.{no_parts, parts_next}
use Rattle.ti_steps.proofs.gathering.all_remedies.Goals as goal

pub loop-root-init : goal.loop-root-init
loop-root-init g c = record {
  advised = no_parts (IsAdvisedAt (g.A.Adviser.advises c.args.adviser.now) c.args.index.now.raws.now) c.new-remedies.result.items c.new-remedies.ensures.items;
  fits = all_append Fits [] [] c.new-remedies.result.items c.new-remedies.ensures.items tt tt;
}

-- the remedies for the next entry
pub loop-root-preserved : goal.loop-root-preserved
loop-root-preserved g c = record {
  advised = parts_next (IsAdvisedAt (g.A.Adviser.advises c.args.adviser.now) c.args.index.now.raws.now) c.loop-root.root c.loop-root.remedies.items c.in_ok-own.own.items c.append.new.self.items
      c.in_ok-append.ensures.items c.loop-root.invariant.advised c.in_ok-own.ensures.advised;
  fits = all_append Fits c.loop-root.remedies.items c.in_ok-own.own.items c.append.new.self.items c.in_ok-append.ensures.items c.loop-root.invariant.fits c.in_ok-own.ensures.fits;
}
