use Rattle.std.proofs.Common.{List, ℕ, arith, subst, sym}
use Rattle.std.specs.Prelude.{IsTrue}
use Rattle.ti_caps.specs.Fits.{string_fits}
use Rattle.ti_steps.specs.Remedies.{Fits}
use Rattle.ti_steps.proofs.Gathered.{placed_next}
use Rattle.ti_fixes.proofs.Lists.{all_so}
use Rattle.ti_steps.proofs.gathering.all_placed.Goals as goal

-- the remedy of the next advice
pub loop-advice-preserved : goal.loop-advice-preserved
loop-advice-preserved c = record {
  placed = placed_next c.args.index.now.raws.now c.args.root c.args.advices.now c.loop-advice.advice-index c.loop-advice.remedies.items c.push.new.self.items c.advice-item.result c.in_ok-remedy.remedy
      c.in_ok-push.ensures.items (omega arith) c.advice-item.is c.loop-advice.invariant.placed c.in_ok-remedy.ensures.placed;
  fits = all_so Fits (λ one. IsTrue (string_fits one.string)) c.loop-advice.remedies.items c.push.new.self.items c.in_ok-remedy.remedy c.args.advices.now c.loop-advice.advice-index c.advice-item.result
      c.in_ok-push.ensures.items (omega arith) c.advice-item.is c.loop-advice.invariant.fits c.requires.fits
      (λ h. subst (λ (string : List ℕ). IsTrue (string_fits string)) (sym c.in_ok-remedy.ensures.placed.string) h);
}
