-- The reply that lists faults.
use Rattle.std.proofs.Common.{◌≡◌, ◌≤◌, ℕ, List, [], ◌∷◌, length, get_or, Option, Some, sym, subst, arith}
use Rattle.ti_caps.specs.Entry.{Content}
use Rattle.ti_checker.specs.declared.causes.No.{No}
use Rattle.ti_files.specs.declared.failure.Failure.{Failure}
use Rattle.ti_files.specs.declared.failure.Reply.{Reply}
use Rattle.ti_faults.specs.Mended.{IsBestMended}
use Rattle.ti_faults.specs.declared.mended.Mended.{Mended}
use Rattle.ti_verdicts.specs.FaultLists.{EndsAsNo, IsFaultsText, TellsFaults}
use Rattle.ti_verdicts.specs.Locations.{PlaceInSource}
use Rattle.ti_verdicts.specs.Refusals.{TellsNo}
use Rattle.ti_sources.specs.LinedFiles.{FileText}

pub lists_faults : (originals : List FileText) (entry : Content) (stands : Option PlaceInSource) (rows cols : ℕ) (nos : List No) (first : No) (mended : Mended) (reply : Reply) (failure : Failure) → 1 ≤ length nos → first ≡ get_or nos 0 first → IsBestMended entry rows cols nos mended → IsFaultsText originals entry stands mended nos reply.text.items
    → reply.failure ≡ Some failure → TellsNo first failure → TellsFaults originals entry stands rows cols nos reply
lists_faults originals entry stands rows cols [] first mended reply failure some there best text fails told = absurd (omega arith)
lists_faults originals entry stands rows cols (x ∷ xs) first mended reply failure some there best text fails told =
    let same : first ≡ x = there in
    record {
      mended = mended;
      best = best;
      text = text;
      ends = subst (λ (o : Option Failure). EndsAsNo x o) (sym fails) (subst (λ (n : No). TellsNo n failure) same told);
    }
