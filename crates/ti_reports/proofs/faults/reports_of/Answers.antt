use Rattle.std.proofs.Common.{List, ℕ, Bor, subst, sym}
use Rattle.ti_openings.specs.Openings.{texts_of}
use Rattle.ti_reports.specs.Openings.{AreLeftOut}
use Rattle.ti_reports.proofs.faults.reports_of.Goals as goal

pub returns : goal.returns
returns c =
    let subject = c.args.subject.now in
    record {
      mended = c.in_ok-mended.mended;
      mends = c.in_ok-mended.ensures;
      left_out = c.as_slice.result.now;
      leaves = subst (λ (names : List (Bor (List ℕ))). AreLeftOut subject.lists_all subject.entry.now subject.size.rows subject.size.cols (texts_of names)) (sym c.as_slice.ensures.value) c.in_ok-left_out.ensures;
      each = c.in_ok-reports.ensures;
    }
