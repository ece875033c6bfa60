-- The columns were found of each line from the first one that may differ to the one before this one.
use Rattle.std.proofs.Common.{◌≡◌, ℕ, length}
use Rattle.cur_steps.specs.declared.inks.Ink.{Ink}
use Rattle.cur_update.specs.Shift.{AreFoundIn, IsShift}
use Rattle.cur_update.proofs.changes.Shift.find.Given as goal

abbrev pub invariant-loop-row : goal.invariant-loop-row
invariant-loop-row g l = record {
  long : length l.columns ≡ length l.fn.columns;
  found : (old new : ℕ → ℕ → Ink) → IsShift (g.C.Certificate.table l.self.checked.now) (g.C.Certificate.partners l.self.checked.now)
      l.self.shown.now l.self.screen.now l.self.same_pairs old new → AreFoundIn l.columns l.lines.from l.row l.cols old new;
}
