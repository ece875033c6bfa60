use Rattle.std.proofs.Common.{inl, inr, arith}
use Rattle.cur_windows.proofs.desks.Desk.noutrefresh_lines_marked.Goals as goal

pub returns-in_err-area-clause-only : goal.returns-in_err-area-clause-only
returns-in_err-area-clause-only c i j side = elim side [
  | inl before ↦ (before j (omega arith)).unmarked
  | inr after ↦ (after j (omega arith)).unmarked
]

pub returns-in_err-check_window-clause-only : goal.returns-in_err-check_window-clause-only
returns-in_err-check_window-clause-only c i j side = elim side [
  | inl before ↦ (before j (omega arith)).unmarked
  | inr after ↦ (after j (omega arith)).unmarked
]
