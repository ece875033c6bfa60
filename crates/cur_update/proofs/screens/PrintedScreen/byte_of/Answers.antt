use Rattle.std.proofs.Common.{ℕ, Some, ap, ◌∙◌}
use Rattle.cur_update.proofs.Likeness.{like_cell}
use Rattle.cur_update.proofs.screens.PrintedScreen.byte_of.Goals as goal

pub returns-then-is_plain_like : goal.returns-then-is_plain_like
returns-then-is_plain_like c =
    ap (λ (n : ℕ). Some n) c.byte.ensures.value
    ∙ like_cell c.args.self.now.means.now c.args.self.now.screen.now c.args.cell c.args.other c.args.cell.byte (c.is_plain_like.ensures c.if-is_plain_like.true)
