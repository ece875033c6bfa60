use Rattle.cur_update.proofs.Likeness.{like_brush}
use Rattle.cur_update.proofs.screens.PrintedScreen.has_brush_of.Goals as goal

pub returns-then-is_styled_like : goal.returns-then-is_styled_like
returns-then-is_styled_like c =
    let alike = c.is_styled_like.ensures.alike c.if-is_styled_like.true in
    like_brush c.args.self.now.means.now c.args.self.now.screen.now c.args.cell c.args.other alike.0 alike.1
