use Rattle.std.proofs.Common.{refl}
use Rattle.cur_windows.proofs.Closures.{closes_window, legal_same}
use Rattle.cur_windows.proofs.desks.Desk.show_part.Goals as goal

pub invariant_of-self : goal.invariant_of-self
invariant_of-self c = closes_window _ _ c.args.id _ _ c.self.view_is c.self.invariant c.in-Ok.ensures.there refl
    (legal_same _ _ c.in-Ok.ensures.placed.canvas.window refl refl refl refl refl refl)
