use Rattle.std.proofs.Common.{refl}
use Rattle.cur_windows.proofs.Closures.{closes_window, legal_same}
use Rattle.cur_windows.proofs.desks.Desk.end_copy.Goals as goal

pub invariant_of-self-2 : goal.invariant_of-self-2
invariant_of-self-2 c = closes_window _ _ c.args.id _ _ c.self.view_is c.self.invariant (c.requires.number, c.requires.there) refl
    (legal_same _ _ c.requires.placed.canvas.window refl refl refl refl refl refl)
