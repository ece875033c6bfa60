-- A call on windows alone, done by itself, is the call.
use Rattle.std.proofs.Common.{◌≡◌, refl}
use Rattle.ti_cert.specs.Table.{CheckedTable, certified}
use Rattle.ti_cert.specs.Verified.{partner_in}
use Rattle.cur_windows.specs.Desks.{DeskStep}
use Rattle.cur_scripts.specs.declared.calls.Call.{Call}
use Rattle.cur_play.specs.Scenes.{Stage, scene_of}
use Rattle.cur_play.specs.Steps.{DoesAlone, drawn, on_desk, output_of}
use Rattle.cur_play.specs.declared.answers.Answer.{Answer}
use Rattle.cur_play.specs.declared.sends.Emission.TheVariants.{Nothing}
use Rattle.cur_play.proofs.Deliveries.{IsBound}
use Rattle.cur_play.proofs.Plays.{alone_played}
use Rattle.curses_c.specs.Held.{Makes, failures_of}
use Rattle.curses_c.specs.Outbox.{Posts, Posts-lawful}
use Rattle.curses_c.specs.declared.held.Held.{Held}

pub makes_alone : (h : Held) (call : Call) (answer : Answer) (q : Stage CheckedTable) (x : DeskStep) → IsBound
    → drawn (certified h.session.painter.checked) (scene_of h.session) call ≡ on_desk (scene_of h.session) x → output_of call ≡ Nothing
    → DoesAlone certified x h.session answer q → Makes h call answer (record h { session = q })
makes_alone h call answer q x bound is quiet does =
    let all = alone_played Posts failures_of Posts-lawful bound h.outbox certified partner_in h.session q call answer x is quiet does in
    record { step = all.step; carries = all.carries; certificate = all.certificate; left_out = refl }
