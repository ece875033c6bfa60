use Rattle.std.proofs.Common.{ap, refl, subst, Some, false}
use Rattle.cur_screens.specs.declared.slots.Slot.{Slot}
use Rattle.cur_screens.specs.Touched.{Spreads, TakesMarksOff}
use Rattle.cur_screens.specs.VirtualScreen.{Screen}
use Rattle.cur_windows.specs.Desks.{IsDesk, State}
use Rattle.cur_windows.proofs.TouchedFacts.{slot_copied}
use Rattle.cur_windows.proofs.desks.Desk.copy_lines.Goals as goal

pub returns-clause-touched : goal.returns-clause-touched
returns-clause-touched c =
    let d : State = c.args.self.now in let s = c.args.lines.slot in
    let part : Slot = record s { parent = Some 0; window = record s.window { area = c.args.lines.area } } in
    let desk : IsDesk d = subst IsDesk c.self.view_is c.self.invariant in
    let spread : Spreads c.args.touched.now c.spread.new.touched s.root c.show_lines.new.marks d.rows d.cols =
    subst (λ (x : State). Spreads c.args.touched.now c.spread.new.touched s.root c.show_lines.new.marks x.rows x.cols) c.self.view_is c.spread.ensures in
    let still : TakesMarksOff c.spread.new.touched c.spread.new.touched s.root false = record { there = λ e. absurd cc; part = λ e. refl; past = λ e. refl } in
    slot_copied c.args.touched.now c.spread.new.touched c.spread.new.touched c.show_lines.new.marks d part c.args.screen.now c.show_lines.new.screen.grid false
    desk (λ e. absurd cc) spread still (λ e. absurd cc) (c.show_lines.ensures.marked c.args.screen.now.grid (λ i j off. refl)) c.show_lines.ensures.rows c.show_lines.ensures.cols
    c.show_lines.ensures.legal c.requires.rows c.requires.cols (ap (λ (v : Screen). v.grid) c.show_lines.ensures.value) c.requires.window c.requires.touched
