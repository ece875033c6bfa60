use Rattle.std.proofs.Common.{ap, refl, subst}
use Rattle.cur_windows.specs.Desks.{IsDesk, State}
use Rattle.cur_screens.specs.Touched.{Spreads}
use Rattle.cur_screens.specs.VirtualScreen.{Screen}
use Rattle.cur_windows.proofs.TouchedFacts.{marks_copied, slot_copied}
use Rattle.cur_windows.proofs.desks.Desk.copy_slot.Goals as goal

pub returns-clause-touched : goal.returns-clause-touched
returns-clause-touched c =
    let d : State = c.args.self.now in let s = c.args.slot.now in
    let desk : IsDesk d = subst IsDesk c.self.view_is c.self.invariant in
    let spread : Spreads c.args.touched.now c.spread.new.touched s.root c.show_lines.new.marks d.rows d.cols =
    subst (λ (x : State). Spreads c.args.touched.now c.spread.new.touched s.root c.show_lines.new.marks x.rows x.cols) c.self.view_is c.spread.ensures in
    slot_copied c.args.touched.now c.spread.new.touched c.unmark.new.touched c.show_lines.new.marks d s c.args.screen.now c.show_lines.new.screen.grid c.has_all.result
    desk c.requires.whole spread c.unmark.ensures c.has_all.ensures.there (c.show_lines.ensures.marked c.args.screen.now.grid (λ i j off. refl)) c.show_lines.ensures.rows c.show_lines.ensures.cols
    c.show_lines.ensures.legal c.requires.rows c.requires.cols (ap (λ (v : Screen). v.grid) c.show_lines.ensures.value) c.requires.window c.requires.touched

pub returns-clause-copied : goal.returns-clause-copied
returns-clause-copied c =
    let d : State = c.args.self.now in let s = c.args.slot.now in
    let spread : Spreads c.args.touched.now c.spread.new.touched s.root c.show_lines.new.marks d.rows d.cols =
    subst (λ (x : State). Spreads c.args.touched.now c.spread.new.touched s.root c.show_lines.new.marks x.rows x.cols) c.self.view_is c.spread.ensures in
    marks_copied c.args.touched.now c.spread.new.touched c.unmark.new.touched c.show_lines.new.marks d s c.has_all.result spread c.unmark.ensures c.has_all.ensures.there c.has_all.ensures.part
