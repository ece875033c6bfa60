use Rattle.std.proofs.Common.{ap, subst, sym, refl, true, false, ◌≡◌, ◌∙◌}
use Rattle.grids.specs.declared.areas.Area.{Area}
use Rattle.cur_screens.specs.declared.slots.Origin.{Origin}
use Rattle.cur_windows.specs.Desks.{origin_at}
use Rattle.cur_screens.specs.Touched.{MarksArea, grid_marks}
use Rattle.cur_windows.proofs.desks.Desk.mark_slot.Goals as goal

pub returns-then-origin_of : goal.returns-then-origin_of
returns-then-origin_of c =
    let on : (origin_at c.args.self.now c.args.slot.now.root).pad ≡ true = sym (ap (λ (o : Origin). o.pad) c.origin_of.ensures.value) ∙ c.if-origin_of.true in
    record {
      grid = λ off lt. absurd (let no : true ≡ false = sym on ∙ off in cc);
      pad = λ p. refl;
      none = λ p. refl;
      others = λ k apart. refl;
    }

pub returns : goal.returns
returns c =
    let s = c.args.slot.now in let m = c.mark_rectangle.ensures in
    let off : (origin_at c.args.self.now s.root).pad ≡ false = sym (ap (λ (o : Origin). o.pad) c.origin_of.ensures.value) ∙ c.if-origin_of.false in
    record {
      grid = λ p lt. subst (λ (a : Area). MarksArea (grid_marks c.args.touched.now s.root) (grid_marks c.mark_rectangle.new.touched s.root) a) c.place_on_screen-area.ensures.value (m.grid lt);
      pad = λ on. absurd (let no : true ≡ false = sym on ∙ off in cc);
      none = m.none;
      others = m.others;
    }
