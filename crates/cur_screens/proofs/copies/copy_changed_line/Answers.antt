use Rattle.std.proofs.Common.{◌∙◌, ◌≡◌, ◌+◌, ◌-◌, ◌<◌, ℕ, arith, refl, subst, sym}
use Rattle.cur_screens.specs.Differences.{DifferAt}
use Rattle.cur_drawing.specs.Grids.{Grid, cell_at, taken}
use Rattle.cur_screens.proofs.ChangedRows.{line_copied, line_drawn, line_equal, first_line, equal_beside, changed_there, some_changed}
use Rattle.cur_screens.proofs.MarkFacts.{copied_kept, marks_only, marks_only_none}
use Rattle.cur_screens.proofs.copies.copy_changed_line.Goals as goal

pub returns-in_default : goal.returns-in_default
returns-in_default c =
    let a = c.args.copy.area in
    record {
      copied = record {
        value = line_equal a c.args.copy.from c.args.source.now c.args.grid.now c.requires.one c.requires.target c.requires.from.source
            (equal_beside a c.args.copy.from 0 (record { at = 0; size = 0 }) c.args.source.now c.args.grid.now c.part_of-old.result.now c.part_of-new.result.now c.line.result.now c.line-2.result.now (first_line c.line.result.now c.args.grid.now a.top c.line.ensures) (first_line c.line-2.result.now c.args.source.now c.args.copy.from.row c.line-2.ensures)
            c.part_of-old.ensures.cells c.part_of-new.ensures.cells c.part_of-old.ensures.len (λ k from lt. absurd (omega (arith, lt))) (λ k from lt. c.in_default.ensures k (omega arith) lt));
        shape = refl;
        marked = λ v same. same;
        only = marks_only_none c.args.marks.now c.args.grid.now;
      };
    }

pub returns : goal.returns
returns c =
    let a = c.args.copy.area in let s = c.in-Some.span in
    let changes = c.in-Some.ensures in
    let value =
    c.copy_cells.ensures.value
    ∙ line_copied a c.args.copy.from s c.args.source.now c.args.grid.now c.requires.one c.requires.target c.requires.from.source (omega (arith, changes.within, c.part_of-old.ensures.len))
    (equal_beside a c.args.copy.from 0 s c.args.source.now c.args.grid.now c.part_of-old.result.now c.part_of-new.result.now c.line.result.now c.line-2.result.now (first_line c.line.result.now c.args.grid.now a.top c.line.ensures) (first_line c.line-2.result.now c.args.source.now c.args.copy.from.row c.line-2.ensures)
    c.part_of-old.ensures.cells c.part_of-new.ensures.cells c.part_of-old.ensures.len changes.before changes.after) in
    let g : Grid = c.args.grid.now in
    let h : Grid = c.copy_cells.new.grid in
    let some : 0 < s.size = some_changed c.part_of-old.result.now c.part_of-new.result.now s changes in
    let last : a.left + (s.at + s.size - 1) ≡ a.left + s.at + s.size - 1 = omega (arith, some) in
    let row : a.top + 0 ≡ a.top = omega arith in
    let there : (x : ℕ) → DifferAt c.part_of-old.result.now c.part_of-new.result.now x → cell_at g a.top (a.left + x) ≡ cell_at h a.top (a.left + x) → ⊥ = λ x differ.
    subst (λ (i : ℕ). cell_at g i (a.left + x) ≡ cell_at h i (a.left + x) → ⊥) row
    (changed_there a c.args.copy.from 0 x c.args.source.now g h c.part_of-old.result.now c.part_of-new.result.now c.line.result.now c.line-2.result.now
    (omega (arith, c.requires.one)) c.requires.target c.requires.from.source (value ∙ sym (line_drawn a (taken a c.args.copy.from c.args.source.now) g c.requires.one)) (first_line c.line.result.now c.args.grid.now a.top c.line.ensures) (first_line c.line-2.result.now c.args.source.now c.args.copy.from.row c.line-2.ensures) c.part_of-old.ensures.cells c.part_of-new.ensures.cells c.part_of-old.ensures.len differ) in
    record {
      copied = record {
        value = value;
        shape = c.copy_cells.ensures.shape;
        marked = copied_kept _ _ c.args.source.now c.args.grid.now c.copy_cells.new.grid c.args.marks.now c.mark.new.self refl c.copy_cells.ensures.value c.mark.ensures;
        only = marks_only c.args.marks.now c.mark.new.self a.top (a.left + s.at) (a.left + s.at + s.size) g h c.mark.ensures (omega (arith, some)) (there s.at changes.first)
            (subst (λ (j : ℕ). cell_at g a.top j ≡ cell_at h a.top j → ⊥) last (there (s.at + s.size - 1) changes.last));
      };
    }
