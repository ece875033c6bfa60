use Rattle.std.proofs.Common.{◌≡◌, ◌∙◌, ℕ, arith, false, inl, inr, length, refl, slice_index_or, subst, sym, true}
use Rattle.std.proofs.lemmas.Bool.{cases_lt}
use Rattle.std.proofs.lemmas.List.{get_or_read_under, get_or-set_other, length-set}
use Rattle.cur_drawing.specs.Cells.{Content, space}
use Rattle.cur_steps.specs.Inks.{same}
use Rattle.cur_screens.specs.VirtualScreen.{colors_at}
use Rattle.cur_update.specs.Inks.{is_other, printed_cell}
use Rattle.cur_update.proofs.Notes.{note_more}
use Rattle.cur_update.proofs.Plainly.{other_told, told_other}
use Rattle.cur_update.proofs.screens.PrintedScreen.line_shows.Goals as goal

pub loop-n-preserved-then-not-shown-n : goal.loop-n-preserved-then-not-shown-n
loop-n-preserved-then-not-shown-n c =
    let s = c.args.self.now in
    let n = c.loop-n.n in
    let cell : Content = slice_index_or c.args.line.now n space in
    let byte : ℕ = slice_index_or c.args.text.now n 0 in
    let told : is_other cell byte ≡ true = told_other (is_other cell byte) (slice_index_or c.loop-n.shown n false) (c.loop-n.invariant.rest n (omega arith) c.loop-n-test.true) c.if-not-shown-n.true in
    let here : slice_index_or c.loop-n.shown n false ≡ same (printed_cell s.means.now s.screen.now cell) (record c.args.ink { byte = byte }) =
    c.if-not-shown-n.true ∙ sym (other_told s.means.now (colors_at s.screen.now cell.pair) cell byte c.args.ink told) in
    record {
      size = c.loop-n.invariant.size;
      found = λ k near. elim (cases_lt k n) [
        | inl before ↦ c.loop-n.invariant.found k before
        | inr past ↦
            let last : n ≡ k = omega (arith, near, past) in
            subst (λ (k : ℕ). slice_index_or c.loop-n.shown k false
            ≡ same (printed_cell s.means.now s.screen.now (slice_index_or c.args.line.now k space)) (record c.args.ink { byte = slice_index_or c.args.text.now k 0 })) last here
      ];
      rest = λ k past lt. c.loop-n.invariant.rest k (omega (arith, past)) lt;
    }

pub loop-n-preserved : goal.loop-n-preserved
loop-n-preserved c =
    let s = c.args.self.now in
    let n = c.loop-n.n in
    let one = c.shows_cell.result in
    record {
      size = length-set c.loop-n.shown n one ∙ c.loop-n.invariant.size;
      found = note_more s.means.now s.screen.now c.args.line.now c.args.ink c.args.text.now c.loop-n.shown n c.index-line-n.result one
          (omega (arith, c.loop-n-test.true, c.requires.room, c.loop-n.invariant.size)) c.loop-n.invariant.found (get_or_read_under c.args.line.now n (length c.args.line.now) c.index-line-n.result space c.index-line-n.is c.loop-n-test.true refl) c.shows_cell.ensures;
      rest = λ k past lt. get_or-set_other c.loop-n.shown n k one false (λ (e : k ≡ n). absurd (omega (arith, e, past))) ∙ c.loop-n.invariant.rest k (omega (arith, past)) lt;
    }
