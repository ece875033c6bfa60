use Rattle.std.proofs.Common.{◌≡◌, ◌∙◌, ℕ, Option, Some, arith, length, refl, slice_index_or, subst}
use Rattle.std.proofs.lemmas.List.{get_or_read_under, length-set}
use Rattle.cur_drawing.specs.Cells.{Content, space}
use Rattle.cur_steps.specs.Inks.{byte_as}
use Rattle.cur_steps.proofs.StretchFacts.{one_more}
use Rattle.cur_update.specs.Inks.{printed_cell}
use Rattle.cur_update.proofs.screens.PrintedScreen.line_text.Goals as goal

pub loop-n-preserved : goal.loop-n-preserved
loop-n-preserved c =
    let s = c.args.self.now in
    let n = c.loop-n.n in
    let b = c.in-Some.byte in
    let told : byte_as (printed_cell s.means.now s.screen.now c.index-line-n.result) (printed_cell s.means.now s.screen.now c.args.other) ≡ Some b = subst (λ (o : Option ℕ). o ≡ Some b) c.byte_of.ensures c.in-Some.is in
    record {
      within = omega (arith, c.loop-n-test.true);
      room = omega (arith, c.if-n-text.true, length-set c.loop-n.text n b);
      length = length-set c.loop-n.text n b ∙ c.loop-n.invariant.length;
      characters = one_more (λ k a. byte_as (printed_cell s.means.now s.screen.now (slice_index_or c.args.line.now k space)) (printed_cell s.means.now s.screen.now c.args.other) ≡ Some a) c.loop-n.text n b 0
          (omega (arith, c.if-n-text.true)) c.loop-n.invariant.characters
          (subst (λ (x : Content). byte_as (printed_cell s.means.now s.screen.now x) (printed_cell s.means.now s.screen.now c.args.other) ≡ Some b) (get_or_read_under c.args.line.now n (length c.args.line.now) c.index-line-n.result space c.index-line-n.is c.loop-n-test.true refl) told);
    }
