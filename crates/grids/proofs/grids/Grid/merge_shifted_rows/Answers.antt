use Rattle.std.proofs.Common.{◌∙◌, ◌+◌, refl, ap, ℕ, arith, List}
use Rattle.grids.specs.Grids.{row_of, drawn_in, combined, kth, moved_to}
use Rattle.grids.proofs.Drawings.{drawn_in_none, drawn_join, fits_same}
use Rattle.grids.proofs.Rectangles.{rows_done, no_rows_done, next_row_done, row_done_apart}
use Rattle.grids.proofs.Rows.{combined_ahead}
use Rattle.grids.proofs.grids.Grid.merge_shifted_rows.Goals as goal

pub loop-k-init : goal.loop-k-init
loop-k-init g c = record {
  value = drawn_in_none (rows_done c.args.back c.args.area 0) (combined c.args.area c.args.from (g.R.Merge.merged c.args.rule.now) c.args.self.now) c.args.self.now (no_rows_done c.args.back c.args.area);
  shape = refl;
}

pub merge_shifted_row-requires-clause-target : goal.merge_shifted_row-requires-clause-target
merge_shifted_row-requires-clause-target g c = fits_same c.args.area c.args.self.now c.loop-k.self c.loop-k.invariant.shape c.requires.target

pub merge_shifted_row-requires-clause-source : goal.merge_shifted_row-requires-clause-source
merge_shifted_row-requires-clause-source g c = fits_same (moved_to c.args.area c.args.from) c.args.self.now c.loop-k.self c.loop-k.invariant.shape c.requires.source

pub loop-k-preserved : goal.loop-k-preserved
loop-k-preserved g c =
    let was : List (List g.row.C.Denot) = c.args.self.now in
    let f : ℕ → ℕ → g.row.C.Denot → g.row.C.Denot = combined c.args.area c.args.from (g.R.Merge.merged c.args.rule.now) was in
    let back = c.args.back in let a = c.args.area in let k = c.loop-k.k in
    let t : ℕ = kth back a.rows k in
    let done : List (List g.row.C.Denot) = drawn_in (rows_done back a k) f was in
    let h : ℕ → ℕ → g.row.C.Denot → g.row.C.Denot = combined a c.args.from (g.R.Merge.merged c.args.rule.now) done in record {
      value = c.merge_shifted_row.ensures.value
          ∙ ap (λ (m : ℕ). drawn_in (row_of a m) (combined a c.args.from (g.R.Merge.merged c.args.rule.now) c.loop-k.self) c.loop-k.self) c.kth.ensures.value
          ∙ ap (λ (now : List (List g.row.C.Denot)). drawn_in (row_of a t) (combined a c.args.from (g.R.Merge.merged c.args.rule.now) now) now) c.loop-k.invariant.value
          ∙ drawn_join (rows_done back a k) (row_of a t) (rows_done back a (k + 1)) f h was (λ i j. next_row_done back a k i j (omega arith)) (λ i j. row_done_apart back a k i j (omega arith))
          (λ i j d at. combined_ahead back a c.args.from (g.R.Merge.merged c.args.rule.now) was k i j d c.requires.order (omega arith) at);
      shape = c.merge_shifted_row.ensures.shape ∙ c.loop-k.invariant.shape;
    }
