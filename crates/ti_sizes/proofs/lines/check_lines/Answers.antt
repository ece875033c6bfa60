use Rattle.std.proofs.Common.{◌≡◌, ◌<◌, ℕ, sym, ◌∙◌, subst, below_more, arith, refl}
use Rattle.vt_term.specs.Size.{max_rows, max_cols}
use Rattle.ti_rows.specs.Names.{order, first_in_order}
use Rattle.ti_rows.proofs.NameFacts.{firsts_in_order, orders_small}
use Rattle.ti_rows.proofs.ListFacts.{firsts_in_range}
use Rattle.ti_conforms.proofs.Matches.{first_is}
use Rattle.ti_sizes.specs.Lines.{CapIsSteady}
use Rattle.ti_sizes.proofs.StepFacts.{greatest}
use Rattle.ti_sizes.proofs.lines.check_lines.Goals as goal
use Rattle.ti_sizes.proofs.lines.check_lines.Goals.{in-Some+in_ok-check_cap, in_default}

pub check_cap-requires : goal.check_cap-requires
check_cap-requires g c = firsts_in_range max_rows max_cols c.loop-order.order c.in-Some.first greatest (sym c.in-Some.ensures)

pub loop-order-preserved : goal.loop-order-preserved
loop-order-preserved g c = below_more (CapIsSteady (g.L.LinesByRow.line_of c.args.lines.now)) c.loop-order.order c.loop-order.invariant
    (let f = firsts_in_order c.loop-order.order c.loop-order-test.true in
    elim c.match-first.branch [
      | in-Some+in_ok-check_cap w ↦
          let same : order w.in-Some.first ≡ c.loop-order.order = first_is w.in-Some.first f.row c.loop-order.order (first_in_order c.loop-order.order) w.in-Some.ensures f.is_first f.ordered in
          subst (λ (n : ℕ). CapIsSteady (g.L.LinesByRow.line_of c.args.lines.now) n) same w.in_ok-check_cap.ensures
      | in_default w ↦ absurd (w.in_default.not-Some f.row (c.first.ensures ∙ f.is_first))
    ])

pub returns : goal.returns
returns g c = λ row range. let lt : order row < c.loop-order.order = omega (arith, orders_small row) in c.loop-order.invariant (order row) lt row refl range
