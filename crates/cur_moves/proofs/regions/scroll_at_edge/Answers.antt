use Rattle.std.proofs.Common.{◌≡◌, ◌+◌, ◌*◌, ℕ, Ok, arith, subst}
use Rattle.std.proofs.lemmas.Result.{err_from_is_err_and}
use Rattle.cur_steps.proofs.Stops.{steps_fail, steps_next, steps_nothing, steps_wider}
use Rattle.cur_steps.specs.declared.wires.WireFault.{WireFault}
use Rattle.ti_conforms.specs.Certified.{IsLost}
use Rattle.cur_steps.specs.Pieces.{IsPaint}
use Rattle.cur_steps.specs.declared.inks.Ink.{Ink}
use Rattle.cur_moves.specs.Scrolls.{shifted}
use Rattle.cur_moves.specs.Frames.{Framed, Moves, at_edge}
use Rattle.cur_moves.proofs.FrameFacts.{by_one, framed_lost, line_more, line_within, none_yet, one_more, row_limit, scroll_paints}
use Rattle.cur_moves.proofs.regions.scroll_at_edge.Goals as goal

pub loop-line-init : goal.loop-line-init
loop-line-init g c =
    let t = g.C.Certificate.table c.args.checked.now in
    let x = c.args.scroll in
    record {
      step = λ h b. steps_nothing g.W.Wire.went g.W.Wire.failures g.met.W.Wire.lawful c.args.wire.now tt (IsPaint t) _ (IsLost t)
          (Framed t (at_edge x h) b) (Framed t (at_edge x (shifted (record x { count = 0 }) h)) b) (λ s f. f.rest) (none_yet t x h b)
          (framed_lost t c.requires.checked c.requires.lines.widens (at_edge x h) b);
    }

pub loop-line-preserved : goal.loop-line-preserved
loop-line-preserved g c =
    let t = g.C.Certificate.table c.args.checked.now in
    let x = c.args.scroll in
    let n = c.loop-line._line in
    let l = t.longest.scroll in
    record {
      step = λ h b. (let a : ℕ → ℕ → Ink = shifted (record x { count = n }) h in
          let z : ℕ → ℕ → Ink = shifted (record x { count = 1 }) a in
          steps_next g.W.Wire.went g.W.Wire.failures g.met.W.Wire.lawful c.args.wire.now c.loop-line.wire c.send_row.new.wire _ (Ok tt) (IsPaint t) (n * l) l ((n + 1) * l) (IsLost t)
          (Framed t (at_edge x h) b) (Framed t (at_edge x a) b) (Framed t (at_edge x (shifted (record x { count = n + 1 }) h)) b) (line_more n l)
          (c.loop-line.invariant.step h b)
          (steps_wider g.W.Wire.went g.W.Wire.failures c.loop-line.wire c.send_row.new.wire _ (IsPaint t) l l (IsLost t) (Framed t (at_edge x a) b) (Framed t (at_edge x z) b) (Framed t (at_edge x a) b)
          (Framed t (at_edge x (shifted (record x { count = n + 1 }) h)) b) (omega arith) (λ s y. y) (one_more t x n h b)
          (rw (c.scroll_row.ensures) at c.in_ok-send_row.ensures.step l (at_edge x a) (at_edge x z) b (scroll_paints x) (row_limit t x)
          (by_one t x.top x.bottom x.count x.up a b (omega (arith, c.requires.checked.size)) c.requires.lines.bottom))));
    }

pub returns-in_err-send_row : goal.returns-in_err-send_row
returns-in_err-send_row g c = record {
  step = λ h b. (
      let e = err_from_is_err_and c.from_residual.result c.from_residual.ensures.1 in
      let t = g.C.Certificate.table c.args.checked.now in
      let x = c.args.scroll in
      let n = c.loop-line._line in
      let l = t.longest.scroll in
      let a : ℕ → ℕ → Ink = shifted (record x { count = n }) h in
      let z : ℕ → ℕ → Ink = shifted (record x { count = 1 }) a in
      rw e.1 (steps_fail g.W.Wire.went g.W.Wire.failures c.args.wire.now c.send_row.new.wire _ _ (IsPaint t) (n * l + l) (x.count * l) (IsLost t)
      (Framed t (at_edge x h) b) (Framed t (at_edge x z) b) (Framed t (at_edge x (shifted x h)) b) (line_within n x.count l c.loop-line-test.true)
      (steps_next g.W.Wire.went g.W.Wire.failures g.met.W.Wire.lawful c.args.wire.now c.loop-line.wire c.send_row.new.wire _ _ (IsPaint t) (n * l) l (n * l + l) (IsLost t)
      (Framed t (at_edge x h) b) (Framed t (at_edge x a) b) (Framed t (at_edge x z) b) (omega arith) (c.loop-line.invariant.step h b)
      (rw (c.scroll_row.ensures) at c.in_err-send_row.ensures.step l (at_edge x a) (at_edge x z) b (scroll_paints x) (row_limit t x)
      (by_one t x.top x.bottom x.count x.up a b (omega (arith, c.requires.checked.size)) c.requires.lines.bottom)))));
}

pub returns : goal.returns
returns g c =
    let t = g.C.Certificate.table c.args.checked.now in
    let x = c.args.scroll in
    let l = t.longest.scroll in
    let all : c.loop-line._line ≡ x.count = omega (arith, c.loop-line-test.false, c.loop-line.auto._line-end) in
    record {
      step = λ h b. (let P : ℕ → Type 0 = λ n. Moves {T = Unit {0}} {E = WireFault} g.W.Wire.went g.W.Wire.failures c.args.wire.now c.loop-line.wire (Ok tt) t (n * l) (at_edge x h) (at_edge x (shifted (record x { count = n }) h)) b in
          subst P all (c.loop-line.invariant.step h b));
    }
