use Rattle.std.proofs.Common.{arith, map}
use Rattle.std.specs.Prelude.{◌+◌, slice_get}
use Rattle.ti_hints.specs.Places.{IsHintOf, IsLineOf}
use Rattle.ti_hints.proofs.Hinted.{all_behind, as_hints, before_line, from_line, further_is, one_more, some_turned}
use Rattle.ti_hints.proofs.hints.hints_from.Goals as goal

-- the hints of the next line
pub loop-number-preserved : goal.loop-number-preserved
loop-number-preserved c =
    let lines = map (λ line. line.now) c.args.lines.now in
    let stands : IsLineOf c.args.raws.now c.args.place c.loop-number.number = record {
      from = from_line (slice_get c.args.raws.now c.args.place) c.args.first c.loop-number.number c.requires (omega arith);
      before = before_line (slice_get c.args.raws.now (c.args.place + 1)) c.end_line-number-end.result c.loop-number.number c.end_line-number-end.ensures (omega arith);
    } in
    record {
      hold = all_behind (IsHintOf lines c.args.raws.now c.args.place) c.loop-number.hints.items c.in_ok-own.own.items c.append.new.self.items c.in_ok-append.ensures.items c.loop-number.invariant.hold
          (as_hints lines c.args.raws.now _ c.in_ok-own.own.items stands c.line_at.ensures c.in_ok-own.ensures);
      further = some_turned (IsLineOf c.args.raws.now c.args.place) c.loop-number.further c.further_line-further.result c.loop-number.number c.further_line-further.ensures c.loop-number.invariant.further stands;
    }
