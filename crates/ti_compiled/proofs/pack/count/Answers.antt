use Rattle.std.proofs.Common.{◌≡◌, ◌<◌, true, false, sym, ◌∙◌, arith}
use Rattle.ti_caps.specs.Table.{count_of}
use Rattle.ti_compiled.specs.Written.{count_for}
use Rattle.ti_compiled.proofs.Rows.{counted_more, counted_all, count_small}
use Rattle.ti_compiled.proofs.pack.count.Goals as goal
use Rattle.ti_compiled.proofs.pack.count.Goals.{then-is_there, else-is_there}

pub loop-position-preserved : goal.loop-position-preserved
loop-position-preserved c =
    let within : c.loop-position.position < count_of c.args.kind = omega (arith, c.loop-position-test.true, c.total-position-end.ensures) in
    elim c.if-is_there.branch [
      | then-is_there w ↦ w.count-is ∙ counted_more c.args.kind c.args.entry.now c.loop-position.position c.loop-position.count true c.requires.size within c.loop-position.invariant (sym w.if-is_there.true ∙ c.is_there.ensures)
      | else-is_there w ↦ w.count-is ∙ counted_more c.args.kind c.args.entry.now c.loop-position.position c.loop-position.count false c.requires.size within c.loop-position.invariant (sym w.if-is_there.false ∙ c.is_there.ensures)
    ]

pub returns-clause-value : goal.returns-clause-value
returns-clause-value c =
    counted_all c.args.kind c.args.entry.now c.loop-position.position c.loop-position.count c.requires.size (omega (arith, c.loop-position-test.false, c.total-position-end.ensures)) c.loop-position.invariant

pub returns-clause-range : goal.returns-clause-range
returns-clause-range c =
    let all : c.loop-position.count ≡ count_for c.args.kind c.args.entry.now =
    counted_all c.args.kind c.args.entry.now c.loop-position.position c.loop-position.count c.requires.size (omega (arith, c.loop-position-test.false, c.total-position-end.ensures)) c.loop-position.invariant in
    omega (arith, all, count_small c.args.kind c.args.entry.now c.requires.size)
