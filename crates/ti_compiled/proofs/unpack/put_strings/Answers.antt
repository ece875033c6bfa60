use Rattle.std.proofs.Common.{arith, ◌≡◌, ◌+◌, ap, ◌∙◌}
use Rattle.ti_compiled.proofs.Fills.{short_at, strings_step, partly_all}
use Rattle.ti_compiled.specs.Contents.{entry_of, partly}
use Rattle.ti_compiled.specs.Readings.{parts_view}
use Rattle.ti_compiled.proofs.unpack.put_strings.Goals as goal

pub put_string-requires-clause-short : goal.put_string-requires-clause-short
put_string-requires-clause-short c = short_at (parts_view c.args.parts.now) c.loop-position.position c.loop-position-test.true c.requires.short

pub loop-position-preserved : goal.loop-position-preserved
loop-position-preserved c =
    strings_step (parts_view c.args.parts.now) c.loop-position.position c.loop-position.entry c.put_string.new.entry c.loop-position-test.true c.loop-position.invariant c.in_ok-put_string.ensures

pub returns : goal.returns
returns c =
    let place : 83 + c.loop-position.position ≡ 497 = omega arith in
    c.loop-position.invariant ∙ ap (partly (entry_of (parts_view c.args.parts.now))) place ∙ partly_all (parts_view c.args.parts.now)
