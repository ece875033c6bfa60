use Rattle.cur_steps.proofs.SetFacts.{fixed_alone, fixed_beside}
use Rattle.cur_steps.proofs.sets.fixes_rendition.Goals as goal

pub returns-in-Some : goal.returns-in-Some
returns-in-Some g c h =
    fixed_alone (g.C.Certificate.table c.args.checked.now) c.args.bytes.now c.in-Some.numerals.now c.in-Some.ensures (c.begins_plain.ensures h)

pub returns-in-Some-numerals_beside : goal.returns-in-Some-numerals_beside
returns-in-Some-numerals_beside g c h =
    fixed_beside (g.C.Certificate.table c.args.checked.now) c.requires.checked c.args.bytes.now c.in-Some-line.other.now c.in-Some-numerals_beside.numerals.now c.in-Some-line.ensures.value
    c.in-Some-numerals_beside.ensures (c.begins_plain-in-Some-numerals_beside.ensures h)
