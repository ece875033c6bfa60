use Rattle.std.proofs.Common.{sym, ◌∙◌, arith}
use Rattle.ti_source.proofs.FieldLines.{lines_more, lines_end, lines_out}
use Rattle.ti_source.proofs.lines.Block.add_lines.Goals as goal

pub loop-line-preserved : goal.loop-line-preserved
loop-line-preserved c = record {
  number = omega (arith, c.in-Some.ensures.shorter, c.loop-line.invariant.number);
  fields = lines_more c.loop-line.number c.loop-line.self c.add_further.new.self _ c.in-Some.line.now c.loop-line.rest.now c.in-Some.behind.now c.in-Some.ensures.found (sym c.begins_entry.ensures ∙ c.if-begins_entry.false) c.in_ok-add_further.ensures c.loop-line.invariant.fields;
}

pub returns-then-begins_entry : goal.returns-then-begins_entry
returns-then-begins_entry c =
    lines_end c.loop-line.number c.loop-line.self _ c.in-Some.line.now c.loop-line.rest.now c.in-Some.behind.now c.in-Some.ensures.found (sym c.begins_entry.ensures ∙ c.if-begins_entry.true) c.loop-line.invariant.fields

pub returns-in_default : goal.returns-in_default
returns-in_default c = lines_out c.loop-line.number c.loop-line.self _ c.loop-line.rest.now c.in_default.ensures.none c.loop-line.invariant.fields
