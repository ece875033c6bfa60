use Rattle.std.proofs.Common.{◌∙◌, Ok, ap, sym, arith}
use Rattle.ti_source.proofs.Stretching.{further_end, further_fails, further_more, further_out}
use Rattle.ti_source.proofs.apart.further_of.Goals as goal

pub returns-then-begins_entry-clause-ok : goal.returns-then-begins_entry-clause-ok
returns-then-begins_entry-clause-ok c =
    further_end c.loop-line.number c.loop-line.draft _ c.in-Some.line.now c.loop-line.rest.now c.in-Some.behind.now c.in-Some.ensures.found (sym c.begins_entry.ensures ∙ c.if-begins_entry.true) c.loop-line.invariant.entry
    ∙ ap Ok (sym c.into_entry.ensures)

pub loop-line-preserved : goal.loop-line-preserved
loop-line-preserved c = record {
  number = omega (arith, c.in-Some.ensures.shorter, c.loop-line.invariant.number);
  entry = further_more c.loop-line.number c.loop-line.draft c.add_line.new.draft _ c.in-Some.line.now c.loop-line.rest.now c.in-Some.behind.now c.in-Some.ensures.found (sym c.begins_entry.ensures ∙ c.if-begins_entry.false) c.in_default-add_line.ensures.ok c.loop-line.invariant.entry;
}

pub returns-in-Err-clause-fault : goal.returns-in-Err-clause-fault
returns-in-Err-clause-fault c =
    further_fails c.loop-line.number c.in-Err.fault c.loop-line.draft _ c.in-Some.line.now c.loop-line.rest.now c.in-Some.behind.now c.in-Some.ensures.found (sym c.begins_entry.ensures ∙ c.if-begins_entry.false) c.in-Err.ensures.line c.in-Err.ensures.kind c.loop-line.invariant.entry

pub returns-clause-ok : goal.returns-clause-ok
returns-clause-ok c = further_out c.loop-line.number c.loop-line.draft _ c.loop-line.rest.now c.in_default.ensures.none c.loop-line.invariant.entry ∙ ap Ok (sym c.into_entry-2.ensures)
