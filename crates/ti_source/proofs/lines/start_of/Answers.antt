use Rattle.std.proofs.Common.{◌≡◌, sym, ◌∙◌, subst, arith}
use Rattle.std.specs.Prelude.{slice_get}
use Rattle.ti_source.specs.Blocks.{entry_block}
use Rattle.ti_source.specs.Layout.{lines_of}
use Rattle.ti_source.specs.Lines.{blocks_from}
use Rattle.ti_source.proofs.FieldLines.{found_entry, one_fewer, passed_entry, passed_line}
use Rattle.ti_source.proofs.lines.start_of.Goals as goal
use Rattle.ti_source.proofs.lines.start_of.Goals.{then-begins_entry+else-left-eq0, else-begins_entry}

pub returns-then-left-eq0-clause-found : goal.returns-then-left-eq0-clause-found
returns-then-left-eq0-clause-found c =
    found_entry c.loop-line.number c.loop-line.left _ c.in-Some.line.now c.loop-line.rest.now c.in-Some.behind.now c.in-Some.ensures.found (sym c.begins_entry.ensures ∙ c.if-begins_entry.true) c.if-left-eq0.true c.loop-line.invariant.left

pub loop-line-preserved : goal.loop-line-preserved
loop-line-preserved c = record {
  number = omega (arith, c.in-Some.ensures.shorter, c.loop-line.invariant.number);
  left = elim c.if-begins_entry.branch [
    | then-begins_entry+else-left-eq0 w ↦
        passed_entry c.loop-line.number c.loop-line.left c.if-begins_entry.left _ c.in-Some.line.now c.loop-line.rest.now c.in-Some.behind.now c.in-Some.ensures.found (sym c.begins_entry.ensures ∙ w.if-begins_entry.true) (one_fewer c.loop-line.left c.if-begins_entry.left w.left-is w.if-left-eq0.false) c.loop-line.invariant.left
    | else-begins_entry w ↦
        passed_line c.loop-line.number c.if-begins_entry.left _ c.in-Some.line.now c.loop-line.rest.now c.in-Some.behind.now c.in-Some.ensures.found (sym c.begins_entry.ensures ∙ w.if-begins_entry.false)
        (subst (λ left. slice_get (blocks_from c.loop-line.number (lines_of c.loop-line.rest.now)).entries left ≡ entry_block c.args.text.now c.args.entry) (sym w.left-is) c.loop-line.invariant.left)
  ];
}
