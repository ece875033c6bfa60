use Rattle.std.proofs.Common.{◌≡◌, ◌+◌, ◌++◌, ◌∙◌, ap, sym, subst, arith}
use Rattle.std.specs.Prelude.{map}
use Rattle.ti_source.specs.Apart.{alone, stretches_from}
use Rattle.ti_source.specs.Layout.{lines_of}
use Rattle.ti_source.specs.declared.apart.Apart.{Apart}
use Rattle.ti_source.proofs.Stretching.{entries_begun, entries_passed}
use Rattle.ti_source.proofs.apart.entries_of.Goals as goal
use Rattle.ti_source.proofs.apart.entries_of.Goals.{then-begins_entry+in_ok-add, else-begins_entry}

-- one more entry, or a line that doesn't begin one
pub loop-line-preserved : goal.loop-line-preserved
loop-line-preserved c = record {
  number = omega (arith, c.in-Some.ensures.shorter, c.loop-line.invariant.number);
  raws = elim c.if-begins_entry.branch [
    | then-begins_entry+in_ok-add w ↦
        entries_begun (λ s. (alone s).raw) c.loop-line.number c.loop-line.apart.raws.items c.if-begins_entry.apart.raws.items _ c.in-Some.line.now c.loop-line.rest.now c.in-Some.behind.now c.in-Some.ensures.found (sym c.begins_entry.ensures ∙ w.if-begins_entry.true)
        (ap (λ (a : Apart). a.raws.items) w.apart-is ∙ w.in_ok-add.ensures.raws) c.loop-line.invariant.raws
    | else-begins_entry w ↦
        subst (λ (a : Apart). a.raws.items ++ map (λ s. (alone s).raw) (stretches_from (c.loop-line.number + 1) (lines_of c.in-Some.behind.now)).entries ≡ map (λ s. (alone s).raw) (stretches_from 1 (lines_of c.args.text.now)).entries) (sym w.apart-is)
        (entries_passed (λ s. (alone s).raw) c.loop-line.number c.loop-line.apart.raws.items _ c.in-Some.line.now c.loop-line.rest.now c.in-Some.behind.now c.in-Some.ensures.found (sym c.begins_entry.ensures ∙ w.if-begins_entry.false) c.loop-line.invariant.raws)
  ];
  faults = elim c.if-begins_entry.branch [
    | then-begins_entry+in_ok-add w ↦
        entries_begun (λ s. (alone s).fault) c.loop-line.number c.loop-line.apart.faults.items c.if-begins_entry.apart.faults.items _ c.in-Some.line.now c.loop-line.rest.now c.in-Some.behind.now c.in-Some.ensures.found (sym c.begins_entry.ensures ∙ w.if-begins_entry.true)
        (ap (λ (a : Apart). a.faults.items) w.apart-is ∙ w.in_ok-add.ensures.faults) c.loop-line.invariant.faults
    | else-begins_entry w ↦
        subst (λ (a : Apart). a.faults.items ++ map (λ s. (alone s).fault) (stretches_from (c.loop-line.number + 1) (lines_of c.in-Some.behind.now)).entries ≡ map (λ s. (alone s).fault) (stretches_from 1 (lines_of c.args.text.now)).entries) (sym w.apart-is)
        (entries_passed (λ s. (alone s).fault) c.loop-line.number c.loop-line.apart.faults.items _ c.in-Some.line.now c.loop-line.rest.now c.in-Some.behind.now c.in-Some.ensures.found (sym c.begins_entry.ensures ∙ w.if-begins_entry.false) c.loop-line.invariant.faults)
  ];
}
