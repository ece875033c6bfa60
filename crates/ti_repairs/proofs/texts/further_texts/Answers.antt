use Rattle.std.proofs.Common.{◌∙◌, ◌++◌, List, ap, arith, take}
use Rattle.std.proofs.lemmas.Bool.Decides.{nat_tests}
use Rattle.std.proofs.lemmas.List.{drop_all, take-append-drop}
use Rattle.ti_repairs.proofs.TextFacts.{each_next, joined_next}
use Rattle.ti_repairs.proofs.texts.further_texts.Goals as goal
use Rattle.ti_source.specs.declared.types.RawEntry.{RawEntry}

-- one file more
pub loop-place-preserved : goal.loop-place-preserved
loop-place-preserved c = record {
  each = each_next c.args.further.now c.loop-place.place c.index-further-place.result c.loop-place.texts.items c.push.new.self.items c.in_ok-text.text
      (omega arith) c.index-further-place.is c.in_ok-push.ensures.items c.loop-place.invariant.each c.in_ok-text.ensures.sheet;
  joined = joined_next c.loop-place.texts.items c.push.new.self.items c.in_ok-text.text c.args.raws.now c.loop-place.rest.now c.split_at.result.0.now c.split_at.result.1.now
      c.in_ok-push.ensures.items c.in_ok-text.ensures.raws
      (ap (λ (raws : List RawEntry). raws ++ c.split_at.result.1.now) c.split_at.ensures.front
      ∙ (ap (λ (raws : List RawEntry). take c.own_count-count.result c.loop-place.rest.now ++ raws) c.split_at.ensures.back ∙ take-append-drop c.own_count-count.result c.loop-place.rest.now))
      c.loop-place.invariant.joined;
  ended = λ last. c.split_at.ensures.back ∙ drop_all c.own_count-count.result c.loop-place.rest.now (let all = c.own_count-count.ensures.last (grind (arith, nat_tests, last)) in omega (arith, all));
}
