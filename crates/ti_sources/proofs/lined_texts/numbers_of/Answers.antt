use Rattle.std.proofs.Common.{◌≡◌, ◌+◌, ◌++◌, ◌∙◌, ℕ, Vec, Global, sym, subst, arith}
use Rattle.std.specs.Prelude.{map}
use Rattle.ti_sources.specs.LinedTexts.{numbered, numbers_of}
use Rattle.ti_source.specs.Layout.{lines_of}
use Rattle.ti_source.specs.Lines.{blocks_from}
use Rattle.ti_sources.proofs.LinedFacts.{numbers_begun, numbers_passed}
use Rattle.ti_sources.proofs.lined_texts.numbers_of.Goals as goal
use Rattle.ti_sources.proofs.lined_texts.numbers_of.Goals.{then-begins_entry+in_ok-own+in_ok-push, else-begins_entry}

-- one more entry, or a line that doesn't begin one
pub loop-line-preserved : goal.loop-line-preserved
loop-line-preserved c = record {
  before = omega (arith, c.in-Some.ensures.shorter, c.loop-line.invariant.before);
  all = elim c.if-begins_entry.branch [
    | then-begins_entry+in_ok-own+in_ok-push w ↦
        subst (λ (all : Vec (Vec ℕ Global) Global). map (λ (own : Vec ℕ Global). own.items) all.items ++ map numbered (blocks_from (c.loop-line.before + 1 + 1) (lines_of c.in-Some.behind.now)).entries ≡ numbers_of c.args.text.now) (sym w.all-is)
        (numbers_begun (λ (own : Vec ℕ Global). own.items) c.loop-line.before c.loop-line.all.items _ w.in_ok-own.own _ c.in-Some.line.now c.loop-line.rest.now c.in-Some.behind.now c.in-Some.ensures.found (sym c.begins_entry.ensures ∙ w.if-begins_entry.true) w.in_ok-own.ensures w.in_ok-push.ensures.items c.loop-line.invariant.all)
    | else-begins_entry w ↦
        subst (λ (all : Vec (Vec ℕ Global) Global). map (λ (own : Vec ℕ Global). own.items) all.items ++ map numbered (blocks_from (c.loop-line.before + 1 + 1) (lines_of c.in-Some.behind.now)).entries ≡ numbers_of c.args.text.now) (sym w.all-is)
        (numbers_passed (λ (own : Vec ℕ Global). own.items) c.loop-line.before c.loop-line.all.items _ c.in-Some.line.now c.loop-line.rest.now c.in-Some.behind.now c.in-Some.ensures.found (sym c.begins_entry.ensures ∙ w.if-begins_entry.false) c.loop-line.invariant.all)
  ];
}
