use Rattle.std.proofs.Common.{◌≤◌, ◌+◌, ℕ, IfNone, IfSome, inl, inr, arith, subst, List, length}
use Rattle.std.proofs.lemmas.Bool.{cases_lt}
use Rattle.ti_blames.specs.Values.{IsCut, IsFirstCut}
use Rattle.ti_blames.proofs.values.meant_stretch.Goals as goal

-- the first cut at the stretch's start isn't behind the part's, so the search for its end passes no end of a part
pub returns-in-None-clause-none : goal.returns-in-None-clause-none
returns-in-None-clause-none c = λ part within meaning.
    let text : List ℕ = c.args.text.now in
    let bytes : List ℕ = c.args.bytes.now in
    let start : IsFirstCut text bytes c.args.stretch.from 0 c.in-Some.from = subst (λ found. IfSome found (IsFirstCut text bytes c.args.stretch.from 0)) c.in-Some.is c.in_ok-from.ensures.cut in
    elim (cases_lt part.from c.in-Some.from) [
      | inl before ↦ start.least part.from (omega (arith)) before meaning.starts
      | inr behind ↦ subst (λ found. IfNone found ((place : ℕ) → c.in-Some.from + 1 ≤ place → place ≤ length text → IsCut text bytes c.args.stretch.to place → ⊥)) c.in-None.is c.in_ok-to.ensures.none part.to (omega (arith, behind, meaning.within.filled)) meaning.within.ends meaning.ends
    ]
