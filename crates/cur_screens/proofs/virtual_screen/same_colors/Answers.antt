use Rattle.std.proofs.Common.{◌≡◌, ◌∙◌, ℕ, arith, inl, inr, slice_index_or, sym}
use Rattle.std.proofs.lemmas.Bool.{cases_lt}
use Rattle.std.proofs.lemmas.List.{ext_get_or}
use Rattle.cur_screens.specs.VirtualScreen.{default_colors}
use Rattle.cur_screens.proofs.virtual_screen.same_colors.Goals as goal

pub returns-clause-same : goal.returns-clause-same
returns-clause-same c is =
    let all : (p : ℕ) → slice_index_or c.args.a.now p default_colors ≡ slice_index_or c.args.b.now p default_colors = λ p. elim (cases_lt p c.loop-pair.pair) [
      | inl before ↦ c.loop-pair.invariant p before
      | inr past ↦ c.requires.others.colors p (omega (arith, past)) ∙ sym (c.requires.others_too.colors p (omega (arith, past)))
    ] in
    ext_get_or default_colors _ _ (c.requires.long ∙ sym c.requires.long_too) (λ p lt. all p)
