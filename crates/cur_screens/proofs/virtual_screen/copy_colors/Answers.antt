use Rattle.std.proofs.Common.{◌≡◌, ◌∙◌, ℕ, arith, inl, inr, slice_index_or, sym}
use Rattle.std.proofs.lemmas.Bool.{cases_lt}
use Rattle.std.proofs.lemmas.List.{ext_get_or}
use Rattle.cur_screens.specs.VirtualScreen.{default_colors}
use Rattle.cur_screens.proofs.virtual_screen.copy_colors.Goals as goal

pub returns : goal.returns
returns c =
    let all : (p : ℕ) → slice_index_or c.loop-pair.pairs p default_colors ≡ slice_index_or c.args.source.now p default_colors = λ p. elim (cases_lt p c.loop-pair.pair) [
      | inl before ↦ c.loop-pair.invariant.same p (inl before)
      | inr past ↦ c.loop-pair.invariant.same p (inr (omega (arith, past)))
    ] in
    ext_get_or default_colors _ _ (c.loop-pair.invariant.size ∙ sym c.requires.long_too) (λ p lt. all p)
