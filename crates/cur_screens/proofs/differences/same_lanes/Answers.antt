use Rattle.std.proofs.Common.{◌≡◌, ◌%◌, ◌^◌, refl, sym, ap, ◌∙◌, Bool, true, false, w32}
use Rattle.std.specs.Bool.{OnTrue}
use Rattle.std.specs.Simd.Lanes.{mask_l}
use Rattle.std.proofs.lemmas.Simd.{tops_compared}
use Rattle.std.proofs.lemmas.Bool.{eqb-true}
use Rattle.cur_drawing.proofs.Numbers.{differ, equal_lanes}
use Rattle.cur_screens.proofs.differences.same_lanes.Goals as goal

pub returns : goal.returns
returns c =
    let a = c.args.a in
    let b = c.args.b in
    on_true _ _ (λ h. equal_lanes a b c.fits-a.0 c.fits-b.0 (sym (ap (λ ms. mask_l ms % 2 ^ 64) (tops_compared w32 differ a b)) ∙ eqb-true _ _ h))
  where
    on_true : (b : Bool) (P : Type 0) → (b ≡ true → P) → OnTrue b P
    on_true true P f = f refl
    on_true false P f = tt
