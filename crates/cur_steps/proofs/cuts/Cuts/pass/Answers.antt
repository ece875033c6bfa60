use Rattle.std.proofs.Common.{◌≡◌, ℕ, List, [], ◌∷◌, zero, suc, drop, Some, refl, sym, ap, ◌∙◌}
use Rattle.std.proofs.lemmas.List.{drop-drop}
use Rattle.cur_steps.specs.Fuse.{passed, first_of}
use Rattle.cur_steps.proofs.cuts.Cuts.pass.Goals as goal

due_passed : (cuts : List ℕ) → first_of cuts ≡ Some 0 → drop 1 cuts ≡ passed cuts
due_passed [] e = cc
due_passed (zero ∷ cuts) e = refl
due_passed (suc n ∷ cuts) e = cc

pub returns : goal.returns
returns c =
    let now = c.args.self.now in
    record {
      value = sym (drop-drop 1 c.self.inside.passed c.self.inside.bytes.items) ∙ ap (λ (l : List ℕ). drop 1 l) c.self.view_is ∙ due_passed now c.requires;
    }
