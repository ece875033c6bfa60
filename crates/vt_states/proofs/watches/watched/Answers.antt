use Rattle.std.proofs.Common.{◌≡◌, ℕ, ◌∷◌, ◌++◌, [], List, refl, sym, subst, ap, ◌∙◌, ◌-◌, length, drop, arith, length-drop}
use Rattle.std.proofs.lemmas.List.{take_all}
use Rattle.vt_term.specs.Screen.{reset}
use Rattle.vt_term.specs.Run.{Runs}
use Rattle.vt_states.proofs.Endings.{cancelled}
use Rattle.vt_states.proofs.watches.watched.Goals as goal

pub returns : goal.returns
returns c =
    let closed : c.as_slice.result.now ≡ c.args.text.now ++ 24 ∷ [] = c.as_slice.ensures.value ∙ c.in_ok-push.ensures.items ∙ ap (λ (l : List ℕ). l ++ 24 ∷ []) c.in_ok-closed.ensures.items in
    λ rows cols after r. record {
      switches = c.in_ok-switches.ensures rows cols (record after { rest = [] }) (subst (λ (l : List ℕ). Runs (reset rows cols) l (record after { rest = [] })) (sym closed) (cancelled rows cols c.args.text.now after r)) refl;
      rest = c.in_ok-rest.ensures.rest r.tokens after.rest r.splits ∙ sym (take_all (length c.args.text.now - c.in_ok-rest.field-0) (drop c.in_ok-rest.field-0 c.args.text.now) (omega (arith, length-drop c.in_ok-rest.field-0 c.args.text.now)));
    }
