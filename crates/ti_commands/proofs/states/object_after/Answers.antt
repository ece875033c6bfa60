use Rattle.std.proofs.Common.{ℕ, List, [], ◌∷◌, ◌++◌, ap, ◌∙◌}
use Rattle.std.specs.Prelude.{codes}
use Rattle.vt_states.specs.Json.{list_member, object}
use Rattle.ti_commands.proofs.states.object_after.Goals as goal

pub returns-clause-text : goal.returns-clause-text
returns-clause-text c =
    let front = c.as_slice-2.ensures.value ∙ c.in_ok-front.ensures ∙ ap (λ (l : List ℕ). list_member (codes "no_effect") l) c.as_slice.ensures.value in
    record {
      after = c.in_ok-snapshot.snapshot;
      runs = c.in_ok-snapshot.ensures.state;
      more = c.in_ok-items.items.items;
      spelled = c.in_ok-push.ensures.items ∙ ap (λ (t : List ℕ). t ++ 10 ∷ []) (c.in_ok-push_object.ensures
          ∙ ap (λ (t : List ℕ). t ++ object c.as_slice-2.result.now c.in_ok-snapshot.snapshot) c.new-text.ensures.items
          ∙ ap (λ (f : List ℕ). object f c.in_ok-snapshot.snapshot) front);
    }
