use Rattle.std.proofs.Common.{List, ℕ, ap, ◌∙◌}
use Rattle.ti_conforms.specs.Charsets.{joined, reach_of}
use Rattle.ti_checker.proofs.kept.see_row.Goals as goal

pub returns-in-Ok-clause-seen : goal.returns-in-Ok-clause-seen
returns-in-Ok-clause-seen c = record {
  tokens = c.in_ok-found.found.tokens.items;
  change = c.in_ok-found.found.change;
  is = c.in_ok-found.ensures.change;
  reach_is = c.add_change.ensures.reach ∙ (c.learn_all.ensures ∙ ap (λ (ts : List (List ℕ)). joined c.args.seen.now.reach (reach_of ts)) c.deref.ensures.value);
  changes_are = c.in-Ok.ensures.changes;
}
