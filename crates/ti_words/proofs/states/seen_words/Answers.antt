use Rattle.std.proofs.Common.{◌≡◌, ◌∙◌, ℕ, List, IfOk, subst}
use Rattle.vt_term.specs.Screen.{Settings, settings_of}
use Rattle.ti_words.specs.Seen.{changes_from, outcome_text}
use Rattle.ti_words.specs.declared.changes.Change.{Change}
use Rattle.ti_words.proofs.states.seen_words.Goals as goal

-- the changes and the settings are those of the screen
pub returns : goal.returns
returns c =
    subst (λ (n : ℕ). IfOk c.outcome.result (λ words. words.items ≡ outcome_text n c.args.start.now (changes_from c.args.fill 0 c.args.end.now.screen.grid) (settings_of c.args.end.now.screen))) c.size.ensures.rows
    (subst (λ (changes : List Change). IfOk c.outcome.result (λ words. words.items ≡ outcome_text c.size.result.rows c.args.start.now changes (settings_of c.args.end.now.screen))) (c.as_slice.ensures.value ∙ c.in_ok-changes.ensures)
    (subst (λ (s : Settings). IfOk c.outcome.result (λ words. words.items ≡ outcome_text c.size.result.rows c.args.start.now c.as_slice.result.now s)) c.settings.ensures c.outcome.ensures))
