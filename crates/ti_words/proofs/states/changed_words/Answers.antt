use Rattle.std.proofs.Common.{◌≡◌, ◌++◌, subst}
use Rattle.vt_term.specs.Screen.{Settings}
use Rattle.ti_words.specs.Starts.{settings_text}
use Rattle.ti_words.proofs.Joins.{in_three}
use Rattle.ti_words.proofs.states.changed_words.Goals as goal

-- the cells, the cursor, and the settings beside those at rest
pub returns : goal.returns
returns c =
    in_three c.new-words.result.items c.push_changed.new.words.items c.push_cursor.new.words.items c.push_settings.new.words.items _ _ _ c.new-words.ensures.items c.in_ok-push_changed.ensures c.in_ok-push_cursor.ensures
    (subst (λ (rest : Settings). c.push_settings.new.words.items ≡ c.push_cursor.new.words.items ++ settings_text c.args.before.now rest c.args.now.now) c.at_rest.ensures c.in_ok-push_settings.ensures)
