use Rattle.std.proofs.Common.{◌≡◌, ◌++◌, OnOk, subst}
use Rattle.vt_term.specs.Screen.{Settings}
use Rattle.ti_words.specs.Starts.{settings_text}
use Rattle.ti_words.proofs.starts.push_unreset.Goals as goal

-- the settings beside those at rest, which are those before too
pub returns : goal.returns
returns c =
    subst (λ (rest : Settings). OnOk c.push_settings.result (c.push_settings.new.words.items ≡ c.args.words.now.items ++ settings_text rest rest c.args.start.now)) c.at_rest-rest.ensures c.push_settings.ensures
