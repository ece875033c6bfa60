use Rattle.std.proofs.Common.{◌≡◌, IfOk, subst}
use Rattle.vt_term.specs.Screen.{Settings}
use Rattle.ti_words.specs.Starts.{start_text}
use Rattle.ti_verdicts.proofs.starts.probe_words.Goals as goal

pub returns : goal.returns
returns c =
    subst (λ (s : Settings). IfOk c.start_words.result (λ words. words.items ≡ start_text c.args.size.rows s c.args.probe.now.fill)) c.settings_of.ensures c.start_words.ensures
