use Rattle.std.proofs.Common.{IfOk, option_map, subst}
use Rattle.vt_term.specs.Screen.{Settings}
use Rattle.ti_words.specs.Runs.{IsRunText}
use Rattle.ti_verdicts.proofs.starts.probe_run_words.Goals as goal

pub returns : goal.returns
returns c =
    subst (λ (s : Settings). IfOk c.run_words.result (λ found. IsRunText c.args.size.rows c.args.size.cols s c.args.probe.now.fill c.args.bytes.now (option_map (λ words. words.items) found))) c.settings_of.ensures c.run_words.ensures
