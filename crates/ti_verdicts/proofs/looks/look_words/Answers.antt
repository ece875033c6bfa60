use Rattle.std.proofs.Common.{subst}
use Rattle.vt_term.proofs.Runs.{runs_or_sticks}
use Rattle.vt_term.specs.Run.{Sticks}
use Rattle.vt_term.specs.Screen.{State, reset}
use Rattle.ti_verdicts.proofs.looks.look_words.Goals as goal

-- the bytes got stuck
pub returns : goal.returns
returns c = λ end run.
    runs_or_sticks (reset c.args.size.rows c.args.size.cols) end c.feed.new.self c.args.bytes.now c.in-Err.field-0.at run
    (subst (λ (s : State). Sticks s c.args.bytes.now c.in-Err.field-0.at c.feed.new.self) c.in_ok-terminal.ensures c.in-Err.ensures.stuck)
