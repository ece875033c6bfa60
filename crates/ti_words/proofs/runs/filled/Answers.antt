use Rattle.std.proofs.Common.{◌≡◌, ◌*◌, List, ℕ, replicate, rules, subst}
use Rattle.vt_term.specs.Run.{Sticks}
use Rattle.vt_term.specs.Screen.{State, reset}
use Rattle.ti_words.proofs.RunFacts.{stuck_never_starts}
use Rattle.ti_words.proofs.runs.filled.Goals as goal

-- the character got stuck
pub returns-in-Err : goal.returns-in-Err
returns-in-Err c =
    let cells : c.as_slice.result.now ≡ replicate (c.args.size.rows * c.args.size.cols) c.args.fill = search rules in
    let begins : c.in_ok-terminal.terminal ≡ reset c.args.size.rows c.args.size.cols = c.in_ok-terminal.ensures in
    stuck_never_starts c.args.size.rows c.args.size.cols c.args.settings.now c.args.fill c.feed.new.self c.in-Err.field-0.at
    (subst (λ (s : State). Sticks s (replicate (c.args.size.rows * c.args.size.cols) c.args.fill) c.in-Err.field-0.at c.feed.new.self) begins
    (subst (λ (bytes : List ℕ). Sticks c.in_ok-terminal.terminal bytes c.in-Err.field-0.at c.feed.new.self) cells c.in-Err.ensures.stuck))
