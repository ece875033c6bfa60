use Rattle.vt_term.proofs.Runs.{runs_or_sticks}
use Rattle.ti_words.proofs.runs.words_from.Goals as goal

-- the bytes got stuck
pub returns : goal.returns
returns c = λ end run. runs_or_sticks c.args.terminal end c.feed.new.self c.args.bytes.now c.in-Err.field-0.at run c.in-Err.ensures.stuck
