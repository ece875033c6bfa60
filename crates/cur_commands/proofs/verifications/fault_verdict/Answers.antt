use Rattle.cur_commands.specs.Faults.{fault_text}
use Rattle.cur_commands.proofs.verifications.fault_verdict.Goals as goal

pub returns : goal.returns
returns c = c.verdict.ensures (fault_text c.args.fault.now) c.fault_words.ensures
