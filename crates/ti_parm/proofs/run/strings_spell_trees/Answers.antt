use Rattle.ti_parm.proofs.Spellings.{syntax-read, syntax-written}
use Rattle.ti_parm.proofs.run.strings_spell_trees.Goals as goal

pub returns-clause-read : goal.returns-clause-read
returns-clause-read c = syntax-read

pub returns-clause-written : goal.returns-clause-written
returns-clause-written c = syntax-written
