use Rattle.ti_compiled.proofs.Files.{file_size_is}
use Rattle.ti_compiled.proofs.pack.file_size.Goals as goal

pub returns-clause-value : goal.returns-clause-value
returns-clause-value c = file_size_is c.args.entry.now c.args.plan.now c.args.names.now c.width.result c.requires.plan c.requires.names c.width.ensures.value
