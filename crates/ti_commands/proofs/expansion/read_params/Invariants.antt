use Rattle.std.proofs.Common.{take}
use Rattle.ti_parm.specs.Value.{values_of}
use Rattle.ti_files.specs.Words.{GiveParams, texts_of}
use Rattle.ti_commands.proofs.expansion.read_params.Given as goal

abbrev pub invariant-loop-word : goal.invariant-loop-word
invariant-loop-word l = GiveParams (texts_of (take l.word-index l.words)) (values_of l.params.items)
