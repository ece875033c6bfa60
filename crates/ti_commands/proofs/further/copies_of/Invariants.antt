use Rattle.std.proofs.Common.{◌≡◌, take}
use Rattle.ti_commands.specs.Further.{path_texts}
use Rattle.ti_files.specs.Words.{texts_of}
use Rattle.ti_commands.proofs.further.copies_of.Given as goal

abbrev pub invariant-loop-text : goal.invariant-loop-text
invariant-loop-text l = path_texts l.copies.items ≡ texts_of (take l.text-index l.texts)
