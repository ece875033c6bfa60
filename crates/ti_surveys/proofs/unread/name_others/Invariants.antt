use Rattle.std.proofs.Common.{◌≡◌, ◌++◌, take}
use Rattle.std.specs.Prelude.{map}
use Rattle.ti_files.specs.Words.{texts_of}
use Rattle.ti_surveys.specs.Surveys.{further}
use Rattle.ti_surveys.proofs.unread.name_others.Given as goal

-- the paths before this one have their remarks
abbrev pub invariant-loop-path : goal.invariant-loop-path
invariant-loop-path l = l.remarks ≡ l.fn.remarks ++ map further (take l.path-index (texts_of l.others))
