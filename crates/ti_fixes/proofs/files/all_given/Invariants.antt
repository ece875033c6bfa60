use Rattle.std.proofs.Common.{drop}
use Rattle.std.specs.List.{AllByRecursion}
use Rattle.ti_fixes.proofs.FileFacts.{FitsChange, GivesSoFar}
use Rattle.ti_fixes.proofs.files.all_given.Given as goal

-- the files before this one are given theirs
abbrev pub invariant-loop-file : goal.invariant-loop-file
invariant-loop-file l = record {
  fits : AllByRecursion FitsChange l.left.items;
  so_far : GivesSoFar l.fn.changes.items l.files l.left.items (drop l.file-index l.files) l.news.items;
}
