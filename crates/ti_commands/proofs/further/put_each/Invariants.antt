use Rattle.std.proofs.Common.{◌≡◌, take}
use Rattle.std.specs.List.{AllByRecursion}
use Rattle.ti_commands.specs.Further.{AreReached, path_texts, together_in}
use Rattle.ti_source.specs.Raw.{IsRaw}
use Rattle.ti_commands.proofs.further.put_each.Given as goal

-- the files so far have their entries behind the source's own; no file is changed
abbrev pub invariant-loop-path : goal.invariant-loop-path
invariant-loop-path g l = record {
  reached : AreReached (g.F.Files.holds l.initial.files) l.fn.own.items (path_texts (take l.path-index l.paths)) (together_in l.put);
  fit : AllByRecursion IsRaw l.put.raws.items;
  kept : g.F.Files.holds l.files ≡ g.F.Files.holds l.initial.files;
}
