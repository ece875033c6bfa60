use Rattle.std.proofs.Common.{◌≡◌, take}
use Rattle.ti_commands.specs.Further.{AreHeld, path_texts}
use Rattle.ti_commands.proofs.further.files_at.Given as goal

-- the files so far, as their paths hold them; no file is changed
abbrev pub invariant-loop-path : goal.invariant-loop-path
invariant-loop-path g l = record {
  held : AreHeld (g.F.Files.holds l.initial.files) (path_texts (take l.path-index l.paths)) l.further.items;
  kept : g.F.Files.holds l.files ≡ g.F.Files.holds l.initial.files;
}
