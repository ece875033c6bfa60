use Rattle.std.proofs.Common.{◌≡◌, take}
use Rattle.ti_files.specs.Words.{texts_of}
use Rattle.ti_surveys.specs.Heard.{Hears}
use Rattle.ti_surveys.specs.Lines.{AreLines}
use Rattle.ti_surveys.specs.Surveys.{HasLines}
use Rattle.ti_surveys.specs.Told.{IsToldOrLeft, told_of}
use Rattle.ti_surveys.proofs.surveys.paths_said.Given as goal

-- the paths so far have their lines, which have been heard, or can't be read; no file is changed
abbrev pub invariant-loop-done : goal.invariant-loop-done
invariant-loop-done g l = record {
  told : IsToldOrLeft (HasLines (AreLines (g.S.Speaker.says l.survey.speaker.now) (g.S.Speaker.refuses l.survey.speaker.now) l.survey.further.now) (g.F.Files.holds l.initial.files)) (g.S.Speaker.leaves l.survey.speaker.now) (take l.done (texts_of l.paths)) (told_of l.parted.said) (texts_of l.parted.unread.items);
  heard : Hears g.W.Watcher.heard g.W.Watcher.has_failed l.initial.watcher l.watcher l.parted.said.lines.items;
  kept : g.F.Files.holds l.files ≡ g.F.Files.holds l.initial.files;
}
