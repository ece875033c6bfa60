use Rattle.std.specs.List.{range_with_len}
use Rattle.ti_surveys.specs.Heard.{Hears}
use Rattle.ti_surveys.specs.Lines as spec
use Rattle.ti_sources.specs.LinedFiles.{put_files}
use Rattle.ti_surveys.specs.Told.{IsToldOfEach, told_of}
use Rattle.ti_surveys.proofs.files.source_lines.Given as goal

-- the entries before this one have their lines, which have been heard
abbrev pub invariant-loop-place : goal.invariant-loop-place
invariant-loop-place g l = record {
  told : IsToldOfEach (spec.IsSourcePart (g.S.Speaker.says l.speaker) (g.S.Speaker.refuses l.speaker) l.source.path.now (put_files l.source.files) l.source.index.now.raws.now l.source.faults.now) (range_with_len 0 l.place) (told_of l.said);
  heard : Hears g.W.Watcher.heard g.W.Watcher.has_failed l.initial.watcher l.watcher l.said.lines.items;
}
