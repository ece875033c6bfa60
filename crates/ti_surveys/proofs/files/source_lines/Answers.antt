use Rattle.std.proofs.Common.{ap}
use Rattle.ti_surveys.specs.Lines as spec
use Rattle.ti_sources.specs.LinedFiles.{put_files}
use Rattle.ti_surveys.specs.Told.{Told, told_of}
use Rattle.ti_surveys.proofs.HeardFacts.{hears_next, hears_nothing}
use Rattle.ti_surveys.proofs.SaidFacts.{said_of_none, said_step}
use Rattle.ti_surveys.proofs.files.source_lines.Goals as goal

pub loop-place-init : goal.loop-place-init
loop-place-init g c = record {
  told = said_of_none (spec.IsSourcePart (g.S.Speaker.says c.args.speaker.now) (g.S.Speaker.refuses c.args.speaker.now) c.args.source.now.path.now (put_files c.args.source.now.files) c.args.source.now.index.now.raws.now c.args.source.now.faults.now) (told_of c.new-said.result) c.new-said.ensures;
  heard = hears_nothing g.W.Watcher.heard g.W.Watcher.has_failed c.args.watcher.now c.new-said.result.lines.items (ap (λ (t : Told). t.lines) c.new-said.ensures);
}

-- the lines of the next entry follow those so far
pub loop-place-preserved : goal.loop-place-preserved
loop-place-preserved g c = record {
  told = said_step (spec.IsSourcePart (g.S.Speaker.says c.args.speaker.now) (g.S.Speaker.refuses c.args.speaker.now) c.args.source.now.path.now (put_files c.args.source.now.files) c.args.source.now.index.now.raws.now c.args.source.now.faults.now) c.loop-place.place
      (told_of c.loop-place.said) (told_of c.in_ok-own.own) (told_of c.add.new.self) c.in_ok-add.ensures c.loop-place.invariant.told c.in_ok-own.ensures;
  heard = hears_next g.W.Watcher.heard g.W.Watcher.has_failed c.args.watcher.now c.loop-place.watcher c.begins.new.self c.pass_on.new.watcher c.loop-place.said.lines.items c.in_ok-own.own.lines.items c.add.new.self.lines.items
      (ap (λ (t : Told). t.lines) c.in_ok-add.ensures) c.loop-place.invariant.heard c.begins.ensures.heard c.begins.ensures.failed c.pass_on.ensures;
}
