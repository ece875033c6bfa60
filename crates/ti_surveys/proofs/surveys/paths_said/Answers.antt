use Rattle.std.proofs.Common.{◌<◌, ◌∙◌, ap, length, refl, arith}
use Rattle.ti_files.specs.Words.{texts_of}
use Rattle.ti_surveys.specs.Lines.{AreLines}
use Rattle.ti_surveys.specs.Surveys.{HasLines}
use Rattle.ti_surveys.specs.Told.{Told, told_of}
use Rattle.ti_surveys.proofs.HeardFacts.{hears_next, hears_nothing}
use Rattle.ti_surveys.proofs.SaidFacts.{paths_step, told_or_left_none}
use Rattle.ti_surveys.proofs.surveys.paths_said.Goals as goal

pub loop-done-init : goal.loop-done-init
loop-done-init g c = record {
  told = told_or_left_none (HasLines (AreLines (g.S.Speaker.says c.args.survey.now.speaker.now) (g.S.Speaker.refuses c.args.survey.now.speaker.now) c.args.survey.now.further.now) (g.F.Files.holds c.args.files.now)) (g.S.Speaker.leaves c.args.survey.now.speaker.now) (told_of c.new.result) (texts_of c.new-2.result.items) c.new.ensures (ap texts_of c.new-2.ensures.items);
  heard = hears_nothing g.W.Watcher.heard g.W.Watcher.has_failed c.args.watcher.now c.new.result.lines.items (ap (λ (t : Told). t.lines) c.new.ensures);
  kept = refl;
}

-- the lines of the next path follow those so far
pub loop-done-preserved : goal.loop-done-preserved
loop-done-preserved g c =
    let here : c.loop-done.done < length c.args.paths.now = omega arith in
    record {
      told = paths_step (AreLines (g.S.Speaker.says c.args.survey.now.speaker.now) (g.S.Speaker.refuses c.args.survey.now.speaker.now) c.args.survey.now.further.now) (g.S.Speaker.leaves c.args.survey.now.speaker.now) (g.F.Files.holds c.args.files.now) (g.F.Files.holds c.loop-done.files) c.args.paths.now c.loop-done.done _
          (told_of c.loop-done.parted.said) (told_of c.add.new.self.said) (told_of c.in_ok-own.own.said) (texts_of c.loop-done.parted.unread.items) (texts_of c.add.new.self.unread.items) c.in_ok-own.own.is_left
          here c.loop-done.invariant.kept c.in_ok-add.ensures.told c.in_ok-add.ensures.unread c.loop-done.invariant.told c.in_ok-own.ensures.told;
      heard = hears_next g.W.Watcher.heard g.W.Watcher.has_failed c.args.watcher.now c.loop-done.watcher c.begins.new.self c.path_said.new.watcher c.loop-done.parted.said.lines.items c.in_ok-own.own.said.lines.items c.add.new.self.said.lines.items
          (ap (λ (t : Told). t.lines) c.in_ok-add.ensures.told) c.loop-done.invariant.heard c.begins.ensures.heard c.begins.ensures.failed c.in_ok-own.ensures.heard;
      kept = c.path_said.ensures.kept ∙ c.loop-done.invariant.kept;
    }
