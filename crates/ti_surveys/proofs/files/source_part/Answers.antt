use Rattle.std.proofs.lemmas.Result.{IfOk-weaker}
use Rattle.ti_sources.specs.LinedFiles.{put_files}
use Rattle.ti_surveys.specs.Told.{told_of}
use Rattle.ti_surveys.proofs.SaidFacts.{source_part_of}
use Rattle.ti_surveys.proofs.files.source_part.Goals as goal

pub returns : goal.returns
returns g c =
    IfOk-weaker c.entry_lines.result _ _
    (λ said told. source_part_of (g.S.Speaker.says c.args.speaker.now) (g.S.Speaker.refuses c.args.speaker.now) c.args.source.now.path.now (put_files c.args.source.now.files) c.args.source.now.index.now.raws.now c.args.source.now.faults.now c.args.place c.in_ok-stands_at.field-0 c.raw_at-raw.result.now c.in_ok-entry.entry
    c.as_slice.result.now c.first_name-name.result.now (told_of said) c.raw_at-raw.ensures c.as_slice.ensures c.first_name-name.ensures c.in_ok-entry.ensures c.in_ok-stands_at.ensures.stands told)
    c.entry_lines.ensures
