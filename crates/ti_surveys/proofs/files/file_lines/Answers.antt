use Rattle.std.proofs.Common.{Bool, subst}
use Rattle.ti_surveys.specs.Lines.{AreLinesBy}
use Rattle.ti_surveys.specs.Told.{told_of}
use Rattle.ti_surveys.proofs.files.file_lines.Goals as goal

-- a compiled file uses no other
pub returns-in_ok-compiled_lines-clause-told : goal.returns-in_ok-compiled_lines-clause-told
returns-in_ok-compiled_lines-clause-told g c =
    subst (λ (compiled : Bool). AreLinesBy compiled (g.S.Speaker.says c.args.survey.now.speaker.now) (g.S.Speaker.refuses c.args.survey.now.speaker.now) c.args.survey.now.further.now c.args.path.now c.args.bytes.now (told_of c.in_ok-compiled_lines.field-0))
    c.if-is_compiled.ensures (c.in_ok-compiled_lines.ensures.told c.args.survey.now.further.now)
