use Rattle.std.proofs.lemmas.Result.{IfOk-weaker}
use Rattle.ti_verdicts.proofs.locations.origin_lines.Goals as goal

-- the files and the entries are those of the place
pub returns : goal.returns
returns c = IfOk-weaker c.field_lines.result _ _ (λ lines e. (c.in_ok-part.part, c.in_ok-part.ensures, e)) c.field_lines.ensures
