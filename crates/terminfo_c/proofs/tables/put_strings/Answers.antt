use Rattle.std.proofs.Common.{◌∙◌, arith}
use Rattle.std.proofs.lemmas.List.{length-set}
use Rattle.terminfo_c.specs.Tables.{string_value, text_of}
use Rattle.terminfo_c.proofs.Positions.{one_more}
use Rattle.terminfo_c.proofs.tables.put_strings.Goals as goal

pub loop-position-preserved : goal.loop-position-preserved
loop-position-preserved c = record {
  size = length-set c.loop-position.strings c.loop-position.position c.string_value.result ∙ c.loop-position.invariant.size;
  each = one_more text_of (string_value c.args.packed.now) c.loop-position.strings c.loop-position.position c.string_value.result (omega (arith, c.loop-position-test.true, c.loop-position.invariant.size)) c.loop-position.invariant.each c.string_value.ensures;
}
