use Rattle.std.proofs.Common.{◌∙◌, arith}
use Rattle.std.proofs.lemmas.List.{length-set}
use Rattle.terminfo_c.specs.Tables.{flag_value}
use Rattle.terminfo_c.proofs.Positions.{one_more}
use Rattle.terminfo_c.proofs.tables.put_flags.Goals as goal

pub loop-position-preserved : goal.loop-position-preserved
loop-position-preserved c = record {
  size = length-set c.loop-position.flags c.loop-position.position c.flag_value.result ∙ c.loop-position.invariant.size;
  each = one_more (λ flag. flag) (flag_value c.args.packed.now) c.loop-position.flags c.loop-position.position c.flag_value.result (omega (arith, c.loop-position-test.true, c.loop-position.invariant.size)) c.loop-position.invariant.each c.flag_value.ensures;
}
