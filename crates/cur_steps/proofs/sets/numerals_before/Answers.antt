use Rattle.std.proofs.Common.{Some}
use Rattle.std.proofs.lemmas.Bool.Decides.{Decides-eqb}
use Rattle.std.proofs.lemmas.Slice.Eq.{strip_suffix_is}
use Rattle.cur_steps.specs.Sets.{Before}
use Rattle.cur_steps.proofs.SetFacts.{mapped}
use Rattle.cur_steps.proofs.sets.numerals_before.Goals as goal

pub returns-in-Some : goal.returns-in-Some
returns-in-Some c =
    let is = strip_suffix_is Decides-eqb c.args.bytes.now c.args.other.now (Some c.in-Some.rest) c.in-Some.ensures.cases in
    mapped _ _ c.numerals_of.result (λ n r. Before c.in-Some.rest.now r is) c.numerals_of.ensures
