use Rattle.std.proofs.Common.{Some}
use Rattle.std.proofs.lemmas.Bool.Decides.{Decides-eqb}
use Rattle.std.proofs.lemmas.Slice.Eq.{strip_prefix_is}
use Rattle.cur_steps.specs.Sets.{Behind}
use Rattle.cur_steps.proofs.SetFacts.{mapped}
use Rattle.cur_steps.proofs.sets.numerals_behind.Goals as goal

pub returns-in-Some : goal.returns-in-Some
returns-in-Some c =
    let is = strip_prefix_is Decides-eqb c.args.bytes.now c.args.other.now (Some c.in-Some.rest) c.in-Some.ensures.cases in
    mapped _ _ c.numerals_of.result (λ n r. Behind c.in-Some.rest.now r is) c.numerals_of.ensures
