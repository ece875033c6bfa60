use Rattle.std.proofs.Common.{[], refl, sym, ◌∙◌}
use Rattle.ti_without.specs.Rounds.{NoRound}
use Rattle.ti_without.specs.Without.{CantGoOn}
use Rattle.ti_without.proofs.certification.found_beside.Goals as goal

pub returns-then-not-can_go_on-clause-none : goal.returns-then-not-can_go_on-clause-none
returns-then-not-can_go_on-clause-none c = record {
  refusal = c.requires.refusal;
  end = record {
    left = [];
    rounds = NoRound [] refl;
    stop = record { refused = c.requires.refused; last = CantGoOn c.args.nos.now c.requires (sym c.can_go_on.ensures ∙ c.if-not-can_go_on.true) };
  };
  claims = c.requires.claims;
}
