use Rattle.std.proofs.Common.{ap, refl}
use Rattle.std.specs.Option.{option_copied}
use Rattle.ti_faults.specs.Remedies.{NoString}
use Rattle.ti_faults.proofs.Judged.{if_accepted}
use Rattle.ti_faults.proofs.remedies.accepted.Goals as goal

pub returns-in-Some-clause-found : goal.returns-in-Some-clause-found
returns-in-Some-clause-found c =
    if_accepted c.args.entry.now c.args.mended.now c.args.row c.in-Some.bytes.now c.is_accepted.result (option_copied c.args.string) (option_copied c.where_so.result)
    (ap (λ o. option_copied o) c.in-Some.is) c.where_so.ensures.value c.is_accepted.ensures.yes c.is_accepted.ensures.no

pub returns-in-None-clause-found : goal.returns-in-None-clause-found
returns-in-None-clause-found c = NoString (option_copied c.args.string) _ (ap (λ o. option_copied o) c.in-None.is) refl
