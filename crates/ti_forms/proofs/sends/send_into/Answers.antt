use Rattle.std.proofs.Common.{ℕ, List, sym, subst}
use Rattle.ti_conforms.specs.Sends.{Sends}
use Rattle.ti_forms.proofs.sends.send_into.Goals as goal

pub returns-in-Ok-clause-sends : goal.returns-in-Ok-clause-sends
returns-in-Ok-clause-sends c = subst (λ (bytes : List ℕ). Sends c.args.string.now c.args.row bytes) (sym c.in-Ok.ensures) c.in-Some.ensures.sends
