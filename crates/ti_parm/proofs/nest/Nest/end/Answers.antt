use Rattle.std.proofs.Common.{◌≡◌, Bool, true, false}
use Rattle.ti_parm.proofs.Judgements.{ended-inside, ended-outside}
use Rattle.ti_parm.proofs.nest.Nest.end.Goals as goal

not_both : {b : Bool} → b ≡ false → b ≡ true → ⊥
not_both p q = cc

pub returns-then-is_empty : goal.returns-then-is_empty
returns-then-is_empty c = ended-outside c.args.self.now (c.is_empty.ensures.0 c.if-is_empty.true)

pub returns-else-is_empty : goal.returns-else-is_empty
returns-else-is_empty c = ended-inside c.args.self.now (λ e. not_both c.if-is_empty.false (c.is_empty.ensures.1 e))
