use Rattle.std.proofs.Common.{◌==◌, ℕ, not, sym, ap, ◌∙◌, subst}
use Rattle.vt_term.specs.Size.{IsSize}
use Rattle.ti_cert.specs.Strings.{Strings}
use Rattle.ti_cert.proofs.GroupFacts.{some_line}
use Rattle.ti_cert.proofs.strings.Strings.has.Goals as goal

pub returns-clause-some : goal.returns-clause-some
returns-clause-some c = λ h. some_line c.args.self.now c.args.row (subst (λ (s : Strings). IsSize s.rows s.cols) c.self.view_is c.self.inside.size.limits) (ap (λ (n : ℕ). not (n == 0)) (sym c.count.ensures) ∙ h)
