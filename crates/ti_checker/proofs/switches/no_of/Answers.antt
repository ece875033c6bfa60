use Rattle.std.proofs.Common.{◌∙◌, sym, subst}
use Rattle.ti_cert.specs.declared.clashes.Clash.{Clash}
use Rattle.ti_checker.specs.No.{IsToldAs}
use Rattle.ti_checker.proofs.switches.no_of.Goals as goal

pub returns-in-Smacs : goal.returns-in-Smacs
returns-in-Smacs c = subst (λ (x : Clash). IsToldAs c.args.size.rows c.args.size.cols c.at.result x) (sym c.in-Smacs.is)
    (c.probe_with.result, record { cap_is = c.at.ensures.cap; no_params = c.at.ensures.params; cause_is = c.at.ensures.cause }, c.probe_with.ensures.charset, c.probe_with.ensures.free)

pub returns-in-Rmacs : goal.returns-in-Rmacs
returns-in-Rmacs c = subst (λ (x : Clash). IsToldAs c.args.size.rows c.args.size.cols c.at-in-Rmacs.result x) (sym c.in-Rmacs.is)
    (c.probe_with-in-Rmacs.result, record { cap_is = c.at-in-Rmacs.ensures.cap; no_params = c.at-in-Rmacs.ensures.params; cause_is = c.at-in-Rmacs.ensures.cause }, c.probe_with-in-Rmacs.ensures.charset, c.probe_with-in-Rmacs.ensures.free)

pub returns-in-Acsc : goal.returns-in-Acsc
returns-in-Acsc c = subst (λ (x : Clash). IsToldAs c.args.size.rows c.args.size.cols c.of.result x) (sym c.in-Acsc.is)
    (record { cap_is = c.of.ensures.cap ∙ c.acsc.ensures; no_params = c.of.ensures.params; cause_is = c.of.ensures.cause })

pub returns-in-Clear : goal.returns-in-Clear
returns-in-Clear c = subst (λ (x : Clash). IsToldAs c.args.size.rows c.args.size.cols c.of-in-Clear.result x) (sym c.in-Clear.is)
    (record { cap_is = c.of-in-Clear.ensures.cap ∙ c.cap.ensures; no_params = c.of-in-Clear.ensures.params; cause_is = c.of-in-Clear.ensures.cause })
