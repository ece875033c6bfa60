use Rattle.std.proofs.Common.{List, ℕ, subst, sym}
use Rattle.std.proofs.lemmas.Result.{IfOk-weaker}
use Rattle.ti_advice.specs.Sets.{IsLead, IsOwnOrNone, switch_name}
use Rattle.ti_advice.proofs.sets.switches.Goals as goal

pub returns-clause-alike : goal.returns-clause-alike
returns-clause-alike c =
    IfOk-weaker c.runs_alike.result _ _
    (λ so told e. record {
      lead = c.as_slice.result.now;
      leads = subst (λ (bytes : List ℕ). IsLead c.args.entry.now c.args.set_use bytes) (sym c.as_slice.ensures.value) c.in_ok-lead.ensures;
      switch = c.as_slice-2.result.now;
      switch_is = subst (λ (bytes : List ℕ). IsOwnOrNone c.args.entry.now (switch_name c.args.set_use) bytes) (sym c.as_slice-2.ensures.value) (subst (λ (name : List ℕ). IsOwnOrNone c.args.entry.now name c.in_ok-switch.switch.items) c.switch_name.ensures c.in_ok-switch.ensures);
      alike = told e;
    })
    c.runs_alike.ensures.alike

pub returns-clause-unlike : goal.returns-clause-unlike
returns-clause-unlike c =
    IfOk-weaker c.runs_alike.result _ _
    (λ so told e. record {
      lead = c.as_slice.result.now;
      leads = subst (λ (bytes : List ℕ). IsLead c.args.entry.now c.args.set_use bytes) (sym c.as_slice.ensures.value) c.in_ok-lead.ensures;
      switch = c.as_slice-2.result.now;
      switch_is = subst (λ (bytes : List ℕ). IsOwnOrNone c.args.entry.now (switch_name c.args.set_use) bytes) (sym c.as_slice-2.ensures.value) (subst (λ (name : List ℕ). IsOwnOrNone c.args.entry.now name c.in_ok-switch.switch.items) c.switch_name.ensures c.in_ok-switch.ensures);
      unlike = told e;
    })
    c.runs_alike.ensures.unlike
