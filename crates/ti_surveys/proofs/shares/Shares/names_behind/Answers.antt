use Rattle.std.proofs.Common.{◌∙◌, ap, arith, rules, sym}
use Rattle.ti_verdicts.specs.declared.locations.PlacedFault.{PlacedFault}
use Rattle.ti_surveys.proofs.ShareFacts.{names_at, one_fault}
use Rattle.ti_surveys.proofs.shares.Shares.names_behind.Goals as goal

pub returns-in-Some : goal.returns-in-Some
returns-in-Some c fault is =
    search (arith, rules)
    ∙ names_at c.args.self.now.faults.now c.args.number c.args.self.now.found (c.as_slice.result, c.as_slice-2.result) fault c.requires is (c.as_slice.ensures.value ∙ ap (λ (f : PlacedFault). f.place.items) (sym c.index-self-number.is ∙ one_fault c.args.self.now.faults.now c.args.number c.index-self-number.result fault c.requires c.index-self-number.is is)) (c.as_slice-2.ensures.value ∙ ap (λ (f : PlacedFault). f.fault.items) (sym c.index-self-number.is ∙ one_fault c.args.self.now.faults.now c.args.number c.index-self-number.result fault c.requires c.index-self-number.is is)) c.args.self.now.indexed

pub returns-in-Some-2 : goal.returns-in-Some-2
returns-in-Some-2 c fault is =
    search (arith, rules)
    ∙ names_at c.args.self.now.faults.now c.args.number c.args.self.now.found (c.as_slice.result, c.as_slice-2.result) fault c.requires is (c.as_slice.ensures.value ∙ ap (λ (f : PlacedFault). f.place.items) (sym c.index-self-number.is ∙ one_fault c.args.self.now.faults.now c.args.number c.index-self-number.result fault c.requires c.index-self-number.is is)) (c.as_slice-2.ensures.value ∙ ap (λ (f : PlacedFault). f.fault.items) (sym c.index-self-number.is ∙ one_fault c.args.self.now.faults.now c.args.number c.index-self-number.result fault c.requires c.index-self-number.is is)) c.args.self.now.indexed
