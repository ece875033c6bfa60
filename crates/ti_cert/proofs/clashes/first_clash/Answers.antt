use Rattle.std.proofs.Common.{Bool, subst, sym, ◌∙◌}
use Rattle.ti_cert.specs.Seen.{ClashesAs, NoneClashes}
use Rattle.ti_cert.proofs.Together.{together, clash, none_first, some_first}
use Rattle.ti_cert.proofs.clashes.first_clash.Goals as goal

pub returns-in-None-clause-together : goal.returns-in-None-clause-together
returns-in-None-clause-together c = λ t found. together t c.args.facts.reach c.args.facts.changes.now c.args.facts.resync c.args.facts.smacs c.args.facts.escapes c.args.facts.has_acsc c.settled_of-settled.result c.settled_of-settled.ensures
    (subst (λ (b : Bool). NoneClashes c.settled_of-settled.result c.args.facts.smacs c.args.facts.resync.rmacs b c.args.facts.escapes) c.all_there-sent.ensures
    (none_first c.settled_of-settled.result c.args.facts.smacs c.args.facts.resync.rmacs c.all_there-sent.result c.args.facts.escapes c.clashes_of-all.result c.clashes_of-all.ensures (sym c.first.ensures ∙ c.in-None.is))) found

pub returns-in-None-clause-none : goal.returns-in-None-clause-none
returns-in-None-clause-none c = subst (λ (b : Bool). NoneClashes c.settled_of-settled.result c.args.facts.smacs c.args.facts.resync.rmacs b c.args.facts.escapes) c.all_there-sent.ensures
    (none_first c.settled_of-settled.result c.args.facts.smacs c.args.facts.resync.rmacs c.all_there-sent.result c.args.facts.escapes c.clashes_of-all.result c.clashes_of-all.ensures (sym c.first.ensures ∙ c.in-None.is))

pub returns-in-Some-clause-clash : goal.returns-in-Some-clause-clash
returns-in-Some-clause-clash c = λ t found. clash t c.args.facts.reach c.args.facts.changes.now c.args.facts.resync c.args.facts.smacs c.args.facts.escapes c.args.facts.has_acsc c.settled_of-settled.result c.in-Some.clash c.settled_of-settled.ensures
    (subst (λ (b : Bool). ClashesAs c.settled_of-settled.result c.args.facts.smacs c.args.facts.resync.rmacs b c.args.facts.escapes c.in-Some.clash) c.all_there-sent.ensures
    (some_first c.settled_of-settled.result c.args.facts.smacs c.args.facts.resync.rmacs c.all_there-sent.result c.args.facts.escapes c.clashes_of-all.result c.in-Some.clash c.clashes_of-all.ensures (sym c.first.ensures ∙ c.in-Some.is))) found
