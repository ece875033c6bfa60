use Rattle.std.proofs.Common.{Bool, subst}
use Rattle.ti_cert.specs.Clashes.{IsClash, GoesTogether}
use Rattle.ti_cert.specs.Seen.{IsFound}
use Rattle.ti_checker.specs.Switches.{OfAllSent}
use Rattle.ti_checker.proofs.Conforming.{conforming}
use Rattle.ti_checker.proofs.Sent.{no_told}
use Rattle.ti_checker.proofs.Settled.{all_kept}
use Rattle.ti_checker.proofs.switches.check_together.Goals as goal

pub returns-in-Ok-clause-right : goal.returns-in-Ok-clause-right
returns-in-Ok-clause-right c = λ t h. subst (λ (b : Bool). GoesTogether b t) c.in_ok-all.ensures.pairs (c.in-Ok.ensures.together t (c.in_ok-all.ensures.found t (all_kept c.args.entry.now c.args.size.rows c.args.size.cols t h)))

pub returns-in-Ok-clause-conforms : goal.returns-in-Ok-clause-conforms
returns-in-Ok-clause-conforms c =
    let found : OfAllSent c.args.entry.now c.args.size.rows c.args.size.cols (λ t. IsFound t c.in_ok-all.all.reach c.in_ok-all.all.changes.now c.in_ok-all.all.resync c.in_ok-all.all.smacs c.in_ok-all.all.escapes) =
    λ t h. c.in_ok-all.ensures.found t (all_kept c.args.entry.now c.args.size.rows c.args.size.cols t h) in
    conforming c.args.entry.now c.args.size.rows c.args.size.cols c.in_ok-all.all.reach c.in_ok-all.all.changes.now c.in_ok-all.all.resync c.in_ok-all.all.smacs c.in_ok-all.all.escapes _ c.args.size.limits c.requires.fit c.requires.written
    (λ t h. subst (λ (b : Bool). GoesTogether b t) c.in_ok-all.ensures.pairs (c.in-Ok.ensures.together t (found t h))) found c.in-Ok.ensures.settled

pub returns-in-Err-clause-refused : goal.returns-in-Err-clause-refused
returns-in-Err-clause-refused c = no_told c.args.entry.now c.args.size.rows c.args.size.cols c.no_of.result c.in-Err.clash c.args.size.limits c.requires.fit c.requires.written c.no_of.ensures
    (λ t h. subst (λ (b : Bool). IsClash b t c.in-Err.clash) c.in_ok-all.ensures.pairs (c.in-Err.ensures.clash t (c.in_ok-all.ensures.found t (all_kept c.args.entry.now c.args.size.rows c.args.size.cols t h))))

pub together_of-requires-clause-stand : goal.together_of-requires-clause-stand
together_of-requires-clause-stand c = λ row range on. c.requires.written.stands row range
