use Rattle.std.proofs.Common.{ℕ, List, sym, subst}
use Rattle.ti_checker.specs.Certificate.{IsCertificateOf}
use Rattle.ti_checker.proofs.OwnTables.{is_own, own_is_accepted}
use Rattle.ti_checker.proofs.certification.certify.Goals as goal

pub returns-in-Ok-clause-own : goal.returns-in-Ok-clause-own
returns-in-Ok-clause-own c = is_own c.args.entry.now c.args.size.rows c.args.size.cols c.in-Ok.checked c.in-Ok.ensures.rows c.in-Ok.ensures.cols c.in-Ok.ensures.sends c.in-Ok.ensures.acsc c.in-Ok.ensures.text

pub out_of_memory-requires : goal.out_of_memory-requires
out_of_memory-requires c = own_is_accepted c.args.entry.now c.args.size.rows c.args.size.cols c.as_slice.result.now c.in-Err.fault c.in_ok-text.ensures.conforms.fit
    (subst (λ (text : List ℕ). IsCertificateOf c.args.entry.now c.args.size.rows c.args.size.cols text) (sym c.as_slice.ensures.value) c.in_ok-text.ensures.certificate)
    c.in-Err.ensures.refused c.in-Err.ensures.disagrees
