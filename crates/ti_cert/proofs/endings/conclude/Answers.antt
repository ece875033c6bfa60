use Rattle.std.proofs.Common.{sym, subst}
use Rattle.std.proofs.lemmas.Result.{err_from_is_err_and}
use Rattle.ti_cert.specs.Known.{Known, Holds}
use Rattle.ti_cert.specs.Audits.{IsConcluded, ConcludesBy}
use Rattle.ti_cert.proofs.Judgements.{concluded, failed}
use Rattle.ti_cert.proofs.AuditSteps.{no_lack_at}
use Rattle.ti_cert.proofs.endings.conclude.Goals as goal

pub returns-in-Ok-clause-concluded : goal.returns-in-Ok-clause-concluded
returns-in-Ok-clause-concluded c = λ held. subst (λ (k : Known). IsConcluded k c.args.has_acsc c.in-Ok.settled) c.known.view_is
    (concluded (record { strings = c.known.inside.strings; looks = c.known.inside.looks; reach = c.known.inside.reach; changes = c.known.inside.changes.items }) c.in-Ok.settled c.in_ok-resync.resync c.in_ok-smacs.smacs c.args.has_acsc c.begins_with_escape-escapes.result c.deref.result.now c.deref.ensures.value
    (subst (λ (k : Known). Holds k) (sym c.known.view_is) held) c.in_ok-check_needed.ensures.clear c.in_ok-check_needed.ensures.sgr0 c.in_ok-check_needed.ensures.csr
    (record {
      smcup_is = c.in_ok-resync.ensures.smcup;
      enacs_is = c.in_ok-resync.ensures.enacs;
      sgr0_is = c.in_ok-resync.ensures.sgr0;
      rmacs_is = c.in_ok-resync.ensures.rmacs;
      smacs_is = c.in_ok-smacs.ensures.change;
    })
    c.begins_with_escape-escapes.ensures.yes c.begins_with_escape-escapes.ensures.no c.in-Ok.ensures.settled c.in-Ok.ensures.together)

pub returns-in_err-resync-clause-fails : goal.returns-in_err-resync-clause-fails
returns-in_err-resync-clause-fails c =
    let p = err_from_is_err_and c.from_residual-in_err-resync.result c.from_residual-in_err-resync.ensures.1 in
    rw (p.1, p.2) (no_lack_at c.args.known.now _ c.args.has_acsc _ c.known.view_is c.in_err-resync.ensures.fails)

pub returns-in_err-smacs-clause-fails : goal.returns-in_err-smacs-clause-fails
returns-in_err-smacs-clause-fails c =
    let p = err_from_is_err_and c.from_residual-in_err-smacs.result c.from_residual-in_err-smacs.ensures.1 in
    rw (p.1, p.2) (no_lack_at c.args.known.now _ c.args.has_acsc _ c.known.view_is c.in_err-smacs.ensures.fails)

pub returns-clause-fails : goal.returns-clause-fails
returns-clause-fails c = λ held. subst (λ (k : Known). ConcludesBy k c.args.has_acsc c.kind_of.result) c.known.view_is
    (failed (record { strings = c.known.inside.strings; looks = c.known.inside.looks; reach = c.known.inside.reach; changes = c.known.inside.changes.items }) c.in_ok-resync.resync c.in_ok-smacs.smacs c.args.has_acsc c.begins_with_escape-escapes.result c.deref.result.now c.in-Err.clash c.kind_of.result c.deref.ensures.value
    (subst (λ (k : Known). Holds k) (sym c.known.view_is) held)
    (record {
      smcup_is = c.in_ok-resync.ensures.smcup;
      enacs_is = c.in_ok-resync.ensures.enacs;
      sgr0_is = c.in_ok-resync.ensures.sgr0;
      rmacs_is = c.in_ok-resync.ensures.rmacs;
      smacs_is = c.in_ok-smacs.ensures.change;
    })
    c.begins_with_escape-escapes.ensures.yes c.begins_with_escape-escapes.ensures.no c.in-Err.ensures.clash c.kind_of.ensures)
