use Rattle.std.proofs.Common.{List, ℕ, [], refl, sym, subst}
use Rattle.std.proofs.lemmas.Result.{err_from_is_err_and}
use Rattle.ti_checker.specs.No.{IsFaulty, IsNotWhole}
use Rattle.ti_checker.specs.declared.causes.Cause.{Cause}
use Rattle.ti_checker.proofs.Misjudgements.{cut_faulty}
use Rattle.vt_term.specs.Text.{Splits}
use Rattle.ti_cert.proofs.Decided.{record_sets}
use Rattle.ti_cert.proofs.Judgements.{recorded_at}
use Rattle.ti_checker.proofs.switches.change_by.Goals as goal

pub returns-in-Some-clause-change : goal.returns-in-Some-clause-change
returns-in-Some-clause-change c = record {
  bytes = c.in_ok-bytes.bytes.items;
  sends = c.in_ok-bytes.ensures.sends;
  whole = subst (λ (bytes : List ℕ). Splits bytes c.in_ok-tokens.tokens.items []) c.deref.ensures.value c.in_ok-tokens.ensures.whole;
  leads = record_sets c.args.size.rows c.args.size.cols c.args.row c.in_ok-tokens.tokens.items c.in-Some.effect
      (recorded_at c.args.size.rows c.args.size.cols c.args.size.rows c.args.size.cols c.start.result c.args.row c.deref-2.result.now c.in_ok-tokens.tokens.items c.in-Some.effect c.in-Some.ensures.record refl refl c.start.ensures c.deref-2.ensures.value);
}

pub returns-in_err-tokens-clause-faulty : goal.returns-in_err-tokens-clause-faulty
returns-in_err-tokens-clause-faulty c =
    let e = err_from_is_err_and c.from_residual-in_err-tokens.result c.from_residual-in_err-tokens.ensures.1 in
    rw e.1 (subst (λ (cause : Cause). IsFaulty c.args.size.rows c.args.size.cols c.args.string.now c.args.row cause) (sym e.2)
    (cut_faulty c.args.size.rows c.args.size.cols c.args.string.now c.args.row c.in_ok-bytes.bytes.items c.in_err-tokens.field-0.0 c.in_ok-bytes.ensures.sends
    (subst (λ (bytes : List ℕ). IsNotWhole bytes c.in_err-tokens.field-0.0) c.deref.ensures.value c.in_err-tokens.ensures.fault)))
