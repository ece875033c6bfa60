use Rattle.std.proofs.Common.{◌≡◌, IfSome, Some, Ok, refl, sym, subst}
use Rattle.std.specs.Prelude.{option_map}
use Rattle.std.proofs.lemmas.Result.{on_ok_weaker, IfErr-weaker}
use Rattle.std.proofs.lemmas.Option.{none-some}
use Rattle.ti_lines.specs.Heads.{IsAcscText}
use Rattle.ti_cert.specs.Audits.{OrNoMemory, AnswersLater, AnswersLine}
use Rattle.ti_cert.specs.declared.audits.Awaited.TheVariants as lines_awaited
use Rattle.ti_cert.proofs.AuditSteps.{second_pairs, second_later, second_refused}
use Rattle.ti_cert.proofs.audits.Progress.judge_acsc.Goals as goal

pub returns-in-Some-clause-ok : goal.returns-in-Some-clause-ok
returns-in-Some-clause-ok c = second_pairs c.args.self.now _ c.args.text.now c.from_vec.result c.requires
    (subst (λ b. IsAcscText c.args.text.now b) (sym c.from_vec.ensures) (subst (λ o. IfSome o (λ b. IsAcscText c.args.text.now b.items)) c.in-Some.is c.in_ok-pairs.ensures.found)) refl

pub returns-in-None-clause-ok : goal.returns-in-None-clause-ok
returns-in-None-clause-ok c = on_ok_weaker c.judge_later.result (λ h. second_later c.args.self.now c.args.text.now (Ok c.judge_later.new.self) c.requires
    (λ bytes is. none-some bytes (subst (λ o. option_map (λ b. b.items) o ≡ Some bytes) c.in-None.is (c.in_ok-pairs.ensures.each bytes is))) h) c.judge_later.ensures.ok

pub returns-in-None-clause-err : goal.returns-in-None-clause-err
returns-in-None-clause-err c = IfErr-weaker c.judge_later.result (λ kind. OrNoMemory kind (AnswersLater (record c.args.self.now { awaited = lines_awaited.Rows }) c.args.text.now)) (λ kind. OrNoMemory kind (AnswersLine c.args.self.now c.args.text.now))
    (λ kind h. second_refused c.args.self.now c.args.text.now kind c.requires (λ bytes is. none-some bytes (subst (λ o. option_map (λ b. b.items) o ≡ Some bytes) c.in-None.is (c.in_ok-pairs.ensures.each bytes is))) h) c.judge_later.ensures.err
