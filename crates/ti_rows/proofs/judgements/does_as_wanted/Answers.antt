use Rattle.std.proofs.Common.{◌≡◌, sym, ap, ◌∙◌, subst}
use Rattle.std.proofs.lemmas.Option.{same_Some}
use Rattle.vt_effects.specs.declared.starts.Start.{Start}
use Rattle.vt_effects.specs.declared.effects.Effect.{Effect}
use Rattle.vt_effects.specs.Record.{record_of}
use Rattle.ti_rows.specs.Asked.{asked}
use Rattle.ti_rows.proofs.Rightness.{recorded_is_right}
use Rattle.ti_rows.proofs.judgements.does_as_wanted.Goals as goal

pub returns-in-Some-clause-right : goal.returns-in-Some-clause-right
returns-in-Some-clause-right c = λ t bytes split. recorded_is_right c.args.size.rows c.args.size.cols c.args.looks c.args.row bytes c.args.tokens.now c.in-Some.effect split
    (sym (c.in-Some.ensures.record ∙ ap (λ (x : Start). record_of c.args.size.rows c.args.size.cols x c.args.tokens.now) c.start.ensures)) (c.asks_for.ensures.sound t)

pub returns-in-Some-clause-complete : goal.returns-in-Some-clause-complete
returns-in-Some-clause-complete c = λ d recorded is. c.asks_for.ensures.complete
    (subst (λ (e : Effect). e ≡ asked c.args.looks c.args.row e)
    (sym (same_Some c.in-Some.effect d (c.in-Some.ensures.record ∙ ap (λ (x : Start). record_of c.args.size.rows c.args.size.cols x c.args.tokens.now) c.start.ensures ∙ recorded))) is)
