use Rattle.std.proofs.Common.{sym, ◌∙◌, ap, Ok}
use Rattle.ti_compiled.proofs.Fills.{fit_names, fit_long, fit_ok, ok_is}
use Rattle.ti_compiled.specs.Readings.{parts_view}
use Rattle.ti_compiled.specs.Contents.{entry_of}
use Rattle.ti_compiled.proofs.unpack.entry_from.Goals as goal

pub returns-then-not-names_fit : goal.returns-then-not-names_fit
returns-then-not-names_fit c =
    fit_names (parts_view c.args.parts.now) c.before_nul-names.result.now c.before_nul-names.ensures (sym c.names_fit.ensures ∙ c.if-not-names_fit.true)

pub returns-then-has_long_string : goal.returns-then-has_long_string
returns-then-has_long_string c =
    fit_long (parts_view c.args.parts.now) c.before_nul-names.result.now c.before_nul-names.ensures (sym c.names_fit.ensures ∙ c.if-not-names_fit.false)
    (sym c.has_long_string.ensures ∙ c.if-has_long_string.true)

pub returns-in-Ok : goal.returns-in-Ok
returns-in-Ok c =
    fit_ok (parts_view c.args.parts.now) c.before_nul-names.result.now c.before_nul-names.ensures (sym c.names_fit.ensures ∙ c.if-not-names_fit.false)
    (sym c.has_long_string.ensures ∙ c.if-has_long_string.false) ∙ ap (λ e. Ok e) (sym c.in-Ok.ensures)

pub returns-in-Err : goal.returns-in-Err
returns-in-Err c =
    ok_is (entry_of (parts_view c.args.parts.now)) _
    (fit_ok (parts_view c.args.parts.now) c.before_nul-names.result.now c.before_nul-names.ensures (sym c.names_fit.ensures ∙ c.if-not-names_fit.false)
    (sym c.has_long_string.ensures ∙ c.if-has_long_string.false))
