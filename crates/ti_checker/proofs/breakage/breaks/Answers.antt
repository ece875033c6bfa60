use Rattle.std.proofs.Common.{◌≡◌, sym, ap, ◌∙◌}
use Rattle.vt_term.specs.Screen.{Screen}
use Rattle.vt_effects.specs.declared.effects.Effect.{Effect}
use Rattle.vt_effects.specs.Effect.{applied}
use Rattle.ti_rows.specs.declared.rows.Looks.{Looks}
use Rattle.ti_rows.specs.Asked.{asked}
use Rattle.ti_checker.specs.Probes.{screen_of}
use Rattle.ti_checker.specs.Breakage.{wanted_end, with_defaults, without_defaults, looks_for}
use Rattle.ti_checker.specs.Trials.{Only, WithDefaults, WithoutDefaults}
use Rattle.ti_checker.proofs.Wanted.{one_end_missed, two_ends_missed}
use Rattle.ti_checker.proofs.breakage.breaks.Goals as goal

pub returns-then-differ-clause-unwanted : goal.returns-then-differ-clause-unwanted
returns-then-differ-clause-unwanted c = λ t.
    let s : Screen = screen_of c.args.size.rows c.args.size.cols c.args.probe.now in
    let l : Looks = looks_for c.args.taught c.args.row c.args.effect.now in
    let on : c.asked-defaults.result ≡ asked l c.args.row (with_defaults c.args.effect.now) = c.asked-defaults.ensures ∙ ap (λ (e : Effect). asked c.looks_for-looks.result c.args.row e) c.with_defaults.ensures ∙ ap (λ (m : Looks). asked m c.args.row (with_defaults c.args.effect.now)) c.looks_for-looks.ensures in
    let off : c.asked-others.result ≡ asked l c.args.row (without_defaults c.args.effect.now) = c.asked-others.ensures ∙ ap (λ (e : Effect). asked c.looks_for-looks.result c.args.row e) c.without_defaults.ensures ∙ ap (λ (m : Looks). asked m c.args.row (without_defaults c.args.effect.now)) c.looks_for-looks.ensures in
    two_ends_missed c.args.size.rows c.args.size.cols c.args.taught c.args.row c.args.effect.now c.args.probe.now (sym c.has_choice.ensures ∙ c.if-has_choice.true)
    (λ h. c.differ.ensures.apart c.if-differ.true (h ∙ ap (λ (e : Effect). applied e s) (sym on)))
    (λ h. c.differ-then-differ.ensures.apart t (h ∙ ap (λ (e : Effect). applied e s) (sym off)))

pub returns-then-differ-clause-wanted : goal.returns-then-differ-clause-wanted
returns-then-differ-clause-wanted c = λ f. record {
  wanted = c.asked-others.result;
  is = WithoutDefaults (sym c.has_choice.ensures ∙ c.if-has_choice.true) (c.asked-others.ensures ∙ ap (λ (e : Effect). asked c.looks_for-looks.result c.args.row e) c.without_defaults.ensures ∙ ap (λ (m : Looks). asked m c.args.row (without_defaults c.args.effect.now)) c.looks_for-looks.ensures);
  so = c.differ-then-differ.ensures.so f;
}

pub returns-else-differ-clause-wanted : goal.returns-else-differ-clause-wanted
returns-else-differ-clause-wanted c = λ f. record {
  wanted = c.asked-defaults.result;
  is = WithDefaults (sym c.has_choice.ensures ∙ c.if-has_choice.true) (c.asked-defaults.ensures ∙ ap (λ (e : Effect). asked c.looks_for-looks.result c.args.row e) c.with_defaults.ensures ∙ ap (λ (m : Looks). asked m c.args.row (with_defaults c.args.effect.now)) c.looks_for-looks.ensures);
  so = c.differ.ensures.so c.if-differ.false;
}

pub returns-else-has_choice-clause-unwanted : goal.returns-else-has_choice-clause-unwanted
returns-else-has_choice-clause-unwanted c = λ t.
    let s : Screen = screen_of c.args.size.rows c.args.size.cols c.args.probe.now in
    let is : c.wanted_end.result ≡ wanted_end (looks_for c.args.taught c.args.row c.args.effect.now) c.args.row c.args.effect.now = c.wanted_end.ensures ∙ ap (λ (m : Looks). wanted_end m c.args.row c.args.effect.now) c.looks_for-looks.ensures in
    one_end_missed c.args.size.rows c.args.size.cols c.args.taught c.args.row c.args.effect.now c.args.probe.now (sym c.has_choice.ensures ∙ c.if-has_choice.false) c.requires.starts
    (λ h. c.differ-else-has_choice.ensures.apart t (h ∙ ap (λ (e : Effect). applied e s) (sym is)))

pub returns-else-has_choice-clause-wanted : goal.returns-else-has_choice-clause-wanted
returns-else-has_choice-clause-wanted c = λ f. record {
  wanted = c.wanted_end.result;
  is = Only (sym c.has_choice.ensures ∙ c.if-has_choice.false) (c.wanted_end.ensures ∙ ap (λ (m : Looks). wanted_end m c.args.row c.args.effect.now) c.looks_for-looks.ensures);
  so = c.differ-else-has_choice.ensures.so f;
}
