use Rattle.std.proofs.Common.{◌∙◌}
use Rattle.ti_forms.proofs.sends.standard_into.Goals as goal

pub returns-clause-sent : goal.returns-clause-sent
returns-clause-sent c = λ t. record {
  form = record { has = c.in-Some.ensures.has; bytes_are = c.in_ok-form_into.ensures ∙ c.in-Some.ensures.bytes };
  string_is = c.is_standard.ensures.yes c.if-not-is_standard.false;
}
