use Rattle.std.proofs.Common.{◌≡◌, ◌+◌, ℕ, List, Option, ap, ◌∙◌, arith}
use Rattle.std.specs.Prelude.{is_some}
use Rattle.ti_caps.specs.Entry.{string_at}
use Rattle.ti_rows.proofs.NameFacts.{placed}
use Rattle.ti_conforms.proofs.Matches.{copied}
use Rattle.ti_conforms.proofs.entries.has_acsc.Goals as goal

pub returns-in-Some : goal.returns-in-Some
returns-in-Some c =
    let place : c.in-Some.acsc ≡ 83 + 146 = placed 146 c.in-Some.acsc (omega arith) c.in-Some.ensures.value in
    c.is_some.ensures ∙ (copied c.get_string.result ∙ (ap (λ (o : Option (List ℕ)). is_some o) c.get_string.ensures ∙ ap (λ (n : ℕ). is_some (string_at c.args.entry.now n)) place))
