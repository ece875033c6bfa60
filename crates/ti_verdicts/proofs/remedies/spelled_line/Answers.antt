use Rattle.std.proofs.Common.{◌++◌, ◌∙◌, ℕ, List, ap}
use Rattle.std.specs.Prelude.{codes}
use Rattle.ti_caps.specs.Table.{name_at}
use Rattle.ti_verdicts.proofs.Parts.{five_parts}
use Rattle.ti_verdicts.proofs.remedies.spelled_line.Goals as goal

pub returns : goal.returns
returns c =
    five_parts (codes "  ") (name_at c.args.cap) (codes "=") c.args.spelled.now (codes " would be right on T\n") c.in_ok-line.line.items c.extend_from_slice.new.self.items c.extend_from_slice-2.new.self.items
    c.extend_from_slice-3.new.self.items c.extend_from_slice-4.new.self.items c.in_ok-line.ensures.items
    (c.in_ok-extend_from_slice.ensures.items ∙ ap (λ (t : List ℕ). c.in_ok-line.line.items ++ t) c.name.ensures.value) c.in_ok-extend_from_slice-2.ensures.items c.in_ok-extend_from_slice-3.ensures.items
    c.in_ok-extend_from_slice-4.ensures.items
