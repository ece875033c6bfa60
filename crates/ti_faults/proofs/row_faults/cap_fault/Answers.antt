use Rattle.std.proofs.Common.{◌≡◌, sym, ◌∙◌}
use Rattle.std.proofs.lemmas.Option.{none-some}
use Rattle.ti_rows.specs.Names.{order, first_in_order}
use Rattle.ti_rows.proofs.NameFacts.{firsts_in_order}
use Rattle.ti_rows.proofs.ListFacts.{firsts_in_range}
use Rattle.ti_conforms.proofs.Matches.{first_is}
use Rattle.ti_faults.proofs.Caps.{cap_stands, unchecked_stands, cap_fault_of, on_none, on_some}
use Rattle.ti_faults.proofs.row_faults.cap_fault.Goals as goal

pub string_fault-requires : goal.string_fault-requires
string_fault-requires c = firsts_in_range c.args.asked.size.rows c.args.asked.size.cols c.args.place c.in-Some.first c.args.asked.size.limits (sym c.in-Some.ensures)

pub returns-in_default-clause-none : goal.returns-in_default-clause-none
returns-in_default-clause-none c = let f = firsts_in_order c.args.place c.requires in absurd (none-some f.row (c.in_default.ensures ∙ f.is_first))

pub returns-in-Some-checked_string-clause-none : goal.returns-in-Some-checked_string-clause-none
returns-in-Some-checked_string-clause-none c =
    let f = firsts_in_order c.args.place c.requires in
    let same : order c.in-Some.first ≡ c.args.place = first_is c.in-Some.first f.row c.args.place (first_in_order c.args.place) c.in-Some.ensures f.is_first f.ordered in
    on_none c.string_fault.result (cap_stands c.args.asked.entry.now c.args.asked.size.rows c.args.asked.size.cols c.args.place c.in-Some.first c.in-Some-checked_string.string.now same c.in-Some-checked_string.ensures.there) c.string_fault.ensures.none

pub returns-in-Some-checked_string-clause-some : goal.returns-in-Some-checked_string-clause-some
returns-in-Some-checked_string-clause-some c =
    let f = firsts_in_order c.args.place c.requires in
    let same : order c.in-Some.first ≡ c.args.place = first_is c.in-Some.first f.row c.args.place (first_in_order c.args.place) c.in-Some.ensures f.is_first f.ordered in
    on_some c.string_fault.result
    (λ refusal h. cap_fault_of c.args.asked.entry.now c.args.asked.size.rows c.args.asked.size.cols c.args.place c.in-Some.first c.in-Some-checked_string.string.now refusal same c.in-Some-checked_string.ensures.checked c.in-Some-checked_string.ensures.there h)
    c.string_fault.ensures.some

pub returns-in-None-clause-none : goal.returns-in-None-clause-none
returns-in-None-clause-none c =
    let f = firsts_in_order c.args.place c.requires in
    let same : order c.in-Some.first ≡ c.args.place = first_is c.in-Some.first f.row c.args.place (first_in_order c.args.place) c.in-Some.ensures f.is_first f.ordered in
    unchecked_stands c.args.asked.entry.now c.args.asked.size.rows c.args.asked.size.cols c.args.place c.in-Some.first same c.in-None.ensures.none
