use Rattle.std.proofs.Common.{◌≡◌, ◌+◌, ℕ, sym, ◌∙◌, subst}
use Rattle.std.specs.Prelude.{OnOk}
use Rattle.std.proofs.lemmas.Option.{none-some}
use Rattle.ti_rows.specs.Names.{order, first_in_order}
use Rattle.ti_rows.proofs.NameFacts.{firsts_in_order}
use Rattle.ti_rows.proofs.ListFacts.{firsts_in_range}
use Rattle.ti_conforms.proofs.Matches.{first_is}
use Rattle.ti_checker.specs.Kept.{unnamed}
use Rattle.ti_checker.specs.Switches.{IsSeen}
use Rattle.ti_checker.proofs.kept.see_at.Goals as goal

pub see_cap-requires-clause-first : goal.see_cap-requires-clause-first
see_cap-requires-clause-first c = firsts_in_range c.args.size.rows c.args.size.cols c.args.place c.in-Some.first c.args.size.limits (sym c.in-Some.ensures)

pub see_cap-requires-clause-seen : goal.see_cap-requires-clause-seen
see_cap-requires-clause-seen c =
    let f = firsts_in_order c.args.place c.requires.place in
    let same : order c.in-Some.first ≡ c.args.place = first_is c.in-Some.first f.row c.args.place (first_in_order c.args.place) c.in-Some.ensures f.is_first f.ordered in
    subst (λ (n : ℕ). IsSeen c.args.entry.now c.args.size.rows c.args.size.cols (unnamed c.args.left_out.now) c.args.seen.now.reach c.args.seen.now.changes.items n 0) (sym same) c.requires.seen

pub returns-in-Some : goal.returns-in-Some
returns-in-Some c =
    let f = firsts_in_order c.args.place c.requires.place in
    let same : order c.in-Some.first ≡ c.args.place = first_is c.in-Some.first f.row c.args.place (first_in_order c.args.place) c.in-Some.ensures f.is_first f.ordered in
    subst (λ (n : ℕ). OnOk c.see_cap.result (IsSeen c.args.entry.now c.args.size.rows c.args.size.cols (unnamed c.args.left_out.now) c.see_cap.new.seen.reach c.see_cap.new.seen.changes.items (n + 1) 0)) same c.see_cap.ensures

pub returns-in-None : goal.returns-in-None
returns-in-None c = let f = firsts_in_order c.args.place c.requires.place in absurd (none-some f.row (c.in-None.ensures ∙ f.is_first))
