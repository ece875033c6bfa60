use Rattle.std.proofs.Common.{◌≡◌, ◌<◌, ◌+◌, ℕ, sym, ◌∙◌, subst}
use Rattle.std.specs.Prelude.{OnOk}
use Rattle.std.proofs.lemmas.Option.{none-some}
use Rattle.ti_rows.specs.Names.{order, first_in_order}
use Rattle.ti_rows.proofs.NameFacts.{firsts_in_order}
use Rattle.ti_rows.proofs.ListFacts.{firsts_in_range}
use Rattle.ti_conforms.proofs.Matches.{first_is}
use Rattle.ti_checker.specs.First.{IsDrafted}
use Rattle.ti_checker.specs.Kept.{every}
use Rattle.ti_checker.specs.Switches.{IsSeen}
use Rattle.ti_checker.proofs.drafts.push_at.Goals as goal

pub push_cap-requires-clause-first : goal.push_cap-requires-clause-first
push_cap-requires-clause-first c = firsts_in_range c.args.size.rows c.args.size.cols c.args.place c.in-Some.first c.args.size.limits (sym c.in-Some.ensures)

pub push_cap-requires-clause-drafted : goal.push_cap-requires-clause-drafted
push_cap-requires-clause-drafted c =
    let f = firsts_in_order c.args.place c.requires.place in
    let same : order c.in-Some.first ≡ c.args.place = first_is c.in-Some.first f.row c.args.place (first_in_order c.args.place) c.in-Some.ensures f.is_first f.ordered in
    subst (λ (n : ℕ). IsDrafted c.args.entry.now c.args.size.rows c.args.size.cols (λ row. order row < n) c.args.draft.now.text.items) (sym same) c.requires.drafted

pub returns-in-Some-clause-drafted : goal.returns-in-Some-clause-drafted
returns-in-Some-clause-drafted c =
    let f = firsts_in_order c.args.place c.requires.place in
    let same : order c.in-Some.first ≡ c.args.place = first_is c.in-Some.first f.row c.args.place (first_in_order c.args.place) c.in-Some.ensures f.is_first f.ordered in
    subst (λ (n : ℕ). OnOk c.push_cap.result (IsDrafted c.args.entry.now c.args.size.rows c.args.size.cols (λ row. order row < n + 1) c.push_cap.new.draft.text.items)) same c.push_cap.ensures.drafted

pub returns-in-None-clause-drafted : goal.returns-in-None-clause-drafted
returns-in-None-clause-drafted c = let f = firsts_in_order c.args.place c.requires.place in absurd (none-some f.row (c.in-None.ensures ∙ f.is_first))

pub push_cap-requires-clause-seen : goal.push_cap-requires-clause-seen
push_cap-requires-clause-seen c =
    let f = firsts_in_order c.args.place c.requires.place in
    let same : order c.in-Some.first ≡ c.args.place = first_is c.in-Some.first f.row c.args.place (first_in_order c.args.place) c.in-Some.ensures f.is_first f.ordered in
    subst (λ (n : ℕ). IsSeen c.args.entry.now c.args.size.rows c.args.size.cols every c.args.draft.now.seen.reach c.args.draft.now.seen.changes.items n 0) (sym same) c.requires.seen

pub returns-in-Some-clause-seen : goal.returns-in-Some-clause-seen
returns-in-Some-clause-seen c =
    let f = firsts_in_order c.args.place c.requires.place in
    let same : order c.in-Some.first ≡ c.args.place = first_is c.in-Some.first f.row c.args.place (first_in_order c.args.place) c.in-Some.ensures f.is_first f.ordered in
    subst (λ (n : ℕ). OnOk c.push_cap.result (IsSeen c.args.entry.now c.args.size.rows c.args.size.cols every c.push_cap.new.draft.seen.reach c.push_cap.new.draft.seen.changes.items (n + 1) 0)) same c.push_cap.ensures.seen

pub returns-in-None-clause-seen : goal.returns-in-None-clause-seen
returns-in-None-clause-seen c = let f = firsts_in_order c.args.place c.requires.place in absurd (none-some f.row (c.in-None.ensures ∙ f.is_first))
