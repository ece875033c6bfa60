use Rattle.std.proofs.Common.{◌≡◌, ◌+◌, ℕ, sym, subst}
use Rattle.std.proofs.lemmas.Result.{on_ok_weaker}
use Rattle.ti_rows.specs.Names.{order, first_in_order}
use Rattle.ti_rows.proofs.ListFacts.{firsts_in_range}
use Rattle.ti_rows.proofs.NameFacts.{firsts_in_order}
use Rattle.ti_conforms.proofs.Matches.{first_is}
use Rattle.ti_cert.specs.Certification.{AddsCaps}
use Rattle.ti_cert.proofs.certification.Draft.push_at.Goals as goal

pub push_cap-requires : goal.push_cap-requires
push_cap-requires c = firsts_in_range c.args.size.rows c.args.size.cols c.args.place c.in-Some.first c.args.size.limits (sym c.in-Some.ensures)

pub returns-in-Some : goal.returns-in-Some
returns-in-Some c =
    let f = firsts_in_order c.args.place c.requires in
    let same : order c.in-Some.first ≡ c.args.place = first_is c.in-Some.first f.row c.args.place (first_in_order c.args.place) c.in-Some.ensures f.is_first f.ordered in
    on_ok_weaker c.push_cap.result (λ adds. subst (λ (n : ℕ). AddsCaps c.args.entry.now n (n + 1) c.args.self.now c.push_cap.new.self) same adds) c.push_cap.ensures

pub returns-in-None : goal.returns-in-None
returns-in-None c = let f = firsts_in_order c.args.place c.requires in absurd cc
