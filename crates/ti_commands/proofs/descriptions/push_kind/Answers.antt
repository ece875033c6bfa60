use Rattle.std.proofs.Common.{◌++◌, if◌then◌else◌, [], ap, sym, ◌∙◌, append-nil, append_assoc, List, ℕ, flat_map}
use Rattle.ti_caps.specs.Table.{place_of_rank}
use Rattle.ti_commands.specs.Listings.{is_listed_at, listed, name_line}
use Rattle.ti_commands.proofs.Listings.{listed_more, none_listed}
use Rattle.ti_commands.proofs.descriptions.push_kind.Goals as goal

pub loop-rank-init : goal.loop-rank-init
loop-rank-init c =
    let none = none_listed c.args.comparison c.args.first.now c.args.second.now c.args.wanted in
    sym (ap (λ (l : List ℕ). c.args.lines.now.items ++ l) none ∙ append-nil c.args.lines.now.items)

pub loop-rank-preserved : goal.loop-rank-preserved
loop-rank-preserved c =
    let comparison = c.args.comparison in
    let first = c.args.first.now in
    let second = c.args.second.now in
    let wanted = c.args.wanted in
    let cap = place_of_rank c.loop-rank.rank in
    let line : List ℕ = if is_listed_at comparison first second wanted cap then name_line cap else [] in
    let more = listed_more comparison first second wanted c.loop-rank.rank in
    c.in_ok-push_rank.ensures
    ∙ ap (λ (l : List ℕ). l ++ line) c.loop-rank.invariant
    ∙ append_assoc c.args.lines.now.items (flat_map name_line (listed comparison first second wanted c.loop-rank.rank)) line
    ∙ ap (λ (l : List ℕ). c.args.lines.now.items ++ l) (sym more)
