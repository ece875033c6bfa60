use Rattle.std.proofs.Common.{◌≡◌, ◌++◌, flat_map}
use Rattle.ti_commands.specs.Listings.{listed, name_line}
use Rattle.ti_commands.proofs.descriptions.push_kind.Given as goal

abbrev pub invariant-loop-rank : goal.invariant-loop-rank
invariant-loop-rank l = l.lines.items ≡ l.fn.lines.items ++ flat_map name_line (listed l.comparison l.first l.second l.wanted l.rank)
