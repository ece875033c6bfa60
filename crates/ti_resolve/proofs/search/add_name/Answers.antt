use Rattle.std.proofs.Common.{Some, rules}
use Rattle.std.proofs.lemmas.Map.Text.{btree_map_updates_str}
use Rattle.ti_resolve.proofs.Indices.{added, none_of}
use Rattle.ti_resolve.proofs.search.add_name.Goals as goal

pub returns-in_ok-insert : goal.returns-in_ok-insert
returns-in_ok-insert c =
    added c.args.places.now c.insert.new.self c.args.name.now c.args.place
    (none_of _ (search rules))
    (btree_map_updates_str c.args.name.now c.args.places.now c.insert.new.self (Some c.args.place) c.in_ok-insert.ensures.updates)
