use Rattle.std.proofs.Common.{◌≡◌, List, ℕ, length, Some, None}
use Rattle.std.specs.Prelude.{if◌then◌else◌}
use Rattle.std.specs.Option.{option_or}
use Rattle.ti_resolve.specs.Index.{place_in}
use Rattle.ti_resolve.specs.Uses.{is_name_in}
use Rattle.ti_resolve.proofs.search.add_names.Given as goal

abbrev pub invariant-loop-own : goal.invariant-loop-own
invariant-loop-own l = (name : List ℕ) → option_or (place_in l.places name) (if is_name_in l.rest name then Some l.place else None) ≡ option_or (place_in l.initial.places name) (if is_name_in l.names name then Some l.place else None)

abbrev pub decreases-loop-own : goal.decreases-loop-own
decreases-loop-own l = length l.rest
