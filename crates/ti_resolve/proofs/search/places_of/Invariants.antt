use Rattle.std.proofs.Common.{◌≡◌, List, ℕ, take}
use Rattle.ti_resolve.specs.Index.{place_in}
use Rattle.ti_resolve.specs.Uses.{place_named}
use Rattle.ti_resolve.proofs.search.places_of.Given as goal

abbrev pub invariant-loop-place : goal.invariant-loop-place
invariant-loop-place l = (name : List ℕ) → place_in l.places name ≡ place_named (take l.place l.raws) name
