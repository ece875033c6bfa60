use Rattle.std.proofs.Common.{◌≡◌, ◌≤◌, ◌+◌, drop, map}
use Rattle.ti_sources.specs.JoinedPlaces.{place_behind}
use Rattle.ti_sources.proofs.joined_places.place_behind.Given as goal

-- the place is that of the bytes that are left, on the lines that are left
abbrev pub invariant-loop-at : goal.invariant-loop-at
invariant-loop-at l = record {
  place : place_behind (l.number + l.at) l.left (drop l.at (map (λ line. line.now) l.behind)) ≡ place_behind l.number l.past (map (λ line. line.now) l.behind);
  column : l.left + 1 ≤ 18446744073709551615;
  fewer : l.left ≤ l.past;
}
