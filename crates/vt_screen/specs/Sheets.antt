-- (Serves the code alone.) The places of a ring of n lines whose first line is at place `start`.
use Rattle.std.specs.Prelude.{ℕ, ◌+◌, ◌-◌, nat_lt, if◌then◌else◌}

-- where the line of a row is
abbrev pub ring_place : ℕ → ℕ → ℕ → ℕ
ring_place start n row = if nat_lt row (n - start) then start + row else row - (n - start)

-- where the first line is after all lines have moved up by one
abbrev pub ring_next : ℕ → ℕ → ℕ
ring_next start n = if nat_lt (start + 1) n then start + 1 else 0
