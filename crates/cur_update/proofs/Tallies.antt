-- Counts so far.
use Rattle.std.proofs.Common.{◌≡◌, ◌≤◌, ℕ}

-- a count is as defined, and within a bound
pub record Counted (count defined most : ℕ) : Type 0 where
  pub counted : count ≡ defined
  pub few : count ≤ most
