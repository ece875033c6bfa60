-- A reader over memory that gives few bytes at a time and fails once.
use Rattle.std.specs.Prelude.{ℕ, ◌-◌, List, Option, None, Some, min}

pub record Dripping : Type 0 where
  -- the bytes that are left
  pub bytes : List ℕ
  -- the most bytes that one call gives
  pub step : ℕ
  -- after how many more bytes it fails, if it will
  pub fail_in : Option ℕ
  pub failures : ℕ

-- how many bytes are given if there is room for `wanted`
abbrev pub given_by : ℕ → ℕ → ℕ → Option ℕ → ℕ
given_by wanted step rest None = min (min wanted step) rest
given_by wanted step rest (Some n) = min (min (min wanted step) rest) n

-- the number of bytes before the failure, once n more were given
abbrev pub nearer : Option ℕ → ℕ → Option ℕ
nearer None n = None
nearer (Some m) n = Some (m - n)
