-- A text in parts.
use Rattle.std.specs.Global.{Global}
use Rattle.std.specs.Prelude.{ℕ, List, Vec}
use Rattle.std.specs.List.{flat_map}

-- the parts, one after another
abbrev pub whole : List (Vec ℕ Global) → List ℕ
whole parts = flat_map (λ part. part.items) parts
