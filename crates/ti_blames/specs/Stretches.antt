-- Parts of some bytes.
use Rattle.std.specs.Prelude.{◌<◌, ◌≤◌, ℕ, List, length}
use Rattle.ti_blames.specs.declared.stretches.Stretch.{Stretch}

-- the stretch isn't empty, and is within these bytes
pub record IsWithin (bytes : List ℕ) (stretch : Stretch) : Type 0 where
  pub filled : stretch.from < stretch.to
  pub ends : stretch.to ≤ length bytes
