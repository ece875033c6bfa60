-- Paths of one file.
use Rattle.std.specs.Prelude.{ℕ, Bool, List, codes, drop, if◌then◌else◌, nat_eq}
use Rattle.std.specs.Ordering.{is_eq}
use Rattle.std.specs.List.{starts_with}
use Rattle.std.specs.Path.{path_cmp}

-- a path without the step `.` that it begins with
abbrev pub within : List ℕ → List ℕ
within path = if starts_with nat_eq path (codes "./") then drop 2 path else path

-- the same but for steps `.` and repeated slashes
abbrev pub is_same_path : List ℕ → List ℕ → Bool
is_same_path one other = is_eq (path_cmp (within one) (within other))
