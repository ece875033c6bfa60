-- The letters that say how the next character is shown.
use Rattle.std.specs.Prelude.{ℕ, List, false}
use Rattle.vt_term.specs.Look.{Rendition}
use Rattle.vt_term.specs.Printed.{letters}

-- the letters of a rendition
unfoldable pub rendition_letters : Rendition → List ℕ
rendition_letters r = letters false r
