-- The strings of several rows.
use Rattle.std.specs.Prelude.{ℕ, List, [], ◌∷◌, ◌++◌}
use Rattle.ti_rows.specs.declared.rows.Row.{Row}
use Rattle.ti_conforms.specs.Certified.{Table, text_of}

-- the strings for these rows, one after another; one that the entry lacks is empty
abbrev pub texts_of : Table → List Row → List ℕ
texts_of t [] = []
texts_of t (row ∷ rows) = text_of t row ++ texts_of t rows
