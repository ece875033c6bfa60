-- The tokens of a prefix of a text.
use Rattle.std.specs.Prelude.{◌≡◌, ℕ, List, ◌++◌}
use Rattle.vt_term.specs.Text.{Splits}

-- A prefix of the text has the tokens ts and an open rest. The tokens of the whole text are ts and then those of the
-- rest and the bytes after it.
pub record GoesOn (ts us : List (List ℕ)) (rest more last : List ℕ) : Type 0 where
  pub later : List (List ℕ)
  pub splits : Splits (rest ++ more) later last
  pub tokens : us ≡ ts ++ later
