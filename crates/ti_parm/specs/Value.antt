-- The values of parameter strings (terminfo(5), "Parameterized Strings").
use Rattle.std.specs.Prelude.{ℕ, ℤ, pos, List, ◌++◌, take, map, replicate}
use Rattle.ti_parm.specs.declared.param.Param.{Param}
use Rattle.ti_parm.specs.declared.param.Param.TheVariants.{Number as NumberParam, Text as TextParam}

-- a signed number of 32 bits, or a text
pub data Value : Type 0 where
  Number : ℤ → Value
  Text : List ℕ → Value

abbrev pub Values : Type 0
Values = List Value

-- the value of a parameter
abbrev pub value_of : Param → Value
value_of (NumberParam n) = Number n
value_of (TextParam bytes) = Text bytes.now

abbrev pub values_of : List Param → List Value
values_of given = map value_of given

-- the parameters of a run: the first nine passed, and 0 for those missing
unfoldable pub nine : List Value → List Value
nine given = take 9 (given ++ replicate 9 (Number (pos 0)))

-- 26 variables, all 0
unfoldable pub zeros : List ℤ
zeros = replicate 26 (pos 0)
