-- The parameters that a program passes.
use Rattle.std.specs.Prelude.{ℤ, Bool, List, Option, Some, None, nat_le, length, map, if◌then◌else◌, ◌&&◌}
use Rattle.std.specs.List.{list_all}
use Rattle.ti_parm.specs.Value.{Value, Number, Text}
use Rattle.terminfo_c.specs.declared.parameters.Parameter.{Parameter}

-- numbers alone, at most nine
abbrev pub numbers_given : List ℤ → Option (List Value)
numbers_given numbers = if nat_le (length numbers) 9 then Some (map Number numbers) else None

-- a text has at most 4095 bytes
abbrev pub is_short : Parameter → Bool
is_short given = nat_le (length given.text.now) 4095

abbrev pub value_given : Parameter → Value
value_given given = if given.is_text then Text given.text.now else Number given.number

-- at most nine, and no text is too long
abbrev pub are_good : List Parameter → Bool
are_good given = nat_le (length given) 9 && list_all is_short given

-- numbers and texts, if they are good
abbrev pub values_given : List Parameter → Option (List Value)
values_given given = if are_good given then Some (map value_given given) else None
