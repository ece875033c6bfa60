-- On and off, in a record.
use Rattle.std.specs.Prelude.{Bool, true, false}
use Rattle.vt_effects.specs.declared.effects.Switch.{Switch}
use Rattle.vt_effects.specs.declared.effects.Switch.TheVariants as switches

abbrev pub on_or_kept : Bool → Switch
on_or_kept true = switches.On
on_or_kept false = switches.Kept

abbrev pub is_on : Switch → Bool
is_on switches.On = true
is_on _ = false
