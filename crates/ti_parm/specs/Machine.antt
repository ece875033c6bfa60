-- The state made up of a machine and the bytes written.
use Rattle.std.specs.Prelude.{ℕ, List}
use Rattle.ti_parm.specs.Meaning.{State}
use Rattle.ti_parm.specs.declared.machine.Machine.{Machine}

abbrev pub state_of : Machine → List ℕ → State
state_of m output =
    record {
      params = m.params;
      dynamics = m.dynamics;
      statics = m.statics;
      first_uses = m.first_uses;
      stack = m.stack;
      output = output;
    }
