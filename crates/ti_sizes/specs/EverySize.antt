-- An entry that is right whatever the size of the screen is.
use Rattle.std.specs.Prelude.{ℕ, ◌≡◌}
use Rattle.vt_term.specs.Size.{IsSize}
use Rattle.ti_caps.specs.Entry.{Content}
use Rattle.ti_conforms.specs.Conforms.{Conforms}
use Rattle.ti_checker.specs.No.{IsNo}
use Rattle.ti_checker.specs.declared.causes.Cause.TheVariants.{NoMemory}
use Rattle.ti_checker.specs.declared.causes.No.{No}

-- the entry drives a terminal of each size correctly
abbrev pub ConformsAtEverySize : Content → Type 0
ConformsAtEverySize entry = (rows cols : ℕ) → IsSize rows cols → Conforms entry rows cols

-- no refusal of the entry is true at any size but that memory ran out: so at each size a session opens on it, if there
-- is memory
abbrev pub OpensAtEverySize : Content → Type 0
OpensAtEverySize entry =
    (rows cols : ℕ) (refusal : No) → IsSize rows cols → IsNo entry rows cols refusal → refusal.cause ≡ NoMemory

pub record IsRightAtEverySize (entry : Content) : Type 0 where
  pub conforms : ConformsAtEverySize entry
  pub opens : OpensAtEverySize entry
