-- A screen in the reset state, but for its character sets, is legal.
use Rattle.std.proofs.Common.{ℕ, refl}
use Rattle.vt_screen.proofs.Resets.{begun_is_screen}
use Rattle.vt_term.specs.Screen.{Charset, IsScreen, reset_screen}
use Rattle.vt_term.specs.Size.{IsSize}

pub reset_is_screen : (rows cols : ℕ) (c : Charset) → IsSize rows cols → IsScreen (record (reset_screen rows cols) { charset = c })
reset_is_screen rows cols c size = begun_is_screen (record (reset_screen rows cols) { charset = c }) size refl refl refl refl refl
