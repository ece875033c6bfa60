-- From the contents of an entry to the answer.
use Rattle.std.proofs.Common.{◌≡◌, ℕ, List, inl, inr, ℤ, FitsSigned, w32, to_z, of_z, sym, subst}
use Rattle.std.specs.Prelude.{Some}
use Rattle.std.proofs.lemmas.Int.{to_z-of_z}
use Rattle.ti_caps.specs.Entry.{Content, string_at}
use Rattle.ti_caps.specs.declared.types.Kind.TheVariants as kinds
use Rattle.curses_c.specs.Capabilities.{Holds, IsString, LacksString, Tells, TellsNone, named}
use Rattle.curses_c.specs.Verdicts.{Answers}

told : (bytes name text : List ℕ) (place : ℕ) (entry : Content) (old new : List ℕ) (needed : ℕ) (code : ℤ)
    → named kinds.String text ≡ Some place → Holds bytes name entry
    → Answers (IsString entry place) (LacksString entry place) old new needed code
    → Answers (Tells string_at kinds.String bytes name text) (TellsNone string_at kinds.String bytes name text) old new needed code
told bytes name text place entry old new needed code found holds (inl (value, is, long, fills)) =
    inl (value, record { place = place; is_named = found; entry = entry; holds = holds; value = is }, long, fills)
told bytes name text place entry old new needed code found holds (inr (e, lacks, none, same, number)) =
    inr (e, inr (place, found, inr (entry, holds, lacks.0, lacks.1)), none, same, number)

-- the answer by a code, as it is handed on
pub told_as : (bytes name text : List ℕ) (place : ℕ) (entry : Content) (old new : List ℕ) (needed : ℕ) (code : ℤ) → FitsSigned w32 code
    → named kinds.String text ≡ Some place → Holds bytes name entry
    → Answers (IsString entry place) (LacksString entry place) old new needed code
    → Answers (Tells string_at kinds.String bytes name text) (TellsNone string_at kinds.String bytes name text) old new needed (to_z w32 (of_z w32 code))
told_as bytes name text place entry old new needed code fits found holds answers =
    subst (λ (it : ℤ). Answers (Tells string_at kinds.String bytes name text) (TellsNone string_at kinds.String bytes name text) old new needed it)
    (sym (to_z-of_z w32 code fits)) (told bytes name text place entry old new needed code found holds answers)
