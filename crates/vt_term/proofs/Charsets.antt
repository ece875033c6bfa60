-- The effect of each function on the character sets.
use Rattle.std.proofs.Common.{◌≡◌, ℕ, ◌==◌, Bool, List, [], ◌∷◌, Option, refl, ap, ◌∙◌}
use Rattle.std.specs.Option.{unwrap_or}
use Rattle.vt_term.specs.Screen.{Screen}
use Rattle.vt_term.specs.Step.{act, mode_set, all_modes_set}
use Rattle.vt_term.specs.Charsets.{charset_after}
use Rattle.vt_term.specs.Function.{Function, G0, G1, ModeKind, Standard, Private, ShiftOut, ShiftIn, Designate, Modes}
use Rattle.vt_term.proofs.Drawn.{Kept, act_kept, either_same}

mode_charset : (kind : ModeKind) (on : Bool) (n : ℕ) (s : Screen) → (mode_set kind on n s).charset ≡ s.charset
mode_charset Private on n s = either_same (λ (x : Screen). x.charset) (n == 7) s.charset _ _ refl (either_same (λ (x : Screen). x.charset) (n == 25) s.charset _ _ refl refl)
mode_charset Standard on n s = either_same (λ (x : Screen). x.charset) (n == 4) s.charset _ _ refl refl

modes_charset : (kind : ModeKind) (on : Bool) (ns : List (Option ℕ)) (s : Screen) → (all_modes_set kind on ns s).charset ≡ s.charset
modes_charset kind on [] s = refl
modes_charset kind on (n ∷ ns) s = modes_charset kind on ns (mode_set kind on (unwrap_or n 0) s) ∙ mode_charset kind on (unwrap_or n 0) s

pub act_charset : (f : Function) (s : Screen) → (act f s).charset ≡ charset_after f s.charset
act_charset ShiftOut s = refl
act_charset ShiftIn s = refl
act_charset (Designate G0 graphic) s = refl
act_charset (Designate G1 graphic) s = refl
act_charset (Modes kind on ns) s = modes_charset kind on ns s
act_charset f s = ap (λ (k : Kept). k.charset) (act_kept f s refl)
