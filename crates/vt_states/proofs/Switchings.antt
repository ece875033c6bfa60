-- The effect of each function on autowrap and insertion.
use Rattle.std.proofs.Common.{◌≡◌, ℕ, ◌==◌, ◌&&◌, Bool, true, false, if◌then◌else◌, List, [], ◌∷◌, ◌++◌, Option, refl, ap, ◌∙◌}
use Rattle.std.specs.Option.{unwrap_or}
use Rattle.vt_term.specs.Screen.{Screen}
use Rattle.vt_term.specs.Step.{act, steps, step, mode_set, all_modes_set}
use Rattle.vt_term.specs.Function.{function_of, Function, G0, G1, ModeKind, Standard, Private, ShiftOut, ShiftIn, Designate, Modes}
use Rattle.vt_term.proofs.Drawn.{Kept, act_kept, either_same}
use Rattle.vt_states.specs.declared.watches.Switches.{Switches}
use Rattle.vt_states.specs.Watches.{switches_of, switched, all_switched, switches_after, switches_through}

mode_switches : (kind : ModeKind) (on : Bool) (n : ℕ) (s : Screen) → switches_of (mode_set kind on n s) ≡ switched kind on n (switches_of s)
mode_switches Private on n s = chosen (n == 7)
  where
    chosen : (b : Bool) → switches_of (if b then record s { autowrap = on; pending = s.pending && on } else (if n == 25 then record s { visible = on } else s)) ≡ (if b then record (switches_of s) { autowrap = on } else switches_of s)
    chosen true = refl
    chosen false = either_same switches_of (n == 25) (switches_of s) _ _ refl refl
mode_switches Standard on n s = chosen (n == 4)
  where
    chosen : (b : Bool) → switches_of (if b then record s { inserting = on } else s) ≡ (if b then record (switches_of s) { inserting = on } else switches_of s)
    chosen true = refl
    chosen false = refl

modes_switches : (kind : ModeKind) (on : Bool) (ns : List (Option ℕ)) (s : Screen) → switches_of (all_modes_set kind on ns s) ≡ all_switched kind on ns (switches_of s)
modes_switches kind on [] s = refl
modes_switches kind on (n ∷ ns) s = modes_switches kind on ns (mode_set kind on (unwrap_or n 0) s) ∙ ap (λ (w : Switches). all_switched kind on ns w) (mode_switches kind on (unwrap_or n 0) s)

pub act_switches : (f : Function) (s : Screen) → switches_of (act f s) ≡ switches_after f (switches_of s)
act_switches ShiftOut s = refl
act_switches ShiftIn s = refl
act_switches (Designate G0 graphic) s = refl
act_switches (Designate G1 graphic) s = refl
act_switches (Modes kind on ns) s = modes_switches kind on ns s
act_switches f s = ap (λ (k : Kept). record { autowrap = k.autowrap; inserting = k.inserting }) (act_kept f s refl)

pub steps_switches : (ts : List (List ℕ)) (s : Screen) → switches_of (steps ts s) ≡ switches_through ts (switches_of s)
steps_switches [] s = refl
steps_switches (t ∷ ts) s = steps_switches ts (step t s) ∙ ap (λ (w : Switches). switches_through ts w) (act_switches (function_of t) s)

pub through_more : (ts : List (List ℕ)) (t : List ℕ) (w : Switches) → switches_through (ts ++ t ∷ []) w ≡ switches_after (function_of t) (switches_through ts w)
through_more [] t w = refl
through_more (x ∷ ts) t w = through_more ts t (switches_after (function_of x) w)
