-- SGR and modes change screens as their records do.
use Rattle.std.proofs.Common.{◌≡◌, ℕ, ◌==◌, ◌&&◌, Bool, true, false, if◌then◌else◌, List, [], ◌∷◌, Option, Some, None, refl, sym, ap, ◌∙◌}
use Rattle.std.specs.Option.{unwrap_or}
use Rattle.std.proofs.lemmas.Option.{option_and_then_some}
use Rattle.vt_term.specs.Rendition.{RenditionChange, change_of, changed, changed_if}
use Rattle.vt_term.specs.Rendition as changes
use Rattle.vt_term.specs.Function.{ModeKind, Standard, Private}
use Rattle.vt_term.specs.Look.{Rendition}
use Rattle.vt_term.specs.Screen.{Screen}
use Rattle.vt_term.specs.Step as step
use Rattle.vt_effects.specs.declared.effects.Rendering.{Rendering}
use Rattle.vt_effects.specs.declared.effects.Effect.{Effect}
use Rattle.vt_effects.specs.Effect.{rendered, applied}
use Rattle.vt_effects.specs.Record.{changing, changing_if, rendering, all_renderings, mode_set, modes_set}
use Rattle.vt_effects.proofs.MoveFacts.{chosen, given, not_found}

change_rendered : (c : RenditionChange) (r : Rendering) (x : Rendition) → rendered (changing c r) x ≡ changed c (rendered r x)
change_rendered changes.Plain r x = refl
change_rendered changes.Bold r x = refl
change_rendered changes.Faint r x = refl
change_rendered changes.Underline r x = refl
change_rendered changes.Blink r x = refl
change_rendered changes.Negative r x = refl
change_rendered changes.Concealed r x = refl
change_rendered changes.NormalIntensity r x = refl
change_rendered changes.NotUnderlined r x = refl
change_rendered changes.Steady r x = refl
change_rendered changes.Positive r x = refl
change_rendered changes.Revealed r x = refl
change_rendered (changes.Foreground None) r x = refl
change_rendered (changes.Foreground (Some c)) r x = refl
change_rendered (changes.Background None) r x = refl
change_rendered (changes.Background (Some c)) r x = refl

change_if_rendered : (c : Option RenditionChange) (r : Rendering) (x : Rendition) → rendered (changing_if c r) x ≡ changed_if c (rendered r x)
change_if_rendered None r x = refl
change_if_rendered (Some c) r x = change_rendered c r x

number_rendered : (n : ℕ) (r : Rendering) (x : Rendition) → rendered (rendering n r) x ≡ step.rendered n (rendered r x)
number_rendered n r x = change_if_rendered (change_of n) r x

pub numbers_rendered : (ns : List (Option ℕ)) (r : Rendering) (x : Rendition) → rendered (all_renderings ns r) x ≡ step.all_rendered ns (rendered r x)
numbers_rendered [] r x = refl
numbers_rendered (n ∷ ns) r x = numbers_rendered ns (rendering (unwrap_or n 0) r) x ∙ ap (λ (y : Rendition). step.all_rendered ns y) (number_rendered (unwrap_or n 0) r x)

-- a mode moves no cursor
pub record SamePlace (e f : Effect) : Type 0 where
  pub row : f.row ≡ e.row
  pub col : f.col ≡ e.col

-- from a screen with autowrap on and insertion off, the step is the record's
abbrev pub Follows : Effect → Effect → Screen → Screen → Type 0
Follows e f s to = to ≡ applied f s

and_true : (b : Bool) → (b && true) ≡ b
and_true true = refl
and_true false = refl

wraps : (s : Screen) → s.autowrap ≡ true → record s { autowrap = true; pending = s.pending && true } ≡ s
wraps s h = ap (λ (b : Bool). record s { autowrap = true; pending = b }) (and_true s.pending) ∙ ap (λ (b : Bool). record s { autowrap = b }) (sym h)

replaces : (s : Screen) → s.inserting ≡ false → record s { inserting = false } ≡ s
replaces s h = ap (λ (b : Bool). record s { inserting = b }) (sym h)

pick : {A : Type 0} (b : Bool) (x y z : A) → b ≡ true → x ≡ z → (if b then x else y) ≡ z
pick true x y z e h = h
pick false x y z e h = absurd (cc)

skip : {A : Type 0} (b : Bool) (x y z : A) → b ≡ false → y ≡ z → (if b then x else y) ≡ z
skip true x y z e h = absurd (cc)
skip false x y z e h = h

same_effect : (e f : Effect) (s to : Screen) → Some e ≡ Some f → to ≡ applied e s → Follows e f s to
same_effect e f s to h k = given (λ g. Follows e g s to) e f h k

mode_follows : (kind : ModeKind) (on : Bool) (n : ℕ) (e f : Effect) (s : Screen) → s.autowrap ≡ true → s.inserting ≡ false → mode_set kind on n e ≡ Some f → Follows e f s (step.mode_set kind on n (applied e s))
mode_follows Private true n e f s w i h = chosen (n == 7) _ _ f h
    (λ b k. same_effect e f s _ k (pick (n == 7) _ _ (applied e s) b (wraps (applied e s) w)))
    (λ b k. chosen (n == 25) _ _ f k
    (λ c l. given (λ g. Follows e g s (step.mode_set Private true n (applied e s))) _ f l
    (skip (n == 7) _ _ _ b (pick (n == 25) _ _ _ c refl)))
    (λ c l. same_effect e f s _ l (skip (n == 7) _ _ _ b (skip (n == 25) _ _ _ c refl))))
mode_follows Private false n e f s w i h = chosen (n == 7) _ _ f h
    (λ b k. not_found f k)
    (λ b k. chosen (n == 25) _ _ f k
    (λ c l. given (λ g. Follows e g s (step.mode_set Private false n (applied e s))) _ f l
    (skip (n == 7) _ _ _ b (pick (n == 25) _ _ _ c refl)))
    (λ c l. same_effect e f s _ l (skip (n == 7) _ _ _ b (skip (n == 25) _ _ _ c refl))))
mode_follows Standard true n e f s w i h = chosen (n == 4) _ _ f h
    (λ b k. not_found f k)
    (λ b k. same_effect e f s _ k (skip (n == 4) _ _ _ b refl))
mode_follows Standard false n e f s w i h = chosen (n == 4) _ _ f h
    (λ b k. same_effect e f s _ k (pick (n == 4) _ _ (applied e s) b (replaces (applied e s) i)))
    (λ b k. same_effect e f s _ k (skip (n == 4) _ _ _ b refl))

pub modes_follow : (kind : ModeKind) (on : Bool) (ns : List (Option ℕ)) (e f : Effect) (s : Screen) → s.autowrap ≡ true → s.inserting ≡ false → modes_set kind on ns e ≡ Some f → Follows e f s (step.all_modes_set kind on ns (applied e s))
modes_follow kind on [] e f s w i h = same_effect e f s _ h refl
modes_follow kind on (n ∷ ns) e f s w i h = option_and_then_some (modes_set kind on ns) (mode_set kind on (unwrap_or n 0) e) f h
    (λ g found left.
    let one : Follows e g s (step.mode_set kind on (unwrap_or n 0) (applied e s)) = mode_follows kind on (unwrap_or n 0) e g s w i found in
    let more : Follows g f s (step.all_modes_set kind on ns (applied g s)) = modes_follow kind on ns g f s w i left in
    ap (λ (x : Screen). step.all_modes_set kind on ns x) one ∙ more)

stays : (e f : Effect) → Some e ≡ Some f → SamePlace e f
stays e f h = given (λ g. SamePlace e g) e f h (record { row = refl; col = refl })

mode_stays : (kind : ModeKind) (on : Bool) (n : ℕ) (e f : Effect) → mode_set kind on n e ≡ Some f → SamePlace e f
mode_stays Private true n e f h = chosen (n == 7) _ _ f h (λ b k. stays e f k)
    (λ b k. chosen (n == 25) _ _ f k (λ c l. given (λ g. SamePlace e g) _ f l (record { row = refl; col = refl })) (λ c l. stays e f l))
mode_stays Private false n e f h = chosen (n == 7) _ _ f h (λ b k. not_found f k)
    (λ b k. chosen (n == 25) _ _ f k (λ c l. given (λ g. SamePlace e g) _ f l (record { row = refl; col = refl })) (λ c l. stays e f l))
mode_stays Standard true n e f h = chosen (n == 4) _ _ f h (λ b k. not_found f k) (λ b k. stays e f k)
mode_stays Standard false n e f h = chosen (n == 4) _ _ f h (λ b k. stays e f k) (λ b k. stays e f k)

pub modes_stay : (kind : ModeKind) (on : Bool) (ns : List (Option ℕ)) (e f : Effect) → modes_set kind on ns e ≡ Some f → SamePlace e f
modes_stay kind on [] e f h = stays e f h
modes_stay kind on (n ∷ ns) e f h = option_and_then_some (modes_set kind on ns) (mode_set kind on (unwrap_or n 0) e) f h
    (λ g found left.
    let one : SamePlace e g = mode_stays kind on (unwrap_or n 0) e g found in
    let more : SamePlace g f = modes_stay kind on ns g f left in
    record { row = more.row ∙ one.row; col = more.col ∙ one.col })
