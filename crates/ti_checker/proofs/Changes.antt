-- Ignored sequences change nothing, and all others change something.
use Rattle.std.proofs.Common.{◌≡◌, ◌≢◌, ℕ, ◌==◌, ◌||◌, Bool, true, false, not, Option, None, Some, if◌then◌else◌, refl, ap}
use Rattle.std.specs.Prelude.{is_none}
use Rattle.std.specs.Option.{unwrap_or}
use Rattle.std.proofs.lemmas.Bool.{true≢false, false≢true}
use Rattle.vt_term.specs.Color.{Color, Black}
use Rattle.vt_term.specs.Function.{ModeKind, Standard, Private}
use Rattle.vt_term.specs.Look.{Rendition, plain}
use Rattle.vt_term.specs.Rendition.{RenditionChange, Plain, Bold, Faint, Underline, Blink, Negative, Concealed, NormalIntensity, NotUnderlined, Steady, Positive, Revealed, Foreground, Background, change_of, changed, changed_if, rendered}
use Rattle.vt_term.specs.Screen.{Screen, reset_screen}
use Rattle.vt_term.specs.Step.{mode_set}
use Rattle.vt_states.specs.Ignored.{is_unknown_rendition, is_unknown_mode}

no_change : (change : Option RenditionChange) (r : Rendition) → is_none change ≡ true → changed_if change r ≡ r
no_change None r h = refl
no_change (Some change) r h = cc

pub unknown_rendition : (number : Option ℕ) (r : Rendition) → is_unknown_rendition number ≡ true → rendered (unwrap_or number 0) r ≡ r
unknown_rendition number r h = no_change (change_of (unwrap_or number 0)) r h

-- a rendition that a change changes
record Changes (change : RenditionChange) : Type 0 where
  before : Rendition
  differs : changed change before ≢ before

foreground : (color : Option Color) → Changes (Foreground color)
foreground None = record { before = record plain { foreground = Some Black }; differs = λ e. let same : None ≡ Some Black = ap (λ (r : Rendition). r.foreground) e in cc }
foreground (Some color) = record { before = plain; differs = λ e. let same : Some color ≡ None = ap (λ (r : Rendition). r.foreground) e in cc }

background : (color : Option Color) → Changes (Background color)
background None = record { before = record plain { background = Some Black }; differs = λ e. let same : None ≡ Some Black = ap (λ (r : Rendition). r.background) e in cc }
background (Some color) = record { before = plain; differs = λ e. let same : Some color ≡ None = ap (λ (r : Rendition). r.background) e in cc }

changes : (change : RenditionChange) → Changes change
changes Plain = record { before = record plain { bold = true }; differs = λ e. false≢true (ap (λ (r : Rendition). r.bold) e) }
changes Bold = record { before = plain; differs = λ e. true≢false (ap (λ (r : Rendition). r.bold) e) }
changes Faint = record { before = plain; differs = λ e. true≢false (ap (λ (r : Rendition). r.faint) e) }
changes Underline = record { before = plain; differs = λ e. true≢false (ap (λ (r : Rendition). r.underline) e) }
changes Blink = record { before = plain; differs = λ e. true≢false (ap (λ (r : Rendition). r.blink) e) }
changes Negative = record { before = plain; differs = λ e. true≢false (ap (λ (r : Rendition). r.negative) e) }
changes Concealed = record { before = plain; differs = λ e. true≢false (ap (λ (r : Rendition). r.concealed) e) }
changes NormalIntensity = record { before = record plain { bold = true }; differs = λ e. false≢true (ap (λ (r : Rendition). r.bold) e) }
changes NotUnderlined = record { before = record plain { underline = true }; differs = λ e. false≢true (ap (λ (r : Rendition). r.underline) e) }
changes Steady = record { before = record plain { blink = true }; differs = λ e. false≢true (ap (λ (r : Rendition). r.blink) e) }
changes Positive = record { before = record plain { negative = true }; differs = λ e. false≢true (ap (λ (r : Rendition). r.negative) e) }
changes Revealed = record { before = record plain { concealed = true }; differs = λ e. false≢true (ap (λ (r : Rendition). r.concealed) e) }
changes (Foreground color) = foreground color
changes (Background color) = background color

some_change : (change : Option RenditionChange) → is_none change ≡ false → (r : Rendition) × (changed_if change r ≢ r)
some_change None h = cc
some_change (Some change) h = let c = changes change in (c.before, c.differs)

pub known_rendition : (number : Option ℕ) → is_unknown_rendition number ≡ false → (r : Rendition) × (rendered (unwrap_or number 0) r ≢ r)
known_rendition number h = some_change (change_of (unwrap_or number 0)) h

neither : (a : Bool) (x s : Screen) → not a ≡ true → (if a then x else s) ≡ s
neither true x s h = cc
neither false x s h = refl

neither_of_two : (a b : Bool) (x y s : Screen) → not (a || b) ≡ true → (if a then x else (if b then y else s)) ≡ s
neither_of_two true b x y s h = cc
neither_of_two false true x y s h = cc
neither_of_two false false x y s h = refl

pub unknown_mode : (kind : ModeKind) (on : Bool) (number : Option ℕ) (s : Screen) → is_unknown_mode kind number ≡ true → mode_set kind on (unwrap_or number 0) s ≡ s
unknown_mode Standard on number s h = neither (unwrap_or number 0 == 4) _ s h
unknown_mode Private on number s h = neither_of_two (unwrap_or number 0 == 7) (unwrap_or number 0 == 25) _ _ s h

insertion : (a : Bool) → not a ≡ false → (if a then record (reset_screen 2 2) { inserting = true } else reset_screen 2 2) ≢ reset_screen 2 2
insertion true h e = true≢false (ap (λ (s : Screen). s.inserting) e)
insertion false h e = cc

private_mode : (a b : Bool) → not (a || b) ≡ false → (if a then record (reset_screen 2 2) { autowrap = false; pending = false } else (if b then record (reset_screen 2 2) { visible = false } else reset_screen 2 2)) ≢ reset_screen 2 2
private_mode true b h e = false≢true (ap (λ (s : Screen). s.autowrap) e)
private_mode false true h e = false≢true (ap (λ (s : Screen). s.visible) e)
private_mode false false h e = cc

pub known_mode : (kind : ModeKind) (number : Option ℕ) → is_unknown_mode kind number ≡ false → (on : Bool) × (s : Screen) × (mode_set kind on (unwrap_or number 0) s ≢ s)
known_mode Standard number h = (true, reset_screen 2 2, insertion (unwrap_or number 0 == 4) h)
known_mode Private number h = (false, reset_screen 2 2, private_mode (unwrap_or number 0 == 7) (unwrap_or number 0 == 25) h)
