-- A record is right: from every state of the start, the string has the effect.
use Rattle.std.specs.Prelude.{ℕ, ◌≡◌, List, []}
use Rattle.vt_term.specs.Screen.{State, Screen}
use Rattle.vt_term.specs.Text.{Splits}
use Rattle.vt_term.specs.Step.{act, steps}
use Rattle.vt_term.specs.Function.{Function}
use Rattle.vt_term.specs.Run.{Runs}
use Rattle.vt_effects.specs.declared.effects.Effect.{Effect}
use Rattle.vt_effects.specs.declared.starts.Start.{Start}
use Rattle.vt_effects.specs.Start.{Allows}
use Rattle.vt_effects.specs.Effect.{applied}

-- the function's step after the effect e is the effect f
abbrev pub Extends : ℕ → ℕ → Start → Function → Effect → Effect → Type 0
Extends rows cols start function e f =
    (s : Screen) → Allows rows cols start s → act function (applied e s) ≡ applied f s

-- the steps of these tokens have the effect
abbrev pub StepsAs : ℕ → ℕ → Start → List (List ℕ) → Effect → Type 0
StepsAs rows cols start tokens e = (s : Screen) → Allows rows cols start s → steps tokens s ≡ applied e s

-- every text that splits into these tokens, with nothing open before it, has the effect
abbrev pub RunsAs : ℕ → ℕ → Start → List (List ℕ) → Effect → Type 0
RunsAs rows cols start tokens e =
    (s : State) (text : List ℕ) → s.rest ≡ [] → Allows rows cols start s.screen → Splits text tokens []
    → Runs s text (record { screen = applied e s.screen; rest = [] })

-- this text has the effect
abbrev pub RunsTextAs : ℕ → ℕ → Start → List ℕ → Effect → Type 0
RunsTextAs rows cols start text e =
    (s : State) → s.rest ≡ [] → Allows rows cols start s.screen
    → Runs s text (record { screen = applied e s.screen; rest = [] })
