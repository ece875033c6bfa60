-- (Serves the code alone.) The places of a screen that become blank, if all were alike and not blank.
use Rattle.std.specs.Prelude.{ℕ, ◌+◌, ◌-◌, ◌≡◌, ◌==◌, ◌&&◌, ◌||◌, nat_le, nat_lt, Bool, true, false, if◌then◌else◌}
use Rattle.vt_effects.specs.declared.effects.Effect.{Effect}
use Rattle.vt_effects.specs.declared.effects.Erasure.{Erasure}
use Rattle.vt_effects.specs.declared.effects.Erasure.TheVariants as erasures
use Rattle.vt_effects.specs.declared.effects.Scroll.{Scroll}
use Rattle.vt_effects.specs.declared.effects.Scroll.TheVariants as scrolls
use Rattle.vt_effects.specs.Effect.{applied}
use Rattle.vt_term.specs.Screen.{Screen}
use Rattle.ti_checker.specs.declared.probes.Probe.{Probe}

-- the places that an erasure takes, with the cursor at this row and column
abbrev pub is_erased : Erasure → ℕ → ℕ → ℕ → ℕ → Bool
is_erased erasures.Nothing row col i j = false
is_erased erasures.Screen row col i j = true
is_erased erasures.Tail row col i j = (i == row) && nat_le col j
is_erased erasures.Head row col i j = (i == row) && nat_le j col
is_erased erasures.Rest row col i j = nat_lt row i || ((i == row) && nat_le col j)
is_erased (erasures.Next n) row col i j = (i == row) && (nat_le col j && nat_lt j (col + n))

-- the places that are blank after the region from top to bottom scrolled by a line
abbrev pub is_blank_after : Scroll → ℕ → ℕ → (ℕ → Bool) → ℕ → Bool
is_blank_after scrolls.Still top bottom erased i = erased i
is_blank_after scrolls.Up top bottom erased i =
    if nat_le top i && nat_le i bottom then (if nat_le (i + 1) bottom then erased (i + 1) else true) else erased i
is_blank_after scrolls.Down top bottom erased i =
    if nat_le top i && nat_le i bottom then (if nat_le (top + 1) i then erased (i - 1) else true) else erased i

-- whether the effect leaves a place blank
abbrev pub becomes_blank : Effect → Probe → ℕ → ℕ → Bool
becomes_blank e p i j = is_blank_after e.scroll p.top p.bottom (λ k. is_erased e.erasure p.row p.col k j) i

abbrev pub HaveOneGrid : Effect → Effect → Screen → Type 0
HaveOneGrid e f s = (applied e s).grid ≡ (applied f s).grid
