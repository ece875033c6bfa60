-- The most basic strings, and the effect of each from every start.
use Rattle.std.specs.Prelude.{ℕ, ◌≡◌, true, List, [], ◌∷◌, Some}
use Rattle.vt_term.specs.Text.{Splits}
use Rattle.vt_effects.specs.declared.effects.Move.TheVariants as moves
use Rattle.vt_effects.specs.declared.effects.Erasure.TheVariants as erasures
use Rattle.vt_effects.specs.declared.effects.Effect.{Effect}
use Rattle.vt_effects.specs.declared.starts.Start.{Start}
use Rattle.vt_effects.specs.Effect.{unchanged}
use Rattle.vt_effects.specs.Record.{record_of, all_off}

-- the tokens of this text have this record
abbrev pub HasRecord : ℕ → ℕ → Start → List ℕ → Effect → Type 0
HasRecord rows cols start text e =
    (tokens : List (List ℕ)) → Splits text tokens [] → record_of rows cols start tokens ≡ Some e

-- ESC [ H (ECMA-48 8.3.21, CUP)
abbrev pub home_text : List ℕ
home_text = 27 ∷ 91 ∷ 72 ∷ []

-- ESC [ H, ESC [ 2 J (and 8.3.39, ED)
abbrev pub clear_text : List ℕ
clear_text = 27 ∷ 91 ∷ 72 ∷ 27 ∷ 91 ∷ 50 ∷ 74 ∷ []

-- ESC [ K (8.3.41, EL)
abbrev pub el_text : List ℕ
el_text = 27 ∷ 91 ∷ 75 ∷ []

-- ESC [ m (8.3.117, SGR)
abbrev pub sgr0_text : List ℕ
sgr0_text = 27 ∷ 91 ∷ 109 ∷ []

-- row=r col=c nopend
abbrev pub placed_at : ℕ → ℕ → Effect
placed_at row col = record unchanged { row = moves.To row; col = moves.To col; ends_pending = true }

-- row=0 col=0 nopend all
abbrev pub cleared : Effect
cleared = record unchanged { row = moves.To 0; col = moves.To 0; ends_pending = true; erasure = erasures.Screen }

-- tail
abbrev pub tail_erased : Effect
tail_erased = record unchanged { erasure = erasures.Tail }

-- look:000000 ink:dd
abbrev pub made_plain : Effect
made_plain = record unchanged { rendition = all_off }
