-- The parts in which each wanted end of a row equals the end that is asked for.
use Rattle.std.proofs.Common.{◌≡◌, Bool, true, false, refl, sym, subst}
use Rattle.vt_effects.specs.declared.effects.Effect.{Effect}
use Rattle.ti_rows.specs.Asked.{asked}
use Rattle.ti_rows.specs.declared.rows.Looks.{Looks}
use Rattle.ti_rows.specs.declared.rows.Row.{Row}
use Rattle.ti_rows.specs.declared.rows.Row.TheVariants.{Sgr, Smso, Cvvis, Smcup, Rmcup}
use Rattle.ti_rows.proofs.StartFacts.{never}
use Rattle.ti_checker.specs.Breakage.{has_choice, is_free, wanted_end, with_defaults, without_defaults}
use Rattle.ti_checker.specs.Trials.{IsEnd, Only, WithDefaults, WithoutDefaults}

-- the rows whose rendition doesn't depend on looks
abbrev pub is_fixed : Row → Bool
is_fixed (Sgr a) = false
is_fixed Smso = false
is_fixed _ = true

-- all rows but the one that may show the cursor or not
abbrev pub is_told : Row → Bool
is_told Cvvis = false
is_told _ = true

-- two effects do the same except where the row leaves the end open
pub record EndsLike (open_in : Row) (f g : Effect) : Type 0 where
  pub row : f.row ≡ g.row
  pub col : f.col ≡ g.col
  pub ends_pending : f.ends_pending ≡ g.ends_pending
  pub margins_are : f.margins ≡ g.margins
  pub charset : f.charset ≡ g.charset
  pub erasure : f.erasure ≡ g.erasure
  pub scroll : is_free open_in ≡ false → f.scroll ≡ g.scroll
  pub rendition : is_fixed open_in ≡ true → f.rendition ≡ g.rendition
  pub visible : is_told open_in ≡ true → f.visible ≡ g.visible

-- a row with one wanted end
only : (l m : Looks) (row : Row) (e : Effect) → has_choice row ≡ false → EndsLike row (wanted_end l row e) (asked m row e)
only l m (Sgr a) e one = never one
only l m Cvvis e one = never one
only l m Smso e one = record { row = refl; col = refl; ends_pending = refl; margins_are = refl; charset = refl; erasure = refl; scroll = λ bound. refl; rendition = λ fixed. never (sym fixed); visible = λ told. refl }
only l m Smcup e one = record { row = refl; col = refl; ends_pending = refl; margins_are = refl; charset = refl; erasure = refl; scroll = λ bound. never bound; rendition = λ fixed. refl; visible = λ told. refl }
only l m Rmcup e one = record { row = refl; col = refl; ends_pending = refl; margins_are = refl; charset = refl; erasure = refl; scroll = λ bound. never bound; rendition = λ fixed. refl; visible = λ told. refl }
only l m _ e one = record { row = refl; col = refl; ends_pending = refl; margins_are = refl; charset = refl; erasure = refl; scroll = λ bound. refl; rendition = λ fixed. refl; visible = λ told. refl }

-- a row with two wanted ends, each asked for by an effect with these sets
chosen : (l m : Looks) (row : Row) (e d : Effect) → d.charset ≡ e.charset → has_choice row ≡ true → EndsLike row (asked l row d) (asked m row e)
chosen l m (Sgr a) e d sets choice = record { row = refl; col = refl; ends_pending = refl; margins_are = refl; charset = sets; erasure = refl; scroll = λ bound. refl; rendition = λ fixed. never (sym fixed); visible = λ told. refl }
chosen l m Cvvis e d sets choice = record { row = refl; col = refl; ends_pending = refl; margins_are = refl; charset = refl; erasure = refl; scroll = λ bound. refl; rendition = λ fixed. refl; visible = λ told. never (sym told) }
chosen l m _ e d sets choice = never (sym choice)

pub ends_as : (l m : Looks) (row : Row) (e f : Effect) → IsEnd l row e f → EndsLike row f (asked m row e)
ends_as l m row e f (Only one is) = subst (λ (g : Effect). EndsLike row g (asked m row e)) (sym is) (only l m row e one)
ends_as l m row e f (WithDefaults choice is) = subst (λ (g : Effect). EndsLike row g (asked m row e)) (sym is) (chosen l m row e (with_defaults e) refl choice)
ends_as l m row e f (WithoutDefaults choice is) = subst (λ (g : Effect). EndsLike row g (asked m row e)) (sym is) (chosen l m row e (without_defaults e) refl choice)
