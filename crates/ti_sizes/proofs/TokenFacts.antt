-- The tokens of a text, one after another, whose steps are one for all sizes.
use Rattle.std.proofs.Common.{◌≡◌, ℕ, ◌+◌, ◌<◌, List, [], ◌∷◌, ◌++◌, length, take, get_or, Option, Some, None, option_and_then, refl, sym, ap, subst, ◌∙◌}
use Rattle.std.proofs.lemmas.List.{take_more}
use Rattle.vt_term.specs.Size.{max_rows, max_cols}
use Rattle.vt_term.specs.Function.{Function, function_of}
use Rattle.vt_effects.specs.declared.effects.Effect.{Effect}
use Rattle.vt_effects.specs.declared.starts.Start.{Start}
use Rattle.vt_effects.specs.Effect.{unchanged}
use Rattle.vt_effects.specs.Record.{all_extended, extended, record_of}
use Rattle.ti_rows.specs.declared.rows.Row.{Row}
use Rattle.ti_rows.specs.Asked.{start_of}
use Rattle.ti_sizes.specs.Steady.{IsSteady, IsSteadyStep, greatest_start}

-- one more token
all_more : (rows cols : ℕ) (start : Start) (ts : List (List ℕ)) (t : List ℕ) (e : Effect) → all_extended rows cols start (ts ++ t ∷ []) e ≡ option_and_then (extended rows cols start (function_of t)) (all_extended rows cols start ts e)
all_more rows cols start [] t e = last (extended rows cols start (function_of t) e)
  where
    last : (x : Option Effect) → option_and_then (all_extended rows cols start []) x ≡ x
    last None = refl
    last (Some f) = refl
all_more rows cols start (u ∷ ts) t e = later (all_more rows cols start ts t) (extended rows cols start (function_of u) e)
  where
    later : ((f : Effect) → all_extended rows cols start (ts ++ t ∷ []) f ≡ option_and_then (extended rows cols start (function_of t)) (all_extended rows cols start ts f)) → (x : Option Effect)
        → option_and_then (all_extended rows cols start (ts ++ t ∷ [])) x ≡ option_and_then (extended rows cols start (function_of t)) (option_and_then (all_extended rows cols start ts) x)
    later h None = refl
    later h (Some f) = h f

after : (rows cols : ℕ) (start : Start) (ts : List (List ℕ)) (t : List ℕ) (e : Effect) → record_of rows cols start ts ≡ Some e → record_of rows cols start (ts ++ t ∷ []) ≡ extended rows cols start (function_of t) e
after rows cols start ts t e h = all_more rows cols start ts t unchanged ∙ ap (option_and_then (extended rows cols start (function_of t))) h

pub none_steady : (row : Row) → IsSteady row []
none_steady row rows cols z r = refl

pub more_steady : (row : Row) (ts : List (List ℕ)) (t : List ℕ) (e : Effect) → record_of max_rows max_cols (greatest_start row) ts ≡ Some e → IsSteadyStep row (function_of t) e → IsSteady row ts → IsSteady row (ts ++ t ∷ [])
more_steady row ts t e h step steady rows cols z r =
    after rows cols (start_of rows cols row) ts t e (steady rows cols z r ∙ h)
    ∙ (step rows cols z r ∙ sym (after max_rows max_cols (greatest_start row) ts t e h))

-- the tokens up to and with the one at this place
pub next_steady : (row : Row) (tokens : List (List ℕ)) (token : List ℕ) (count rows cols : ℕ) (start : Start) (e : Effect) (f : Function) → count < length tokens → rows ≡ max_rows → cols ≡ max_cols → start ≡ start_of rows cols row
    → Some e ≡ record_of rows cols start (take count tokens) → f ≡ function_of (get_or tokens count token) → IsSteadyStep row f e → IsSteady row (take count tokens) → IsSteady row (take (count + 1) tokens)
next_steady row tokens token count rows cols start e f lt er ec es recorded ef step steady =
    let own : record_of max_rows max_cols (greatest_start row) (take count tokens) ≡ Some e = sym (recorded
    ∙ (ap (λ (s : Start). record_of rows cols s (take count tokens)) es
    ∙ (ap (λ (n : ℕ). record_of n cols (start_of n cols row) (take count tokens)) er
    ∙ ap (λ (n : ℕ). record_of max_rows n (start_of max_rows n row) (take count tokens)) ec))) in
    subst (λ (ts : List (List ℕ)). IsSteady row ts) (sym (take_more tokens count token lt))
    (more_steady row (take count tokens) (get_or tokens count token) e own (subst (λ (g : Function). IsSteadyStep row g e) ef step) steady)
