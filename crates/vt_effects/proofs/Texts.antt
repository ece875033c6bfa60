-- A text's record, token by token.
use Rattle.std.proofs.Common.{◌≡◌, ℕ, ◌≤◌, List, [], ◌∷◌, ◌++◌, length, drop, refl, sym, ap, ◌∙◌, arith, Option, Some, None, option_and_then, IfSome}
use Rattle.vt_term.specs.Scanned.{Begins, IsTokenAt}
use Rattle.vt_term.specs.Function.{Function, function_of}
use Rattle.vt_term.proofs.Starts.{begins_at, begins_all}
use Rattle.vt_effects.specs.declared.effects.Effect.{Effect}
use Rattle.vt_effects.specs.declared.starts.Start.{Start}
use Rattle.vt_effects.specs.Effect.{unchanged}
use Rattle.vt_effects.specs.Record.{IsRecordOf, all_extended, extended, record_of}
use Rattle.vt_effects.specs.Sound.{RunsTextAs}
use Rattle.vt_effects.proofs.Sounds.{runs_right}

-- one more token
all_more : (rows cols : ℕ) (start : Start) (ts : List (List ℕ)) (t : List ℕ) (e : Effect) → all_extended rows cols start (ts ++ t ∷ []) e ≡ option_and_then (extended rows cols start (function_of t)) (all_extended rows cols start ts e)
all_more rows cols start [] t e = last (extended rows cols start (function_of t) e)
  where
    last : (x : Option Effect) → option_and_then (all_extended rows cols start []) x ≡ x
    last None = refl
    last (Some f) = refl
all_more rows cols start (u ∷ ts) t e = later (all_more rows cols start ts t) (extended rows cols start (function_of u) e)
  where
    later : ((f : Effect) → all_extended rows cols start (ts ++ t ∷ []) f ≡ option_and_then (extended rows cols start (function_of t)) (all_extended rows cols start ts f)) → (x : Option Effect)
        → option_and_then (all_extended rows cols start (ts ++ t ∷ [])) x ≡ option_and_then (extended rows cols start (function_of t)) (option_and_then (all_extended rows cols start ts) x)
    later h None = refl
    later h (Some f) = h f

-- the text read so far is tokens, and this is their effect
pub record IsReached (rows cols : ℕ) (start : Start) (text : List ℕ) (at : ℕ) (found : Option Effect) : Type 0 where
  pub within : at ≤ length text
  pub tokens : List (List ℕ)
  pub begins : Begins text tokens (drop at text)
  pub is : found ≡ record_of rows cols start tokens

pub reached_none : (rows cols : ℕ) (start : Start) (text : List ℕ) → IsReached rows cols start text 0 (Some unchanged)
reached_none rows cols start text = record { within = omega arith; tokens = []; begins = refl; is = refl }

pub reached_more : (rows cols : ℕ) (start : Start) (text : List ℕ) (at end : ℕ) (token : List ℕ) (f : Function) (found next : Option Effect) → IsReached rows cols start text at found → IsTokenAt text at end token → f ≡ function_of token
    → next ≡ option_and_then (extended rows cols start f) found → IsReached rows cols start text end next
reached_more rows cols start text at end token f found next r t ef e = record {
  within = t.within;
  tokens = r.tokens ++ token ∷ [];
  begins = begins_at text r.tokens at end token r.begins t;
  is = e ∙ ap (λ (g : Function). option_and_then (extended rows cols start g) found) ef ∙ ap (option_and_then (extended rows cols start (function_of token))) r.is ∙ sym (all_more rows cols start r.tokens token unchanged);
}

pub reached_all : (rows cols : ℕ) (start : Start) (text : List ℕ) (at : ℕ) (found : Option Effect) → IsReached rows cols start text at found → at ≡ length text → IsRecordOf rows cols start text found
reached_all rows cols start text at found r e = record { tokens = r.tokens; splits = begins_all text r.tokens at r.begins e; is = r.is }

recorded_runs : (rows cols : ℕ) (start : Start) (text : List ℕ) (found : Option Effect) (e : Effect) → IsRecordOf rows cols start text found → found ≡ Some e → RunsTextAs rows cols start text e
recorded_runs rows cols start text found e r h s rest a = runs_right rows cols start r.tokens e (sym r.is ∙ h) s text rest a r.splits

-- the run of the text is the record's, if there is one
pub runs_if_some : (rows cols : ℕ) (start : Start) (text : List ℕ) (found : Option Effect) → IsRecordOf rows cols start text found → IfSome found (RunsTextAs rows cols start text)
runs_if_some rows cols start text None r = tt
runs_if_some rows cols start text (Some e) r = recorded_runs rows cols start text (Some e) e r refl
