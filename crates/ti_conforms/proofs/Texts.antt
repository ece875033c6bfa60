-- The marks that a text's tokens turn on, token by token.
use Rattle.std.proofs.Common.{◌≡◌, ℕ, ◌≤◌, Bool, true, false, if◌then◌else◌, List, [], ◌∷◌, ◌++◌, length, drop, refl, sym, ap, ◌∙◌, arith}
use Rattle.vt_term.specs.Text.{Splits}
use Rattle.vt_term.specs.Scanned.{Begins, IsTokenAt}
use Rattle.vt_term.proofs.Starts.{begins_at, begins_all}
use Rattle.vt_term.proofs.Splits.{one_splitting}
use Rattle.ti_conforms.specs.declared.reach.Reach.{Reach}
use Rattle.ti_conforms.specs.Charsets.{joined, reach_of}
use Rattle.ti_conforms.proofs.Reaches.{joined_none, reach_of-append, same_reach}

or_three : (a b c : Bool) → (if (if a then true else b) then true else c) ≡ (if a then true else (if b then true else c))
or_three true b c = refl
or_three false b c = refl

joined_three : (p q r : Reach) → joined (joined p q) r ≡ joined p (joined q r)
joined_three p q r = same_reach (or_three p.g0_graphic q.g0_graphic r.g0_graphic) (or_three p.g1_graphic q.g1_graphic r.g1_graphic) (or_three p.shifted_out q.shifted_out r.shifted_out)

-- the part read so far consists of tokens, and their marks were added
pub record IsLearned (before : Reach) (text : List ℕ) (at : ℕ) (now : Reach) : Type 0 where
  pub within : at ≤ length text
  pub tokens : List (List ℕ)
  pub begins : Begins text tokens (drop at text)
  pub is : now ≡ joined before (reach_of tokens)

pub learned_none : (before : Reach) (text : List ℕ) → IsLearned before text 0 before
learned_none before text = record { within = omega arith; tokens = []; begins = refl; is = sym (joined_none before) }

pub learned_more : (before : Reach) (text : List ℕ) (at end : ℕ) (token : List ℕ) (now next : Reach) → IsLearned before text at now → IsTokenAt text at end token → next ≡ joined now (reach_of (token ∷ [])) → IsLearned before text end next
learned_more before text at end token now next r t e = record {
  within = t.within;
  tokens = r.tokens ++ token ∷ [];
  begins = begins_at text r.tokens at end token r.begins t;
  is = e ∙ ap (λ (q : Reach). joined q (reach_of (token ∷ []))) r.is ∙ joined_three before (reach_of r.tokens) (reach_of (token ∷ []))
      ∙ ap (joined before) (sym (reach_of-append r.tokens (token ∷ [])));
}

pub learned_all : (before : Reach) (text : List ℕ) (at : ℕ) (now : Reach) → IsLearned before text at now → at ≡ length text → (tokens : List (List ℕ)) → Splits text tokens [] → now ≡ joined before (reach_of tokens)
learned_all before text at now r e tokens s =
    let same = one_splitting text r.tokens tokens [] [] (begins_all text r.tokens at r.begins e) s in
    r.is ∙ ap (λ (ts : List (List ℕ)). joined before (reach_of ts)) (sym same.0)

-- a text that was read to its end is whole
pub learned_whole : (before : Reach) (text : List ℕ) (at : ℕ) (now : Reach) → IsLearned before text at now → at ≡ length text → (tokens : List (List ℕ)) × Splits text tokens []
learned_whole before text at now r e = (r.tokens, begins_all text r.tokens at r.begins e)
