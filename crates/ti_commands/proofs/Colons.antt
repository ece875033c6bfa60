-- A word that is split at its last colon.
use Rattle.std.proofs.Common.{◌∷◌, ◌++◌, ℕ, List, Option, Some, None, IfNone, IfSome, MatchOption, take, drop, sym, ap, ◌∙◌, subst, lit<}
use Rattle.std.proofs.lemmas.List.{take-append-drop}
use Rattle.std.proofs.lemmas.Str.Pattern.{NoCharPasses-char, drop_at_char}
use Rattle.std.specs.Str.Pattern.{RFindsChar, SplitsAroundMatch}
use Rattle.ti_commands.specs.Findings.{IsPath, IsPathAndName}
use denote.Ref.{Bor}

split_word : (word path name : List ℕ) → SplitsAroundMatch (RFindsChar 58) word path name → IsPathAndName word path name
split_word word path name h = record {
  spelled = sym (take-append-drop h.0 word) ∙ ap (λ (l : List ℕ). take h.0 word ++ l) (drop_at_char 58 word h.0 h.1 h.2.1 (lit< tt)) ∙ ap (λ (l : List ℕ). l ++ 58 ∷ drop h.1 word) (sym h.3) ∙ ap (λ (l : List ℕ). path ++ 58 ∷ l) (sym h.4);
  last = subst (λ (l : List ℕ). IsPath l) (sym h.4) (λ i lt. NoCharPasses-char 58 (drop h.1 word) i h.2.0 (lit< tt) lt);
}

abbrev pub SplitsLast : List ℕ → Option (Bor (List ℕ) × Bor (List ℕ)) → Type 0
SplitsLast word found = MatchOption found (RFindsChar 58 word None) (λ x. SplitsAroundMatch (RFindsChar 58) word x.0.now x.1.now)

pub last_colon : (word : List ℕ) (found : Option (Bor (List ℕ) × Bor (List ℕ))) → SplitsLast word found → IfSome found (λ parts. IsPathAndName word parts.0.now parts.1.now)
last_colon word (Some x) h = split_word word x.0.now x.1.now h
last_colon word None h = tt

pub no_colon : (word : List ℕ) (found : Option (Bor (List ℕ) × Bor (List ℕ))) → SplitsLast word found → IfNone found (IsPath word)
no_colon word (Some x) h = tt
no_colon word None h = λ i lt. NoCharPasses-char 58 word i h (lit< tt) lt
