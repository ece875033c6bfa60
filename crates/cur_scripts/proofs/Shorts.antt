-- Numbers of a few digits, whose end is found as they are read.
use Rattle.std.proofs.Common.{◌≡◌, ℕ, ℤ, pos, ◌==◌, Bool, true, false, if◌then◌else◌, List, [], ◌∷◌, Option, None, Some, refl, sym, ap, ◌∙◌, arith}
use Rattle.std.specs.Prelude.{option_map}
use Rattle.std.proofs.lemmas.Bool.Decides.{nat_tests}
use Rattle.cur_scripts.specs.Cuts.{◌>>=◌, words_of}
use Rattle.cur_scripts.specs.Numbers.{natural, negated, number_in, window_in}
use Rattle.cur_scripts.specs.Words.{first, front_word, past_front_word, words_behind}
use Rattle.cur_scripts.proofs.WordsLeft.{words_cut}

no_minus : (rest : List ℕ) (n : ℕ) (b : ℕ) → b ≡ 45 → natural 2147483647 (b ∷ rest) ≡ Some n → ⊥
no_minus rest n b is e = none_some n (sym (ap (λ (d : ℕ). natural 2147483647 (d ∷ rest)) is) ∙ e)
  where
    none_some : (n : ℕ) → natural 2147483647 (45 ∷ rest) ≡ Some n → ⊥
    none_some n e = cc

without_sign : (b n : ℕ) (rest : List ℕ) (t : Bool) → (b == 45) ≡ t → natural 2147483647 (b ∷ rest) ≡ Some n → (if t then (natural 2147483648 rest >>= λ n. Some (negated n)) else (natural 2147483647 (b ∷ rest) >>= λ n. Some (pos n))) ≡ Some (pos n)
without_sign b n rest true is e = absurd (no_minus rest n b (grind (arith, nat_tests, is)) e)
without_sign b n rest false is e = ap (λ (o : Option ℕ). o >>= λ n. Some (pos n)) e

-- a number without a sign is also one with or without a sign
signed : (word : List ℕ) (n : ℕ) → window_in word ≡ Some n → number_in word ≡ Some (pos n)
signed [] n e = absurd (cc)
signed (b ∷ rest) n e = without_sign b n rest (b == 45) refl e

-- a value, and the words after it
abbrev with_words : {A : Type 0} → List (List ℕ) → A → Option (A × List (List ℕ))
with_words words x = Some (x, words)

read_some : (word : List ℕ) (words : List (List ℕ)) (n : ℕ) (rest : List (List ℕ)) (r : Option ℕ) → window_in word ≡ r → (window_in word >>= with_words words) ≡ with_words rest n → (number_in word >>= with_words words) ≡ with_words rest (pos n)
read_some word words n rest None is e =
    let none : None ≡ with_words rest n = sym (ap (λ (o : Option ℕ). o >>= with_words words) is) ∙ e in
    absurd (cc)
read_some word words n rest (Some m) is e =
    ap (λ (o : Option ℤ). o >>= with_words words) (signed word m is)
    ∙ ap (λ (o : Option (ℕ × List (List ℕ))). option_map (λ (q : ℕ × List (List ℕ)). (pos q.0, q.1)) o) (sym (ap (λ (o : Option ℕ). o >>= with_words words) is) ∙ e)

-- a number without a sign that begins the words is one with or without a sign
pub as_number : (words : List (List ℕ)) (n : ℕ) (rest : List (List ℕ)) → first window_in words ≡ Some (n, rest) → first number_in words ≡ Some (pos n, rest)
as_number [] n rest e = absurd (cc)
as_number (word ∷ words) n rest e = read_some word words n rest (window_in word) refl e

-- the first word of a text after a space, read as a number
pub first_short : (text left : List ℕ) (n : ℕ) → window_in (front_word text) ≡ Some n → left ≡ past_front_word text → first window_in (words_of text) ≡ Some (n, words_behind left)
first_short text left n is rest =
    ap (first window_in) (words_cut text)
    ∙ ap (λ (o : Option ℕ). o >>= with_words (words_behind (past_front_word text))) is
    ∙ ap (λ (l : List ℕ). with_words (words_behind l) n) (sym rest)
