-- Reading the words of a line, one after another.
use Rattle.std.specs.Prelude.{ℕ, ℤ, ◌==◌, if◌then◌else◌, List, [], ◌∷◌, Option, None, Some}
use Rattle.std.specs.List.{join_with_byte}
use Rattle.cur_scripts.specs.Cuts.{words_of, ◌>>=◌}
use Rattle.cur_scripts.specs.Numbers.{number_in, window_in}

-- (Serves the code alone.) the words of a line after one of them: each of them follows a space
abbrev pub words_behind : List ℕ → List (List ℕ)
words_behind [] = []
words_behind (b ∷ text) = words_of text

-- (Serves the code alone.) the first word of a text
abbrev pub front_word : List ℕ → List ℕ
front_word [] = []
front_word (b ∷ text) = if b == 32 then [] else b ∷ front_word text

-- (Serves the code alone.) the text after the first word, from a space on
abbrev pub past_front_word : List ℕ → List ℕ
past_front_word [] = []
past_front_word (b ∷ text) = if b == 32 then b ∷ text else past_front_word text

-- (Serves the code alone.) the words of a line after the first one
abbrev pub words_after : List ℕ → List (List ℕ)
words_after line = words_behind (past_front_word line)

abbrev pub first_word : List (List ℕ) → Option (List ℕ × List (List ℕ))
first_word [] = None
first_word (word ∷ words) = Some (word, words)

-- there are no more words
abbrev pub ended : List (List ℕ) → Option (Unit {0})
ended [] = Some tt
ended (word ∷ words) = None

-- the rest of a line, with its spaces; there is none after the last word
abbrev pub rest : List (List ℕ) → Option (List ℕ)
rest [] = None
rest (word ∷ words) = Some (join_with_byte 32 (word ∷ words))

-- the first word as read, and the words after it
abbrev pub first : {A : Type 0} → (List ℕ → Option A) → List (List ℕ) → Option (A × List (List ℕ))
first read words = first_word words >>= λ p. read p.0 >>= λ x. Some (x, p.1)

abbrev pub two_numbers : List (List ℕ) → Option ((ℤ × ℤ) × List (List ℕ))
two_numbers words = first number_in words >>= λ a. first number_in a.1 >>= λ b. Some ((a.0, b.0), b.1)

abbrev pub four_numbers : List (List ℕ) → Option ((ℤ × ℤ × ℤ × ℤ) × List (List ℕ))
four_numbers words = two_numbers words >>= λ a. two_numbers a.1 >>= λ b. Some ((a.0.0, a.0.1, b.0.0, b.0.1), b.1)

abbrev pub two_windows : List (List ℕ) → Option ((ℕ × ℕ) × List (List ℕ))
two_windows words = first window_in words >>= λ a. first window_in a.1 >>= λ b. Some ((a.0, b.0), b.1)
