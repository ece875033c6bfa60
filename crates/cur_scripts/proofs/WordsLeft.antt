-- The remaining words of a line, which is cut at its spaces.
use Rattle.std.proofs.Common.{◌≡◌, ℕ, ◌≤◌, ◌<◌, ◌==◌, ◌&&◌, Bool, true, false, cond, if◌then◌else◌, List, [], ◌∷◌, None, Some, length, take, drop, refl, sym, ap, subst, ◌∙◌, ◌+◌, arith}
use Rattle.std.specs.Prelude.{bytes_eq, slice_index}
use Rattle.std.specs.List.{join_with_byte, onto_first}
use Rattle.std.proofs.lemmas.Bool.Decides.{nat_tests}
use Rattle.std.proofs.lemmas.List.{drop_more}
use Rattle.std.proofs.lemmas.List.Splits.{join_with_byte-slice_split}
use Rattle.cur_scripts.specs.Cuts.{words_of}
use Rattle.cur_scripts.specs.Words.{ended, rest, words_behind, front_word, past_front_word}

cut_step : (b : ℕ) (text word behind : List ℕ) (t : Bool) → words_of text ≡ word ∷ words_behind behind
    → cond t ([] ∷ words_of text) (onto_first b (words_of text)) ≡ (if t then [] else b ∷ word) ∷ words_behind (if t then b ∷ text else behind)
cut_step b text word behind true h = refl
cut_step b text word behind false h = ap (onto_first b) h

-- the words of a text are its first word and those after it
pub words_cut : (text : List ℕ) → words_of text ≡ front_word text ∷ words_behind (past_front_word text)
words_cut [] = refl
words_cut (b ∷ text) = cut_step b text (front_word text) (past_front_word text) (b == 32) (words_cut text)

-- the first word is this number of bytes long
abbrev Divides : List ℕ → List ℕ → List ℕ → Type 0
Divides text word behind = (length word ≤ length text) × (take (length word) text ≡ word) × (drop (length word) text ≡ behind)

divided_step : (b : ℕ) (text word behind : List ℕ) (t : Bool) → Divides text word behind → Divides (b ∷ text) (if t then [] else b ∷ word) (if t then b ∷ text else behind)
divided_step b text word behind true h = (omega arith, refl, refl)
divided_step b text word behind false h = (let l = h.0 in omega (arith, l), ap (λ xs. b ∷ xs) h.1, h.2)

pub divided : (text : List ℕ) → Divides text (front_word text) (past_front_word text)
divided [] = (omega arith, refl, refl)
divided (b ∷ text) = divided_step b text (front_word text) (past_front_word text) (b == 32) (divided text)

has_rest : (text : List ℕ) (word : List ℕ) (words : List (List ℕ)) → words_of text ≡ word ∷ words → rest (words_of text) ≡ Some (join_with_byte 32 (words_of text))
has_rest text word words h = ap rest h ∙ sym (ap (λ ws. Some (join_with_byte 32 ws)) h)

pub rest_is : (text : List ℕ) → rest (words_of text) ≡ Some text
rest_is text = has_rest text (front_word text) (words_behind (past_front_word text)) (words_cut text) ∙ ap Some (join_with_byte-slice_split 32 text)

pub not_ended : (text : List ℕ) → ended (words_of text) ≡ None
not_ended text = ap ended (words_cut text)

pub rest_behind : (left : List ℕ) → 1 ≤ length left → rest (words_behind left) ≡ Some (drop 1 left)
rest_behind [] h = absurd (omega (arith, h))
rest_behind (b ∷ text) h = rest_is text

shorter_step : (b c : ℕ) (word name : List ℕ) (ends same : Bool) → (b == c) ≡ same → bytes_eq word name ≡ false → bytes_eq (if ends then [] else b ∷ word) (c ∷ name) ≡ false
shorter_step b c word name true same e h = refl
shorter_step b c word name false true e h = ap (λ (t : Bool). t && bytes_eq word name) e ∙ h
shorter_step b c word name false false e h = ap (λ (t : Bool). t && bytes_eq word name) e

-- a line shorter than a name has another first word
pub shorter_line : (name line : List ℕ) → length line < length name → bytes_eq (front_word line) name ≡ false
shorter_line [] line h = absurd (omega (arith, h))
shorter_line (c ∷ name) [] h = refl
shorter_line (c ∷ name) (b ∷ line) h = shorter_step b c (front_word line) name (b == 32) (b == c) refl (shorter_line name line (omega (arith, h)))

-- the rests of a name and of a line that begins as the name does
abbrev pub Passes : List ℕ → List ℕ → List ℕ → List ℕ → Type 0
Passes name line name-left left =
    (front_word name-left ≡ name-left) × (bytes_eq (front_word left) name-left ≡ bytes_eq (front_word line) name) × (past_front_word left ≡ past_front_word line)

pass_one : (name line more left : List ℕ) (c : ℕ) (space : Bool) → (c == 32) ≡ space → Passes name line (c ∷ more) (c ∷ left) → Passes name line more left
pass_one name line more left c true e (one, word, behind) =
    let none : [] ≡ c ∷ more = sym (ap (λ (t : Bool). if t then [] else c ∷ front_word more) e) ∙ one in
    absurd (cc)
pass_one name line more left c false e (one, word, behind) =
    let same : (c == c) ≡ true = grind (arith, nat_tests) in (
      ap (drop 1) (sym (ap (λ (t : Bool). if t then [] else c ∷ front_word more) e) ∙ one),
      sym (ap (λ (t : Bool). t && bytes_eq (front_word left) more) same) ∙ (sym (ap (λ (t : Bool). bytes_eq (if t then [] else c ∷ front_word left) (c ∷ more)) e) ∙ word),
      sym (ap (λ (t : Bool). if t then c ∷ left else past_front_word left) e) ∙ behind,
    )

-- one more byte that is equal
pub passes_on : (name line : List ℕ) (at : ℕ) → at < length name → at < length line → slice_index line at ≡ slice_index name at → Passes name line (drop at name) (drop at line) → Passes name line (drop (at + 1) name) (drop (at + 1) line)
passes_on name line at in-name in-line same h =
    let c = slice_index name at in
    let at-name : drop at name ≡ c ∷ drop (at + 1) name = drop_more name at 0 in-name in
    let at-line : drop at line ≡ c ∷ drop (at + 1) line = drop_more line at 0 in-line ∙ ap (λ (b : ℕ). b ∷ drop (at + 1) line) same in
    let ahead = subst (λ (xs : List ℕ). Passes name line xs (c ∷ drop (at + 1) line)) at-name (subst (λ (xs : List ℕ). Passes name line (drop at name) xs) at-line h) in
    pass_one name line (drop (at + 1) name) (drop (at + 1) line) c (c == 32) refl ahead

other_byte : (c d : ℕ) (name word : List ℕ) (ends : Bool) → (d == c) ≡ false → bytes_eq (if ends then [] else d ∷ word) (c ∷ name) ≡ false
other_byte c d name word true e = refl
other_byte c d name word false e = ap (λ (t : Bool). t && bytes_eq word name) e

-- a byte that differs
pub passes_no_more : (name line : List ℕ) (at : ℕ) → at < length name → at < length line → (slice_index line at == slice_index name at) ≡ false → Passes name line (drop at name) (drop at line) → bytes_eq (front_word line) name ≡ false
passes_no_more name line at in-name in-line other h =
    let c = slice_index name at in
    let d = slice_index line at in
    let at-name : drop at name ≡ c ∷ drop (at + 1) name = drop_more name at 0 in-name in
    let at-line : drop at line ≡ d ∷ drop (at + 1) line = drop_more line at 0 in-line in
    let ahead = subst (λ (xs : List ℕ). Passes name line xs (d ∷ drop (at + 1) line)) at-name (subst (λ (xs : List ℕ). Passes name line (drop at name) xs) at-line h) in
    sym (ahead.1) ∙ other_byte c d (drop (at + 1) name) (front_word (drop (at + 1) line)) (d == 32) other
