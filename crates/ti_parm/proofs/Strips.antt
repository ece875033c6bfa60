-- Removing delays one after the other.
use Rattle.std.proofs.Common.{◌≡◌, ℕ, zero, suc, ◌<◌, ◌≤◌, Bool, true, false, cond, ◌&&◌, ◌==◌, List, [], ◌∷◌, ◌++◌, length, drop, get_or, Option, Some, None, IfSome, refl, sym, ap, ◌∙◌, append_assoc, arith, ◌-◌, length-append, length-drop, subst, take, set, ◌+◌, append-nil}
use Rattle.std.proofs.Math.Seq.{drop-append_seam}
use Rattle.std.proofs.lemmas.List.{drop_more, drop-set-lt, take-append-drop, take_more_set}
use Rattle.ti_parm.specs.Codes.{behind_digits, is_digit}
use Rattle.ti_parm.specs.Delays.{HasNoOpening, behind_delay, behind_marks, behind_number, behind_opening, behind_tenth, is_mark, strip, strip_first, strip_in}
use Rattle.ti_parm.proofs.Codes.{behind_digits-within}

abbrev IsShorter : ℕ → List ℕ → Type 0
IsShorter n r = length r < n

both : (P : List ℕ → Type 0) (b : Bool) (x y : Option (List ℕ)) → IfSome x P → IfSome y P → IfSome (cond b x y) P
both P true x y p q = p
both P false x y p q = q

marks-shorter : (text : List ℕ) (n : ℕ) → length text ≤ n → IfSome (behind_marks text) (IsShorter n)
marks-shorter [] n h = tt
marks-shorter (b ∷ rest) n h = both (IsShorter n) (is_mark b) _ _ (marks-shorter rest n (omega arith)) (both (IsShorter n) (b == 62) _ _ (omega arith) tt)

tenth-shorter : (text : List ℕ) (n : ℕ) → length text ≤ n → IfSome (behind_tenth text) (IsShorter n)
tenth-shorter [] n h = tt
tenth-shorter (b ∷ rest) n h = both (IsShorter n) (is_digit b) _ _ (marks-shorter rest n (omega arith)) tt

number-shorter : (text : List ℕ) (n : ℕ) → length text ≤ n → IfSome (behind_number text) (IsShorter n)
number-shorter [] n h = tt
number-shorter (b ∷ rest) n h = both (IsShorter n) (b == 46) _ _ (tenth-shorter rest n (omega arith)) (marks-shorter (b ∷ rest) n h)

opening-shorter : (text : List ℕ) (n : ℕ) → length text ≤ n → IfSome (behind_opening text) (IsShorter n)
opening-shorter [] n h = tt
opening-shorter (b ∷ rest) n h = both (IsShorter n) (is_digit b) _ _ (number-shorter (behind_digits rest) n (omega (arith, behind_digits-within rest))) tt

delay-shorter : (b : ℕ) (text : List ℕ) → IfSome (behind_delay (b ∷ text)) (IsShorter (length text))
delay-shorter b [] = tt
delay-shorter b (c ∷ rest) = both (IsShorter (length (c ∷ rest))) (b == 36 && c == 60) _ _ (opening-shorter rest _ (omega arith)) tt

strip_in-suc : (n b : ℕ) (rest : List ℕ) → strip_in (suc n) (b ∷ rest) ≡ strip_first (strip_in n) b rest (behind_delay (b ∷ rest))
unfolding strip_in
strip_in-suc n b rest = refl

strip_first-same : (f g : List ℕ → List ℕ) (b : ℕ) (rest : List ℕ) (o : Option (List ℕ)) → IfSome o (IsShorter (length rest)) → ((text : List ℕ) → length text ≤ length rest → f text ≡ g text) → strip_first f b rest o ≡ strip_first g b rest o
strip_first-same f g b rest (Some behind) h same = same behind (omega arith)
strip_first-same f g b rest None h same = ap (λ xs. b ∷ xs) (same rest (omega arith))

strip_in-enough : (n m : ℕ) (text : List ℕ) → length text ≤ n → length text ≤ m → strip_in n text ≡ strip_in m text
strip_in-enough n m [] p q = unfold strip_in in refl
strip_in-enough zero m (b ∷ rest) p q = absurd (omega arith)
strip_in-enough (suc n) zero (b ∷ rest) p q = absurd (omega arith)
strip_in-enough (suc n) (suc m) (b ∷ rest) p q =
    strip_in-suc n b rest
    ∙ strip_first-same (strip_in n) (strip_in m) b rest (behind_delay (b ∷ rest)) (delay-shorter b rest) (λ x h. strip_in-enough n m x (omega arith) (omega arith))
    ∙ sym (strip_in-suc m b rest)

strip-first : (b : ℕ) (rest : List ℕ) → strip (b ∷ rest) ≡ strip_first strip b rest (behind_delay (b ∷ rest))
unfolding strip
strip-first b rest =
    strip_in-suc (length rest) b rest
    ∙ strip_first-same (strip_in (length rest)) strip b rest (behind_delay (b ∷ rest)) (delay-shorter b rest) (λ x h. strip_in-enough (length rest) (length x) x h (omega arith))

pub strip-delay : (text rest : List ℕ) → 0 < length text → behind_delay text ≡ Some rest → strip text ≡ strip rest
strip-delay [] rest some e = absurd (omega arith)
strip-delay (b ∷ text) rest some e = strip-first b text ∙ ap (strip_first strip b text) e

pub strip-byte : (b : ℕ) (rest : List ℕ) → behind_delay (b ∷ rest) ≡ None → strip (b ∷ rest) ≡ b ∷ strip rest
strip-byte b rest e = strip-first b rest ∙ ap (strip_first strip b rest) e

pub strip-nothing : (text : List ℕ) → length text ≡ 0 → strip text ≡ []
unfolding strip strip_in
strip-nothing [] h = refl
strip-nothing (b ∷ text) h = absurd (omega arith)

-- a byte that begins no delay is copied
pub strip-copy : (text copied : List ℕ) → 0 < length text → behind_delay text ≡ None → (copied ++ get_or text 0 0 ∷ []) ++ strip (drop 1 text) ≡ copied ++ strip text
strip-copy [] copied some e = absurd (omega arith)
strip-copy (b ∷ rest) copied some e = append_assoc copied (b ∷ []) (strip rest) ∙ ap (λ xs. copied ++ xs) (sym (strip-byte b rest e))

no_delay : (b c : ℕ) (rest : List ℕ) → ((b ≡ 36) → (c ≡ 60) → ⊥) → behind_delay (b ∷ c ∷ rest) ≡ None
no_delay b c rest h = grind (arith, h)

strip_in-undelayed : (n : ℕ) (text : List ℕ) → length text ≤ n → HasNoOpening text → strip_in n text ≡ text
unfolding strip_in
strip_in-undelayed n [] within none = refl
strip_in-undelayed zero (b ∷ rest) within none = absurd (omega arith)
strip_in-undelayed (suc n) (b ∷ []) within none = ap (λ r. b ∷ r) (strip_in-undelayed n [] (omega arith) tt)
strip_in-undelayed (suc n) (b ∷ c ∷ rest) within none =
    ap (strip_first (strip_in n) b (c ∷ rest)) (no_delay b c rest none.0)
    ∙ ap (λ r. b ∷ r) (strip_in-undelayed n (c ∷ rest) (omega arith) none.1)

pub strip-undelayed : (text : List ℕ) → HasNoOpening text → strip text ≡ text
unfolding strip
strip-undelayed text none = strip_in-undelayed (length text) text (omega arith) none

-- the rest after a delay is a suffix of the text
record IsEndOf (text rest : List ℕ) : Type 0 where
  front : List ℕ
  is : text ≡ front ++ rest

pick : (P : List ℕ → Type 0) (b : Bool) (x y : List ℕ) → P x → P y → P (cond b x y)
pick P true x y p q = p
pick P false x y p q = q

whole-end : (text : List ℕ) → IsEndOf text text
whole-end text = record { front = []; is = refl }

later-end : (b : ℕ) (text rest : List ℕ) → IsEndOf text rest → IsEndOf (b ∷ text) rest
later-end b text rest e = record { front = b ∷ e.front; is = ap (λ t. b ∷ t) e.is }

end-of-end : (text middle rest : List ℕ) → IsEndOf text middle → IsEndOf middle rest → IsEndOf text rest
end-of-end text middle rest e f = record { front = e.front ++ f.front; is = e.is ∙ (ap (λ t. e.front ++ t) f.is ∙ sym (append_assoc e.front f.front rest)) }

further-end : (text middle : List ℕ) (o : Option (List ℕ)) → IsEndOf text middle → IfSome o (IsEndOf middle) → IfSome o (IsEndOf text)
further-end text middle None e h = tt
further-end text middle (Some rest) e h = end-of-end text middle rest e h

digits-end : (text : List ℕ) → IsEndOf text (behind_digits text)
digits-end [] = whole-end []
digits-end (b ∷ text) = pick (IsEndOf (b ∷ text)) (is_digit b) _ _ (later-end b text _ (digits-end text)) (whole-end (b ∷ text))

one-end : (b : ℕ) (text : List ℕ) → IsEndOf (b ∷ text) text
one-end b text = later-end b text text (whole-end text)

marks-end : (text : List ℕ) → IfSome (behind_marks text) (IsEndOf text)
marks-end [] = tt
marks-end (b ∷ text) = both (IsEndOf (b ∷ text)) (is_mark b) _ _ (further-end (b ∷ text) text _ (one-end b text) (marks-end text)) (both (IsEndOf (b ∷ text)) (b == 62) _ _ (one-end b text) tt)

tenth-end : (text : List ℕ) → IfSome (behind_tenth text) (IsEndOf text)
tenth-end [] = tt
tenth-end (b ∷ text) = both (IsEndOf (b ∷ text)) (is_digit b) _ _ (further-end (b ∷ text) text _ (one-end b text) (marks-end text)) tt

number-end : (text : List ℕ) → IfSome (behind_number text) (IsEndOf text)
number-end [] = tt
number-end (b ∷ text) = both (IsEndOf (b ∷ text)) (b == 46) _ _ (further-end (b ∷ text) text _ (one-end b text) (tenth-end text)) (marks-end (b ∷ text))

opening-end : (text : List ℕ) → IfSome (behind_opening text) (IsEndOf text)
opening-end [] = tt
opening-end (b ∷ text) = both (IsEndOf (b ∷ text)) (is_digit b) _ _ (further-end (b ∷ text) (behind_digits text) _ (later-end b text _ (digits-end text)) (number-end (behind_digits text))) tt

delay-end : (text : List ℕ) → IfSome (behind_delay text) (IsEndOf text)
delay-end [] = tt
delay-end (b ∷ []) = tt
delay-end (b ∷ c ∷ text) = both (IsEndOf (b ∷ c ∷ text)) (b == 36 && c == 60) _ _ (further-end (b ∷ c ∷ text) text _ (later-end b (c ∷ text) text (one-end c text)) (opening-end text)) tt

dropped : (text rest : List ℕ) → IsEndOf text rest → drop (length text - length rest) text ≡ rest
dropped text rest e =
    let count : length text - length rest ≡ length e.front = omega (arith, ap length e.is, length-append e.front rest) in
    ap (λ n. drop n text) count ∙ (ap (drop (length e.front)) e.is ∙ drop-append_seam e.front rest)

-- the rest after a delay that begins at a place
pub delay-dropped : (bytes : List ℕ) (at : ℕ) (rest : List ℕ) → behind_delay (drop at bytes) ≡ Some rest → drop (length bytes - length rest) bytes ≡ rest
delay-dropped bytes at rest e =
    let behind : IsEndOf bytes (drop at bytes) = record { front = take at bytes; is = sym (take-append-drop at bytes) } in
    dropped bytes rest (end-of-end bytes (drop at bytes) rest behind (subst (λ o. IfSome o (IsEndOf (drop at bytes))) e (delay-end (drop at bytes))))

-- a delay is skipped
pub strip-past : (bytes : List ℕ) (at end : ℕ) → at < length bytes → behind_delay (drop at bytes) ≡ Some (drop end bytes) → strip (drop end bytes) ≡ strip (drop at bytes)
strip-past bytes at end some e = sym (strip-delay (drop at bytes) (drop end bytes) (omega (arith, length-drop at bytes)) e)

-- a byte that doesn't begin a delay is kept, at a place already passed
pub strip-kept : (bytes : List ℕ) (kept read b : ℕ) → kept ≤ read → read < length bytes → b ≡ get_or bytes read b → behind_delay (drop read bytes) ≡ None → take (kept + 1) (set bytes kept b) ++ strip (drop (read + 1) (set bytes kept b)) ≡ take kept bytes ++ strip (drop read bytes)
strip-kept bytes kept read b ordered some is none =
    let cut : drop read bytes ≡ b ∷ drop (read + 1) bytes = drop_more bytes read b some ∙ ap (λ x. x ∷ drop (read + 1) bytes) (sym is) in
    let front : take (kept + 1) (set bytes kept b) ≡ take kept bytes ++ b ∷ [] = take_more_set bytes kept b (omega arith) in
    let rest : drop (read + 1) (set bytes kept b) ≡ drop (read + 1) bytes = drop-set-lt (read + 1) bytes kept b (omega arith) in
    let one : strip (drop read bytes) ≡ b ∷ strip (drop (read + 1) bytes) = ap strip cut ∙ strip-byte b (drop (read + 1) bytes) (subst (λ t. behind_delay t ≡ None) cut none) in
    ap (λ t. t ++ strip (drop (read + 1) (set bytes kept b))) front
    ∙ (ap (λ t. (take kept bytes ++ b ∷ []) ++ strip t) rest
    ∙ (append_assoc (take kept bytes) (b ∷ []) (strip (drop (read + 1) bytes))
    ∙ ap (λ t. take kept bytes ++ t) (sym one)))

-- nothing is left to read
pub strip-ended : (bytes : List ℕ) (kept read : ℕ) → length bytes ≤ read → take kept bytes ≡ take kept bytes ++ strip (drop read bytes)
strip-ended bytes kept read past = sym (append-nil (take kept bytes)) ∙ ap (λ t. take kept bytes ++ t) (sym (strip-nothing (drop read bytes) (omega (arith, length-drop read bytes))))
