-- Lists of lines in the order of a certificate: one within another is no longer, and two with the same lines are one.
use Rattle.std.proofs.Common.{◌≡◌, ◌⊎◌, ◌≤◌, ◌+◌, ℕ, List, [], ◌∷◌, ◌++◌, map, length, inl, inr, refl, sym, ap, subst, arith, length-append}
use Rattle.ti_conforms.specs.Charsets.{IsAmong}
use Rattle.ti_lines.specs.declared.row_lines.RowLine.{RowLine}
use Rattle.ti_lines.specs.RowLines.{line_text}
use Rattle.ti_lines.specs.Texts.{ended}
use Rattle.ti_cert.specs.Order.{Precedes}
use Rattle.ti_cert.specs.Texts.{StandInOrder}
use Rattle.ti_cert.proofs.Elements.{among_either, RisesBy, IsWithin, tail_within, same_rising}
use Rattle.ti_cert.proofs.Standing.{stands_after}
use Rattle.ti_cert.proofs.Singleness.{never_back}
use Rattle.ti_checker.specs.Limit.{InOrder}

-- ---- one list within another

abbrev ByRow : ℕ → ℕ → RowLine → RowLine → Type 0
ByRow rows cols x y = Precedes rows cols x.row y.row

abbrev IsBefore : ℕ → ℕ → RowLine → List RowLine → Type 0
IsBefore rows cols x xs = (other : RowLine) → IsAmong xs other → ByRow rows cols x other

rises : (rows cols : ℕ) (xs : List RowLine) → InOrder rows cols xs → RisesBy (ByRow rows cols) xs
rises rows cols [] p = tt
rises rows cols (x ∷ xs) p = (p.0, rises rows cols xs p.1)

pub same_lines : (rows cols : ℕ) (xs ys : List RowLine) → InOrder rows cols xs → InOrder rows cols ys → IsWithin xs ys → IsWithin ys xs → xs ≡ ys
same_lines rows cols xs ys p q over back = same_rising (ByRow rows cols) (λ x y. never_back rows cols x.row y.row) xs ys (rises rows cols xs p) (rises rows cols ys q) over back

-- if the first line of this list comes later in the other list, the first line of the other list isn't in this one
past_first : (rows cols : ℕ) (x y : RowLine) (xs ys : List RowLine) → IsBefore rows cols x xs → IsBefore rows cols y ys → IsAmong ys x → IsWithin (x ∷ xs) (y ∷ ys) → IsWithin (x ∷ xs) ys
past_first rows cols x y xs ys before above there over z a = by_part a (over z a)
  where
    behind : Precedes rows cols y.row x.row
    behind = above x there

    by_part : IsAmong (x ∷ xs) z → IsAmong (y ∷ ys) z → IsAmong ys z
    by_part (inl e) k = subst (λ (l : RowLine). IsAmong ys l) (sym e) there
    by_part (inr b) (inl k) = absurd (never_back rows cols x.row y.row (subst (λ (l : RowLine). Precedes rows cols x.row l.row) k (before z b)) behind)
    by_part (inr b) (inr k) = k

abbrev pub size_of : List RowLine → ℕ
size_of lines = length (ended (map line_text lines))

size_more : (x : RowLine) (xs : List RowLine) → size_of (x ∷ xs) ≡ length (line_text x) + (size_of xs + 1)
size_more x xs = let l = length-append (line_text x) (10 ∷ ended (map line_text xs)) in omega (arith, l)

pub no_longer : (rows cols : ℕ) (xs ys : List RowLine) → InOrder rows cols xs → InOrder rows cols ys → IsWithin xs ys → size_of xs ≤ size_of ys
no_longer rows cols [] ys p q over = omega arith
no_longer rows cols (x ∷ xs) [] p q over = absurd (over x (inl refl))
no_longer rows cols (x ∷ xs) (y ∷ ys) p q over = by_first (over x (inl refl)) (λ w. no_longer rows cols xs ys p.1 q.1 w) (λ w. no_longer rows cols (x ∷ xs) ys p q.1 w)
  where
    by_first : IsAmong (y ∷ ys) x → (IsWithin xs ys → size_of xs ≤ size_of ys) → (IsWithin (x ∷ xs) ys → size_of (x ∷ xs) ≤ size_of ys) → size_of (x ∷ xs) ≤ size_of (y ∷ ys)
    by_first (inl e) tails whole =
        let k = tails (tail_within (ByRow rows cols) (λ l m. never_back rows cols l.row m.row) x y xs ys e p.0 (λ z a. over z (inr a))) in
        let m = size_more x xs in
        let n = size_more y ys in
        let s : length (line_text x) ≡ length (line_text y) = ap (λ (l : RowLine). length (line_text l)) e in
        omega (arith, k, m, n, s)
    by_first (inr a) tails whole =
        let k = whole (past_first rows cols x y xs ys p.0 q.0 a over) in
        let n = size_more y ys in
        omega (arith, k, n)

-- one more line at the end
pub order_end : (rows cols : ℕ) (lines : List RowLine) (line : RowLine) → InOrder rows cols lines → ((other : RowLine) → IsAmong lines other → Precedes rows cols other.row line.row) → InOrder rows cols (lines ++ line ∷ [])
order_end rows cols [] line p before = (λ other a. absurd a, tt)
order_end rows cols (x ∷ lines) line p before = (λ other a. by_part other (among_either lines (line ∷ []) other a), order_end rows cols lines line p.1 (λ other a. before other (inr a)))
  where
    by_part : (other : RowLine) → IsAmong lines other ⊎ IsAmong (line ∷ []) other → Precedes rows cols x.row other.row
    by_part other (inl a) = p.0 other a
    by_part other (inr (inl e)) = subst (λ (l : RowLine). Precedes rows cols x.row l.row) (sym e) (before x (inl refl))
    by_part other (inr (inr a)) = absurd a

-- ---- the lines of a certificate

pub in_order : (rows cols : ℕ) (before lines : List RowLine) → StandInOrder rows cols before lines → InOrder rows cols lines
in_order rows cols before [] s = tt
in_order rows cols before (line ∷ lines) s = (λ other a. stands_after rows cols (line ∷ before) lines line s.1 (inl refl) other a, in_order rows cols (line ∷ before) lines s.1)
