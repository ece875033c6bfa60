-- Adding one more to strings that are kept one after another.
use Rattle.std.proofs.Common.{◌≡◌, ◌≤◌, ◌-◌, ℕ, max, List, [], ◌∷◌, ◌++◌, length, length-append, map, take, drop, Some, zero, suc, refl, sym, ap, ◌∙◌, subst, arith}
use Rattle.std.specs.List.{AllByRecursion, slice_get}
use Rattle.std.proofs.lemmas.List.{map-append, take-append-le, drop-append-le, length-drop}
use Rattle.std.proofs.Math.Seq.{drop-append_seam}
use Rattle.ti_cert.specs.Groups.{IsPart, piece}
use Rattle.ti_cert.specs.Lengths.{greatest}
use Rattle.ti_cert.specs.declared.groups.Part.{Part}

piece_stays : (old string : List ℕ) (from to : ℕ) → IsPart (length old) from to → piece (old ++ string) from to ≡ piece old from to
piece_stays old string from to p =
    let begins : from ≤ length old = omega (arith, p.0, p.1) in
    let left : length (drop from old) ≡ length old - from = length-drop from old in
    let within : to - from ≤ length (drop from old) = omega (arith, p.0, p.1, left) in
    ap (take (to - from)) (drop-append-le from old string begins) ∙ take-append-le (to - from) (drop from old) string within

pieces_stay : (old string : List ℕ) (parts : List Part) → AllByRecursion (λ (part : Part). IsPart (length old) part.from part.to) parts
    → map (λ (part : Part). piece (old ++ string) part.from part.to) parts ≡ map (λ (part : Part). piece old part.from part.to) parts
pieces_stay old string [] all = refl
pieces_stay old string (part ∷ parts) all = ap (λ (p : List ℕ). p ∷ map (λ (part : Part). piece (old ++ string) part.from part.to) parts) (piece_stays old string part.from part.to all.0)
    ∙ ap (λ (ps : List (List ℕ)). piece old part.from part.to ∷ ps) (pieces_stay old string parts all.1)

new_piece : (old string : List ℕ) → piece (old ++ string) (length old) (length (old ++ string)) ≡ string
new_piece old string =
    let count : length (old ++ string) - length old ≡ length string = omega (arith, length-append old string) in
    ap (take (length (old ++ string) - length old)) (drop-append_seam old string) ∙ (ap (λ (n : ℕ). take n string) count ∙ take_all string)
  where
    take_all : (xs : List ℕ) → take (length xs) xs ≡ xs
    take_all [] = refl
    take_all (x ∷ xs) = ap (λ (l : List ℕ). x ∷ l) (take_all xs)

pub one_piece_more : (old string all : List ℕ) (parts more : List Part) (from to : ℕ) → from ≡ length old → to ≡ length all → all ≡ old ++ string → more ≡ parts ++ record { from = from; to = to } ∷ []
    → AllByRecursion (λ (part : Part). IsPart (length old) part.from part.to) parts
    → map (λ (part : Part). piece all part.from part.to) more ≡ map (λ (part : Part). piece old part.from part.to) parts ++ string ∷ []
one_piece_more old string all parts more from to f t a m stand =
    rw (m, t, f, a) (map-append (λ (part : Part). piece (old ++ string) part.from part.to) parts (record { from = length old; to = length (old ++ string) } ∷ [])
    ∙ (ap (λ (ps : List (List ℕ)). ps ++ piece (old ++ string) (length old) (length (old ++ string)) ∷ []) (pieces_stay old string parts stand)
    ∙ ap (λ (p : List ℕ). map (λ (part : Part). piece old part.from part.to) parts ++ p ∷ []) (new_piece old string)))

pub part_of : (count : ℕ) (parts : List Part) (at : ℕ) (part : Part) → AllByRecursion (λ (p : Part). IsPart count p.from p.to) parts → slice_get parts at ≡ Some part → IsPart count part.from part.to
part_of count [] at part all h = cc
part_of count (p ∷ parts) zero part all h = let same : p ≡ part = cc in subst (λ (x : Part). IsPart count x.from x.to) same all.0
part_of count (p ∷ parts) (suc at) part all h = part_of count parts at part all.1 h

-- the longest of strings and one more
pub greatest_more : (strings : List (List ℕ)) (string : List ℕ) → greatest (strings ++ string ∷ []) ≡ max (greatest strings) (length string)
greatest_more [] string = omega arith
greatest_more (first ∷ strings) string = let h : greatest (strings ++ string ∷ []) ≡ max (greatest strings) (length string) = greatest_more strings string in omega (arith, h)

part_stands : (old string all : List ℕ) (part : Part) → all ≡ old ++ string → IsPart (length old) part.from part.to → IsPart (length all) part.from part.to
part_stands old string all part a p = (p.0, omega (arith, p.1, ap length a, length-append old string))

parts_stand : (old string all : List ℕ) (parts : List Part) → all ≡ old ++ string → AllByRecursion (λ (part : Part). IsPart (length old) part.from part.to) parts → AllByRecursion (λ (part : Part). IsPart (length all) part.from part.to) parts
parts_stand old string all [] a stand = tt
parts_stand old string all (part ∷ parts) a stand = (part_stands old string all part a stand.0, parts_stand old string all parts a stand.1)

one_more_stands : (old string all : List ℕ) (parts : List Part) (part : Part) → all ≡ old ++ string → IsPart (length all) part.from part.to → AllByRecursion (λ (p : Part). IsPart (length old) p.from p.to) parts
    → AllByRecursion (λ (p : Part). IsPart (length all) p.from p.to) (parts ++ part ∷ [])
one_more_stands old string all [] part a last stand = (last, tt)
one_more_stands old string all (first ∷ parts) part a last stand = (part_stands old string all first a stand.0, one_more_stands old string all parts part a last stand.1)

-- each part lies within the bytes, and the longest of the pieces is this one
abbrev pub Stand : List ℕ → List Part → ℕ → Type 0
Stand bytes parts longest = AllByRecursion (λ (part : Part). IsPart (length bytes) part.from part.to) parts × (longest ≡ greatest (map (λ (part : Part). piece bytes part.from part.to) parts))

-- the parts stand if more bytes come after them
pub all_stay : (longest : ℕ) (old string all : List ℕ) (parts same : List Part) → all ≡ old ++ string → same ≡ parts → Stand old parts longest → Stand all same longest
all_stay longest old string all parts same a e stand =
    subst (λ (ps : List Part). Stand all ps longest) (sym e)
    (parts_stand old string all parts a stand.0, stand.1 ∙ sym (ap (λ (bytes : List ℕ). greatest (map (λ (part : Part). piece bytes part.from part.to) parts)) a ∙ ap greatest (pieces_stay old string parts stand.0)))

-- the parts stand with one more
pub one_more : (longest next : ℕ) (old string all : List ℕ) (parts more : List Part) (from to : ℕ) → from ≡ length old → to ≡ length all → all ≡ old ++ string → more ≡ parts ++ record { from = from; to = to } ∷ []
    → next ≡ max longest (length string) → Stand old parts longest → Stand all more next
one_more longest next old string all parts more from to f t a m n stand = (
  subst (λ (ps : List Part). AllByRecursion (λ (part : Part). IsPart (length all) part.from part.to) ps) (sym m)
      (one_more_stands old string all parts (record { from = from; to = to }) a (omega (arith, f, t, ap length a, length-append old string), omega (arith, t)) stand.0),
  n ∙ ap (λ (k : ℕ). max k (length string)) stand.1 ∙ sym (ap greatest (one_piece_more old string all parts more from to f t a m stand.0) ∙ greatest_more (map (λ (part : Part). piece old part.from part.to) parts) string),
)
