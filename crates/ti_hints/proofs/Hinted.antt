-- Hints of which each has its place.
use Rattle.std.proofs.Common.{◌≡◌, ◌<◌, ◌≤◌, ◌+◌, ◌∙◌, ◌⊎◌, ℕ, List, [], ◌∷◌, ◌++◌, Option, Some, None, inl, inr, length, ap, append_assoc, append-nil, arith, length-append, refl, subst, sym}
use Rattle.std.specs.Prelude.{IfSome}
use Rattle.std.specs.List.{AllByRecursion}
use Rattle.ti_sources.specs.Columns.{columns_of_part, line_in}
use Rattle.ti_sources.specs.declared.columns.Columns.{Columns}
use Rattle.ti_hints.specs.Places.{IsFieldOn, IsHintOf, IsLineOf, IsOn, IsRest}
use Rattle.ti_hints.specs.declared.hints.EntryLine.{EntryLine}
use Rattle.ti_hints.specs.declared.hints.FieldHint.{FieldHint}
use Rattle.ti_source.specs.Marks.{comma}
use Rattle.ti_source.specs.declared.types.RawEntry.{RawEntry}

-- ---- lists

all_both : {X : Type 0} (P : X → Type 0) (xs ys : List X) → AllByRecursion P xs → AllByRecursion P ys → AllByRecursion P (xs ++ ys)
all_both P [] ys h k = k
all_both P (x ∷ xs) ys h k = (h.0, all_both P xs ys h.1 k)

pub all_behind : {X : Type 0} (P : X → Type 0) (xs ys more : List X) → more ≡ xs ++ ys → AllByRecursion P xs → AllByRecursion P ys → AllByRecursion P more
all_behind P xs ys more is h k = subst (λ (items : List _). AllByRecursion P items) (sym is) (all_both P xs ys h k)

pub one_more : {X : Type 0} (P : X → Type 0) (xs more : List X) (x : X) → more ≡ xs ++ x ∷ [] → AllByRecursion P xs → P x → AllByRecursion P more
one_more P xs more x is h p = all_behind P xs (x ∷ []) more is h (p, tt)

-- ---- the fields of a line

pub whole_rest : (line : List ℕ) → IsRest line 0 line
whole_rest line = record { front = []; whole = refl; long = refl; begins = inl refl }

-- the bytes before the rest and the rest are the line
pub rest_shorter : (line rest : List ℕ) (passed : ℕ) → IsRest line passed rest → passed + length rest ≡ length line
rest_shorter line rest passed is = ap (λ n. n + length rest) (sym is.long) ∙ (sym (length-append is.front rest) ∙ ap length (sym is.whole))

-- behind the comma of a part there is the next rest
pub rest_behind : (line rest part behind : List ℕ) (passed : ℕ) → IsRest line passed rest → rest ≡ part ++ comma ∷ behind → IsRest line (passed + length part + 1) behind
rest_behind line rest part behind passed is cut = record {
  front = (is.front ++ part) ++ comma ∷ [];
  whole = is.whole ∙ (ap (λ r. is.front ++ r) cut ∙ (sym (append_assoc is.front part (comma ∷ behind)) ∙ sym (append_assoc (is.front ++ part) (comma ∷ []) behind)));
  long = length-append (is.front ++ part) (comma ∷ []) ∙ ap (λ n. n + 1) (length-append is.front part ∙ ap (λ n. n + length part) is.long);
  begins = inr (is.front ++ part, refl);
}

pub names_behind : (line names rest : List ℕ) → line ≡ names ++ comma ∷ rest → IsRest line (length names + 1) rest
names_behind line names rest cut = record {
  front = names ++ comma ∷ [];
  whole = cut ∙ sym (append_assoc names (comma ∷ []) rest);
  long = length-append names (comma ∷ []);
  begins = inr (names, refl);
}

-- a part that a comma ends is a field
pub part_stands : (line rest part behind : List ℕ) (passed : ℕ) (columns : Columns) → IsRest line passed rest → rest ≡ part ++ comma ∷ behind → columns ≡ columns_of_part passed part → IsFieldOn line columns
part_stands line rest part behind passed columns is cut so = record {
  front = is.front;
  part = part;
  behind = comma ∷ behind;
  whole = is.whole ∙ ap (λ r. is.front ++ r) cut;
  begins = is.begins;
  ends = inr (behind, refl);
  columns_are = so ∙ ap (λ n. columns_of_part n part) (sym is.long);
}

-- and so is all that is left
pub rest_stands : (line rest : List ℕ) (passed : ℕ) (columns : Columns) → IsRest line passed rest → columns ≡ columns_of_part passed rest → IsFieldOn line columns
rest_stands line rest passed columns is so = record {
  front = is.front;
  part = rest;
  behind = [];
  whole = is.whole ∙ ap (λ r. is.front ++ r) (sym (append-nil rest));
  begins = is.begins;
  ends = inl refl;
  columns_are = so ∙ ap (λ n. columns_of_part n rest) (sym is.long);
}

-- ---- the hints of an entry

-- the line from which on hints are left out is the one before, or the next one
pub some_turned : (P : ℕ → Type 0) (old new : Option ℕ) (number : ℕ) → (new ≡ old) ⊎ (new ≡ Some number) → IfSome old P → P number → IfSome new P
some_turned P old new number (inl same) before next = subst (λ (o : Option ℕ). IfSome o P) (sym same) before
some_turned P old new number (inr is) before next = subst (λ (o : Option ℕ). IfSome o P) (sym is) next

-- a hint about no single field
pub further_is : (lines : List (List ℕ)) (raws : List RawEntry) (place number : ℕ) (hint : FieldHint) → hint.entry ≡ place → hint.line ≡ number → hint.columns ≡ None → IsLineOf raws place number → IsHintOf lines raws place hint
further_is lines raws place number hint entry line columns stands = record {
  entry = entry;
  line = subst (λ (n : ℕ). IsLineOf raws place n) (sym line) stands;
  field = subst (λ (found : Option Columns). IfSome found (IsFieldOn (line_in lines hint.line))) (sym columns) tt;
}

as_hint : (lines : List (List ℕ)) (raws : List RawEntry) (line : EntryLine) (hint : FieldHint) → IsLineOf raws line.place line.number → line.text.now ≡ line_in lines line.number → IsOn line hint → IsHintOf lines raws line.place hint
as_hint lines raws line hint stands is on = record {
  entry = on.entry_is;
  line = subst (λ (n : ℕ). IsLineOf raws line.place n) (sym on.number_is) stands;
  field = subst (λ (l : List ℕ). IfSome hint.columns (IsFieldOn l)) (is ∙ ap (line_in lines) (sym on.number_is)) on.field;
}

pub as_hints : (lines : List (List ℕ)) (raws : List RawEntry) (line : EntryLine) (hints : List FieldHint) → IsLineOf raws line.place line.number → line.text.now ≡ line_in lines line.number → AllByRecursion (IsOn line) hints → AllByRecursion (IsHintOf lines raws line.place) hints
as_hints lines raws line [] stands is h = tt
as_hints lines raws line (hint ∷ hints) stands is h = (as_hint lines raws line hint stands is h.0, as_hints lines raws line hints stands is h.1)

pub from_line : (found : Option RawEntry) (first number : ℕ) → IfSome found (λ raw. raw.line ≡ first) → first ≤ number → IfSome found (λ raw. raw.line ≤ number)
from_line None first number is l = tt
from_line (Some raw) first number is l = omega (arith, is, l)

pub before_line : (found : Option RawEntry) (end number : ℕ) → IfSome found (λ next. end ≤ next.line) → number < end → IfSome found (λ next. number < next.line)
before_line None end number is l = tt
before_line (Some next) end number is l = omega (arith, is, l)
