-- Names written one after another.
use Rattle.std.proofs.Common.{◌≡◌, ◌∙◌, ◌++◌, ℕ, List, [], ◌∷◌, ap, refl, subst, sym, append_assoc}
use Rattle.ti_caps.specs.Fits.{names_in}
use Rattle.ti_reports.specs.Names.{AreAliases, AreBefore, AreNamesOf, HasOneMore, IsNameOf, without_first}
use Rattle.ti_reports.specs.declared.written.Written.{Written}

written_then : (front : List (List ℕ)) (all : List Written) (name : List ℕ) (written : Written) → AreNamesOf front all → IsNameOf name written → AreNamesOf (front ++ name ∷ []) (all ++ written ∷ [])
written_then [] [] name written h s = (s, tt)
written_then [] (other ∷ all) name written h s = absurd h
written_then (first ∷ front) [] name written h s = absurd h
written_then (first ∷ front) (other ∷ all) name written h s = (h.0, written_then front all name written h.1 s)

more_written : (front : List (List ℕ)) (before more : List Written) (name : List ℕ) → AreNamesOf front before → HasOneMore before name more → AreNamesOf (front ++ name ∷ []) more
more_written front before more name h m =
    subst (λ (all : List Written). AreNamesOf (front ++ name ∷ []) all) (sym m.added) (written_then front before name m.written h m.shown)

pub pushed : (before : List Written) (name : List ℕ) (written : Written) (after : List Written) → IsNameOf name written → after ≡ before ++ written ∷ [] → HasOneMore before name after
pushed before name written after shown added = record { written = written; shown = shown; added = added }

-- before the first name
pub none_before : (field : List ℕ) (written : List Written) → written ≡ [] → AreBefore field field written
none_before field written e = record {
  front = [];
  shown = subst (λ (all : List Written). AreNamesOf [] all) (sym e) tt;
  whole = refl;
}

-- one name more
pub one_before : (field rest own behind : List ℕ) (written more : List Written) → AreBefore field rest written → names_in rest ≡ own ∷ names_in behind → HasOneMore written own more → AreBefore field behind more
one_before field rest own behind written more b cut m = record {
  front = b.front ++ own ∷ [];
  shown = more_written b.front written more own b.shown m;
  whole = b.whole ∙ (ap (λ (others : List (List ℕ)). b.front ++ others) cut ∙ sym (append_assoc b.front (own ∷ []) (names_in behind)));
}

-- the last one
pub all_before : (field rest : List ℕ) (written more : List Written) → AreBefore field rest written → names_in rest ≡ rest ∷ [] → HasOneMore written rest more → AreNamesOf (names_in field) more
all_before field rest written more b last m =
    subst (λ (names : List (List ℕ)). AreNamesOf names more) (sym (b.whole ∙ ap (λ (others : List (List ℕ)). b.front ++ others) last)) (more_written b.front written more rest b.shown m)

-- those after the first one
pub aliases_after : (field own others : List ℕ) (written : List Written) → names_in field ≡ own ∷ names_in others → AreNamesOf (names_in others) written → AreAliases field written
aliases_after field own others written cut h =
    subst (λ (names : List (List ℕ)). AreNamesOf (without_first names) written) (sym cut) h

-- none after the only one
pub no_aliases : (field : List ℕ) (written : List Written) → names_in field ≡ field ∷ [] → written ≡ [] → AreAliases field written
no_aliases field written only e =
    subst (λ (names : List (List ℕ)). AreNamesOf (without_first names) written) (sym only) (subst (λ (all : List Written). AreNamesOf [] all) (sym e) tt)
