-- If each entry can be read, none is refused because one can't.
use Rattle.std.proofs.Common.{◌≡◌, ◌<◌, ◌∙◌, ℕ, zero, suc, List, [], ◌∷◌, length, get_or, Option, Some, None, refl, sym, ap, subst, arith}
use Rattle.std.proofs.lemmas.Option.{slice_get-get_or}
use Rattle.std.specs.Option.{option_or}
use Rattle.std.specs.Prelude.{IsTrue, slice_get}
use Rattle.ti_caps.specs.Fits.{names_fit}
use Rattle.ti_sources.specs.Resolution.{FaultlessAreResolved, IsUnread, fault_in, first_fault, no_faults}
use Rattle.ti_resolve.specs.Uses.{names_at, names_in_entry}
use Rattle.ti_source.specs.Fitting.{NamesFit}
use Rattle.ti_source.specs.declared.types.RawEntry.{RawEntry}
use Rattle.ti_source.specs.declared.types.SourceFault.{SourceFault}

-- the names of a readable entry fit
names_fit_there : (raws : List RawEntry) (faults : List (Option SourceFault)) (place : ℕ) (raw : RawEntry) → NamesFit raws faults → slice_get raws place ≡ Some raw → slice_get faults place ≡ Some None → IsTrue (names_fit (names_at raws place))
unfolding names_at
names_fit_there raws faults place raw fit there read = subst (λ (o : Option RawEntry). IsTrue (names_fit (names_in_entry o))) (sym there) (fit place raw there read)

pub names_fit_below : (raws : List RawEntry) (faults : List (Option SourceFault)) (place : ℕ) → NamesFit raws faults → place < length raws → slice_get faults place ≡ Some None → IsTrue (names_fit (names_at raws place))
names_fit_below [] faults place fit inside read = absurd (omega arith)
names_fit_below (raw ∷ raws) faults place fit inside read =
    names_fit_there (raw ∷ raws) faults place (get_or (raw ∷ raws) place raw) fit (slice_get-get_or (raw ∷ raws) place raw inside) read

none_in : (raws : List RawEntry) (place : ℕ) → fault_in (no_faults raws) place ≡ None
none_in [] place = refl
none_in (raw ∷ raws) zero = refl
none_in (raw ∷ raws) (suc place) = none_in raws place

none_first : (raws : List RawEntry) (places : List ℕ) → first_fault (no_faults raws) places ≡ None
none_first raws [] = refl
none_first raws (place ∷ places) = ap (λ (o : Option SourceFault). option_or o (first_fault (no_faults raws) places)) (none_in raws place) ∙ none_first raws places

not_itself : (raws : List RawEntry) (place : ℕ) (fault : SourceFault) → slice_get (no_faults raws) place ≡ Some (Some fault) → ⊥
not_itself [] place fault e = cc
not_itself (raw ∷ raws) zero fault e = cc
not_itself (raw ∷ raws) (suc place) fault e = not_itself raws place fault e

never_first : (raws : List RawEntry) (places : List ℕ) (fault : SourceFault) → first_fault (no_faults raws) places ≡ Some fault → ⊥
never_first raws places fault e =
    let none : None ≡ Some fault = sym (none_first raws places) ∙ e in
    cc

never_unread : (raws : List RawEntry) (place : ℕ) (fault : SourceFault) → IsUnread raws (no_faults raws) place fault → ⊥
never_unread raws place fault (IsUnread.Itself e) = not_itself raws place fault e
never_unread raws place fault (IsUnread.Used places read walks first) = never_first raws places fault first

pub faultless_are_resolved : FaultlessAreResolved
faultless_are_resolved raws place = record {
  entry = λ entry there. there.resolved;
  read = never_unread raws place;
}
