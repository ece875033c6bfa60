-- Entries that are read one by one can be made into entries.
use Rattle.std.proofs.Common.{◌≡◌, ℕ, zero, suc, ◌+◌, Bool, true, false, not, List, [], ◌∷◌, Option, Some, None, Result, Ok, Err, refl, sym, subst}
use Rattle.std.specs.Prelude.{IsTrue, map}
use Rattle.std.specs.List.{AllByRecursion, list_all}
use Rattle.std.proofs.lemmas.Bool.{and_parts, or_parts}
use Rattle.ti_caps.specs.Fits.{names_fit}
use Rattle.ti_source.specs.declared.types.FaultKind.{FaultKind}
use Rattle.ti_source.specs.declared.types.RawEntry.{RawEntry}
use Rattle.ti_source.specs.declared.types.SourceFault.{SourceFault}
use Rattle.ti_source.specs.Apart.{Alone, Stretch, Stretches, add_line, alone, alone_by, entry_alone, further_of, on_line, onto_stretches, stretch_at, stretches_from}
use Rattle.ti_source.specs.Fields.{add_cut, entry_on}
use Rattle.ti_source.specs.Fitting.{FieldsFit, NamesFit}
use Rattle.ti_source.specs.Layout.{cut_of, is_white}
use Rattle.ti_source.specs.Lines.{begins_entry}
use Rattle.ti_source.specs.Raw.{IsRaw}
use Rattle.ti_source.specs.Source.{begins_white, is_comment, is_passed}
use Rattle.ti_source.proofs.Fitness.{OnAnswer, chosen, cut_fits, entry_fits}
use Rattle.ti_source.proofs.Stretching.{begun_stretch, further_stretch}

not_true : (t : Bool) → not t ≡ true → t ≡ false
not_true true e = cc
not_true false e = refl

first_fits : (number : ℕ) (line : List ℕ) → begins_entry line ≡ true → OnAnswer IsRaw (entry_on number line)
first_fits number line begins =
    let parts = and_parts (not (is_passed line)) (not (begins_white line)) begins in
    entry_fits number line (or_parts (list_all is_white line) (is_comment line) (not_true (is_passed line) parts.0)).1 (not_true (begins_white line) parts.1)

added_fits : (number : ℕ) (line : List ℕ) (raw : RawEntry) → IsRaw raw → OnAnswer IsRaw (add_line number line raw)
unfolding add_line
added_fits number line raw h = chosen (OnAnswer IsRaw) (is_passed line) (Ok raw) (add_cut number raw (cut_of line)) (λ _. h) (λ _. cut_fits number raw (cut_of line) h)

on_fits : {A B : Type 0} (P : A → Type 0) (Q : B → Type 0) (number : ℕ) (r : Result A FaultKind) (f : A → Result B SourceFault) → OnAnswer P r → ((x : A) → P x → OnAnswer Q (f x)) → OnAnswer Q (on_line number r f)
on_fits P Q number (Ok x) f p q = q x p
on_fits P Q number (Err kind) f p q = tt

further_fits : (number : ℕ) (lines : List (List ℕ)) (raw : RawEntry) → IsRaw raw → OnAnswer IsRaw (further_of number lines raw)
further_fits number [] raw h = h
further_fits number (line ∷ lines) raw h =
    on_fits IsRaw IsRaw number (add_line number line raw) (further_of (number + 1) lines) (added_fits number line raw h) (λ next k. further_fits (number + 1) lines next k)

abbrev NamesIf : Option SourceFault → List ℕ → Type 0
NamesIf None names = IsTrue (names_fit names)
NamesIf (Some fault) names = Unit {0}

record FitsAlone (one : Alone) : Type 0 where
  fields : FieldsFit one.raw
  names : NamesIf one.fault one.raw.names

fits_by : (s : Stretch) (r : Result RawEntry SourceFault) → OnAnswer IsRaw r → FitsAlone (alone_by s r)
fits_by s (Ok raw) h = record { fields = h.fields; names = h.names }
fits_by s (Err fault) h = record { fields = tt; names = tt }

alone_fits : (s : Stretch) → begins_entry s.first ≡ true → FitsAlone (alone s)
alone_fits s begins =
    fits_by s (entry_alone s) (on_fits IsRaw IsRaw s.number (entry_on s.number s.first) (further_of (s.number + 1) s.further) (first_fits s.number s.first begins) (λ raw h. further_fits (s.number + 1) s.further raw h))

abbrev AllFit : List Stretch → Type 0
AllFit stretches = AllByRecursion (λ s. FitsAlone (alone s)) stretches

fit_by : (number : ℕ) (line : List ℕ) (behind : Stretches) (t : Bool) → begins_entry line ≡ t → AllFit behind.entries → AllFit (onto_stretches number line behind).entries
fit_by number line behind true e all =
    subst (λ (s : Stretches). AllFit s.entries) (sym (begun_stretch number line behind e)) (alone_fits (stretch_at number line behind.ahead) e, all)
fit_by number line behind false e all = subst (λ (s : Stretches). AllFit s.entries) (sym (further_stretch number line behind e)) all

all_fit : (number : ℕ) (lines : List (List ℕ)) → AllFit (stretches_from number lines).entries
all_fit number [] = tt
all_fit number (line ∷ lines) = fit_by number line (stretches_from (number + 1) lines) (begins_entry line) refl (all_fit (number + 1) lines)

mapped_fit : (stretches : List Stretch) → AllFit stretches → AllByRecursion FieldsFit (map (λ s. (alone s).raw) stretches)
mapped_fit [] all = tt
mapped_fit (s ∷ stretches) all = (all.0.fields, mapped_fit stretches all.1)

pub fields_fit : (number : ℕ) (lines : List (List ℕ)) (raws : List RawEntry) → raws ≡ map (λ s. (alone s).raw) (stretches_from number lines).entries → AllByRecursion FieldsFit raws
fields_fit number lines raws is = subst (AllByRecursion FieldsFit) (sym is) (mapped_fit (stretches_from number lines).entries (all_fit number lines))

names_if : (fault : Option SourceFault) (names : List ℕ) → fault ≡ None → NamesIf fault names → IsTrue (names_fit names)
names_if None names e h = h
names_if (Some fault) names e h = cc

mapped_names : (stretches : List Stretch) → AllFit stretches → NamesFit (map (λ s. (alone s).raw) stretches) (map (λ s. (alone s).fault) stretches)
mapped_names [] all place raw there fine = cc
mapped_names (s ∷ stretches) all zero raw there fine =
    let same : (alone s).raw ≡ raw = cc in
    let read : (alone s).fault ≡ None = cc in
    subst (λ (r : RawEntry). IsTrue (names_fit r.names)) same (names_if (alone s).fault (alone s).raw.names read all.0.names)
mapped_names (s ∷ stretches) all (suc place) raw there fine = mapped_names stretches all.1 place raw there fine

pub names_are_fit : (number : ℕ) (lines : List (List ℕ)) (raws : List RawEntry) (faults : List (Option SourceFault)) → raws ≡ map (λ s. (alone s).raw) (stretches_from number lines).entries → faults ≡ map (λ s. (alone s).fault) (stretches_from number lines).entries → NamesFit raws faults
names_are_fit number lines raws faults is are =
    subst (λ (rs : List RawEntry). NamesFit rs faults) (sym is)
    (subst (λ (fs : List (Option SourceFault)). NamesFit (map (λ s. (alone s).raw) (stretches_from number lines).entries) fs) (sym are)
    (mapped_names (stretches_from number lines).entries (all_fit number lines)))
