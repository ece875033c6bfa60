-- The fields of the strings that are suggested together.
use Rattle.std.proofs.Common.{◌≡◌, ◌∙◌, ◌<◌, ◌≤◌, ◌+◌, ◌++◌, ◌∷◌, [], ℕ, List, Option, Some, None, ap, append_assoc, get_or, length, refl, subst, sym, take}
use Rattle.std.specs.Prelude.{String, map, string_bytes}
use Rattle.std.specs.declared.alloc.Global.{Global}
use Rattle.std.proofs.lemmas.List.{append-nil, map-append, take_all, take_more}
use Rattle.ti_caps.specs.Entry.{Content}
use Rattle.ti_faults.specs.declared.mended.Mended.{Mended}
use Rattle.ti_reports.specs.Suggestions.{AddsField, AreFields, IsField, IsFieldIf, IsRightFor}

-- ---- one field

pub no_field : (cap : ℕ) (fields : List (List ℕ)) → AddsField cap None fields fields
unfolding AddsField
no_field cap fields = ([], refl, sym (append-nil fields))

pub field_added : (cap : ℕ) (string : List ℕ) (before after : List (String Global)) (field : String Global) → IsField cap string (string_bytes field) → after ≡ before ++ field ∷ []
    → AddsField cap (Some string) (map string_bytes before) (map string_bytes after)
unfolding AddsField
field_added cap string before after field is added =
    (string_bytes field ∷ [], (string_bytes field, is, refl), ap (λ (fields : List (String Global)). map string_bytes fields) added ∙ map-append string_bytes before (field ∷ []))

-- ---- one after another

-- no capability
pub no_fields : (entry : Content) (mended : Option Mended) (fields : List (List ℕ)) → fields ≡ [] → AreFields entry mended [] fields
unfolding AreFields
no_fields entry mended fields none = none

-- one more capability, after those before it
fields_end : (entry : Content) (mended : Option Mended) (caps : List ℕ) (cap : ℕ) (fields own : List (List ℕ)) (found : Option (List ℕ)) → AreFields entry mended caps fields → IsRightFor entry mended cap found → IsFieldIf cap found own
    → AreFields entry mended (caps ++ cap ∷ []) (fields ++ own)
unfolding AreFields
fields_end entry mended [] cap fields own found h right is = (found, own, [], ap (λ (fs : List (List ℕ)). fs ++ own) h ∙ sym (append-nil own), right, is, refl)
fields_end entry mended (first ∷ caps) cap fields own found h right is =
    (h.0, h.1, h.2 ++ own, ap (λ (fs : List (List ℕ)). fs ++ own) h.3 ∙ append_assoc h.1 h.2 own, h.4, h.5, fields_end entry mended caps cap h.2 own found h.6 right is)

pub one_more : (entry : Content) (mended : Option Mended) (caps : List ℕ) (i cap : ℕ) (fields more : List (List ℕ)) (found : Option (List ℕ)) → i < length caps → cap ≡ get_or caps i cap → AreFields entry mended (take i caps) fields
    → IsRightFor entry mended cap found → AddsField cap found fields more → AreFields entry mended (take (i + 1) caps) more
unfolding AddsField
one_more entry mended caps i cap fields more found inside is h right adds =
    let cut : take (i + 1) caps ≡ take i caps ++ cap ∷ [] = take_more caps i cap inside ∙ ap (λ c. take i caps ++ c ∷ []) (sym is) in
    subst (λ (own : List ℕ). AreFields entry mended own more) (sym cut)
    (subst (λ (fs : List (List ℕ)). AreFields entry mended (take i caps ++ cap ∷ []) fs) (sym adds.2) (fields_end entry mended (take i caps) cap fields adds.0 found h right adds.1))

pub all_fields : (entry : Content) (mended : Option Mended) (caps : List ℕ) (i : ℕ) (fields : List (List ℕ)) → length caps ≤ i → AreFields entry mended (take i caps) fields → AreFields entry mended caps fields
all_fields entry mended caps i fields past h = subst (λ (own : List ℕ). AreFields entry mended own fields) (take_all i caps past) h
