-- An entry after one of its rows was set.
use Rattle.std.proofs.Common.{◌≡◌, ℕ, ◌<◌, List, Option, None, ⊎_elim, refl, sym, ◌∙◌, ap, subst, length, length-set, get_or-set_same, get_or-set_other, arith, replicate}
use Rattle.std.specs.Prelude.{IsTrue}
use Rattle.std.proofs.lemmas.Bool.{cases_eq, cases_lt}
use Rattle.std.proofs.lemmas.List.{length-replicate, get_or-replicate, get_or_past, ext_get_or}
use Rattle.ti_caps.specs.Fits.{names_fit}
use Rattle.ti_caps.specs.declared.value.Value.{Value}
use Rattle.ti_caps.specs.Entry.{Content, value_at, with_value, bare_entry, FitsPlace, HasBytes, IsEntry, SetsOnly}

-- setting the row of a capability sets only that
pub with_value_sets : (entry : Content) (place : ℕ) (value : Option Value) → length entry.values ≡ 497 → place < 497 → SetsOnly entry (with_value entry place value) place value
unfolding with_value value_at
with_value_sets entry place value size inside = record {
  names = refl;
  there = get_or-set_same entry.values place value None (omega (arith, size));
  others = λ other apart. get_or-set_other entry.values place other value None apart;
}

-- an entry with a fitting value set is an entry
pub with_value_fits : (entry : Content) (place : ℕ) (value : Option Value) → IsEntry entry → place < 497 → FitsPlace place value → HasBytes value → IsEntry (with_value entry place value)
unfolding with_value
with_value_fits entry place value is inside fits bytes =
    let only = with_value_sets entry place value is.size inside in
    record {
      names_fit = is.names_fit;
      size = length-set entry.values place value ∙ is.size;
      fits = λ other. ⊎_elim
          (λ same. subst (λ p. FitsPlace p (value_at (with_value entry place value) p)) (sym same) (subst (FitsPlace place) (sym only.there) fits))
          (λ apart. subst (FitsPlace other) (sym (only.others other apart)) (is.fits other))
          (cases_eq other place);
      bytes = λ other. ⊎_elim
          (λ same. subst (λ p. HasBytes (value_at (with_value entry place value) p)) (sym same) (subst HasBytes (sym only.there) bytes))
          (λ apart. subst HasBytes (sym (only.others other apart)) (is.bytes other))
          (cases_eq other place);
    }

-- an entry that has only names has no capability
pub bare_has_none : (names : List ℕ) (place : ℕ) → value_at (bare_entry names) place ≡ None
unfolding value_at bare_entry
bare_has_none names place =
    let rows : List (Option Value) = replicate 497 None in
    let size : length rows ≡ 497 = length-replicate {A = Option Value} 497 None in
    ⊎_elim
    (λ inside. get_or-replicate {A = Option Value} 497 place None None inside)
    (λ past. get_or_past rows place None (omega (arith, size)))
    (cases_lt place 497)

pub bare_is_entry : (names : List ℕ) → IsTrue (names_fit names) → IsEntry (bare_entry names)
unfolding bare_entry
bare_is_entry names fit = record {
  names_fit = fit;
  size = length-replicate {A = Option Value} 497 None;
  fits = λ place. subst (FitsPlace place) (sym (bare_has_none names place)) tt;
  bytes = λ place. subst HasBytes (sym (bare_has_none names place)) tt;
}

-- two entries with the same names and the same map are equal
pub same_entry : (a b : Content) → IsEntry a → IsEntry b → a.names ≡ b.names → ((place : ℕ) → place < 497 → value_at a place ≡ value_at b place) → a ≡ b
unfolding value_at
same_entry a b is_a is_b names values =
    let rows : a.values ≡ b.values =
    ext_get_or None a.values b.values (is_a.size ∙ sym is_b.size) (λ place inside. values place (omega (arith, is_a.size))) in
    let entry : List ℕ → List (Option Value) → Content = λ n v. record { names = n; values = v } in
    ap (λ n. entry n a.values) names ∙ ap (λ v. entry b.names v) rows
