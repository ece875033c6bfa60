-- Facts about the calls of `resolve` taken together.
use Rattle.std.proofs.Common.{◌≡◌, ℕ, List, Result, Some, None, Ok, Err, refl, sym, ap, ◌∙◌, subst}
use Rattle.std.specs.Prelude.{IsOk, MatchResult}
use Rattle.ti_caps.specs.Entry.{Content, value_at, bare_entry}
use Rattle.ti_source.specs.declared.types.RawEntry.{RawEntry}
use Rattle.ti_resolve.specs.declared.faults.ResolveFault.{ResolveFault}
use Rattle.ti_resolve.specs.declared.faults.ResolveFault.TheVariants.{NoSuchEntry}
use Rattle.ti_resolve.specs.Uses.{place_named, names_at, value_given}
use Rattle.ti_resolve.specs.Fills.{fields_of_all, take_fields, start}
use Rattle.ti_resolve.specs.Resolved.{IsResolvedAt}
use Rattle.ti_resolve.specs.Walk.{FailsBy, walk_at, walk_from, walk_of}
use Rattle.ti_resolve.proofs.Firsts.{fields_same}
use Rattle.ti_resolve.proofs.Law.{walk_is_whole}
use Rattle.ti_resolve.proofs.Taken.{taken_names, taken_values}

pub walk_none : (raws : List RawEntry) (name : List ℕ) → None ≡ place_named raws name → walk_of raws name ≡ Err (NoSuchEntry name)
unfolding walk_of
walk_none raws name none = ap (walk_from raws name) (sym none)

pub walk_is : (raws : List RawEntry) (name : List ℕ) (root : ℕ) → Some root ≡ place_named raws name → walk_at raws root ≡ walk_of raws name
unfolding walk_of
walk_is raws name root found = ap (walk_from raws name) found

-- what a call says of the walk from the first entry of a name, it says of the walk of that name
pub walk_named : {A : Type 0} (raws : List RawEntry) (name : List ℕ) (root : ℕ) (answer : Result A ResolveFault) → Some root ≡ place_named raws name
    → MatchResult answer (λ _. IsOk (walk_at raws root)) (λ fault. FailsBy fault (walk_at raws root))
    → MatchResult answer (λ _. IsOk (walk_of raws name)) (λ fault. FailsBy fault (walk_of raws name))
walk_named raws name root answer named told =
    subst (λ (walk : Result (List ℕ) ResolveFault). MatchResult answer (λ _. IsOk walk) (λ fault. FailsBy fault walk)) (walk_is raws name root named) told

bare_names : (names : List ℕ) → (bare_entry names).names ≡ names
unfolding bare_entry
bare_names names = refl

pub resolved_is : (raws : List RawEntry) (names after : List ℕ) (root : ℕ) (entry : Content) → walk_at raws root ≡ Ok after → names ≡ names_at raws root → entry ≡ (take_fields (start names) (fields_of_all raws after)).entry → IsResolvedAt raws root entry
resolved_is raws names after root entry walked named is =
    let whole = walk_is_whole raws 65 root (names_at raws root) after walked in
    record {
      places = whole.0;
      whole = whole.1;
      names = ap (λ e. e.names) is ∙ (taken_names (start names) (fields_of_all raws after) ∙ (bare_names names ∙ named));
      values = λ place inside. ap (λ e. value_at e place) is ∙ (taken_values names (fields_of_all raws after) place inside ∙ ap value_given (fields_same raws place after whole.0 whole.2));
    }
