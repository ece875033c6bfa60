-- (Serves the code alone.) The index in which the code looks up names.
use Rattle.std.specs.Prelude.{ℕ, ◌≡◌, Bool, List, Option, Some, None, if◌then◌else◌}
use Rattle.std.specs.BTreeMap.{BTreeMap, get_by}
use Rattle.std.specs.Cmp.Lexicographic.{slice_cmp}
use Rattle.std.specs.Option.{option_or}
use Rattle.std.specs.Ordering.{nat_cmp}
use denote.Ref.{Bor}
use Rattle.ti_source.specs.declared.types.RawEntry.{RawEntry}
use Rattle.ti_resolve.specs.Uses.{place_named}

-- names and the places of entries
abbrev pub Places : Type 0
Places = BTreeMap (Bor (List ℕ)) ℕ

abbrev pub place_in : Places → List ℕ → Option ℕ
place_in places name = get_by (λ key. slice_cmp nat_cmp name key.now) places

-- each name has the place of the first entry with it
abbrev pub IsIndexOf : List RawEntry → Places → Type 0
IsIndexOf raws places = (name : List ℕ) → place_in places name ≡ place_named raws name

-- names that had no place have this one now, if they pass the test; all others keep theirs
abbrev pub Adds : Places → Places → (List ℕ → Bool) → ℕ → Type 0
Adds old new test place =
    (name : List ℕ) → place_in new name ≡ option_or (place_in old name) (if test name then Some place else None)
