-- Faults of the code as faults of the walk.
use Rattle.std.proofs.lemmas.List.{drop_more, drop_all}
use Rattle.std.proofs.Common.{get_or, length, ◌≤◌, ◌≡◌, ◌<◌, ◌+◌, ◌-◌, suc, zero, [], ◌∷◌, ◌++◌, List, ℕ, drop, subst, arith, Result, Ok, Err, refl, sym, ap, ◌∙◌}
use Rattle.ti_resolve.specs.declared.faults.ResolveFault.{ResolveFault}
use Rattle.ti_resolve.specs.declared.faults.ResolveFault.TheVariants.{NoSuchEntry, Cycle, NoMemory, TooMany}
use Rattle.ti_source.specs.declared.types.Field.{Field}
use Rattle.ti_source.specs.declared.types.Field.TheVariants.{Set, Cancel, Include}
use Rattle.ti_source.specs.declared.types.RawEntry.{RawEntry}
use Rattle.ti_resolve.specs.Uses.{fields_at, uses_in}
use Rattle.ti_resolve.specs.Walk.{Tells, FailsBy, and_then, enter, follow_field, follow_uses}

-- the walk fails by the fault that was made
pub told_fails : {X : Type 0} (told fault : ResolveFault) (walk : Result X ResolveFault) → Tells told fault → walk ≡ Err fault → FailsBy told walk
told_fails NoMemory fault walk tells is = tt
told_fails (NoSuchEntry name) fault walk tells is = is ∙ ap Err (sym tells)
told_fails (Cycle name) fault walk tells is = is ∙ ap Err (sym tells)
told_fails (TooMany name) fault walk tells is = is ∙ ap Err (sym tells)

-- a chain that can take no more entries
pub enter_none : (depth : ℕ) (raws : List RawEntry) (chain name : List ℕ) (place : ℕ) (entered : List ℕ) → depth ≡ 0 → enter depth raws chain name place entered ≡ Err (TooMany name)
unfolding enter
enter_none depth raws chain name place entered none = rw none refl

-- entering an entry is following its uses
pub enter_is : (depth : ℕ) (raws : List RawEntry) (chain : List ℕ) (name : List ℕ) (place : ℕ) (entered : List ℕ) (longer : List ℕ) (more : List ℕ) (fields : List Field) → (depth ≡ 0 → ⊥) → longer ≡ chain ++ place ∷ [] → more ≡ entered ++ place ∷ [] → fields ≡ fields_at raws place → follow_uses (enter (depth - 1) raws longer) raws longer (uses_in fields) more ≡ enter depth raws chain name place entered
unfolding enter
enter_is zero raws chain name place entered longer more fields some l m f = absurd (some refl)
enter_is (suc depth) raws chain name place entered longer more fields some l m f =
    let e : suc depth - 1 ≡ depth = omega arith in rw (e, l, m, f) refl

-- the uses of several fields are those of the first, and then the others
pub follow_one : (go : List ℕ → ℕ → List ℕ → Result (List ℕ) ResolveFault) (raws : List RawEntry) (chain : List ℕ) (field : Field) (fields : List Field) (entered : List ℕ) → follow_uses go raws chain (uses_in (field ∷ fields)) entered ≡ and_then (follow_field go raws chain field entered) (follow_uses go raws chain (uses_in fields))
unfolding follow_uses
follow_one go raws chain (Set cap value) fields entered = refl
follow_one go raws chain (Cancel cap) fields entered = refl
follow_one go raws chain (Include name) fields entered = refl

-- a walk that fails in its first part fails
pub first_fails : {X Y : Type 0} (fault : ResolveFault) (first : Result X ResolveFault) (next : X → Result Y ResolveFault) → FailsBy fault first → FailsBy fault (and_then first next)
first_fails NoMemory first next fails = tt
first_fails (NoSuchEntry name) first next fails = ap (λ r. and_then r next) fails
first_fails (Cycle name) first next fails = ap (λ r. and_then r next) fails
first_fails (TooMany name) first next fails = ap (λ r. and_then r next) fails

-- The walk through the fields from a place on, after one more field, if that fails, and at the end. `chain` is the
-- code's chain, `held` the chain at the start.
module _ (depth : ℕ) (raws : List RawEntry) (held chain : List ℕ) (fields : List Field) (i : ℕ) (entered : List ℕ) (whole : Result (List ℕ) ResolveFault) where
  abbrev from_place : ℕ → List ℕ → Result (List ℕ) ResolveFault
  from_place k seen = follow_uses (enter depth raws held) raws held (uses_in (drop k fields)) seen

  abbrev by_field : List ℕ → Field → Result (List ℕ) ResolveFault
  by_field stack field = follow_field (enter depth raws stack) raws stack field entered

  one_more : (field : Field) → i < length fields → field ≡ get_or fields i field → from_place i entered ≡ whole → and_then (by_field held field) (from_place (i + 1)) ≡ whole
  one_more field inside is was =
      let cut : drop i fields ≡ field ∷ drop (i + 1) fields = drop_more fields i field inside ∙ ap (λ f. f ∷ drop (i + 1) fields) (sym is) in
      sym (follow_one (enter depth raws held) raws held field (drop (i + 1) fields) entered) ∙ (ap (λ fs. follow_uses (enter depth raws held) raws held (uses_in fs) entered) (sym cut) ∙ was)

  pub goes_on : (field : Field) (more : List ℕ) → chain ≡ held → i < length fields → field ≡ get_or fields i field → from_place i entered ≡ whole → by_field chain field ≡ Ok more → from_place (i + 1) more ≡ whole
  goes_on field more same inside is was ok =
      let there = subst (λ stack. by_field stack field ≡ Ok more) same ok in
      ap (λ r. and_then r (from_place (i + 1))) (sym there) ∙ one_more field inside is was

  pub stops : (field : Field) (fault : ResolveFault) → chain ≡ held → i < length fields → field ≡ get_or fields i field → from_place i entered ≡ whole → FailsBy fault (by_field chain field) → FailsBy fault whole
  stops field fault same inside is was fails =
      let there = subst (λ stack. FailsBy fault (by_field stack field)) same fails in
      subst (FailsBy fault) (one_more field inside is was) (first_fails fault (by_field held field) (from_place (i + 1)) there)

  pub ends : length fields ≤ i → from_place i entered ≡ whole → whole ≡ Ok entered
  unfolding follow_uses
  ends past was =
      let none : drop i fields ≡ [] = drop_all i fields past in
      sym was ∙ ap (λ fs. follow_uses (enter depth raws held) raws held (uses_in fs) entered) none
