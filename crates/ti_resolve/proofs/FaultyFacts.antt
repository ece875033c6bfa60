-- The use at which a walk fails.
use Rattle.std.proofs.Common.{get_or, length, ◌≡◌, ◌<◌, ◌+◌, ◌-◌, suc, zero, [], ◌∷◌, ◌++◌, Bool, true, false, Err, List, None, Option, Result, Some, ℕ, subst, arith, refl, sym, ap, ◌∙◌, cond, length-append}
use Rattle.std.specs.Prelude.{Contains, IfNone, IfSome, IsSomeAnd, nat_lt, not, option_map, slice_get, slice_index_or}
use Rattle.std.specs.List.{AllByRecursion, position, position_or_len}
use Rattle.std.specs.Str.{bytes_eq}
use Rattle.std.proofs.lemmas.Bool.{cond-true}
use Rattle.std.proofs.lemmas.Bool.Decides.{nat_tests}
use Rattle.std.proofs.lemmas.List.Quantifiers.{position-Some}
use Rattle.std.proofs.lemmas.Option.{slice_get-get_or}
use Rattle.std.proofs.lemmas.Slice.Eq.{bytes_eq-Decides}
use Rattle.std.proofs.lemmas.List.Elements.{Contains-get_or, recursion_from_All}
use Rattle.ti_resolve.specs.declared.faults.ResolveFault.{ResolveFault}
use Rattle.ti_resolve.specs.declared.faults.ResolveFault.TheVariants.{NoSuchEntry, Cycle, NoMemory, TooMany}
use Rattle.ti_source.specs.declared.types.Field.{Field}
use Rattle.ti_source.specs.declared.types.Field.TheVariants.{Set, Cancel, Include}
use Rattle.ti_source.specs.declared.types.RawEntry.{RawEntry}
use Rattle.ti_resolve.specs.Faults.{Includes, Reaches}
use Rattle.ti_resolve.specs.FaultyUses.{EndsAtUse, EndsBy, EndsEntered, IsAbout, IsAboutIf, IsFaultyUse, is_use_of}
use Rattle.ti_resolve.specs.Origins.{field_there, origin_at}
use Rattle.ti_resolve.specs.declared.origins.Origin.{Origin}
use Rattle.ti_resolve.specs.Uses.{fields_at, uses_in}
use Rattle.ti_resolve.specs.Walk.{FailsBy, Tells, walk_at}

about_told : (told fault : ResolveFault) (name : List ℕ) → Tells told fault → IsAboutIf name fault → IsAboutIf name told
about_told NoMemory fault name tells about = tt
about_told (NoSuchEntry own) fault name tells about = subst (IsAboutIf name) (sym tells) about
about_told (Cycle own) fault name tells about = subst (IsAboutIf name) (sym tells) about
about_told (TooMany own) fault name tells about = subst (IsAboutIf name) (sym tells) about

pub about_missing : (told : ResolveFault) (name : List ℕ) → Tells told (NoSuchEntry name) → IsAboutIf name told
about_missing told name tells = about_told told (NoSuchEntry name) name tells refl

pub about_cycle : (told : ResolveFault) (name : List ℕ) → Tells told (Cycle name) → IsAboutIf name told
about_cycle told name tells = about_told told (Cycle name) name tells refl

pub about_many : (told : ResolveFault) (name : List ℕ) → Tells told (TooMany name) → IsAboutIf name told
about_many told name tells = about_told told (TooMany name) name tells refl

-- a use that can't be followed ends the chain
pub ends_here : (raws : List RawEntry) (root user : ℕ) (front chain name : List ℕ) (fault : ResolveFault) → chain ≡ front ++ user ∷ [] → Reaches raws root user → Includes raws user name → IsAboutIf name fault → EndsBy raws root chain fault
ends_here raws root user front chain name NoMemory is r i a = tt
ends_here raws root user front chain name (NoSuchEntry own) is r i a = record { front = front; user = user; is_last = is; reached = r; includes = subst (Includes raws user) (sym a) i }
ends_here raws root user front chain name (Cycle own) is r i a = record { front = front; user = user; is_last = is; reached = r; includes = subst (Includes raws user) (sym a) i }
ends_here raws root user front chain name (TooMany own) is r i a = record { front = front; user = user; is_last = is; reached = r; includes = subst (Includes raws user) (sym a) i }

-- and one whose entry can't be entered
pub ends_after : (raws : List RawEntry) (root user depth : ℕ) (front old new name : List ℕ) (fault : ResolveFault) → EndsEntered raws root depth name old new fault → old ≡ front ++ user ∷ [] → Reaches raws root user → Includes raws user name → EndsBy raws root new fault
ends_after raws root user zero front old new name fault e is r i = let f = e.full refl in ends_here raws root user front new name fault (f.0 ∙ is) r i f.1
ends_after raws root user (suc depth) front old new name fault e is r i = e.further (λ none. cc)

-- an entry uses what its fields use
pub all_included : (raws : List RawEntry) (user : ℕ) (fields : List Field) → fields ≡ fields_at raws user → AllByRecursion (Includes raws user) (uses_in fields)
all_included raws user fields is =
    let names = uses_in (fields_at raws user) in
    subst (λ (fs : List Field). AllByRecursion (Includes raws user) (uses_in fs)) (sym is) (recursion_from_All (Contains names) names (λ k d l. Contains-get_or names k d l))

-- what is true of all uses is true of those of a field
pub of_field : (P : List ℕ → Type 0) (fields : List Field) (i : ℕ) (field : Field) → i < length fields → field ≡ get_or fields i field → AllByRecursion P (uses_in fields) → AllByRecursion P (uses_in (field ∷ []))
of_field P [] i field l is h = absurd (omega (arith, l))
of_field P (Set cap value ∷ fields) zero field l is h = subst (λ f. AllByRecursion P (uses_in (f ∷ []))) (sym is) tt
of_field P (Cancel cap ∷ fields) zero field l is h = subst (λ f. AllByRecursion P (uses_in (f ∷ []))) (sym is) tt
of_field P (Include name ∷ fields) zero field l is h = subst (λ f. AllByRecursion P (uses_in (f ∷ []))) (sym is) (h.0, tt)
of_field P (Set cap value ∷ fields) (suc i) field l is h = of_field P fields i field (omega (arith, l)) is h
of_field P (Cancel cap ∷ fields) (suc i) field l is h = of_field P fields i field (omega (arith, l)) is h
of_field P (Include name ∷ fields) (suc i) field l is h = of_field P fields i field (omega (arith, l)) is h.1

-- ---- the last entry of a chain

at_end : (front : List ℕ) (user : ℕ) → get_or (front ++ user ∷ []) (length front) 0 ≡ user
at_end [] user = refl
at_end (first ∷ front) user = at_end front user

pub last_is : (chain front : List ℕ) (user : ℕ) → chain ≡ front ++ user ∷ [] → get_or chain (length chain - 1) 0 ≡ user
last_is chain front user is =
    let long : length chain ≡ length front + 1 = ap length is ∙ length-append front (user ∷ []) in
    let place : length chain - 1 ≡ length front = omega (arith, long) in
    ap (λ n. get_or chain n 0) place ∙ (ap (λ (l : List ℕ). get_or l (length front) 0) is ∙ at_end front user)

-- ---- the first use of a name

is_lt : (m n : ℕ) → m < n → nat_lt m n ≡ true
is_lt m n lt = grind (arith, nat_tests)

past : (b : Bool) (n most : ℕ) → n < most → cond (not b) (1 + n) 0 < suc most
past true n most l = omega (arith, l)
past false n most l = omega (arith, l)

-- a name that some field uses is used by a first one
there_is : (name : List ℕ) (fields : List Field) (k : ℕ) → k < length (uses_in fields) → slice_index_or (uses_in fields) k name ≡ name → position_or_len (is_use_of name) fields < length fields
there_is name [] k l is = absurd (omega (arith, l))
there_is name (Set cap value ∷ fields) k l is = past false _ _ (there_is name fields k l is)
there_is name (Cancel cap ∷ fields) k l is = past false _ _ (there_is name fields k l is)
there_is name (Include used ∷ fields) zero l is =
    subst (λ (b : Bool). cond (not b) (1 + position_or_len (is_use_of name) fields) 0 < suc (length fields)) (sym ((bytes_eq-Decides used name).1 is)) (omega arith)
there_is name (Include used ∷ fields) (suc k) l is = past (bytes_eq used name) _ _ (there_is name fields k (omega (arith, l)) is)

use_is : (name : List ℕ) (field : Field) → is_use_of name field ≡ true → field ≡ Include name
use_is name (Set cap value) is = cc
use_is name (Cancel cap) is = cc
use_is name (Include used) is = ap Include ((bytes_eq-Decides used name).0 is)

pub use_there : (raws : List RawEntry) (root user : ℕ) (name : List ℕ) → Reaches raws root user → Includes raws user name → IsSomeAnd (option_map (origin_at user) (position (is_use_of name) (fields_at raws user))) (λ origin. Reaches raws root origin.entry × (field_there raws origin ≡ Some (Include name)))
unfolding field_there
use_there raws root user name reached includes =
    let fields = fields_at raws user in
    let at = position_or_len (is_use_of name) fields in
    let l : at < length fields = there_is name fields includes.0 includes.1 includes.2 in
    let found : position (is_use_of name) fields ≡ Some at = cond-true (nat_lt at (length fields)) (Some at) None (is_lt at (length fields) l) in
    let some = position-Some (is_use_of name) fields at (Include name) found in
    let there : slice_get fields at ≡ Some (Include name) = slice_get-get_or fields at (Include name) l ∙ ap Some (use_is name (get_or fields at (Include name)) some.1) in
    subst (λ (o : Option ℕ). IsSomeAnd (option_map (origin_at user) o) (λ origin. Reaches raws root origin.entry × (field_there raws origin ≡ Some (Include name)))) (sym found) (reached, there)

-- the end of the chain is about the name that the fault is about
pub ends_about : (raws : List RawEntry) (root : ℕ) (chain name : List ℕ) (fault : ResolveFault) → IsAbout name fault → EndsBy raws root chain fault → EndsAtUse raws root chain name
ends_about raws root chain name NoMemory about ends = absurd about
ends_about raws root chain name (NoSuchEntry own) about ends = subst (EndsAtUse raws root chain) about ends
ends_about raws root chain name (Cycle own) about ends = subst (EndsAtUse raws root chain) about ends
ends_about raws root chain name (TooMany own) about ends = subst (EndsAtUse raws root chain) about ends

pub fails_about : (name : List ℕ) (fault : ResolveFault) (walk : Result (List ℕ) ResolveFault) → IsAbout name fault → FailsBy fault walk → walk ≡ Err fault
fails_about name NoMemory walk about fails = absurd about
fails_about name (NoSuchEntry own) walk about fails = fails
fails_about name (Cycle own) walk about fails = fails
fails_about name (TooMany own) walk about fails = fails

-- the walk that failed at the end of a chain
pub faulty_at : (raws : List RawEntry) (root : ℕ) (chain name : List ℕ) (fault : ResolveFault) (found : Option Origin) → walk_at raws root ≡ Err fault → IsAbout name fault → IsSomeAnd found (λ origin. Reaches raws root origin.entry × (field_there raws origin ≡ Some (Include name))) → IfSome found (IsFaultyUse raws root)
faulty_at raws root chain name fault None fails about some = tt
faulty_at raws root chain name fault (Some origin) fails about some = record { fault = fault; name = name; fails = fails; about = about; reached = some.0; field = some.1 }

pub some_found : {X : Type 0} (found : Option X) (P : X → Type 0) (Q : Type 0) → IsSomeAnd found P → IfNone found Q
some_found None P Q h = absurd h
some_found (Some x) P Q h = tt
