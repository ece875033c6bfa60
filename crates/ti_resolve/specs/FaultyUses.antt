-- The use for which an entry can't be resolved (terminfo(5), "Similar Terminals").
use Rattle.std.specs.Prelude.{ℕ, ◌≡◌, Bool, false, List, [], ◌∷◌, ◌++◌, Some, Result, Err}
use Rattle.std.specs.Str.{bytes_eq}
use Rattle.ti_source.specs.declared.types.Field.{Field}
use Rattle.ti_source.specs.declared.types.Field.TheVariants.{Set, Cancel, Include}
use Rattle.ti_source.specs.declared.types.RawEntry.{RawEntry}
use Rattle.ti_resolve.specs.declared.faults.ResolveFault.{ResolveFault}
use Rattle.ti_resolve.specs.declared.faults.ResolveFault.TheVariants.{NoSuchEntry, Cycle, NoMemory, TooMany}
use Rattle.ti_resolve.specs.declared.origins.Origin.{Origin}
use Rattle.ti_resolve.specs.Faults.{Includes, Reaches}
use Rattle.ti_resolve.specs.Origins.{field_there}
use Rattle.ti_resolve.specs.Walk.{Tells, walk_at}

-- the fault is about this name
abbrev pub IsAbout : List ℕ → ResolveFault → Type 0
IsAbout name (NoSuchEntry own) = own ≡ name
IsAbout name (Cycle own) = own ≡ name
IsAbout name (TooMany own) = own ≡ name
IsAbout name NoMemory = ⊥

-- the field at the origin is a use of the name that the fault of the walk is about, in an entry that is reached
pub record IsFaultyUse (raws : List RawEntry) (root : ℕ) (origin : Origin) : Type 0 where
  pub fault : ResolveFault
  pub name : List ℕ
  pub fails : walk_at raws root ≡ Err fault
  pub about : IsAbout name fault
  pub reached : Reaches raws root origin.entry
  pub field : field_there raws origin ≡ Some (Include name)

-- ---- for private clauses: the chain of entries at which a walk fails

-- the field is a use of the name
abbrev pub is_use_of : List ℕ → Field → Bool
is_use_of name (Set cap value) = false
is_use_of name (Cancel cap) = false
is_use_of name (Include used) = bytes_eq used name

-- the last entry of the chain is reached, and uses the name
pub record EndsAtUse (raws : List RawEntry) (root : ℕ) (chain name : List ℕ) : Type 0 where
  pub front : List ℕ
  pub user : ℕ
  pub is_last : chain ≡ front ++ user ∷ []
  pub reached : Reaches raws root user
  pub includes : Includes raws user name

-- the last entry of the chain uses the name that the fault is about
abbrev pub EndsBy : List RawEntry → ℕ → List ℕ → ResolveFault → Type 0
EndsBy raws root chain (NoSuchEntry name) = EndsAtUse raws root chain name
EndsBy raws root chain (Cycle name) = EndsAtUse raws root chain name
EndsBy raws root chain (TooMany name) = EndsAtUse raws root chain name
EndsBy raws root chain NoMemory = Unit {0}

-- the fault is about this name, or memory ran out
abbrev pub IsAboutIf : List ℕ → ResolveFault → Type 0
IsAboutIf name (NoSuchEntry own) = own ≡ name
IsAboutIf name (Cycle own) = own ≡ name
IsAboutIf name (TooMany own) = own ≡ name
IsAboutIf name NoMemory = Unit {0}

-- Where no more entries can be entered, the chain stays as it was; otherwise the walk fails behind it.
pub record EndsEntered (raws : List RawEntry) (root depth : ℕ) (name old new : List ℕ) (fault : ResolveFault)
    : Type 0 where
  pub full : depth ≡ 0 → (new ≡ old) × IsAboutIf name fault
  pub further : (depth ≡ 0 → ⊥) → EndsBy raws root new fault
