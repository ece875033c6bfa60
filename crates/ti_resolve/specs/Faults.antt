-- The meaning of each fault of resolving for the entries and their uses (terminfo(5), "Similar Terminals").
use Rattle.std.specs.Prelude.{ℕ, ◌≡◌, true, false, List, [], ◌∷◌, Option, Some, None, Result, Ok, Err, Contains, IfOk}
use Rattle.std.specs.Prelude.{IsOk, length}
use Rattle.ti_caps.specs.Entry.{Content, IsEntry}
use Rattle.ti_source.specs.declared.types.RawEntry.{RawEntry}
use Rattle.ti_resolve.specs.declared.faults.ResolveFault.{ResolveFault}
use Rattle.ti_resolve.specs.declared.faults.ResolveFault.TheVariants.{NoSuchEntry, Cycle, NoMemory, TooMany}
use Rattle.ti_resolve.specs.Uses.{place_named, fields_at, uses_in}
use Rattle.ti_resolve.specs.Resolved.{IsResolved}
use Rattle.ti_resolve.specs.Walk.{holds, walk_at, walk_of}

-- the entry at a place uses this name
abbrev pub Includes : List RawEntry → ℕ → List ℕ → Type 0
Includes raws user name = Contains (uses_in (fields_at raws user)) name

-- a chain of uses leads from the entry at the first place to the one at the second
pub data Reaches (raws : List RawEntry) (from : ℕ) : ℕ → Type 0 where
  itself : Reaches raws from from
  by_use : (user to : ℕ) (name : List ℕ) → Reaches raws from user → Includes raws user name
      → place_named raws name ≡ Some to → Reaches raws from to

-- a use of the name is reached, but no entry has the name
pub record ReachesNothing (raws : List RawEntry) (root : ℕ) (name : List ℕ) : Type 0 where
  pub user : ℕ
  pub reached : Reaches raws root user
  pub includes : Includes raws user name
  pub unnamed : place_named raws name ≡ None

-- an entry is reached from which a chain of uses leads back to it, by this name
pub record ReachesCycle (raws : List RawEntry) (root : ℕ) (name : List ℕ) : Type 0 where
  pub place : ℕ
  pub user : ℕ
  pub reached : Reaches raws root place
  pub around : Reaches raws place user
  pub includes : Includes raws user name
  pub named : place_named raws name ≡ Some place

abbrev pub AreDifferent : List ℕ → Type 0
AreDifferent [] = Unit {0}
AreDifferent (place ∷ places) = (holds places place ≡ false) × AreDifferent places

-- 65 different entries besides the resolved one are reached, the one with this name among them
pub record ReachesTooMany (raws : List RawEntry) (root : ℕ) (name : List ℕ) : Type 0 where
  pub places : List ℕ
  pub count : length places ≡ 65
  pub different : AreDifferent (root ∷ places)
  pub reached : (place : ℕ) → holds places place ≡ true → Reaches raws root place
  pub last : ℕ
  pub user : ℕ
  pub user_reached : Reaches raws root user
  pub includes : Includes raws user name
  pub named : place_named raws name ≡ Some last
  pub among : holds places last ≡ true

-- the fault is true, for the entry at a place
abbrev pub FaultFrom : List RawEntry → ℕ → ResolveFault → Type 0
FaultFrom raws root (NoSuchEntry name) = ReachesNothing raws root name
FaultFrom raws root (Cycle name) = ReachesCycle raws root name
FaultFrom raws root (TooMany name) = ReachesTooMany raws root name
FaultFrom raws root NoMemory = ⊥

abbrev pub FaultAt : List RawEntry → List ℕ → Option ℕ → ResolveFault → Type 0
FaultAt raws asked None fault = fault ≡ NoSuchEntry asked
FaultAt raws asked (Some root) fault = FaultFrom raws root fault

-- the fault is true, for the entry with this name
abbrev pub IsFaultOf : List RawEntry → List ℕ → ResolveFault → Type 0
IsFaultOf raws asked fault = FaultAt raws asked (place_named raws asked) fault

-- each fault of the walk from a place is true
abbrev pub FaultsFromAreSo : Type 0
FaultsFromAreSo =
    (raws : List RawEntry) (root : ℕ) (fault : ResolveFault) → walk_at raws root ≡ Err fault → FaultFrom raws root fault

-- each fault of the walk from a name is true
abbrev pub FaultsAreSo : Type 0
FaultsAreSo =
    (raws : List RawEntry) (asked : List ℕ) (fault : ResolveFault) → walk_of raws asked ≡ Err fault
    → IsFaultOf raws asked fault

-- if the walk has no fault, an entry resolves the name
abbrev pub WalksResolve : Type 0
WalksResolve =
    (raws : List RawEntry) (asked places : List ℕ) → walk_of raws asked ≡ Ok places
    → (entry : Content) × IsResolved raws asked entry

-- the answer to a name: the entry if the walk has no fault, otherwise the fault
abbrev pub IsAnswer : List RawEntry → List ℕ → Result Content ResolveFault → Type 0
IsAnswer raws asked (Ok entry) = IsOk (walk_of raws asked) × IsResolved raws asked entry
IsAnswer raws asked (Err fault) = walk_of raws asked ≡ Err fault

-- a name has one answer: if the walk has a fault, there is neither an entry nor another fault
abbrev pub AnswersOnce : Type 0
AnswersOnce =
    (raws : List RawEntry) (asked : List ℕ) (one other : Result Content ResolveFault) → IfOk one IsEntry
    → IfOk other IsEntry → IsAnswer raws asked one → IsAnswer raws asked other → one ≡ other
