-- The machine's value of a slot.
use Rattle.std.proofs.Common.{◌≡◌, List, [], ◌∷◌, ◌++◌, refl, subst}
use Rattle.std.specs.Prelude.{Option, Some, None, is_some, Bool, true, false}
use seplogic.Ra.Ura.{Ura}
use mir.Val.{Val, vstruct, of_list}
use types.Logic.{Logic}
use types.Kit.{Item, Goal, Seq, Step, step, ‵, ◌$◌, drop, fsplit, fjoin, fpick, fpack, feq_i, feq_l}
use denote.RattleType.{Valss}
use denote.Builtin.{RawPtr}
use denote.RawPtr.{Ptr, ptr_val}
use denote.Steps.{nothing}
use denote.Struct.Struct.{within}
use denote.Struct.Owning.{shape}
use Rattle.terminfo_c.specs.Handles.{held_at}
use Rattle.terminfo_c.specs.contracts.held.Held as held
use Rattle.terminfo_c.specs.contracts.handles.Slot as slot

-- a struct of this pointer alone
abbrev pub word : Ptr → Val
word p = vstruct (of_list (ptr_val p ∷ []))

module _ {M : Type 1} {𝓤 : Ura M} {𝓛 : Logic 𝓤} {K : Type 0} {Γ : List (Item 𝓤)} {G : Goal 𝓤 𝓛.H} where
  -- the parts that a slot owns make a slot
  pub slot_in : K → (p : Ptr) (h : Option held.the_row.Denot)
      → Step K 𝓛 (‵ (slot.the_row.own_val (record { at = p; held = h }) (word p ∷ [])) ∷ Γ) G (‵ (held_at held.the_row p h) ∷ Γ) G
  slot_in t p h = step (λ s.
      nothing t $ feq_i t (List Val) (ptr_val p ∷ []) (ptr_val p ∷ []) refl $ fjoin t $ feq_i t (List Val) (word p ∷ []) (word p ∷ []) refl $ fjoin t $
      fpack t (Valss (RawPtr ∷ [])) (within (shape slot.the_type) (p, tt) (word p ∷ [])) (ptr_val p ∷ [], tt) $ fjoin t $ s)

  -- a slot is the parts that it owns
  pub slot_out : K → (d : slot.the_row.Denot) (vs : List Val)
      → (vs ≡ word d.at ∷ [] → Seq K 𝓛 (‵ (held_at held.the_row d.at d.held) ∷ Γ) G)
      → Seq K 𝓛 (‵ (slot.the_row.own_val d vs) ∷ Γ) G
  slot_out t d vs k =
      fsplit t $ fpick t (λ vss. fsplit t $ feq_l t (λ ev. fsplit t $ feq_l t (λ ep. drop t $
      k (subst (λ (ps : List Val). vs ≡ vstruct (of_list (ps ++ [])) ∷ []) ep ev))))

abbrev Told : Bool → Type 0
Told true = ⊥
Told false = Unit {0}

-- something is held
pub held_of : {X : Type 0} (h : Option X) → is_some h ≡ true → (v : X) × (h ≡ Some v)
held_of (Some v) e = (v, refl)
held_of None e = absurd (subst Told e tt)
