-- Lines after options, limits, and the cursor's modes.
use Rattle.std.proofs.Common.{◌≡◌, ℕ, ◌*◌, ◌≤◌, ◌==◌, ◌&&◌, ◌∙◌, Bool, true, false, zero, suc, if◌then◌else◌, List, [], Option, Some, None, Result, Bor, IfSome, is_some, refl, subst, sym, ap, arith}
use Rattle.cur_steps.specs.WireSteps.{Spells}
use Rattle.cur_steps.proofs.Stops.{spells_as}
use Rattle.ti_rows.specs.declared.rows.Row.{Row}
use Rattle.ti_conforms.specs.Certified.{Table, IsPiece, IsLost, has}
use Rattle.cur_steps.specs.Beliefs.{Agrees, Belief, Place, moves, Mode, Hidden, Normal, Prominent, same_mode, changes, mode_text, modes_limit, setting_text}
use Rattle.cur_steps.specs.declared.inks.Ink.{Ink}

pub line_is : (t : Table) (row : Row) (o : Option (Bor (List ℕ))) (b : Bor (List ℕ)) → o ≡ Some b → IfSome o (λ b. t.line_of row ≡ Some b.now) → t.line_of row ≡ Some b.now
line_is t row o b e h = subst (λ (o : Option (Bor (List ℕ))). IfSome o (λ b. t.line_of row ≡ Some b.now)) e h

pub has_none : (t : Table) (row : Row) → t.line_of row ≡ None → has t row ≡ false
has_none t row e = ap (λ (o : Option (List ℕ)). is_some o) e

pub has_some : (t : Table) (row : Row) (b : List ℕ) → t.line_of row ≡ Some b → has t row ≡ true
has_some t row b e = ap (λ (o : Option (List ℕ)). is_some o) e

pub once : (k l : ℕ) → k ≡ 1 → l ≤ k * l
once k l e = let P : ℕ → Type 0 = λ n. l ≤ n * l in subst P (sym e) (omega arith)

few : (b : Bool) → (if b then 0 else 1) ≤ 1
few true = omega arith
few false = omega arith

pub moves_few : (p : Place) (r c : ℕ) → moves p r c ≤ 1
moves_few p r c = few ((p.row == r) && (p.col == c))

pub at_most : (k l : ℕ) → k ≤ 1 → k * l ≤ l
at_most zero l h = omega arith
at_most (suc zero) l h = omega arith
at_most (suc (suc k)) l h = absurd (omega arith)

pub changes_few : (p : Option Mode) (m : Mode) → changes p m ≤ 1
changes_few None m = omega arith
changes_few (Some n) m = few (same_mode n m)

-- no bytes are needed for a mode that the cursor is known to have
pub text_same : (t : Table) (now : Option Mode) (m : Mode) → now ≡ Some m → mode_text t now m ≡ []
text_same t now m e = let P : Option Mode → Type 0 = λ o. mode_text t o m ≡ [] in subst P (sym e) (itself m)
  where
    itself : (m : Mode) → mode_text t (Some m) m ≡ []
    itself Hidden = refl
    itself Normal = refl
    itself Prominent = refl

pub text_changed : (t : Table) (now : Option Mode) (m : Mode) → changes now m ≡ 1 → mode_text t now m ≡ setting_text t m
text_changed t None m e = refl
text_changed t (Some n) m e = chosen (same_mode n m) (setting_text t m) e
  where
    chosen : (b : Bool) (x : List ℕ) → ◌≡◌ {A = ℕ} (if b then 0 else 1) 1 → (if b then [] else x) ≡ x
    chosen true x e = absurd (omega arith)
    chosen false x e = refl

-- a mode's text sent, where the mode that the cursor has isn't known to be it
pub mode_spelled : {W T E : Type 0} {went : W → W → List ℕ → Type 0} {failures : W → ℕ} {a z : W} {answer : Result T E} {b c : Belief} (t : Table) (g : ℕ → ℕ → Ink) (now : Option Mode) (wanted m : Mode) (limit : ℕ)
    → wanted ≡ m → changes now wanted ≡ 1 → limit ≤ modes_limit t → Spells went failures a z answer (setting_text t m) (IsPiece t) limit (IsLost t) (Agrees t g b) (Agrees t g c)
    → Spells went failures a z answer (mode_text t now wanted) (IsPiece t) (changes now wanted * modes_limit t) (IsLost t) (Agrees t g b) (Agrees t g c)
mode_spelled {W} {T} {E} {went} {failures} {a} {z} {answer} {b} {c} t g now wanted m limit is changed le h =
    spells_as went failures a z answer (setting_text t m) (mode_text t now wanted) (IsPiece t) limit (changes now wanted * modes_limit t) (IsLost t) (Agrees t g b) (Agrees t g c)
    (ap (setting_text t) (sym is) ∙ sym (text_changed t now wanted changed)) (omega (arith, le, once (changes now wanted) (modes_limit t) changed)) h
