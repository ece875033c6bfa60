-- The end of a text, and the result of a scan over it.
use Rattle.std.proofs.Common.{◌≡◌, ℕ, ◌+◌, ◌-◌, ◌≤◌, List, [], ◌∷◌, ◌++◌, length, take, drop, refl, sym, ap, subst, ◌∙◌, arith, inl, length-append, zero, suc}
use Rattle.std.proofs.lemmas.List.{drop_all, take-append-drop}
use Rattle.vt_term.specs.Text.{IsOpen, Splits, IsSplit}
use Rattle.vt_term.specs.Screen.{State, reset}
use Rattle.vt_term.specs.Step.{steps}
use Rattle.vt_term.specs.Function.{function_of}
use Rattle.vt_term.specs.Run.{Runs}
use Rattle.vt_term.specs.Scanned.{Begins, IsTokenAt, IsTextFault, HasFault}
use Rattle.vt_term.specs.declared.scanners.TextFault.{TextFault}
use Rattle.vt_term.specs.declared.scanners.TextFaultKind.{TextFaultKind}
use Rattle.vt_term.specs.declared.scanners.TextFaultKind.TheVariants.{Unfinished, Stuck}
use Rattle.vt_term.proofs.Splits.{one_splitting, splits_front, splits_open, cut_whole}
use Rattle.vt_term.proofs.Drops.{cancel_runs}
use Rattle.vt_term.proofs.Runs.{runs_append}
use Rattle.vt_term.proofs.Starts.{begins_at, begins_all}
use Rattle.vt_states.specs.declared.watches.Switches.{Switches}
use Rattle.vt_states.specs.Watches.{switches_of, first_switches, switches_after, switches_through}
use Rattle.vt_states.proofs.Switchings.{steps_switches, through_more}

-- a scan has reached a place
pub record Scanned (text : List ℕ) (at : ℕ) : Type 0 where
  pub tokens : List (List ℕ)
  pub begins : Begins text tokens (drop at text)

pub nothing_scanned : (text : List ℕ) → Scanned text 0
nothing_scanned text = record { tokens = []; begins = refl }

pub scanned_more : (text : List ℕ) (at end : ℕ) (token : List ℕ) → Scanned text at → IsTokenAt text at end token → Scanned text end
scanned_more text at end token s t = record { tokens = s.tokens ++ token ∷ []; begins = begins_at text s.tokens at end token s.begins t }

behind_first : (t behind : List ℕ) (k : ℕ) → length t ≤ k → drop k (t ++ behind) ≡ drop (k - length t) behind
behind_first [] behind k h = ap (λ (n : ℕ). drop n behind) (let e : k ≡ k - 0 = omega arith in e)
behind_first (x ∷ t) behind zero h = absurd (omega arith)
behind_first (x ∷ t) behind (suc n) h = behind_first t behind n (omega arith) ∙ ap (λ (m : ℕ). drop m behind) (let e : n - length t ≡ suc n - length (x ∷ t) = omega arith in e)

shorter : (text : List ℕ) (ts : List (List ℕ)) (rest : List ℕ) → Splits text ts rest → length rest ≤ length text
shorter text [] rest s = omega (arith, ap length s.0)
shorter text (t ∷ ts) rest s = omega (arith, shorter s.0 ts rest s.3, ap length s.1, length-append t s.0)

pub rest_at : (text : List ℕ) (ts : List (List ℕ)) (rest : List ℕ) (k : ℕ) → Splits text ts rest → k + length rest ≡ length text → rest ≡ drop k text
rest_at text [] rest k s e = sym s.0 ∙ ap (λ (n : ℕ). drop n text) (let z : 0 ≡ k = omega (arith, e, ap length s.0) in z)
rest_at text (t ∷ ts) rest k s e =
    let longer : length rest ≤ length s.0 = shorter s.0 ts rest s.3 in
    let all : length text ≡ length t + length s.0 = omega (arith, ap length s.1, length-append t s.0) in
    rest_at s.0 ts rest (k - length t) s.3 (omega arith) ∙ sym (behind_first t s.0 k (omega arith)) ∙ ap (λ (l : List ℕ). drop k l) (sym s.1)

-- a text that splits is never stuck
never_stuck : (text : List ℕ) (ts : List (List ℕ)) (rest : List ℕ) (at : ℕ) → Splits text ts rest → (IsSplit (take (at + 1) text) → ⊥) → ⊥
never_stuck text ts rest at s none = none (splits_front (take (at + 1) text) (drop (at + 1) text) ts rest (subst (λ (l : List ℕ). Splits l ts rest) (sym (take-append-drop (at + 1) text)) s))

pub rest_by_fault : (text : List ℕ) (fault : TextFault) → HasFault text fault → (tokens : List (List ℕ)) (rest : List ℕ) → Splits text tokens rest → rest ≡ drop fault.at text
rest_by_fault text fault h ts rest s = by_kind fault.kind h
  where
    by_kind : (kind : TextFaultKind) → IsTextFault text fault.at kind → rest ≡ drop fault.at text
    by_kind Unfinished f =
        let same = one_splitting text ts f.tokens rest f.rest s f.splits in
        sym same.1 ∙ rest_at text f.tokens f.rest fault.at f.splits f.place
    by_kind Stuck f = absurd (never_stuck text ts rest fault.at s f.fits_nothing)

pub fault_within : (text : List ℕ) (fault : TextFault) → HasFault text fault → fault.at ≤ length text
fault_within text fault h = by_kind fault.kind h
  where
    by_kind : (kind : TextFaultKind) → IsTextFault text fault.at kind → fault.at ≤ length text
    by_kind Unfinished f = omega (arith, f.place)
    by_kind Stuck f = omega (arith, f.within)

pub rest_at_end : (text : List ℕ) (at : ℕ) → Scanned text at → at ≡ length text → (tokens : List (List ℕ)) (rest : List ℕ) → Splits text tokens rest → rest ≡ drop (length text) text
rest_at_end text at s e ts rest k =
    let same = one_splitting text ts s.tokens rest [] k (begins_all text s.tokens at s.begins e) in
    sym same.1 ∙ sym (drop_all (length text) text (omega arith))

-- a scan has reached a place, and these are the switches there
pub record Switched (text : List ℕ) (at : ℕ) (switches : Switches) : Type 0 where
  pub tokens : List (List ℕ)
  pub begins : Begins text tokens (drop at text)
  pub through : switches ≡ switches_through tokens first_switches

pub nothing_switched : (text : List ℕ) → Switched text 0 first_switches
nothing_switched text = record { tokens = []; begins = refl; through = refl }

pub switched_more : (text : List ℕ) (at end : ℕ) (token : List ℕ) (w v : Switches) → Switched text at w → IsTokenAt text at end token → v ≡ switches_after (function_of token) w → Switched text end v
switched_more text at end token w v s t e = record {
  tokens = s.tokens ++ token ∷ [];
  begins = begins_at text s.tokens at end token s.begins t;
  through = e ∙ ap (λ (x : Switches). switches_after (function_of token) x) s.through ∙ sym (through_more s.tokens token first_switches);
}

pub switches_at_end : (text : List ℕ) (at : ℕ) (w : Switches) → Switched text at w → at ≡ length text → (rows cols : ℕ) (after : State) → Runs (reset rows cols) text after → switches_of after.screen ≡ w
switches_at_end text at w s e rows cols after r =
    let same = one_splitting text r.tokens s.tokens after.rest [] r.splits (begins_all text s.tokens at s.begins e) in
    ap switches_of r.screen ∙ ap (λ (ts : List (List ℕ)). switches_of (steps ts (reset rows cols).screen)) (sym same.0)
    ∙ steps_switches s.tokens (reset rows cols).screen ∙ sym s.through

-- no whole text has a fault
pub whole_has_none : (text : List ℕ) (fault : TextFault) → HasFault text fault → (tokens : List (List ℕ)) → Splits text tokens [] → ⊥
whole_has_none text fault h ts s = by_kind fault.kind h
  where
    by_kind : (kind : TextFaultKind) → IsTextFault text fault.at kind → ⊥
    by_kind Unfinished f = let same = one_splitting text ts f.tokens [] f.rest s f.splits in omega (arith, f.some, ap length same.1)
    by_kind Stuck f = never_stuck text ts [] fault.at s f.fits_nothing

-- CAN ends an open sequence and changes nothing else
pub cancelled : (rows cols : ℕ) (text : List ℕ) (after : State) → Runs (reset rows cols) text after → Runs (reset rows cols) (text ++ 24 ∷ []) (record after { rest = [] })
cancelled rows cols text after r = runs_append (reset rows cols) after (record after { rest = [] }) text (24 ∷ []) r (by_rest after.rest (splits_open text r.tokens after.rest r.splits))
  where
    by_rest : (rest : List ℕ) → IsOpen rest → Runs (record after { rest = rest }) (24 ∷ []) (record after { rest = [] })
    by_rest [] o = record { tokens = (24 ∷ []) ∷ []; splits = ([], refl, inl (cut_whole (inl refl)), (refl, o)); screen = refl }
    by_rest (x ∷ xs) o = cancel_runs (record after { rest = x ∷ xs }) 24 o (omega arith) (inl refl)
