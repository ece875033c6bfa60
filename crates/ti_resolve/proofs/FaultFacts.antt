-- Each fault of the walk is true.
use Rattle.std.proofs.Common.{◌≡◌, ℕ, zero, suc, ◌+◌, ◌≤◌, ◌<◌, ◌==◌, true, false, List, [], ◌∷◌, ◌++◌, Option, Some, None, Result, Ok, Err, length, refl, sym, ap, ◌∙◌, subst, arith, length-append, ⊎_elim}
use Rattle.std.specs.Prelude.{Contains, IsOk, nat_le}
use Rattle.std.proofs.lemmas.Bool.{cases_Bool, both_ways, cond_both, eq-eqb, eqb-true, leb-false, leb-true, or_cases, or_from, or_left, or_parts, or_right}
use Rattle.ti_caps.specs.Entry.{Content}
use Rattle.ti_source.specs.declared.types.RawEntry.{RawEntry}
use Rattle.ti_resolve.specs.declared.faults.ResolveFault.{ResolveFault}
use Rattle.ti_resolve.specs.declared.faults.ResolveFault.TheVariants.{NoSuchEntry}
use Rattle.ti_resolve.specs.Uses.{place_named, fields_at, names_at, uses_in}
use Rattle.ti_resolve.specs.Fills.{fields_of_all, take_fields, start}
use Rattle.ti_resolve.specs.Resolved.{IsResolved}
use Rattle.ti_resolve.specs.Walk.{and_then, enter, follow_uses, go_to, holds, target, walk_from, walk_of}
use Rattle.ti_resolve.specs.Faults.{AnswersOnce, AreDifferent, FaultAt, FaultFrom, FaultsAreSo, FaultsFromAreSo, Includes, Reaches, ReachesTooMany, itself, by_use, WalksResolve}
use Rattle.ti_resolve.proofs.Law.{holds-append}
use Rattle.ti_resolve.proofs.Once as Once
use Rattle.ti_resolve.proofs.Whole.{resolved_is}

-- the entered entries: the first is the resolved one, all are reached and different
record IsEntered (raws : List RawEntry) (root : ℕ) (entered : List ℕ) : Type 0 where
  others : List ℕ
  first : entered ≡ root ∷ others
  different : AreDifferent entered
  reached : (place : ℕ) → holds entered place ≡ true → Reaches raws root place
  few : length entered ≤ 65

-- the chain that leads to an entry
record IsChain (raws : List RawEntry) (root : ℕ) (chain : List ℕ) (current : ℕ) : Type 0 where
  current_reached : Reaches raws root current
  reached : (place : ℕ) → holds chain place ≡ true → Reaches raws root place
  leads : (place : ℕ) → holds chain place ≡ true → Reaches raws place current

-- a part of the walk adds reached entries, or its fault is true
abbrev Goes : List RawEntry → ℕ → List ℕ → Result (List ℕ) ResolveFault → Type 0
Goes raws root before (Ok after) = IsEntered raws root after × (length before ≤ length after)
Goes raws root before (Err fault) = FaultFrom raws root fault

same-or-not : (p q : ℕ) (ps : List ℕ) → holds (p ∷ ps) q ≡ false → ((p == q) ≡ false) × (holds ps q ≡ false)
same-or-not p q ps apart = or_parts (p == q) (holds ps q) apart

turned-eqb : (p q : ℕ) → (p == q) ≡ false → (q == p) ≡ false
turned-eqb p q apart = ⊎_elim (λ t. let same : q ≡ p = eqb-true q p t in absurd (both_ways (p == q) apart (subst (λ x. (p == x) ≡ true) (sym same) (eq-eqb p p refl)))) (λ f. f) (cases_Bool (q == p))

different-push : (ps : List ℕ) (p : ℕ) → AreDifferent ps → holds ps p ≡ false → AreDifferent (ps ++ p ∷ [])
different-push [] p all apart = (refl, tt)
different-push (q ∷ ps) p all apart =
    let parts = same-or-not q p ps apart in
    (holds-append ps (p ∷ []) q ∙ or_from (holds ps q) (holds (p ∷ []) q) all.0 (or_from (p == q) false (turned-eqb q p parts.0) refl), different-push ps p all.1 parts.1)

-- one more place
one-more-held : (P : ℕ → Type 0) (ps : List ℕ) (p q : ℕ) → ((place : ℕ) → holds ps place ≡ true → P place) → P p → holds (ps ++ p ∷ []) q ≡ true → P q
one-more-held P ps p q all last is =
    ⊎_elim
    (λ t. all q t)
    (λ t. ⊎_elim (λ e. subst P (eqb-true p q e) last) (λ e. cc) (or_cases (p == q) false t))
    (or_cases (holds ps q) (holds (p ∷ []) q) (sym (holds-append ps (p ∷ []) q) ∙ is))

last-held : (ps : List ℕ) (p : ℕ) → holds (ps ++ p ∷ []) p ≡ true
last-held ps p = holds-append ps (p ∷ []) p ∙ or_right (holds ps p) (holds (p ∷ []) p) (or_left (p == p) false (eq-eqb p p refl))

entered-push : (raws : List RawEntry) (root : ℕ) (entered : List ℕ) (place : ℕ) → IsEntered raws root entered → Reaches raws root place → holds entered place ≡ false → length entered < 65 → IsEntered raws root (entered ++ place ∷ [])
entered-push raws root entered place so_far there apart few = record {
  others = so_far.others ++ place ∷ [];
  first = ap (λ ps. ps ++ place ∷ []) so_far.first;
  different = different-push entered place so_far.different apart;
  reached = λ q is. one-more-held (Reaches raws root) entered place q so_far.reached there is;
  few = omega (arith, length-append entered (place ∷ []));
}

chain-push : (raws : List RawEntry) (root : ℕ) (chain : List ℕ) (current place : ℕ) (name : List ℕ) → IsChain raws root chain current → Includes raws current name → place_named raws name ≡ Some place → IsChain raws root (chain ++ place ∷ []) place
chain-push raws root chain current place name held included named =
    let there : Reaches raws root place = by_use current place name held.current_reached included named in
    record {
      current_reached = there;
      reached = λ q is. one-more-held (Reaches raws root) chain place q held.reached there is;
      leads = λ q is. one-more-held (λ p. Reaches raws p place) chain place q (λ p t. by_use current place name (held.leads p t) included named) itself is;
    }

-- entering an entry that a use leads to
abbrev GoGoes : List RawEntry → ℕ → List ℕ → (List ℕ → ℕ → List ℕ → Result (List ℕ) ResolveFault) → Type 0
GoGoes raws root chain go = (name : List ℕ) (place : ℕ) (entered : List ℕ) → IsEntered raws root entered → IsChain raws root (chain ++ place ∷ []) place → length chain ≤ length entered → length entered < 65 → holds entered place ≡ false → Goes raws root entered (go name place entered)

longer-goes : (raws : List RawEntry) (root : ℕ) (before middle : List ℕ) (r : Result (List ℕ) ResolveFault) → length before ≤ length middle → Goes raws root middle r → Goes raws root before r
longer-goes raws root before middle (Ok after) longer goes = (goes.0, omega (arith, goes.1))
longer-goes raws root before middle (Err fault) longer goes = goes

then-goes : (raws : List RawEntry) (root : ℕ) (before : List ℕ) (r : Result (List ℕ) ResolveFault) (next : List ℕ → Result (List ℕ) ResolveFault) → Goes raws root before r → ((middle : List ℕ) → IsEntered raws root middle → length before ≤ length middle → Goes raws root middle (next middle)) → Goes raws root before (and_then r next)
then-goes raws root before (Err fault) next is more = is
then-goes raws root before (Ok middle) next is more = longer-goes raws root before middle (next middle) is.1 (more middle is.0 is.1)

-- 65 entries are entered, and another one is reached
too-many : (raws : List RawEntry) (root current : ℕ) (chain entered name : List ℕ) (place : ℕ) → IsEntered raws root entered → IsChain raws root chain current → Includes raws current name → place_named raws name ≡ Some place → holds entered place ≡ false → 65 ≤ length entered → ReachesTooMany raws root name
too-many raws root current chain entered name place so_far held included named apart full =
    let there : Reaches raws root place = by_use current place name held.current_reached included named in
    let count : length entered ≡ length (root ∷ so_far.others) = ap length so_far.first in
    record {
      places = so_far.others ++ place ∷ [];
      count = omega (arith, count, so_far.few, length-append so_far.others (place ∷ []));
      different = subst AreDifferent (ap (λ ps. ps ++ place ∷ []) so_far.first) (different-push entered place so_far.different apart);
      reached = λ q is. one-more-held (Reaches raws root) so_far.others place q (λ p t. so_far.reached p (ap (λ ps. holds ps p) so_far.first ∙ or_right (root == p) (holds so_far.others p) t)) there is;
      last = place;
      user = current;
      user_reached = held.current_reached;
      includes = included;
      named = named;
      among = last-held so_far.others place;
    }

-- one use of the entry at the end of the chain
use-goes : (raws : List RawEntry) (root current : ℕ) (chain entered name : List ℕ) (go : List ℕ → ℕ → List ℕ → Result (List ℕ) ResolveFault) → GoGoes raws root chain go → IsEntered raws root entered → IsChain raws root chain current → length chain ≤ length entered → Includes raws current name → Goes raws root entered (and_then (target (place_named raws name) name chain entered) (go_to (go name) entered))
unfolding target
use-goes raws root current chain entered name go law so_far held short included = along (place_named raws name) refl
  where
    along : (o : Option ℕ) → place_named raws name ≡ o → Goes raws root entered (and_then (target o name chain entered) (go_to (go name) entered))
    along None named = record { user = current; reached = held.current_reached; includes = included; unnamed = named }
    along (Some place) named =
        let P : Result (Option ℕ) ResolveFault → Type 0 = λ r. Goes raws root entered (and_then r (go_to (go name) entered)) in
        cond_both (holds chain place) _ _ P
        (λ t. record { place = place; user = current; reached = held.reached place t; around = held.leads place t; includes = included; named = named })
        (λ f. cond_both (holds entered place) _ _ P
        (λ t. (so_far, omega arith))
        (λ apart. cond_both (nat_le 65 (length entered)) _ _ P
        (λ t. too-many raws root current chain entered name place so_far held included named apart (leb-true 65 (length entered) t))
        (λ more. law name place entered so_far (chain-push raws root chain current place name held included named) short (leb-false 65 (length entered) more) apart)))

-- the uses of the entry at the end of the chain
uses-go : (raws : List RawEntry) (root current : ℕ) (chain : List ℕ) (go : List ℕ → ℕ → List ℕ → Result (List ℕ) ResolveFault) → GoGoes raws root chain go → IsChain raws root chain current → (names : List (List ℕ)) (entered : List ℕ) → ((name : List ℕ) → Contains names name → Includes raws current name) → IsEntered raws root entered → length chain ≤ length entered → Goes raws root entered (follow_uses go raws chain names entered)
unfolding follow_uses
uses-go raws root current chain go law held [] entered included so_far short = (so_far, omega arith)
uses-go raws root current chain go law held (name ∷ names) entered included so_far short =
    then-goes raws root entered _ (follow_uses go raws chain names)
    (use-goes raws root current chain entered name go law so_far held short (included name (0, omega arith, refl)))
    (λ middle is longer. uses-go raws root current chain go law held names middle (λ n there. included n (suc there.0, omega (arith, there.1), there.2)) is (omega (arith, short, longer)))

enter-goes : (depth : ℕ) (raws : List RawEntry) (root : ℕ) (chain : List ℕ) → length chain + depth ≡ 65 → GoGoes raws root chain (enter depth raws chain)
unfolding enter
enter-goes zero raws root chain deep name place entered so_far held short few apart = absurd (omega (arith, deep, short, few))
enter-goes (suc depth) raws root chain deep name place entered so_far held short few apart =
    let longer : List ℕ = chain ++ place ∷ [] in
    let more : List ℕ = entered ++ place ∷ [] in
    let deeper : length longer + depth ≡ 65 = omega (arith, deep, length-append chain (place ∷ [])) in
    longer-goes raws root entered more _ (omega (arith, length-append entered (place ∷ [])))
    (uses-go raws root place longer (enter depth raws longer) (enter-goes depth raws root longer deeper) held (uses_in (fields_at raws place)) more (λ n there. there)
    (entered-push raws root entered place so_far held.current_reached apart few)
    (omega (arith, short, length-append chain (place ∷ []), length-append entered (place ∷ []))))

-- the resolved entry is entered first
root-goes : (depth : ℕ) (raws : List RawEntry) (root : ℕ) (asked : List ℕ) → depth ≡ 64 → Goes raws root [] (enter (suc depth) raws [] asked root [])
unfolding enter
root-goes depth raws root asked deep =
    let only : (P : ℕ → Type 0) (place : ℕ) → P root → holds (root ∷ []) place ≡ true → P place =
    λ P place is t. one-more-held P [] root place (λ q u. cc) is t in
    longer-goes raws root [] (root ∷ []) _ (omega arith)
    (uses-go raws root root (root ∷ []) (enter depth raws (root ∷ [])) (enter-goes depth raws root (root ∷ []) (omega (arith, deep)))
    (record {
      current_reached = itself;
      reached = λ q t. only (Reaches raws root) q itself t;
      leads = λ q t. only (λ p. Reaches raws p root) q itself t;
    })
    (uses_in (fields_at raws root)) (root ∷ []) (λ n there. there)
    (record { others = []; first = refl; different = (refl, tt); reached = λ q t. only (Reaches raws root) q itself t; few = omega arith })
    (omega arith))

pub faults_from_are_so : FaultsFromAreSo
faults_from_are_so raws root fault fails = subst (Goes raws root []) fails (root-goes 64 raws root (names_at raws root) refl)

pub faults_are_so : FaultsAreSo
unfolding walk_of
faults_are_so raws asked fault is = along (place_named raws asked) is
  where
    along : (o : Option ℕ) → walk_from raws asked o ≡ Err fault → FaultAt raws asked o fault
    along None fails = let same : fault ≡ NoSuchEntry asked = cc in same
    along (Some root) fails = faults_from_are_so raws root fault fails

pub walks_resolve : WalksResolve
unfolding walk_of
walks_resolve raws asked places is = along (place_named raws asked) refl is
  where
    along : (o : Option ℕ) → place_named raws asked ≡ o → walk_from raws asked o ≡ Ok places → (entry : Content) × IsResolved raws asked entry
    along None found walks = cc
    along (Some root) found walks =
        let entry : Content = (take_fields (start (names_at raws root)) (fields_of_all raws places)).entry in
        (entry, record { root = root; found = found; there = resolved_is raws (names_at raws root) places root entry walks refl refl })

not-both : (walk : Result (List ℕ) ResolveFault) (fault : ResolveFault) → IsOk walk → walk ≡ Err fault → ⊥
not-both (Ok places) fault ok is = cc
not-both (Err other) fault ok is = cc

pub answers_once : AnswersOnce
answers_once raws asked (Ok one) (Ok other) is_one is_other a b = ap Ok (Once.resolved_once raws asked one other is_one is_other a.1 b.1)
answers_once raws asked (Ok one) (Err other) is_one is_other a b = absurd (not-both (walk_of raws asked) other a.0 b)
answers_once raws asked (Err one) (Ok other) is_one is_other a b = absurd (not-both (walk_of raws asked) one b.0 a)
answers_once raws asked (Err one) (Err other) is_one is_other a b = ap Err (fault_same (walk_of raws asked) one other a b)
  where
    fault_same : (walk : Result (List ℕ) ResolveFault) (f g : ResolveFault) → walk ≡ Err f → walk ≡ Err g → f ≡ g
    fault_same walk f g is also = cc
