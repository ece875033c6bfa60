-- The walk enters each entry once; the first match among the entered entries is the first in the whole list of
-- entries.
use Rattle.std.proofs.Common.{◌≡◌, ℕ, zero, suc, Bool, List, [], ◌∷◌, ◌++◌, Option, Some, None, true, false, ◌||◌, ◌⊎◌, ◌==◌, Result, Ok, Err, refl, sym, ap, ◌∙◌, subst, inl, inr, ⊎_elim, append_assoc, length}
use Rattle.std.specs.Prelude.{nat_le}
use Rattle.std.specs.List.{find}
use Rattle.std.specs.Option.{option_or}
use Rattle.std.proofs.lemmas.List.{append-nil}
use Rattle.std.proofs.lemmas.List.Folds.{find-append}
use Rattle.std.proofs.lemmas.Bool.{cases_Bool, or_left, or_cases, or_parts, both_ways, eqb-true, cond_both, or_from}
use Rattle.ti_source.specs.declared.types.RawEntry.{RawEntry}
use Rattle.ti_resolve.specs.declared.faults.ResolveFault.{ResolveFault}
use Rattle.ti_resolve.specs.Uses.{place_named, fields_at, uses_in}
use Rattle.ti_resolve.specs.Resolved.{Expands, no_use, one_use, IsWhole}
use Rattle.ti_resolve.specs.Walk.{and_then, enter, follow_uses, go_to, holds, target}

pub holds-append : (xs ys : List ℕ) (q : ℕ) → holds (xs ++ ys) q ≡ (holds xs q || holds ys q)
holds-append [] ys q = refl
holds-append (x ∷ xs) ys q =
    ⊎_elim
    (λ t. or_left (x == q) (holds (xs ++ ys) q) t ∙ sym (or_left (holds (x ∷ xs) q) (holds ys q) (or_left (x == q) (holds xs q) t)))
    (λ f. rw f (holds-append xs ys q))
    (cases_Bool (x == q))

-- one more place
chain_parts : (xs : List ℕ) (place q : ℕ) → holds (xs ++ place ∷ []) q ≡ false → (holds xs q ≡ false) × ((place == q) ≡ false)
chain_parts xs place q apart =
    let both = or_parts (holds xs q) (holds (place ∷ []) q) (sym (holds-append xs (place ∷ []) q) ∙ apart) in
    (both.0, (or_parts (place == q) false both.1).0)

entered_parts : (xs : List ℕ) (place q : ℕ) → holds (xs ++ place ∷ []) q ≡ true → (place == q) ≡ false → holds xs q ≡ true
entered_parts xs place q there apart =
    ⊎_elim
    (λ t. t)
    (λ last. ⊎_elim (λ t. absurd (both_ways (place == q) apart t)) (λ t. cc) (or_cases (place == q) false last))
    (or_cases (holds xs q) (holds (place ∷ []) q) (sym (holds-append xs (place ∷ []) q) ∙ there))

or_else_assoc : {X : Type 0} (a b c : Option X) → option_or (option_or a b) c ≡ option_or a (option_or b c)
or_else_assoc None b c = refl
or_else_assoc (Some x) b c = refl

-- a value that adds nothing to the first adds nothing to both
or_else_both : {X : Type 0} (a b c : Option X) → option_or a c ≡ a → option_or (option_or a b) c ≡ option_or a b
or_else_both None None c none = none
or_else_both None (Some x) c none = refl
or_else_both (Some x) b c none = refl

or_else_twice : {X : Type 0} (a b : Option X) → option_or (option_or a b) b ≡ option_or a b
or_else_twice None None = refl
or_else_twice None (Some x) = refl
or_else_twice (Some x) b = refl

-- all that a finished entry uses is among the entered entries: no test finds more in it
record Closed (raws : List RawEntry) (entered : List ℕ) (place : ℕ) : Type 0 where
  used : List ℕ
  expands : Expands raws (uses_in (fields_at raws place)) used
  covered : (q : ℕ → Bool) → find q (entered ++ (place ∷ used)) ≡ find q entered

abbrev IsClosed : List RawEntry → List ℕ → List ℕ → Type 0
IsClosed raws chain entered = (place : ℕ) → holds entered place ≡ true → holds chain place ≡ false → Closed raws entered place

-- the walk of the entry at this place adds the places after to those before
record Went (raws : List RawEntry) (chain : List ℕ) (place : ℕ) (before after : List ℕ) : Type 0 where
  used : List ℕ
  expands : Expands raws (uses_in (fields_at raws place)) used
  same : (q : ℕ → Bool) → find q (before ++ (place ∷ used)) ≡ find q after
  closed : IsClosed raws chain after

-- following these uses adds the places after to those before
record Followed (raws : List RawEntry) (chain : List ℕ) (names : List (List ℕ)) (before after : List ℕ) : Type 0 where
  used : List ℕ
  expands : Expands raws names used
  same : (q : ℕ → Bool) → find q (before ++ used) ≡ find q after
  closed : IsClosed raws chain after

bind_ok : {X Y : Type 0} (first : Result X ResolveFault) (next : X → Result Y ResolveFault) (y : Y) → and_then first next ≡ Ok y → (x : X) × (first ≡ Ok x) × (next x ≡ Ok y)
bind_ok (Ok x) next y is = (x, refl, is)
bind_ok (Err fault) next y is = cc

-- the entry to which a use led
abbrev Led : Option ℕ → List ℕ → List ℕ → Option ℕ → Type 0
Led found chain entered to = (place : ℕ) × (found ≡ Some place) × (((to ≡ None) × (holds chain place ≡ false) × (holds entered place ≡ true)) ⊎ (to ≡ Some place))

target_ok : (found : Option ℕ) (name chain entered : List ℕ) (to : Option ℕ) → target found name chain entered ≡ Ok to → Led found chain entered to
unfolding target
target_ok None name chain entered to is = cc
target_ok (Some place) name chain entered to is =
    let P : Result (Option ℕ) ResolveFault → Type 0 = λ r. r ≡ Ok to → Led (Some place) chain entered to in
    cond_both (holds chain place) _ _ P
    (λ t e. cc)
    (λ f. cond_both (holds entered place) _ _ P
    (λ t e. let none : to ≡ None = cc in (place, refl, inl (none, f, t)))
    (λ g. cond_both (nat_le 65 (length entered)) _ _ P (λ t e. cc) (λ h e. let some : to ≡ Some place = cc in (place, refl, inr some))))
    is

-- entering the entry to which a use leads is walking it
abbrev GoLaw : List RawEntry → List ℕ → (List ℕ → ℕ → List ℕ → Result (List ℕ) ResolveFault) → Type 0
GoLaw raws chain go = (name : List ℕ) (place : ℕ) (before after : List ℕ) → IsClosed raws chain before → go name place before ≡ Ok after → Went raws chain place before after

-- a use that leads to a finished entry changes nothing; otherwise that entry is walked
use_law : (raws : List RawEntry) (chain : List ℕ) (go : List ℕ → ℕ → List ℕ → Result (List ℕ) ResolveFault) → GoLaw raws chain go → (name : List ℕ) (place : ℕ) (before after : List ℕ) (to : Option ℕ) → IsClosed raws chain before → ((to ≡ None) × (holds chain place ≡ false) × (holds before place ≡ true)) ⊎ (to ≡ Some place) → go_to (go name) before to ≡ Ok after → Went raws chain place before after
use_law raws chain go law name place before after to closed led goes =
    ⊎_elim
    (λ done.
    let same : before ≡ after = let stays : go_to (go name) before None ≡ Ok after = subst (λ t. go_to (go name) before t ≡ Ok after) done.0 goes in cc in
    let held = closed place done.2 done.1 in
    subst (Went raws chain place before) same (record { used = held.used; expands = held.expands; same = held.covered; closed = closed }))
    (λ new. law name place before after closed (subst (λ t. go_to (go name) before t ≡ Ok after) new goes))
    led

follow_law : (raws : List RawEntry) (chain : List ℕ) (go : List ℕ → ℕ → List ℕ → Result (List ℕ) ResolveFault) → GoLaw raws chain go → (names : List (List ℕ)) (before after : List ℕ) → IsClosed raws chain before → follow_uses go raws chain names before ≡ Ok after → Followed raws chain names before after
unfolding follow_uses
follow_law raws chain go law [] before after closed is =
    let same : before ≡ after = cc in
    subst (Followed raws chain [] before) same (record { used = []; expands = no_use; same = λ q. ap (find q) (append-nil before); closed = closed })
follow_law raws chain go law (name ∷ names) before after closed is =
    let outer = bind_ok (and_then (target (place_named raws name) name chain before) (go_to (go name) before)) (follow_uses go raws chain names) after is in
    let middle = outer.0 in
    let inner = bind_ok (target (place_named raws name) name chain before) (go_to (go name) before) middle outer.1 in
    let led = target_ok (place_named raws name) name chain before inner.0 inner.1 in
    let went = use_law raws chain go law name led.0 before middle inner.0 closed led.2 inner.2 in
    let rest = follow_law raws chain go law names middle after went.closed outer.2 in
    let here = led.0 ∷ went.used in
    record {
      used = here ++ rest.used;
      expands = one_use name names led.0 went.used rest.used led.1 went.expands rest.expands;
      same = λ q.
          ap (find q) (sym (append_assoc before here rest.used))
          ∙ (find-append q (before ++ here) rest.used
          ∙ (ap (λ o. option_or o (find q rest.used)) (went.same q)
          ∙ (sym (find-append q middle rest.used) ∙ rest.same q)));
      closed = rest.closed;
    }

-- entering more entries keeps a finished one finished
closed_grows : (raws : List RawEntry) (entered : List ℕ) (last place : ℕ) → Closed raws entered place → Closed raws (entered ++ last ∷ []) place
closed_grows raws entered last place held = record {
  used = held.used;
  expands = held.expands;
  covered = λ q.
      let whole = place ∷ held.used in
      let a = find q entered in
      let grown : find q (entered ++ last ∷ []) ≡ option_or a (find q (last ∷ [])) = find-append q entered (last ∷ []) in
      let adds_none : option_or a (find q whole) ≡ a = sym (find-append q entered whole) ∙ held.covered q in
      find-append q (entered ++ last ∷ []) whole
      ∙ (ap (λ o. option_or o (find q whole)) grown
      ∙ (or_else_both a (find q (last ∷ [])) (find q whole) adds_none ∙ sym grown));
}

-- following the uses of an entry is walking it
went_from : (raws : List RawEntry) (chain : List ℕ) (place : ℕ) (before after : List ℕ) → Followed raws (chain ++ place ∷ []) (uses_in (fields_at raws place)) (before ++ place ∷ []) after → Went raws chain place before after
went_from raws chain place before after done =
    let whole = place ∷ done.used in
    let after_is : (q : ℕ → Bool) → find q after ≡ option_or (find q before) (find q whole) =
    λ q. sym (done.same q)
    ∙ (find-append q (before ++ place ∷ []) done.used
    ∙ (ap (λ o. option_or o (find q done.used)) (find-append q before (place ∷ []))
    ∙ (or_else_assoc (find q before) (find q (place ∷ [])) (find q done.used)
    ∙ ap (option_or (find q before)) (sym (find-append q (place ∷ []) done.used))))) in
    record {
      used = done.used;
      expands = done.expands;
      same = λ q. find-append q before whole ∙ sym (after_is q);
      closed = λ other there apart. ⊎_elim
          (λ t.
          let same : place ≡ other = eqb-true place other t in
          subst (Closed raws after) same (record {
            used = done.used;
            expands = done.expands;
            covered = λ q.
                find-append q after whole
                ∙ (ap (λ o. option_or o (find q whole)) (after_is q)
                ∙ (or_else_twice (find q before) (find q whole) ∙ sym (after_is q)));
          }))
          (λ f. done.closed other there (holds-append chain (place ∷ []) other ∙ or_from (holds chain other) (holds (place ∷ []) other) apart (or_from (place == other) false f refl)))
          (cases_Bool (place == other));
    }

enter_law : (depth : ℕ) (raws : List RawEntry) (chain : List ℕ) → GoLaw raws chain (enter depth raws chain)
unfolding enter
enter_law zero raws chain name place before after closed is = cc
enter_law (suc depth) raws chain name place before after closed is =
    let longer : List ℕ = chain ++ place ∷ [] in
    let still : IsClosed raws longer (before ++ place ∷ []) =
    λ q there apart.
    let parts = chain_parts chain place q apart in
    closed_grows raws before place q (closed q (entered_parts before place q there parts.1) parts.0) in
    went_from raws chain place before after (follow_law raws longer (enter depth raws longer) (enter_law depth raws longer) (uses_in (fields_at raws place)) (before ++ place ∷ []) after still is)

-- each test finds the same first entry among the entered ones as in the whole list
pub walk_is_whole : (raws : List RawEntry) (depth root : ℕ) (name after : List ℕ) → enter depth raws [] name root [] ≡ Ok after → (places : List ℕ) × IsWhole raws root places × ((q : ℕ → Bool) → find q after ≡ find q places)
walk_is_whole raws depth root name after is =
    let none : IsClosed raws [] [] = λ q there apart. absurd (both_ways false refl there) in
    let went = enter_law depth raws [] name root [] after none is in
    (root ∷ went.used, record { used = went.used; expands = went.expands; whole = refl }, λ q. sym (went.same q))
