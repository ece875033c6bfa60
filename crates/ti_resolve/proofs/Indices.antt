-- The index has the place of the first entry with each name.
use Rattle.std.proofs.Common.{◌≡◌, ℕ, ◌<◌, ◌≤◌, ◌+◌, Bool, true, false, ◌||◌, cond, List, [], ◌∷◌, ◌++◌, Option, Some, None, length, take, get_or, refl, sym, ap, ◌∙◌, ⊎_elim, arith, IfSome, subst, eqb, length-append, length-take, nat_cmp, not, suc, zero}
use Rattle.std.specs.BTreeMap.{IsEmpty, is_at}
use Rattle.std.specs.Cmp.Lexicographic.{slice_cmp}
use Rattle.std.specs.List.{list_any, position, position_or_len}
use Rattle.std.specs.Map.{lookup, update}
use Rattle.std.specs.Option.{is_some, option_or}
use Rattle.std.specs.Prelude.{nat_lt, slice_get}
use Rattle.std.specs.Str.{bytes_eq}
use Rattle.std.proofs.lemmas.Bool.{cases_Bool, cond-true, cond-false, eqb-false, eqb-true, lt-ltb, ltb-true}
use Rattle.std.proofs.lemmas.List.{take_more}
use Rattle.std.proofs.lemmas.List.Folds.{position_or_len_push}
use Rattle.std.proofs.lemmas.Option.{cond_some, slice_get-get_or}
use Rattle.std.proofs.lemmas.Slice.Eq.{bytes_eq-Decides}
use Rattle.ti_caps.specs.Fits.{names_in}
use Rattle.ti_source.specs.declared.types.RawEntry.{RawEntry}
use Rattle.ti_resolve.specs.Index.{Adds, Places, place_in}
use Rattle.ti_resolve.specs.Uses.{is_name_in, names_at, names_in_entry, place_named}

or-none : (o : Option ℕ) → option_or o None ≡ o
or-none None = refl
or-none (Some x) = refl

abbrev if_so : Bool → ℕ → Option ℕ
if_so b place = cond b (Some place) None

-- a name that had no place so far
pub added : (old new : Places) (own : List ℕ) (place : ℕ) → place_in old own ≡ None → ((name : List ℕ) → place_in new name ≡ update bytes_eq (place_in old) own (Some place) name) → Adds old new (λ asked. bytes_eq own asked) place
added old new own place none is name =
    ⊎_elim
    (λ t.
    let before : place_in old name ≡ None = ap (place_in old) (sym ((bytes_eq-Decides own name).0 t)) ∙ none in
    is name ∙ (cond-true (bytes_eq own name) (Some place) (place_in old name) t ∙ (sym (cond-true (bytes_eq own name) (Some place) None t) ∙ ap (λ o. option_or o (if_so (bytes_eq own name) place)) (sym before))))
    (λ f. is name ∙ (cond-false (bytes_eq own name) (Some place) (place_in old name) f ∙ (sym (or-none (place_in old name)) ∙ ap (option_or (place_in old name)) (sym (cond-false (bytes_eq own name) (Some place) None f)))))
    (cases_Bool (bytes_eq own name))

stays : (o : Option ℕ) (more : Option ℕ) → is_some o ≡ true → o ≡ option_or o more
stays (Some x) more is = refl
stays None more is = cc

-- a name that had a place already
pub kept : (old : Places) (own : List ℕ) (place : ℕ) → is_some (place_in old own) ≡ true → Adds old old (λ asked. bytes_eq own asked) place
kept old own place some name =
    ⊎_elim
    (λ t. stays (place_in old name) _ (ap (λ n. is_some (place_in old n)) (sym ((bytes_eq-Decides own name).0 t)) ∙ some))
    (λ f. sym (or-none (place_in old name)) ∙ ap (option_or (place_in old name)) (sym (cond-false (bytes_eq own name) (Some place) None f)))
    (cases_Bool (bytes_eq own name))

either : (o : Option ℕ) (a b : Bool) (place : ℕ) → option_or (option_or o (if_so a place)) (if_so b place) ≡ option_or o (if_so (a || b) place)
either (Some x) a b place = refl
either None true b place = refl
either None false b place = refl

-- the first of several names, and the others
pub one_more : (old new : Places) (names own rest name : List ℕ) (place : ℕ) → names_in names ≡ own ∷ names_in rest → Adds old new (λ asked. bytes_eq own asked) place → option_or (place_in new name) (if_so (is_name_in rest name) place) ≡ option_or (place_in old name) (if_so (is_name_in names name) place)
one_more old new names own rest name place cut adds =
    ap (λ o. option_or o (if_so (is_name_in rest name) place)) (adds name)
    ∙ (either (place_in old name) (bytes_eq own name) (is_name_in rest name) place
    ∙ ap (λ ns. option_or (place_in old name) (if_so (list_any (λ n. bytes_eq n name) ns) place)) (sym cut))

or-false : (b : Bool) → (b || false) ≡ b
or-false true = refl
or-false false = refl

-- the last name
pub last_one : (old new : Places) (names name : List ℕ) (place : ℕ) → names_in names ≡ names ∷ [] → Adds old new (λ asked. bytes_eq names asked) place → place_in new name ≡ option_or (place_in old name) (if_so (is_name_in names name) place)
last_one old new names name place cut adds =
    adds name
    ∙ ap (λ b. option_or (place_in old name) (if_so b place)) (sym (or-false (bytes_eq names name)) ∙ ap (list_any (λ n. bytes_eq n name)) (sym cut))

pub place_within : (raws : List RawEntry) (name : List ℕ) (place : ℕ) → place_named raws name ≡ Some place → place < length raws
unfolding place_named
place_within raws name place is =
    let test = λ (raw : RawEntry). is_name_in raw.names name in
    let parts = cond_some (nat_lt (position_or_len test raws) (length raws)) (position_or_len test raws) place is in
    subst (λ n. n < length raws) parts.1 (ltb-true _ _ parts.0)

pub none_named : (name : List ℕ) → place_named [] name ≡ None
unfolding place_named
none_named name = refl

pub found_within : (raws : List RawEntry) (name : List ℕ) (o : Option ℕ) → o ≡ place_named raws name → IfSome o (λ place. place < length raws)
found_within raws name None is = tt
found_within raws name (Some place) is = place_within raws name place (sym is)

pub none_of : (o : Option ℕ) → is_some o ≡ false → o ≡ None
none_of None is = refl
none_of (Some x) is = cc

pub empty_index : (places : Places) (name : List ℕ) → IsEmpty places → place_in places name ≡ None
empty_index places name is = ap (lookup (is_at (λ key. slice_cmp nat_cmp name key.now))) is

-- one more entry
pushed : (n m len : ℕ) (b : Bool) → n ≤ len → m ≡ cond (eqb n len) (len + cond b 0 1) n → cond (nat_lt m (len + 1)) (Some m) None ≡ option_or (cond (nat_lt n len) (Some n) None) (if_so b len)
pushed n m len b within is =
    ⊎_elim
    (λ t.
    let last : n ≡ len = eqb-true n len t in
    let new : m ≡ len + cond b 0 1 = is ∙ cond-true (eqb n len) (len + cond b 0 1) n t in
    let old : cond (nat_lt n len) (Some n) None ≡ None = cond-false (nat_lt n len) (Some n) None (ltb_past n len (omega (arith, last))) in
    ap (λ k. cond (nat_lt k (len + 1)) (Some k) None) new ∙ (at_end len b ∙ ap (λ o. option_or o (if_so b len)) (sym old)))
    (λ f.
    let earlier : n < len = omega (arith, eqb-false n len f) in
    let same : m ≡ n = is ∙ cond-false (eqb n len) (len + cond b 0 1) n f in
    let found : cond (nat_lt n len) (Some n) None ≡ Some n = cond-true (nat_lt n len) (Some n) None (lt-ltb n len earlier) in
    ap (λ k. cond (nat_lt k (len + 1)) (Some k) None) same
    ∙ (cond-true (nat_lt n (len + 1)) (Some n) None (lt-ltb n (len + 1) (omega arith)) ∙ ap (λ o. option_or o (if_so b len)) (sym found)))
    (cases_Bool (eqb n len))
  where
    ltb_past : (a c : ℕ) → c ≤ a → nat_lt a c ≡ false
    ltb_past a c past = ⊎_elim (λ t. absurd (omega (arith, ltb-true a c t))) (λ f. f) (cases_Bool (nat_lt a c))

    at_end : (l : ℕ) (passes : Bool) → cond (nat_lt (l + cond passes 0 1) (l + 1)) (Some (l + cond passes 0 1)) None ≡ if_so passes l
    at_end l true = cond-true (nat_lt (l + 0) (l + 1)) (Some (l + 0)) None (lt-ltb (l + 0) (l + 1) (omega arith)) ∙ ap Some (omega arith)
    at_end l false = cond-false (nat_lt (l + 1) (l + 1)) (Some (l + 1)) None (ltb_past (l + 1) (l + 1) (omega arith))

step_within : (b : Bool) (n len : ℕ) → n ≤ len → cond (not b) (1 + n) 0 ≤ suc len
step_within true n len within = omega arith
step_within false n len within = omega arith

position_within : {X : Type 0} (test : X → Bool) (xs : List X) → position_or_len test xs ≤ length xs
position_within test [] = omega arith
position_within test (x ∷ xs) = step_within (test x) (position_or_len test xs) (length xs) (position_within test xs)

position_push : {X : Type 0} (test : X → Bool) (xs : List X) (y : X) → position test (xs ++ y ∷ []) ≡ option_or (position test xs) (if_so (test y) (length xs))
position_push test xs y =
    let more : length (xs ++ y ∷ []) ≡ length xs + 1 = omega (arith, length-append xs (y ∷ [])) in
    ap (λ n. cond (nat_lt (position_or_len test (xs ++ y ∷ [])) n) (Some (position_or_len test (xs ++ y ∷ []))) None) more
    ∙ pushed (position_or_len test xs) _ (length xs) (test y) (position_within test xs) (position_or_len_push test xs y)

entry_at : (raws : List RawEntry) (place : ℕ) → place < length raws → (raw : RawEntry) × (slice_get raws place ≡ Some raw)
entry_at [] place inside = absurd (omega arith)
entry_at (raw ∷ raws) zero inside = (raw, refl)
entry_at (raw ∷ raws) (suc place) inside = entry_at raws place (omega arith)

some_same : (a b : RawEntry) → Some a ≡ Some b → a ≡ b
some_same a b is = cc

pub named_more : (raws : List RawEntry) (place : ℕ) (names name : List ℕ) → place < length raws → names ≡ names_at raws place → place_named (take (place + 1) raws) name ≡ option_or (place_named (take place raws) name) (if_so (is_name_in names name) place)
unfolding place_named names_at
named_more raws place names name inside is =
    let there = entry_at raws place inside in
    let raw = there.0 in
    let item : get_or raws place raw ≡ raw = some_same _ _ (sym (slice_get-get_or raws place raw inside) ∙ there.1) in
    let cut : take (place + 1) raws ≡ take place raws ++ raw ∷ [] = take_more raws place raw inside ∙ ap (λ r. take place raws ++ r ∷ []) item in
    let count : length (take place raws) ≡ place = omega (arith, length-take place raws) in
    let own : raw.names ≡ names = sym (is ∙ ap names_in_entry there.1) in
    ap (position (λ r. is_name_in r.names name)) cut
    ∙ (position_push (λ r. is_name_in r.names name) (take place raws) raw
    ∙ (ap (λ n. option_or (position (λ r. is_name_in r.names name) (take place raws)) (if_so (is_name_in raw.names name) n)) count
    ∙ ap (λ ns. option_or (position (λ r. is_name_in r.names name) (take place raws)) (if_so (is_name_in ns name) place)) own))
