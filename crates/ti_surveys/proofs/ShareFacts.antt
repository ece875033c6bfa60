-- The index of faults that are the same: one fault more, and what it says of a fault among others.
use Rattle.std.proofs.Common.{◌≡◌, ◌≢◌, ◌∙◌, ◌<◌, ◌+◌, ◌++◌, ◌&&◌, ◌||◌, ◌==◌, ℕ, Bool, true, false, cond, List, [], ◌∷◌, Option, Some, None, IfSome, append_assoc, ap, arith, codes, drop, get_or, length, map, option_map, refl, rules, subst, suc, sym, take, zero, ⊎_elim}
use Rattle.std.specs.BTreeMap.{BTreeMap, get_by, is_at}
use Rattle.std.specs.Cmp.Lexicographic.{slice_cmp}
use Rattle.std.specs.List.{flat_map, list_any}
use Rattle.std.specs.Ordering.{is_eq, nat_cmp, ordering_then}
use Rattle.std.specs.Str.{bytes_eq}
use Rattle.std.specs.declared.cmp.Ordering.{Ordering}
use Rattle.std.specs.declared.cmp.Ordering.TheVariants.{Less, Equal, Greater}
use Rattle.std.proofs.lemmas.Bool.{cases_Bool, cond-true, cond-false}
use Rattle.std.proofs.lemmas.List.{drop_more, length-map, length-take-le, map-append, take-append-drop, take_more}
use Rattle.std.proofs.lemmas.Map.Text.{is_eq-slice_cmp}
use Rattle.std.proofs.lemmas.Slice.Eq.{bytes_eq-Decides}
use Rattle.ti_surveys.specs.Places.{fault_lines, is_same, lines_unless, name_if_same, names_line}
use Rattle.ti_surveys.specs.Shares.{AddsFault, HasShares, Key, Shared, asked_by, key_cmp, lines_if, lines_with, names_behind, names_if, share_at, shared_from, shared_in, with_name}
use Rattle.ti_surveys.specs.declared.shares.Share.{Share}
use Rattle.ti_verdicts.specs.Locations.{PlacedText, placed_in}
use Rattle.ti_verdicts.specs.declared.locations.PlacedFault.{PlacedFault}

-- ---- keys that are the same

both_eq : (a b : Ordering) → is_eq (ordering_then a b) ≡ (is_eq a && is_eq b)
both_eq Less b = refl
both_eq Equal b = refl
both_eq Greater b = refl

and_parts : (a b : Bool) → (a && b) ≡ true → (a ≡ true) × (b ≡ true)
and_parts true true is = (refl, refl)
and_parts true false is = cc
and_parts false b is = cc

bytes_same : (xs ys : List ℕ) → bytes_eq xs ys ≡ bytes_eq ys xs
bytes_same xs ys =
    ⊎_elim
    (λ t. t ∙ sym ((bytes_eq-Decides ys xs).1 (sym ((bytes_eq-Decides xs ys).0 t))))
    (λ f. ⊎_elim (λ t. absurd (cc (f, (bytes_eq-Decides xs ys).1 (sym ((bytes_eq-Decides ys xs).0 t))))) (λ g. f ∙ sym g) (cases_Bool (bytes_eq ys xs)))
    (cases_Bool (bytes_eq xs ys))

-- the test of a fault's key is whether it is the same fault
key_test : (own key : Key) (fault : PlacedText) → own.0.now ≡ fault.place → own.1.now ≡ fault.fault → is_at (key_cmp own) key ≡ is_same (asked_by key) fault
unfolding is_same
key_test own key fault place text =
    both_eq (slice_cmp nat_cmp own.0.now key.0.now) (slice_cmp nat_cmp own.1.now key.1.now)
    ∙ (ap (λ b. b && is_eq (slice_cmp nat_cmp own.1.now key.1.now)) (is_eq-slice_cmp own.0.now key.0.now ∙ (ap (λ t. bytes_eq t key.0.now) place ∙ bytes_same fault.place key.0.now))
    ∙ ap (λ b. bytes_eq key.0.now fault.place && b) (is_eq-slice_cmp own.1.now key.1.now ∙ (ap (λ t. bytes_eq t key.1.now) text ∙ bytes_same fault.fault key.1.now)))

-- what an index has at these bytes
at_bytes : BTreeMap Key Share → List ℕ → List ℕ → Option Share
at_bytes found place text = get_by (λ k. ordering_then (slice_cmp nat_cmp place k.0.now) (slice_cmp nat_cmp text k.1.now)) found

-- an index has the same at keys that are the same
same_share : (found : BTreeMap Key Share) (own key : Key) (fault : PlacedText) → own.0.now ≡ fault.place → own.1.now ≡ fault.fault → is_same (asked_by key) fault ≡ true → share_at found own ≡ share_at found key
unfolding is_same at_bytes
same_share found own key fault place text is =
    let parts = and_parts _ _ is in
    let first : own.0.now ≡ key.0.now = place ∙ sym ((bytes_eq-Decides key.0.now fault.place).0 parts.0) in
    let second : own.1.now ≡ key.1.now = text ∙ sym ((bytes_eq-Decides key.1.now fault.fault).0 parts.1) in
    ap (λ t. option_map shared_in (at_bytes found t own.1.now)) first ∙ ap (λ t. option_map shared_in (at_bytes found key.0.now t)) second

-- the share of a fault was taken out, and stands there again with one fault more
pub added : (old mid new : BTreeMap Key Share) (own : Key) (fault : PlacedText) (share : Share) (number : ℕ) → own.0.now ≡ fault.place → own.1.now ≡ fault.fault
    → ((key : Key) → get_by (key_cmp key) mid ≡ cond (is_at (key_cmp own) key) None (get_by (key_cmp key) old))
    → ((key : Key) → get_by (key_cmp key) new ≡ cond (is_at (key_cmp own) key) (Some share) (get_by (key_cmp key) mid))
    → shared_in share ≡ with_name number fault.name (share_at old own)
    → AddsFault old new number fault
added old mid new own fault share number place text without with_share is key =
    let test = key_test own key fault place text in
    ⊎_elim
    (λ t.
    ap (option_map shared_in) (with_share key ∙ cond-true _ (Some share) _ (test ∙ t))
    ∙ (ap Some (is ∙ ap (with_name number fault.name) (same_share old own key fault place text t))
    ∙ sym (cond-true (is_same (asked_by key) fault) (Some (with_name number fault.name (share_at old key))) (share_at old key) t)))
    (λ f.
    ap (option_map shared_in) (with_share key ∙ (cond-false _ (Some share) _ (test ∙ f) ∙ (without key ∙ cond-false _ None _ (test ∙ f))))
    ∙ sym (cond-false (is_same (asked_by key) fault) (Some (with_name number fault.name (share_at old key))) (share_at old key) f))
    (cases_Bool (is_same (asked_by key) fault))

-- ---- one fault more

names_more : (asked : PlacedText) (faults : List PlacedText) (fault : PlacedText) → flat_map (name_if_same asked) (faults ++ fault ∷ []) ≡ flat_map (name_if_same asked) faults ++ name_if_same asked fault
names_more asked [] fault = search rules
names_more asked (x ∷ faults) fault = ap (λ t. name_if_same asked x ++ t) (names_more asked faults fault) ∙ sym (append_assoc (name_if_same asked x) (flat_map (name_if_same asked) faults) (name_if_same asked fault))

-- where one of the faults is the same, and where none is
abbrev some_share : ℕ → List ℕ → Option Shared
some_share number names = Some (record { first = number; names = names })

name_or_none : (b : Bool) (number : ℕ) (names more : List ℕ) → some_share number (names ++ cond b more []) ≡ cond b (some_share number (names ++ more)) (some_share number names)
name_or_none true number names more = refl
name_or_none false number names more = ap (some_share number) (search rules)

shared_more : (number : ℕ) (asked : PlacedText) (faults : List PlacedText) (fault : PlacedText) → shared_from number asked (faults ++ fault ∷ [])
    ≡ cond (is_same asked fault) (Some (with_name (number + length faults) fault.name (shared_from number asked faults))) (shared_from number asked faults)
shared_more number asked [] fault = ap (λ n. cond (is_same asked fault) (Some (record { first = n; names = [] })) None) (omega arith)
shared_more number asked (x ∷ faults) fault =
    ⊎_elim
    (λ t.
    cond-true (is_same asked x) (Some (record { first = number; names = flat_map (name_if_same asked) (faults ++ fault ∷ []) })) (shared_from (number + 1) asked (faults ++ fault ∷ [])) t
    ∙ (ap (λ names. Some (record { first = number; names = names })) (names_more asked faults fault)
    ∙ (name_or_none (is_same asked fault) number (flat_map (name_if_same asked) faults) (codes ", " ++ fault.name)
    ∙ ap (λ (old : Option Shared). cond (is_same asked fault) (Some (with_name (number + suc (length faults)) fault.name old)) old)
    (sym (cond-true (is_same asked x) (Some (record { first = number; names = flat_map (name_if_same asked) faults })) (shared_from (number + 1) asked faults) t)))))
    (λ f.
    cond-false (is_same asked x) (Some (record { first = number; names = flat_map (name_if_same asked) (faults ++ fault ∷ []) })) (shared_from (number + 1) asked (faults ++ fault ∷ [])) f
    ∙ (shared_more (number + 1) asked faults fault
    ∙ (ap (λ n. cond (is_same asked fault) (Some (with_name n fault.name (shared_from (number + 1) asked faults))) (shared_from (number + 1) asked faults)) (omega arith)
    ∙ ap (λ (old : Option Shared). cond (is_same asked fault) (Some (with_name (number + suc (length faults)) fault.name old)) old)
    (sym (cond-false (is_same asked x) (Some (record { first = number; names = flat_map (name_if_same asked) faults })) (shared_from (number + 1) asked faults) f)))))
    (cases_Bool (is_same asked x))

count_of : (faults : List PlacedFault) (n : ℕ) → n < length faults → n ≡ 0 + length (map placed_in (take n faults))
count_of faults n l = omega (arith, length-map (take n faults) placed_in, length-take-le n faults (omega (arith, l)))

placed_more : (faults : List PlacedFault) (n : ℕ) (fault : PlacedFault) → n < length faults → fault ≡ get_or faults n fault → map placed_in (take (n + 1) faults) ≡ map placed_in (take n faults) ++ placed_in fault ∷ []
placed_more faults n fault l is =
    ap (map placed_in) (take_more faults n fault l)
    ∙ (ap (λ x. map placed_in (take n faults ++ x ∷ [])) (sym is) ∙ map-append placed_in (take n faults) (fault ∷ []))

-- the index of the first faults, and of one more
pub indexed_more : (faults : List PlacedFault) (n : ℕ) (fault : PlacedFault) (old new : BTreeMap Key Share) → n < length faults → fault ≡ get_or faults n fault
    → AddsFault old new n (placed_in fault) → HasShares (map placed_in (take n faults)) old → HasShares (map placed_in (take (n + 1) faults)) new
indexed_more faults n fault old new l is adds was key =
    adds key
    ∙ (ap (λ (shared : Option Shared). cond (is_same (asked_by key) (placed_in fault)) (Some (with_name n fault.name.items shared)) shared) (was key)
    ∙ (ap (λ m. cond (is_same (asked_by key) (placed_in fault)) (Some (with_name m fault.name.items (shared_from 0 (asked_by key) (map placed_in (take n faults))))) (shared_from 0 (asked_by key) (map placed_in (take n faults)))) (count_of faults n l)
    ∙ (sym (shared_more 0 (asked_by key) (map placed_in (take n faults)) (placed_in fault)) ∙ ap (shared_from 0 (asked_by key)) (sym (placed_more faults n fault l is)))))

-- ---- a fault among others

-- behind faults that aren't the same
found_first : (number : ℕ) (asked fault : PlacedText) (before others : List PlacedText) → is_same asked fault ≡ true → list_any (is_same asked) before ≡ false
    → shared_from number asked (before ++ fault ∷ others) ≡ Some (record { first = number + length before; names = flat_map (name_if_same asked) others })
found_first number asked fault [] others is none = cond-true (is_same asked fault) _ _ is ∙ ap (λ n. Some (record { first = n; names = flat_map (name_if_same asked) others })) (omega arith)
found_first number asked fault (x ∷ before) others is none =
    let parts = or_parts (is_same asked x) (list_any (is_same asked) before) none in
    cond-false (is_same asked x) _ _ parts.0
    ∙ (found_first (number + 1) asked fault before others is parts.1 ∙ ap (λ n. Some (record { first = n; names = flat_map (name_if_same asked) others })) (omega arith))
  where
    or_parts : (a b : Bool) → (a || b) ≡ false → (a ≡ false) × (b ≡ false)
    or_parts true b is = cc
    or_parts false b is = (refl, is)

-- behind one that is the same
found_earlier : (number : ℕ) (asked : PlacedText) (before others : List PlacedText) (shared : Shared) → list_any (is_same asked) before ≡ true → shared_from number asked (before ++ others) ≡ Some shared → shared.first < number + length before
found_earlier number asked [] others shared any is = cc
found_earlier number asked (x ∷ before) others shared any is =
    ⊎_elim
    (λ t. first_is number (length before) shared (sym (cond-true (is_same asked x) _ _ t) ∙ is))
    (λ f.
    let later = found_earlier (number + 1) asked before others shared (sym (ap (λ b. b || list_any (is_same asked) before) f) ∙ any) (sym (cond-false (is_same asked x) _ _ f) ∙ is) in
    omega (arith, later))
    (cases_Bool (is_same asked x))
  where
    first_is : (number count : ℕ) {names : List ℕ} (shared : Shared) → Some (record { first = number; names = names }) ≡ Some shared → shared.first < number + suc count
    first_is number count shared is = omega (arith, ap first_of is)
      where
        first_of : Option Shared → ℕ
        first_of None = 0
        first_of (Some s) = s.first

-- a fault without its entry's name
pub stands : PlacedText → PlacedText
stands fault = record { place = fault.place; name = []; fault = fault.fault }

-- the number is that of the fault, so it stands first
one_names : (found : Option Shared) (number : ℕ) (names : List ℕ) → found ≡ Some (record { first = number; names = names }) → names_if found number ≡ Some names
one_names found number names is = ap (λ f. names_if f number) is ∙ cond-true (number == number) (Some names) None (same_number number)
  where
    same_number : (n : ℕ) → (n == n) ≡ true
    same_number n = search arith

no_names : (found : Option Shared) (number : ℕ) → IfSome found (λ shared. shared.first < number) → names_if found number ≡ None
no_names None number less = refl
no_names (Some shared) number less = cond-false (shared.first == number) (Some shared.names) None (other_number shared.first number less)
  where
    other_number : (a b : ℕ) → a < b → (a == b) ≡ false
    other_number a b less = search arith

if_earlier : (number : ℕ) (asked : PlacedText) (before others : List PlacedText) (found : Option Shared) → list_any (is_same asked) before ≡ true → found ≡ shared_from number asked (before ++ others) → IfSome found (λ shared. shared.first < number + length before)
if_earlier number asked before others None any is = tt
if_earlier number asked before others (Some shared) any is = found_earlier number asked before others shared any (sym is)

pub names_are : (before others : List PlacedText) (fault : PlacedText) (found : Option Shared) (number : ℕ) → found ≡ shared_from 0 (stands fault) (before ++ fault ∷ others) → number ≡ 0 + length before → names_if found number ≡ names_behind before fault others
unfolding is_same stands
names_are before others fault found number is count =
    ⊎_elim
    (λ t.
    no_names found number (subst (λ n. IfSome found (λ shared. shared.first < n)) (sym count) (if_earlier 0 (stands fault) before (fault ∷ others) found t is))
    ∙ sym (cond-true (list_any (is_same fault) before) None (Some (flat_map (name_if_same fault) others)) t))
    (λ f.
    one_names found number _ (is ∙ (found_first 0 (stands fault) fault before others (itself fault) f ∙ ap (λ n. Some (record { first = n; names = flat_map (name_if_same (stands fault)) others })) (sym count)))
    ∙ sym (cond-false (list_any (is_same fault) before) None (Some (flat_map (name_if_same fault) others)) f))
    (cases_Bool (list_any (is_same fault) before))
  where
    itself : (fault : PlacedText) → is_same (stands fault) fault ≡ true
    itself fault = ap (λ b. b && bytes_eq fault.fault fault.fault) ((bytes_eq-Decides fault.place fault.place).1 refl) ∙ (bytes_eq-Decides fault.fault fault.fault).1 refl

-- a number within the faults has one fault
pub one_fault : {X : Type 0} (xs : List X) (n : ℕ) (x y : X) → n < length xs → x ≡ get_or xs n x → y ≡ get_or xs n y → x ≡ y
one_fault [] n x y l is other = absurd (omega (arith, l))
one_fault (z ∷ xs) zero x y l is other = is ∙ sym other
one_fault (z ∷ xs) (suc n) x y l is other = one_fault xs n x y (omega (arith, l)) is other

-- the names behind the fault with a number, by the index
pub names_at : (faults : List PlacedFault) (number : ℕ) (found : BTreeMap Key Share) (key : Key) (fault : PlacedFault) → number < length faults → fault ≡ get_or faults number fault
    → key.0.now ≡ fault.place.items → key.1.now ≡ fault.fault.items → HasShares (map placed_in faults) found
    → names_if (share_at found key) number ≡ names_behind (map placed_in (take number faults)) (placed_in fault) (map placed_in (drop (number + 1) faults))
unfolding stands
names_at faults number found key fault l is place text indexed =
    names_are (map placed_in (take number faults)) (map placed_in (drop (number + 1) faults)) (placed_in fault) (share_at found key) number
    (indexed key
    ∙ (ap (λ p. shared_from 0 (record { place = p; name = []; fault = key.1.now }) (map placed_in faults)) place
    ∙ (ap (λ t. shared_from 0 (record { place = fault.place.items; name = []; fault = t }) (map placed_in faults)) text
    ∙ ap (shared_from 0 (stands (placed_in fault))) whole)))
    (count_of faults number l)
  where
    whole : map placed_in faults ≡ map placed_in (take number faults) ++ placed_in fault ∷ map placed_in (drop (number + 1) faults)
    whole =
        ap (map placed_in) (sym (take-append-drop number faults))
        ∙ (map-append placed_in (take number faults) (drop number faults)
        ∙ ap (λ xs. map placed_in (take number faults) ++ map placed_in xs) (drop_more faults number fault l ∙ ap (λ x. x ∷ drop (number + 1) faults) (sym is)))

-- ---- the lines of a fault

said_with : (fault : PlacedText) (others : List PlacedText) → lines_with fault (flat_map (name_if_same fault) others) ≡ fault_lines fault others
unfolding fault_lines names_line
said_with fault others =
    ⊎_elim
    (λ t. some_names (flat_map (name_if_same fault) others) (has_names fault others t)
    ∙ sym (ap (λ line. fault.place ++ (fault.name ++ (fault.fault ++ line))) (cond-true (list_any (is_same fault) others) (codes "    in " ++ (fault.name ++ (flat_map (name_if_same fault) others ++ 10 ∷ []))) [] t)))
    (λ f. ap (lines_with fault) (lacks_names fault others f)
    ∙ (search rules ∙ sym (ap (λ line. fault.place ++ (fault.name ++ (fault.fault ++ line))) (cond-false (list_any (is_same fault) others) (codes "    in " ++ (fault.name ++ (flat_map (name_if_same fault) others ++ 10 ∷ []))) [] f))))
    (cases_Bool (list_any (is_same fault) others))
  where
    some_names : (names : List ℕ) → names ≢ [] → lines_with fault names ≡ fault.place ++ (fault.name ++ (fault.fault ++ (codes "    in " ++ (fault.name ++ (names ++ 10 ∷ [])))))
    some_names [] has = absurd (has refl)
    some_names (byte ∷ names) has = refl

    not_empty : (b : Bool) (more rest : List ℕ) → b ≡ true → cond b (codes ", " ++ more) [] ++ rest ≢ []
    not_empty true more rest is = λ e. cc e
    not_empty false more rest is = cc is

    behind_empty : (b : Bool) (more rest : List ℕ) → b ≡ false → rest ≢ [] → cond b (codes ", " ++ more) [] ++ rest ≢ []
    behind_empty true more rest is has = cc is
    behind_empty false more rest is has = has

    has_names : (fault : PlacedText) (others : List PlacedText) → list_any (is_same fault) others ≡ true → flat_map (name_if_same fault) others ≢ []
    has_names fault [] any = cc any
    has_names fault (x ∷ others) any =
        ⊎_elim
        (λ t. not_empty (is_same fault x) x.name (flat_map (name_if_same fault) others) t)
        (λ f. behind_empty (is_same fault x) x.name (flat_map (name_if_same fault) others) f (has_names fault others (sym (ap (λ b. b || list_any (is_same fault) others) f) ∙ any)))
        (cases_Bool (is_same fault x))

    both_false : (a b : Bool) → (a || b) ≡ false → (a ≡ false) × (b ≡ false)
    both_false true b is = cc is
    both_false false b is = (refl, is)

    lacks_names : (fault : PlacedText) (others : List PlacedText) → list_any (is_same fault) others ≡ false → flat_map (name_if_same fault) others ≡ []
    lacks_names fault [] none = refl
    lacks_names fault (x ∷ others) none =
        let parts = both_false (is_same fault x) (list_any (is_same fault) others) none in
        ap (λ b. cond b (codes ", " ++ x.name) [] ++ flat_map (name_if_same fault) others) parts.0 ∙ lacks_names fault others parts.1

-- by the names that the index has
pub lines_said : (before others : List PlacedText) (fault : PlacedText) (names : Option (List ℕ)) → names ≡ names_behind before fault others → lines_if fault names ≡ lines_unless before fault others
lines_said before others fault names is =
    ap (lines_if fault) is
    ∙ ⊎_elim
    (λ t. ap (lines_if fault) (cond-true (list_any (is_same fault) before) None (Some (flat_map (name_if_same fault) others)) t) ∙ sym (cond-true (list_any (is_same fault) before) [] (fault_lines fault others) t))
    (λ f. ap (lines_if fault) (cond-false (list_any (is_same fault) before) None (Some (flat_map (name_if_same fault) others)) f)
    ∙ (said_with fault others ∙ sym (cond-false (list_any (is_same fault) before) [] (fault_lines fault others) f)))
    (cases_Bool (list_any (is_same fault) before))
