-- The origin of a capability's value has the value of the resolved entry.
use Rattle.std.proofs.Common.{◌≡◌, ℕ, ◌<◌, ◌≤◌, Bool, true, false, List, [], ◌∷◌, Option, Some, None, Ok, refl, sym, ap, subst, ◌∙◌, length, get_or, drop, ◌+◌, arith}
use Rattle.std.specs.Prelude.{⊤, if◌then◌else◌, nat_lt, option_map, slice_get}
use Rattle.std.specs.List.{find, position, position_or_len}
use Rattle.std.specs.Option.{option_or}
use Rattle.std.proofs.lemmas.Bool.{cond_both, eqb-true}
use Rattle.std.proofs.lemmas.Bool.Decides.{nat_tests}
use Rattle.std.proofs.lemmas.List.Folds.{find_at}
use Rattle.std.proofs.lemmas.List.{drop_more}
use Rattle.std.proofs.lemmas.Option.{slice_get-get_or, slice_get_past}
use Rattle.ti_caps.specs.declared.value.Value.{Value}
use Rattle.ti_caps.specs.Entry.{value_at}
use Rattle.ti_source.specs.declared.types.Field.{Field}
use Rattle.ti_source.specs.declared.types.Field.TheVariants.{Set, Cancel, Include}
use Rattle.ti_source.specs.declared.types.RawEntry.{RawEntry}
use Rattle.ti_resolve.specs.declared.origins.Origin.{Origin}
use Rattle.ti_resolve.specs.Origins.{GivesValue, GivesValueAt, IsOriginAt, field_there, first_of, giving, is_set, origin_at, origin_in}
use Rattle.ti_resolve.specs.Resolved.{IsResolvedAt, own_of_all}
use Rattle.ti_resolve.specs.Uses.{place_named, fields_at, names_at, is_about, first_about, value_given}
use Rattle.ti_resolve.specs.Walk.{walk_at}
use Rattle.ti_resolve.proofs.Firsts.{about_at, first_same, own_first}
use Rattle.ti_resolve.proofs.Law.{walk_is_whole}
use Rattle.ti_resolve.proofs.Once.{root_once, whole_at_once}

-- the search from a place on, if nothing is found at the place or something is
pub first_more : {X : Type 0} (found : ℕ → Option X) (places : List ℕ) (i place : ℕ) (all : Option X) → i < length places → place ≡ get_or places i 0 → found place ≡ None → first_of found (drop i places) ≡ all → first_of found (drop (i + 1) places) ≡ all
first_more found places i place all inside is none was =
    ap (λ o. option_or o (first_of found (drop (i + 1) places))) (sym none ∙ ap found is) ∙ (ap (first_of found) (sym (drop_more places i 0 inside)) ∙ was)

pub first_found : {X : Type 0} (found : ℕ → Option X) (places : List ℕ) (i place : ℕ) (x : X) (all : Option X) → i < length places → place ≡ get_or places i 0 → found place ≡ Some x → first_of found (drop i places) ≡ all → Some x ≡ all
first_found found places i place x all inside is some was =
    ap (λ o. option_or o (first_of found (drop (i + 1) places))) (sym some ∙ ap found is) ∙ (ap (first_of found) (sym (drop_more places i 0 inside)) ∙ was)

-- the origin of the value, given the entries that the walk entered
pub origin_there : (raws : List RawEntry) (after : List ℕ) (root cap : ℕ) (origin : Option Origin) → walk_at raws root ≡ Ok after → origin ≡ giving raws (first_of (origin_in raws cap) after) → IsOriginAt raws root cap origin
origin_there raws after root cap origin walked is =
    let whole = walk_is_whole raws 65 root (names_at raws root) after walked in
    record { places = whole.0; whole = whole.1; first = is ∙ ap (giving raws) (first_same (origin_in raws cap) after whole.0 whole.2) }

map_twice : {X Y Z : Type 0} (f : Y → Z) (g : X → Y) (o : Option X) → option_map f (option_map g o) ≡ option_map (λ x. f (g x)) o
map_twice f g None = refl
map_twice f g (Some x) = refl

map_or : {X Y : Type 0} (f : X → Y) (a b : Option X) → option_map f (option_or a b) ≡ option_or (option_map f a) (option_map f b)
map_or f None b = refl
map_or f (Some x) b = refl

less : (n m : ℕ) → nat_lt n m ≡ true → n < m
less n m e = grind (arith, nat_tests)

past : (n m : ℕ) → nat_lt n m ≡ false → m ≤ n
past n m e = grind (arith, nat_tests)

-- the first element that passes is at the first place at which one does
position_find : (test : Field → Bool) (xs : List Field) → option_map (slice_get xs) (position test xs) ≡ option_map Some (find test xs)
position_find test xs =
    let n = position_or_len test xs in
    let P : Option ℕ → Type 0 = λ o. option_map (slice_get xs) o ≡ option_map Some (find test xs) in
    cond_both (nat_lt n (length xs)) (Some n) None P
    (λ t.
    let there : slice_get xs n ≡ Some (get_or xs n (Include [])) = slice_get-get_or xs n (Include []) (less n (length xs) t) in
    ap Some there ∙ sym (ap (option_map Some) (find_at test xs ∙ there)))
    (λ f. sym (ap (option_map Some) (find_at test xs ∙ slice_get_past xs n (past n (length xs) f))))

one_there : (raws : List RawEntry) (cap place : ℕ) → option_map (field_there raws) (origin_in raws cap place) ≡ option_map Some (about_at raws cap place)
unfolding field_there origin_in first_about
one_there raws cap place =
    map_twice (field_there raws) (origin_at place) (position (is_about cap) (fields_at raws place)) ∙ position_find (is_about cap) (fields_at raws place)

all_there : (raws : List RawEntry) (cap : ℕ) (places : List ℕ) → option_map (field_there raws) (first_of (origin_in raws cap) places) ≡ option_map Some (first_of (about_at raws cap) places)
all_there raws cap [] = refl
all_there raws cap (place ∷ places) =
    map_or (field_there raws) (origin_in raws cap place) (first_of (origin_in raws cap) places)
    ∙ (ap (λ o. option_or o (option_map (field_there raws) (first_of (origin_in raws cap) places))) (one_there raws cap place)
    ∙ (ap (option_or (option_map Some (about_at raws cap place))) (all_there raws cap places)
    ∙ sym (map_or Some (about_at raws cap place) (first_of (about_at raws cap) places))))

-- the field found is about the capability
abbrev IsAbout : ℕ → Option Field → Type 0
IsAbout cap None = ⊤
IsAbout cap (Some field) = is_about cap field ≡ true

find_about : (cap : ℕ) (xs : List Field) → IsAbout cap (find (is_about cap) xs)
find_about cap [] = tt
find_about cap (x ∷ xs) = cond_both (is_about cap x) (Some x) (find (is_about cap) xs) (IsAbout cap) (λ t. t) (λ _. find_about cap xs)

or_about : (cap : ℕ) (a b : Option Field) → IsAbout cap a → IsAbout cap b → IsAbout cap (option_or a b)
or_about cap None b h k = k
or_about cap (Some x) b h k = h

at_about : (raws : List RawEntry) (cap place : ℕ) → IsAbout cap (about_at raws cap place)
unfolding first_about
at_about raws cap place = find_about cap (fields_at raws place)

all_about : (raws : List RawEntry) (cap : ℕ) (places : List ℕ) → IsAbout cap (first_of (about_at raws cap) places)
all_about raws cap [] = tt
all_about raws cap (place ∷ places) = or_about cap (about_at raws cap place) (first_of (about_at raws cap) places) (at_about raws cap place) (all_about raws cap places)

abbrev set_to : ℕ → Option Value → Option (Option Field)
set_to cap value = option_map (λ v. Some (Set cap v)) value

field_gives : (cap : ℕ) (origin : Origin) (raws : List RawEntry) (field : Field) → field_there raws origin ≡ Some field → is_about cap field ≡ true → option_map (field_there raws) (if is_set (Some field) then Some origin else None) ≡ set_to cap (value_given (Some field))
field_gives cap origin raws (Set other value) there about = ap Some there ∙ ap (λ c. Some (Some (Set c value))) (eqb-true other cap about)
field_gives cap origin raws (Cancel other) there about = refl
field_gives cap origin raws (Include name) there about = refl

given : (raws : List RawEntry) (cap : ℕ) (origin : Option Origin) (field : Option Field) → option_map (field_there raws) origin ≡ option_map Some field → IsAbout cap field → option_map (field_there raws) (giving raws origin) ≡ set_to cap (value_given field)
given raws cap None None there about = refl
given raws cap None (Some field) there about = cc
given raws cap (Some origin) None there about = cc
given raws cap (Some origin) (Some field) there about =
    let is : field_there raws origin ≡ Some field = cc in
    ap (λ o. option_map (field_there raws) (if is_set o then Some origin else None)) is ∙ field_gives cap origin raws field is about

pub gives_value_at : (raws : List RawEntry) (root cap : ℕ) (origin : Option Origin) → cap < 497 → IsOriginAt raws root cap origin → GivesValueAt raws root cap origin
gives_value_at raws root cap origin inside o entry r =
    let places : o.places ≡ r.places = whole_at_once raws root o.places r.places o.whole r.whole in
    let field = first_of (about_at raws cap) o.places in
    let value : value_at entry cap ≡ value_given field =
    r.values cap inside ∙ (ap (λ ps. value_given (first_about cap (own_of_all raws ps))) (sym places) ∙ ap value_given (own_first raws cap o.places)) in
    ap (option_map (field_there raws)) o.first
    ∙ (given raws cap (first_of (origin_in raws cap) o.places) field (all_there raws cap o.places) (all_about raws cap o.places)
    ∙ ap (set_to cap) (sym value))

-- the value's origin in the entry with a name
pub gives_value : (raws : List RawEntry) (name : List ℕ) (root cap : ℕ) (origin : Option Origin) → place_named raws name ≡ Some root → GivesValueAt raws root cap origin → GivesValue raws name cap origin
gives_value raws name root cap origin found gives entry r = gives entry (subst (λ p. IsResolvedAt raws p entry) (root_once raws name r.root root r.found found) r.there)
