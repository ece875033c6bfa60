-- The values of an entry in the sections of a file, capability by capability.
use Rattle.std.proofs.Common.{◌≡◌, ℕ, ◌+◌, ◌-◌, ◌<◌, ◌≤◌, zero, suc, Bool, true, false, List, [], ◌∷◌, ◌++◌, length, get_or, drop, replicate, refl, ap, sym, ◌∙◌, arith, Option, Some, None, nat_lt, nat_eq, subst}
use Rattle.std.specs.Prelude.{slice_get, option_and_then, map, if◌then◌else◌}
use Rattle.std.proofs.lemmas.Bool.Decides.{nat_tests}
use Rattle.std.proofs.lemmas.List.{get_or-take, get_or_past, get_or_append_left, get_or-append_right, length-append, length-take, length-replicate}
use Rattle.ti_caps.specs.declared.types.Kind.{Kind}
use Rattle.ti_caps.specs.declared.types.Kind.TheVariants as kinds
use Rattle.ti_caps.specs.declared.value.Value.{Value}
use Rattle.ti_caps.specs.declared.value.Value.TheVariants as values
use Rattle.ti_caps.specs.Table.{kind_of, position_of, first_of}
use Rattle.ti_caps.specs.Entry.{Content, value_at, has_flag, number_in, string_in, flag_at, number_at, string_at}
use Rattle.ti_compiled.specs.Layout.{Parts, half, numbers_in, words}
use Rattle.ti_compiled.specs.Contents.{filled, rows_of, entry_of, value_of, flag_value, number_value, string_value, flag_values, number_values, string_values, before_nul}

abbrev nothing : Option Value
nothing = None

nones : (count i : ℕ) → get_or (replicate count nothing) i None ≡ None
nones zero i = refl
nones (suc count) zero = refl
nones (suc count) (suc i) = nones count i

mapped_at : (f : ℕ → Option Value) (count : ℕ) (xs : List ℕ) (i : ℕ) → get_or (map f xs ++ replicate count None) i None ≡ option_and_then f (slice_get xs i)
mapped_at f count [] i = nones count i
mapped_at f count (x ∷ xs) zero = refl
mapped_at f count (x ∷ xs) (suc i) = mapped_at f count xs i

-- a row has the value at its index
pub filled_at : (f : ℕ → Option Value) (count : ℕ) (xs : List ℕ) (i : ℕ) → i < count → get_or (filled count (map f xs)) i None ≡ option_and_then f (slice_get xs i)
filled_at f count xs i h = get_or-take count (map f xs ++ replicate count None) i None h ∙ mapped_at f count xs i

-- there are as many rows as wanted
pub length-filled : (count : ℕ) (values : List (Option Value)) → length (filled count values) ≡ count
length-filled count values = simp (length-take, length-append, length-replicate) (omega arith)

pub flag_row : (flags numbers strings : List (Option Value)) (i : ℕ) → i < 44 → get_or (rows_of flags numbers strings) i None ≡ get_or (filled 44 flags) i None
flag_row flags numbers strings i h = get_or_append_left (filled 44 flags) (filled 39 numbers ++ filled 414 strings) None i (omega (arith, length-filled 44 flags))

pub number_row : (flags numbers strings : List (Option Value)) (i : ℕ) → i < 39 → get_or (rows_of flags numbers strings) (44 + i) None ≡ get_or (filled 39 numbers) i None
number_row flags numbers strings i h =
    let e : 44 + i - 44 ≡ i = omega arith in
    get_or-append_right (filled 44 flags) (filled 39 numbers ++ filled 414 strings) 44 (44 + i) None (length-filled 44 flags) (omega arith)
    ∙ ap (λ k. get_or (filled 39 numbers ++ filled 414 strings) k None) e
    ∙ get_or_append_left (filled 39 numbers) (filled 414 strings) None i (omega (arith, length-filled 39 numbers))

pub string_row : (flags numbers strings : List (Option Value)) (i : ℕ) → get_or (rows_of flags numbers strings) (83 + i) None ≡ get_or (filled 414 strings) i None
string_row flags numbers strings i =
    let e : 83 + i - 44 ≡ 39 + i = omega arith in
    let f : 39 + i - 39 ≡ i = omega arith in
    get_or-append_right (filled 44 flags) (filled 39 numbers ++ filled 414 strings) 44 (83 + i) None (length-filled 44 flags) (omega arith)
    ∙ ap (λ k. get_or (filled 39 numbers ++ filled 414 strings) k None) e
    ∙ get_or-append_right (filled 39 numbers) (filled 414 strings) 39 (39 + i) None (length-filled 39 numbers) (omega arith)
    ∙ ap (λ k. get_or (filled 414 strings) k None) f

-- the rows of an entry that was read, kind by kind
pub flag_read : (parts : Parts) (i : ℕ) → i < 44 → value_at (entry_of parts) i ≡ value_of parts kinds.Flag i
unfolding entry_of value_at
flag_read parts i h = flag_row (flag_values parts) (number_values parts) (string_values parts) i h ∙ filled_at flag_value 44 parts.flags i h

pub number_read : (parts : Parts) (i : ℕ) → i < 39 → value_at (entry_of parts) (44 + i) ≡ value_of parts kinds.Number i
unfolding entry_of value_at
number_read parts i h =
    number_row (flag_values parts) (number_values parts) (string_values parts) i h
    ∙ filled_at (number_value (half parts.form)) 39 (numbers_in parts.form parts.numbers) i h

pub string_read : (parts : Parts) (i : ℕ) → i < 414 → value_at (entry_of parts) (83 + i) ≡ value_of parts kinds.String i
unfolding entry_of value_at
string_read parts i h =
    string_row (flag_values parts) (number_values parts) (string_values parts) i
    ∙ filled_at (string_value parts.table) 414 (words parts.offsets) i h

past_read : (parts : Parts) (place : ℕ) → 497 ≤ place → value_at (entry_of parts) place ≡ None
unfolding entry_of value_at
past_read parts place h = get_or_past (rows_of (flag_values parts) (number_values parts) (string_values parts)) place None
    (simp (length-append, length-filled) (omega arith))

-- the places of the capabilities of each kind
first_kind : (a b : Bool) → (if a then kinds.Flag else (if b then kinds.Number else kinds.String)) ≡ kinds.Flag → a ≡ true
first_kind true b k = refl
first_kind false true k = cc
first_kind false false k = cc

second_kind : (a b : Bool) → (if a then kinds.Flag else (if b then kinds.Number else kinds.String)) ≡ kinds.Number → (a ≡ false) × (b ≡ true)
second_kind true b k = cc
second_kind false true k = (refl, refl)
second_kind false false k = cc

third_kind : (a b : Bool) → (if a then kinds.Flag else (if b then kinds.Number else kinds.String)) ≡ kinds.String → (a ≡ false) × (b ≡ false)
third_kind true b k = cc
third_kind false true k = cc
third_kind false false k = (refl, refl)

pub test_yes : (a b : ℕ) → nat_lt a b ≡ true → a < b
test_yes a b h = grind (arith, nat_tests)

pub test_no : (a b : ℕ) → nat_lt a b ≡ false → b ≤ a
test_no a b h = grind (arith, nat_tests)

position_at : (place : ℕ) (kind : Kind) → kind_of place ≡ kind → position_of place ≡ place - first_of kind
unfolding position_of
position_at place kind k = ap (λ x. place - first_of x) k

flag_place : (place : ℕ) → kind_of place ≡ kinds.Flag → place < 44
unfolding kind_of
flag_place place k = test_yes place 44 (first_kind (nat_lt place 44) (nat_lt place 83) k)

number_place : (place : ℕ) → kind_of place ≡ kinds.Number → (44 ≤ place) × (place < 83)
unfolding kind_of
number_place place k =
    let t = second_kind (nat_lt place 44) (nat_lt place 83) k in (test_no place 44 t.0, test_yes place 83 t.1)

string_place : (place : ℕ) → kind_of place ≡ kinds.String → 83 ≤ place
unfolding kind_of
string_place place k = test_no place 83 (third_kind (nat_lt place 44) (nat_lt place 83) k).1

-- the value of a capability, from its position
pub flag_there : (parts : Parts) (place : ℕ) → kind_of place ≡ kinds.Flag → flag_at (entry_of parts) place ≡ has_flag (value_of parts kinds.Flag (position_of place))
flag_there parts place k =
    let p : position_of place ≡ place = position_at place kinds.Flag k ∙ omega arith in
    ap has_flag (flag_read parts place (flag_place place k)) ∙ ap (λ i. has_flag (value_of parts kinds.Flag i)) (sym p)

pub number_there : (parts : Parts) (place : ℕ) → kind_of place ≡ kinds.Number → number_at (entry_of parts) place ≡ number_in (value_of parts kinds.Number (position_of place))
number_there parts place k =
    let within = number_place place k in
    let p : position_of place ≡ place - 44 = position_at place kinds.Number k in
    let e : 44 + (place - 44) ≡ place = omega arith in
    let below : place - 44 < 39 = omega arith in
    ap (λ i. number_at (entry_of parts) i) (sym e) ∙ ap number_in (number_read parts (place - 44) below) ∙ ap (λ i. number_in (value_of parts kinds.Number i)) (sym p)

pub string_there : (parts : Parts) (place : ℕ) → kind_of place ≡ kinds.String → position_of place < 414 → string_at (entry_of parts) place ≡ string_in (value_of parts kinds.String (position_of place))
string_there parts place k small =
    let within = string_place place k in
    let p : position_of place ≡ place - 83 = position_at place kinds.String k in
    let e : 83 + (place - 83) ≡ place = omega arith in
    let below : place - 83 < 414 = omega arith in
    ap (λ i. string_at (entry_of parts) i) (sym e) ∙ ap string_in (string_read parts (place - 83) below) ∙ ap (λ i. string_in (value_of parts kinds.String i)) (sym p)

-- a value is of the kind of its place
abbrev pub IsOf : Kind → Option Value → Type 0
IsOf kinds.Flag value = (number_in value ≡ None) × (string_in value ≡ None)
IsOf kinds.Number value = (has_flag value ≡ false) × (string_in value ≡ None)
IsOf kinds.String value = (has_flag value ≡ false) × (number_in value ≡ None)

none_of : (kind : Kind) → IsOf kind None
none_of kinds.Flag = (refl, refl)
none_of kinds.Number = (refl, refl)
none_of kinds.String = (refl, refl)

flag_chosen : (t : Bool) → IsOf kinds.Flag (if t then Some values.Flag else None)
flag_chosen true = (refl, refl)
flag_chosen false = (refl, refl)

number_chosen : (t : Bool) (n : ℕ) → IsOf kinds.Number (if t then Some (values.Number n) else None)
number_chosen true n = (refl, refl)
number_chosen false n = (refl, refl)

string_chosen : (t : Bool) (bytes : List ℕ) → IsOf kinds.String (if t then Some (values.String bytes) else None)
string_chosen true bytes = (refl, refl)
string_chosen false bytes = (refl, refl)

pub flag_of : (o : Option ℕ) → IsOf kinds.Flag (option_and_then flag_value o)
flag_of None = (refl, refl)
flag_of (Some byte) = flag_chosen (nat_eq byte 1)

pub number_of : (negatives : ℕ) (o : Option ℕ) → IsOf kinds.Number (option_and_then (number_value negatives) o)
number_of negatives None = (refl, refl)
number_of negatives (Some n) = number_chosen (nat_lt n negatives) n

pub string_of : (table : List ℕ) (o : Option ℕ) → IsOf kinds.String (option_and_then (string_value table) o)
string_of table None = (refl, refl)
string_of table (Some offset) = string_chosen (nat_lt offset 32768) (before_nul (drop offset table))

string_kind : (parts : Parts) (place : ℕ) → 83 ≤ place → (t : Bool) → nat_lt place 497 ≡ t → IsOf kinds.String (value_at (entry_of parts) place)
string_kind parts place from true t =
    let e : 83 + (place - 83) ≡ place = omega arith in
    let within = test_yes place 497 t in
    let below : place - 83 < 414 = omega arith in
    let read = ap (value_at (entry_of parts)) (sym e) ∙ string_read parts (place - 83) below in
    subst (IsOf kinds.String) (sym read) (string_of parts.table (slice_get (words parts.offsets) (place - 83)))
string_kind parts place from false t = subst (IsOf kinds.String) (sym (past_read parts place (test_no place 497 t))) (none_of kinds.String)

pub value_kind : (parts : Parts) (place : ℕ) (kind : Kind) → kind_of place ≡ kind → IsOf kind (value_at (entry_of parts) place)
value_kind parts place kinds.Flag k = subst (IsOf kinds.Flag) (sym (flag_read parts place (flag_place place k))) (flag_of (slice_get parts.flags place))
value_kind parts place kinds.Number k =
    let within = number_place place k in
    let e : 44 + (place - 44) ≡ place = omega arith in
    let below : place - 44 < 39 = omega arith in
    let read = ap (value_at (entry_of parts)) (sym e) ∙ number_read parts (place - 44) below in
    subst (IsOf kinds.Number) (sym read) (number_of (half parts.form) (slice_get (numbers_in parts.form parts.numbers) (place - 44)))
value_kind parts place kinds.String k = string_kind parts place (string_place place k) (nat_lt place 497) refl

-- a capability of another kind has no value of this one
pub no_flag : (parts : Parts) (place : ℕ) (kind : Kind) → kind_of place ≡ kind → (kind ≡ kinds.Flag → ⊥) → false ≡ flag_at (entry_of parts) place
no_flag parts place kinds.Flag k other = absurd (other refl)
no_flag parts place kinds.Number k other = sym (value_kind parts place kinds.Number k).0
no_flag parts place kinds.String k other = sym (value_kind parts place kinds.String k).0

pub no_number : (parts : Parts) (place : ℕ) (kind : Kind) → kind_of place ≡ kind → (kind ≡ kinds.Number → ⊥) → None ≡ number_at (entry_of parts) place
no_number parts place kinds.Flag k other = sym (value_kind parts place kinds.Flag k).0
no_number parts place kinds.Number k other = absurd (other refl)
no_number parts place kinds.String k other = sym (value_kind parts place kinds.String k).1

pub no_string : (parts : Parts) (place : ℕ) (kind : Kind) → kind_of place ≡ kind → (kind ≡ kinds.String → ⊥) → None ≡ string_at (entry_of parts) place
no_string parts place kinds.Flag k other = sym (value_kind parts place kinds.Flag k).1
no_string parts place kinds.Number k other = sym (value_kind parts place kinds.Number k).1
no_string parts place kinds.String k other = absurd (other refl)

-- the values of the sections' entry, as the getters see it
pub flag_got : (parts : Parts) (entry : Content) (place position : ℕ) (got : Bool) → entry_of parts ≡ entry → kind_of place ≡ kinds.Flag → position ≡ position_of place → got ≡ has_flag (value_of parts kinds.Flag position) → got ≡ flag_at entry place
flag_got parts entry place position got read k p g =
    g ∙ ap (λ i. has_flag (value_of parts kinds.Flag i)) p ∙ sym (flag_there parts place k) ∙ ap (λ e. flag_at e place) read

pub number_got : (parts : Parts) (entry : Content) (place position : ℕ) (got : Option ℕ) → entry_of parts ≡ entry → kind_of place ≡ kinds.Number → position ≡ position_of place → got ≡ number_in (value_of parts kinds.Number position) → got ≡ number_at entry place
number_got parts entry place position got read k p g =
    g ∙ ap (λ i. number_in (value_of parts kinds.Number i)) p ∙ sym (number_there parts place k) ∙ ap (λ e. number_at e place) read

pub string_got : (parts : Parts) (entry : Content) (place position : ℕ) (got : Option (List ℕ)) → entry_of parts ≡ entry → kind_of place ≡ kinds.String → position ≡ position_of place → position < 414 → got ≡ string_in (value_of parts kinds.String position) → got ≡ string_at entry place
string_got parts entry place position got read k p small g =
    g ∙ ap (λ i. string_in (value_of parts kinds.String i)) p ∙ sym (string_there parts place k (omega arith)) ∙ ap (λ e. string_at e place) read
