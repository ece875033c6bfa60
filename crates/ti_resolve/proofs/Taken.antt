-- Of the fields copied into an entry, the first about a capability decides.
use Rattle.std.proofs.Common.{◌≡◌, ◌≢◌, ℕ, zero, suc, ◌<◌, List, [], ◌∷◌, ◌++◌, Option, Some, None, Bool, true, false, refl, sym, ap, ◌∙◌, subst, ⊎_elim, length, get_or, set, drop, ◌+◌, replicate, length-set, get_or-set_same, get_or-set_other, arith}
use Rattle.std.specs.Prelude.{slice_get, IsTrue}
use Rattle.std.specs.List.{AllByRecursion, find}
use Rattle.std.proofs.lemmas.Bool.{cases_Bool, cases_eq, cond-true, cond-false, both_ways, eqb-true, eqb-false, cond_both}
use Rattle.std.proofs.lemmas.List.{length-replicate, get_or-replicate, drop_more}
use Rattle.std.proofs.lemmas.Option.{slice_get-get_or}
use Rattle.ti_caps.specs.Fits.{names_fit}
use Rattle.ti_caps.specs.declared.value.Value.{Value}
use Rattle.ti_caps.specs.Entry.{Content, value_at, with_value, bare_entry}
use Rattle.ti_caps.proofs.Entries.{bare_has_none}
use Rattle.ti_source.specs.declared.types.Field.{Field}
use Rattle.ti_source.specs.declared.types.Field.TheVariants.{Set, Cancel, Include}
use Rattle.ti_source.specs.declared.types.RawEntry.{RawEntry}
use Rattle.ti_source.specs.Fitting.{FieldsFit}
use Rattle.ti_source.specs.Raw.{FitsField, IsRaw}
use Rattle.ti_resolve.specs.Uses.{fields_at, fields_in, names_at, names_in_entry, first_about, is_about, value_given}
use Rattle.ti_resolve.specs.Fills.{Filled, fields_of_all, take_fields, take_field, start}

-- each element, by its place
pub all_at : {X : Type 0} (P : X → Type 0) (xs : List X) (i : ℕ) (x : X) → AllByRecursion P xs → slice_get xs i ≡ Some x → P x
all_at P [] i x all is = cc
all_at P (y ∷ ys) zero x all is = let same : y ≡ x = cc in subst P same all.0
all_at P (y ∷ ys) (suc i) x all is = all_at P ys i x all.1 is

fits_in : (raws : List RawEntry) (place : ℕ) (o : Option RawEntry) → AllByRecursion FieldsFit raws → slice_get raws place ≡ o → AllByRecursion FitsField (fields_in o)
fits_in raws place None all is = tt
fits_in raws place (Some raw) all is = all_at FieldsFit raws place raw all is

-- the fields of an entry fit, if each entry's do
pub fields_fit : (raws : List RawEntry) (place : ℕ) → AllByRecursion FieldsFit raws → AllByRecursion FitsField (fields_at raws place)
unfolding fields_at
fields_fit raws place all = fits_in raws place (slice_get raws place) all refl

-- the fields of entries that can be made entries fit
pub raws_fields : (raws : List RawEntry) → AllByRecursion IsRaw raws → AllByRecursion FieldsFit raws
raws_fields [] all = tt
raws_fields (raw ∷ raws) all = (all.0.fields, raws_fields raws all.1)

-- there is a row for each capability
pub record IsSized (so_far : Filled) : Type 0 where
  pub values : length so_far.entry.values ≡ 497
  pub decided : length so_far.decided ≡ 497

take_sized : (so_far : Filled) (field : Field) → IsSized so_far → IsSized (take_field so_far field)
unfolding take_field with_value
take_sized so_far (Include name) sized = sized
take_sized so_far (Cancel cap) sized = record { values = sized.values; decided = length-set so_far.decided cap true ∙ sized.decided }
take_sized so_far (Set cap value) sized =
    cond_both (get_or so_far.decided cap false) _ _ (λ s. IsSized s)
    (λ t. sized)
    (λ f. record { values = length-set so_far.entry.values cap (Some value) ∙ sized.values; decided = length-set so_far.decided cap true ∙ sized.decided })

marked : (decided : List Bool) (cap place : ℕ) → length decided ≡ 497 → place < 497 → cap ≡ place → get_or (set decided cap true) place false ≡ true
marked decided cap place size inside same =
    let there : cap < length decided = omega (arith, size, same) in
    subst (λ p. get_or (set decided cap true) p false ≡ true) same (get_or-set_same decided cap true false there)

still_marked : (decided : List Bool) (cap place : ℕ) → length decided ≡ 497 → place < 497 → get_or decided place false ≡ true → get_or (set decided cap true) place false ≡ true
still_marked decided cap place size inside is =
    ⊎_elim
    (λ same. marked decided cap place size inside same)
    (λ apart. get_or-set_other decided cap place true false (λ e. apart (sym e)) ∙ is)
    (cases_eq cap place)

-- a field keeps the value of a capability that was decided
record Stays (so_far next : Filled) (place : ℕ) : Type 0 where
  decided : get_or next.decided place false ≡ true
  value : value_at next.entry place ≡ value_at so_far.entry place

one_stays : (place : ℕ) (so_far : Filled) (field : Field) → IsSized so_far → place < 497 → get_or so_far.decided place false ≡ true → Stays so_far (take_field so_far field) place
unfolding take_field with_value value_at
one_stays place so_far (Include name) sized inside is = record { decided = is; value = refl }
one_stays place so_far (Cancel cap) sized inside is = record { decided = still_marked so_far.decided cap place sized.decided inside is; value = refl }
one_stays place so_far (Set cap value) sized inside is =
    cond_both (get_or so_far.decided cap false) _ _ (λ s. Stays so_far s place)
    (λ t. record { decided = is; value = refl })
    (λ f.
    let apart : place ≢ cap = λ same. both_ways (get_or so_far.decided cap false) f (subst (λ p. get_or so_far.decided p false ≡ true) same is) in
    record {
      decided = still_marked so_far.decided cap place sized.decided inside is;
      value = get_or-set_other so_far.entry.values cap place (Some value) None apart;
    })

-- a capability that was decided keeps its value
decided_stays : (place : ℕ) (so_far : Filled) (fields : List Field) → IsSized so_far → place < 497 → get_or so_far.decided place false ≡ true → value_at (take_fields so_far fields).entry place ≡ value_at so_far.entry place
decided_stays place so_far [] sized inside is = refl
decided_stays place so_far (field ∷ fields) sized inside is =
    let one = one_stays place so_far field sized inside is in
    decided_stays place (take_field so_far field) fields (take_sized so_far field sized) inside one.decided ∙ one.value

-- a field decides a capability that was not decided
record Decides (next : Filled) (place : ℕ) (field : Field) : Type 0 where
  decided : get_or next.decided place false ≡ true
  value : value_at next.entry place ≡ value_given (Some field)

record Leaves (next : Filled) (place : ℕ) : Type 0 where
  decided : get_or next.decided place false ≡ false
  value : value_at next.entry place ≡ None

one_decides : (place : ℕ) (so_far : Filled) (field : Field) → IsSized so_far → place < 497 → get_or so_far.decided place false ≡ false → value_at so_far.entry place ≡ None → is_about place field ≡ true → Decides (take_field so_far field) place field
unfolding take_field with_value value_at
one_decides place so_far (Include name) sized inside is none about = absurd (both_ways false refl about)
one_decides place so_far (Cancel cap) sized inside is none about =
    record { decided = marked so_far.decided cap place sized.decided inside (eqb-true cap place about); value = none }
one_decides place so_far (Set cap value) sized inside is none about =
    let same : cap ≡ place = eqb-true cap place about in
    cond_both (get_or so_far.decided cap false) _ _ (λ s. Decides s place (Set cap value))
    (λ t. absurd (both_ways (get_or so_far.decided place false) is (subst (λ p. get_or so_far.decided p false ≡ true) same t)))
    (λ f.
    let there : cap < length so_far.entry.values = omega (arith, sized.values, same) in
    record {
      decided = marked so_far.decided cap place sized.decided inside same;
      value = subst (λ p. get_or (set so_far.entry.values cap (Some value)) p None ≡ Some value) same (get_or-set_same so_far.entry.values cap (Some value) None there);
    })

one_leaves : (place : ℕ) (so_far : Filled) (field : Field) → get_or so_far.decided place false ≡ false → value_at so_far.entry place ≡ None → is_about place field ≡ false → Leaves (take_field so_far field) place
unfolding take_field with_value value_at
one_leaves place so_far (Include name) is none about = record { decided = is; value = none }
one_leaves place so_far (Cancel cap) is none about =
    let apart : place ≢ cap = λ same. eqb-false cap place about (sym same) in
    record { decided = get_or-set_other so_far.decided cap place true false apart ∙ is; value = none }
one_leaves place so_far (Set cap value) is none about =
    let apart : place ≢ cap = λ same. eqb-false cap place about (sym same) in
    cond_both (get_or so_far.decided cap false) _ _ (λ s. Leaves s place)
    (λ t. record { decided = is; value = none })
    (λ f. record {
      decided = get_or-set_other so_far.decided cap place true false apart ∙ is;
      value = get_or-set_other so_far.entry.values cap place (Some value) None apart ∙ none;
    })

-- a capability that was not decided gets the value of the first field about it
first_decides : (place : ℕ) (so_far : Filled) (fields : List Field) → IsSized so_far → place < 497 → get_or so_far.decided place false ≡ false → value_at so_far.entry place ≡ None → value_at (take_fields so_far fields).entry place ≡ value_given (first_about place fields)
unfolding first_about
first_decides place so_far [] sized inside is none = none
first_decides place so_far (field ∷ fields) sized inside is none =
    ⊎_elim
    (λ t.
    let one = one_decides place so_far field sized inside is none t in
    decided_stays place (take_field so_far field) fields (take_sized so_far field sized) inside one.decided
    ∙ (one.value ∙ ap value_given (sym (cond-true (is_about place field) (Some field) (find (is_about place) fields) t))))
    (λ f.
    let one = one_leaves place so_far field is none f in
    first_decides place (take_field so_far field) fields (take_sized so_far field sized) inside one.decided one.value
    ∙ ap value_given (sym (cond-false (is_about place field) (Some field) (find (is_about place) fields) f)))
    (cases_Bool (is_about place field))

-- the values of an entry that has only names, after these fields
pub taken_values : (names : List ℕ) (fields : List Field) (place : ℕ) → place < 497 → value_at (take_fields (start names) fields).entry place ≡ value_given (first_about place fields)
unfolding bare_entry
taken_values names fields place inside =
    let sized : IsSized (start names) = record { values = length-replicate {A = Option Value} 497 None; decided = length-replicate {A = Bool} 497 false } in
    first_decides place (start names) fields sized inside (get_or-replicate {A = Bool} 497 place false false inside) (bare_has_none names place)

take_names : (so_far : Filled) (field : Field) → (take_field so_far field).entry.names ≡ so_far.entry.names
unfolding take_field with_value
take_names so_far (Include name) = refl
take_names so_far (Cancel cap) = refl
take_names so_far (Set cap value) = cond_both {A = Filled} (get_or so_far.decided cap false) _ _ (λ s. s.entry.names ≡ so_far.entry.names) (λ t. refl) (λ f. refl)

-- the names stay
pub taken_names : (so_far : Filled) (fields : List Field) → (take_fields so_far fields).entry.names ≡ so_far.entry.names
taken_names so_far [] = refl
taken_names so_far (field ∷ fields) = taken_names (take_field so_far field) fields ∙ take_names so_far field

-- fields one after another
pub take_fields-append : (so_far : Filled) (xs ys : List Field) → take_fields so_far (xs ++ ys) ≡ take_fields (take_fields so_far xs) ys
take_fields-append so_far [] ys = refl
take_fields-append so_far (x ∷ xs) ys = take_fields-append (take_field so_far x) xs ys

-- the fields of the entries from a place on, after one more entry
pub entries_go_on : (raws : List RawEntry) (places : List ℕ) (i place : ℕ) (fields : List Field) (before after whole : Filled) → i < length places → place ≡ get_or places i 0 → fields ≡ fields_at raws place → after ≡ take_fields before fields → take_fields before (fields_of_all raws (drop i places)) ≡ whole → take_fields after (fields_of_all raws (drop (i + 1) places)) ≡ whole
entries_go_on raws places i place fields before after whole inside is there next was =
    let rest = fields_of_all raws (drop (i + 1) places) in
    let here : fields ≡ fields_at raws (get_or places i 0) = there ∙ ap (fields_at raws) is in
    ap (λ s. take_fields s rest) (next ∙ ap (take_fields before) here)
    ∙ (sym (take_fields-append before (fields_at raws (get_or places i 0)) rest)
    ∙ (ap (λ ps. take_fields before (fields_of_all raws ps)) (sym (drop_more places i 0 inside)) ∙ was))

-- the entry that had only names, after all fields
pub filled_is : (names : List ℕ) (fields : List Field) (entry : Content) (decided : List Bool) (next : Filled) → entry ≡ bare_entry names → decided ≡ replicate 497 false → next ≡ take_fields (record { entry = entry; decided = decided }) fields → next.entry ≡ (take_fields (start names) fields).entry
filled_is names fields entry decided next bare none is =
    let with_entry : Content → Filled = λ e. record { entry = e; decided = decided } in
    let with_decided : List Bool → Filled = λ d. record { entry = bare_entry names; decided = d } in
    ap (λ s. s.entry) (is ∙ ap (λ s. take_fields s fields) (ap with_entry bare ∙ ap with_decided none))

names_fit_in : (raws : List RawEntry) (place : ℕ) (raw : RawEntry) → AllByRecursion IsRaw raws → slice_get raws place ≡ Some raw → IsTrue (names_fit (names_in_entry (slice_get raws place)))
names_fit_in raws place raw all is = subst (λ o. IsTrue (names_fit (names_in_entry o))) (sym is) (all_at IsRaw raws place raw all is).names

-- the names of an entry fit, if each entry's do
pub names_fit_at : (raws : List RawEntry) (place : ℕ) → AllByRecursion IsRaw raws → place < length raws → IsTrue (names_fit (names_at raws place))
unfolding names_at
names_fit_at [] place all inside = absurd (omega arith)
names_fit_at (raw ∷ raws) place all inside = names_fit_in (raw ∷ raws) place (get_or (raw ∷ raws) place raw) all (slice_get-get_or (raw ∷ raws) place raw inside)
