-- Fields that were given strings, one after another.
use Rattle.std.proofs.Common.{◌≡◌, ◌∙◌, ◌<◌, ◌≤◌, ◌+◌, ◌-◌, ℕ, zero, suc, List, [], ◌∷◌, ◌++◌, true, false, Some, Vec, Global, length, take, drop, get_or, set, ap, refl, sym, subst, append_assoc, arith}
use Rattle.std.proofs.lemmas.Bool.{cond-false, cond-true}
use Rattle.std.specs.List.{list_all}
use Rattle.std.proofs.lemmas.List.{take_more, take_rest}
use Rattle.std.proofs.lemmas.Option.{slice_get-get_or}
use Rattle.ti_caps.specs.declared.value.Value.TheVariants.{String}
use Rattle.ti_fixes.specs.Changes.{IsChangedAt, IsChangedBy, IsWrittenBy}
use Rattle.ti_fixes.specs.Cuts.{whole}
use Rattle.ti_fixes.specs.Given.{is_use, own_count, with_own}
use Rattle.ti_fixes.specs.Texts.{IsWritten, field_text}
use Rattle.ti_fixes.specs.declared.changes.Change.{Change}
use Rattle.ti_resolve.specs.Uses.{is_about}
use Rattle.ti_source.specs.declared.types.Field.{Field}
use Rattle.ti_source.specs.declared.types.Field.TheVariants.{Set}
use Rattle.ti_source.specs.declared.types.RawEntry.{RawEntry}

pub none_written : (old new : List ℕ) → new ≡ old → IsWrittenBy [] old new
unfolding IsWrittenBy
none_written old new is = is

written_end : (changes : List Change) (change : Change) (old between new : List ℕ) → IsWrittenBy changes old between → IsWritten change.cap change.string between new → IsWrittenBy (changes ++ change ∷ []) old new
unfolding IsWrittenBy
written_end [] change old between new h p = (new, subst (λ (t : List ℕ). IsWritten change.cap change.string t new) h p, refl)
written_end (first ∷ changes) change old between new h p = (h.0, h.1, written_end changes change h.0 between new h.2 p)

-- one more field, for the next change of a list
pub written_next : (changes : List Change) (n : ℕ) (change : Change) (old between new : List ℕ) → n < length changes → change ≡ get_or changes n change → IsWrittenBy (take n changes) old between → IsWritten change.cap change.string between new → IsWrittenBy (take (n + 1) changes) old new
written_next changes n change old between new l is h p =
    subst (λ (items : List Change). IsWrittenBy items old new) (sym (take_more changes n change l))
    (written_end (take n changes) (get_or changes n change) old between new h (subst (λ (c : Change). IsWritten c.cap c.string between new) is p))

-- ---- a part of a text

-- a field that was written into the end of a text
written_before : (cap : ℕ) (string front own new : List ℕ) → IsWritten cap string own new → IsWritten cap string (front ++ own) (front ++ new)
written_before cap string front own new (IsWritten.Replaced before piece behind is line one so) =
    IsWritten.Replaced (front ++ before) piece behind
    (ap (λ (t : List ℕ). front ++ t) is ∙ sym (append_assoc front before (piece ++ behind))) line one
    (ap (λ (t : List ℕ). front ++ t) so ∙ sym (append_assoc front before (field_text cap string ++ behind)))
written_before cap string front own new (IsWritten.Added before behind is so) =
    IsWritten.Added (front ++ before) behind
    (ap (λ (t : List ℕ). front ++ t) is ∙ sym (append_assoc front before behind))
    (ap (λ (t : List ℕ). front ++ t) so ∙ sym (append_assoc front before ((32 ∷ (field_text cap string ++ 44 ∷ [])) ++ behind)))

-- a field that was written into the start of a text
written_behind : (cap : ℕ) (string own new back : List ℕ) → IsWritten cap string own new → IsWritten cap string (own ++ back) (new ++ back)
written_behind cap string own new back (IsWritten.Replaced before piece behind is line one so) =
    IsWritten.Replaced before piece (behind ++ back)
    (ap (λ (t : List ℕ). t ++ back) is ∙ (append_assoc before (piece ++ behind) back ∙ ap (λ (t : List ℕ). before ++ t) (append_assoc piece behind back))) line one
    (ap (λ (t : List ℕ). t ++ back) so ∙ (append_assoc before (field_text cap string ++ behind) back ∙ ap (λ (t : List ℕ). before ++ t) (append_assoc (field_text cap string) behind back)))
written_behind cap string own new back (IsWritten.Added before behind is so) =
    IsWritten.Added before (behind ++ back)
    (ap (λ (t : List ℕ). t ++ back) is ∙ append_assoc before behind back)
    (ap (λ (t : List ℕ). t ++ back) so ∙ (append_assoc before ((32 ∷ (field_text cap string ++ 44 ∷ [])) ++ behind) back ∙ ap (λ (t : List ℕ). before ++ t) (append_assoc (32 ∷ (field_text cap string ++ 44 ∷ [])) behind back)))

-- a field that was written into one of the parts
pub written_part : (cap : ℕ) (string : List ℕ) (parts : List (Vec ℕ Global)) (at : ℕ) (own next : Vec ℕ Global) → at < length parts → own ≡ get_or parts at own → IsWritten cap string own.items next.items → IsWritten cap string (whole parts) (whole (set parts at next))
written_part cap string [] at own next l is h = absurd (omega (arith, l))
written_part cap string (part ∷ parts) zero own next l is h =
    written_behind cap string part.items next.items (whole parts) (subst (λ (v : Vec ℕ Global). IsWritten cap string v.items next.items) is h)
written_part cap string (part ∷ parts) (suc at) own next l is h =
    written_before cap string part.items (whole parts) (whole (set parts at next)) (written_part cap string parts at own next (omega (arith, l)) is h)

-- ---- the fields of one entry

-- the first field about the capability is given the string, and those behind it stay
pub given_first : (cap : ℕ) (string : List ℕ) (rest : List Field) (first own : Field) (given pushed all whole : List Field) → 1 ≤ length rest → first ≡ get_or rest 0 first → is_about cap first ≡ true → own ≡ Set cap (String string) → pushed ≡ given ++ own ∷ [] → all ≡ pushed ++ take (length rest - 1) (drop 1 rest) → given ++ with_own cap string rest ≡ whole → all ≡ whole
given_first cap string [] first own given pushed all whole l is about o p a w = absurd (omega (arith, l))
given_first cap string (x ∷ rest) first own given pushed all whole l is about o p a w =
    a
    ∙ (ap (λ (fields : List Field). pushed ++ fields) (take_rest (x ∷ rest) 1)
    ∙ (ap (λ (fields : List Field). fields ++ rest) p
    ∙ (append_assoc given (own ∷ []) rest
    ∙ (ap (λ (field : Field). given ++ field ∷ rest) o
    ∙ (sym (ap (λ (fields : List Field). given ++ fields) (cond-true (is_about cap x) (Set cap (String string) ∷ rest) (x ∷ with_own cap string rest) (subst (λ (f : Field). is_about cap f ≡ true) is about)))
    ∙ w)))))

-- none is about the capability, so another field is put behind them
pub given_last : (cap : ℕ) (string : List ℕ) (rest : List Field) (own : Field) (given all whole : List Field) → length rest < 1 → own ≡ Set cap (String string) → all ≡ given ++ own ∷ [] → given ++ with_own cap string rest ≡ whole → all ≡ whole
given_last cap string [] own given all whole l o a w = a ∙ (ap (λ (field : Field). given ++ field ∷ []) o ∙ w)
given_last cap string (x ∷ rest) own given all whole l o a w = absurd (omega (arith, l))

-- ---- the entries of a text

some_inner : {X : Type 0} (x y : X) → Some x ≡ Some y → x ≡ y
some_inner x y e = cc

-- the entries at a place are those that were compared
pub changed_at : (changes : List Change) (olds news : List RawEntry) (place : ℕ) (one other : RawEntry) → place < length olds → place < length news → one ≡ get_or olds place one → other ≡ get_or news place other → IsChangedBy changes place one other → IsChangedAt changes olds news place
changed_at changes olds news place one other l m is are h = λ old new o n.
    let first : one ≡ old = some_inner one old (ap (λ (r : RawEntry). Some r) is ∙ sym (slice_get-get_or olds place one l) ∙ o) in
    let second : other ≡ new = some_inner other new (ap (λ (r : RawEntry). Some r) are ∙ sym (slice_get-get_or news place other m) ∙ n) in
    subst (λ (r : RawEntry). IsChangedBy changes place r new) first (subst (λ (r : RawEntry). IsChangedBy changes place one r) second h)

-- ---- how many fields come before the uses at the end

count_none : (fields : List Field) → list_all is_use fields ≡ true → own_count fields ≡ 0
count_none [] all = refl
count_none (field ∷ fields) all = cond-true (list_all is_use (field ∷ fields)) 0 (suc (own_count fields)) all

count_some : (field : Field) (fields : List Field) → list_all is_use (field ∷ fields) ≡ false → own_count (field ∷ fields) ≡ suc (own_count fields)
count_some field fields some = cond-false (list_all is_use (field ∷ fields)) 0 (suc (own_count fields)) some

count_one : (fields : List Field) (at : ℕ) → at < length fields → list_all is_use (drop at fields) ≡ false → own_count (drop at fields) ≡ suc (own_count (drop (at + 1) fields))
count_one [] at l some = absurd (omega (arith, l))
count_one (field ∷ fields) zero l some = count_some field fields some
count_one (field ∷ fields) (suc at) l some =
    let e : suc (at + 1) ≡ suc at + 1 = omega arith in
    subst (λ (n : ℕ). own_count (drop (suc at) (field ∷ fields)) ≡ suc (own_count (drop n (field ∷ fields)))) e (count_one fields at (omega (arith, l)) some)

-- one field more, behind which not all are uses
pub count_next : (fields : List Field) (at : ℕ) → at < length fields → list_all is_use (drop at fields) ≡ false → own_count fields ≡ at + own_count (drop at fields) → own_count fields ≡ (at + 1) + own_count (drop (at + 1) fields)
count_next fields at l some h = h ∙ (ap (λ (n : ℕ). at + n) (count_one fields at l some) ∙ omega arith)

-- the uses at the end
pub count_here : (fields : List Field) (at : ℕ) → at < length fields → list_all is_use (drop at fields) ≡ true → own_count fields ≡ at + own_count (drop at fields) → at ≡ own_count fields
count_here fields at l all h = sym (h ∙ (ap (λ (n : ℕ). at + n) (count_none (drop at fields) all) ∙ omega arith))

-- some field is left
pub count_all : (fields : List Field) (at : ℕ) → drop at fields ≡ [] → own_count fields ≡ at + own_count (drop at fields) → own_count fields ≡ at
count_all fields at none h = h ∙ (ap (λ (rest : List Field). at + own_count rest) none ∙ omega arith)
