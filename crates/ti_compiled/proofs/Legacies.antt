-- Files of the legacy form are read and written by the legacy rules alone.
use Rattle.std.proofs.Common.{◌≡◌, ℕ, ◌+◌, ◌*◌, ◌%◌, ◌<◌, Bool, true, false, List, [], ◌∷◌, length, refl, ap, ◌∙◌, arith, Option, Ok, Err, nat_lt, nat_eq}
use Rattle.std.specs.Prelude.{if◌then◌else◌, Result}
use Rattle.std.specs.List.{list_any, AllByRecursion}
use Rattle.std.proofs.lemmas.Bool.Decides.{nat_tests}
use Rattle.ti_caps.specs.Entry.{Content}
use Rattle.ti_compiled.specs.declared.types.PackFault.{PackFault}
use Rattle.ti_compiled.specs.declared.types.PackFault.TheVariants.{BadMagic, TooLarge}
use Rattle.ti_compiled.specs.declared.types.Form.TheVariants.{Legacy, Wide}
use Rattle.ti_compiled.specs.declared.sections.Sizes.{Sizes}
use Rattle.ti_compiled.specs.Layout.{Parts}
use Rattle.ti_compiled.specs.Readings.{◌>>=◌, Judged, judged, sizes_of, cut_at, sections_of, parts_judged, parts_of}
use Rattle.ti_compiled.specs.Contents.{entry_of, read_of}
use Rattle.ti_compiled.specs.Written.{numbers_of, is_wide, form_for, written_in, written, limit, packing_of}
use Rattle.ti_compiled.specs.Legacy.{Slices, legacy_sections, legacy_judged, legacy_entry, legacy_read, legacy_packing, BeginsWide, LegacyIsRead, HasSmallNumbers, LegacyIsWritten}

-- the slices as sections of the legacy form
abbrev with_form : Slices → Parts
with_form slices = record { form = Legacy; names = slices.names; flags = slices.flags; numbers = slices.numbers; offsets = slices.offsets; table = slices.table }

abbrev lifted : Result Slices PackFault → Result Parts PackFault
lifted slices = slices >>= λ s. Ok (with_form s)

same_bind : {A : Type 0} (r : Result A PackFault) (f : A → Result Parts PackFault) (g : A → Result Slices PackFault) → ((x : A) → f x ≡ lifted (g x)) → (r >>= f) ≡ lifted (r >>= g)
same_bind (Ok x) f g h = h x
same_bind (Err e) f g h = refl

same_sections : (sizes : Sizes) (bytes : List ℕ) → sections_of Legacy sizes bytes ≡ lifted (legacy_sections sizes bytes)
unfolding sections_of legacy_sections
same_sections sizes bytes =
    same_bind (cut_at sizes.names bytes) _ _ (λ names.
    same_bind (cut_at sizes.flags names.1) _ _ (λ flags.
    same_bind (cut_at ((sizes.names + sizes.flags) % 2) flags.1) _ _ (λ padding.
    same_bind (cut_at (2 * sizes.numbers) padding.1) _ _ (λ numbers.
    same_bind (cut_at (2 * sizes.offsets) numbers.1) _ _ (λ offsets.
    same_bind (cut_at sizes.table offsets.1) _ _ (λ table. refl))))))

same_judged : (slices : Slices) → parts_judged (with_form slices) ≡ legacy_judged slices
unfolding parts_judged legacy_judged
same_judged slices = refl

same_entry : (slices : Slices) → entry_of (with_form slices) ≡ legacy_entry slices
unfolding entry_of legacy_entry
same_entry slices = refl

judged_end : (slices : Slices) (r : Judged) → ((r >>= λ judgement. Ok (with_form slices)) >>= λ parts. Ok (entry_of parts)) ≡ (r >>= λ judgement. Ok (legacy_entry slices))
judged_end slices (Ok x) = ap (λ e. Ok e) (same_entry slices)
judged_end slices (Err e) = refl

sections_end : (r : Result Slices PackFault) → ((lifted r >>= λ parts. parts_judged parts >>= λ judgement. Ok parts) >>= λ parts. Ok (entry_of parts)) ≡ (r >>= λ slices. legacy_judged slices >>= λ judgement. Ok (legacy_entry slices))
sections_end (Ok slices) = ap (λ r. (r >>= λ judgement. Ok (with_form slices)) >>= λ parts. Ok (entry_of parts)) (same_judged slices) ∙ judged_end slices (legacy_judged slices)
sections_end (Err e) = refl

sizes_end : (r : Result (Sizes × List ℕ) PackFault) → ((r >>= λ sizes. sections_of Legacy sizes.0 sizes.1 >>= λ parts. parts_judged parts >>= λ judgement. Ok parts) >>= λ parts. Ok (entry_of parts))
    ≡ (r >>= λ sizes. legacy_sections sizes.0 sizes.1 >>= λ slices. legacy_judged slices >>= λ judgement. Ok (legacy_entry slices))
sizes_end (Ok sizes) =
    ap (λ r. (r >>= λ parts. parts_judged parts >>= λ judgement. Ok parts) >>= λ parts. Ok (entry_of parts)) (same_sections sizes.0 sizes.1)
    ∙ sections_end (legacy_sections sizes.0 sizes.1)
sizes_end (Err e) = refl

-- the magic number
magic_end : (number : ℕ) (rest : List ℕ) (legacy wide : Bool) → wide ≡ false
    → (((if legacy then Ok Legacy else (if wide then Ok Wide else Err BadMagic)) >>= λ form. sizes_of rest >>= λ sizes. sections_of form sizes.0 sizes.1 >>= λ parts. parts_judged parts >>= λ judgement. Ok parts) >>= λ parts. Ok (entry_of parts))
    ≡ (judged legacy BadMagic >>= λ right. sizes_of rest >>= λ sizes. legacy_sections sizes.0 sizes.1 >>= λ slices. legacy_judged slices >>= λ judgement. Ok (legacy_entry slices))
magic_end number rest true wide e = sizes_end (sizes_of rest)
magic_end number rest false true e = let bad : ⊥ = cc in absurd bad
magic_end number rest false false e = refl

same_number : (a b : ℕ) → nat_eq a b ≡ true → a ≡ b
same_number a b h = grind (arith, nat_tests)

not_wide : (a b : ℕ) (rest : List ℕ) (t : Bool) → nat_eq (a + 256 * b) 542 ≡ t → a < 256 → (BeginsWide (a ∷ b ∷ rest) → ⊥) → t ≡ false
not_wide a b rest true e small other =
    let number : a + 256 * b ≡ 542 = same_number (a + 256 * b) 542 e in
    let low : a ≡ 30 = omega arith in
    let high : b ≡ 2 = omega arith in
    absurd (other (rest, cc))
not_wide a b rest false e small other = refl

pub legacy_is_read : LegacyIsRead
unfolding read_of parts_of legacy_read
legacy_is_read [] small other = refl
legacy_is_read (a ∷ []) small other = refl
legacy_is_read (a ∷ b ∷ rest) small other =
    magic_end (a + 256 * b) rest (nat_eq (a + 256 * b) 282) (nat_eq (a + 256 * b) 542) (not_wide a b rest (nat_eq (a + 256 * b) 542) refl small.0 other)

-- writing
none_wide : (numbers : List (Option ℕ)) → AllByRecursion (λ number. is_wide number ≡ false) numbers → list_any is_wide numbers ≡ false
none_wide [] h = refl
none_wide (number ∷ numbers) h = rw h.0 (none_wide numbers h.1)

small_form : (entry : Content) → HasSmallNumbers entry → form_for entry ≡ Legacy
unfolding form_for
small_form entry h = rw (none_wide (numbers_of entry) h) refl

pub legacy_is_written : LegacyIsWritten
unfolding packing_of written legacy_packing
legacy_is_written entry h =
    ap (λ form. if nat_lt (limit form) (length (written_in form entry)) then Err TooLarge else Ok (written_in form entry)) (small_form entry h)
