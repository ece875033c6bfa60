-- A string as a source text has it is ASCII, and therefore text.
use Rattle.std.proofs.Common.{◌≡◌, ◌<◌, ◌++◌, ◌&&◌, ◌||◌, ◌==◌, ℕ, Bool, Bor, true, false, List, [], ◌∷◌, Option, Some, None, if◌then◌else◌, nat_le, refl, subst, sym, arith}
use Rattle.std.specs.Prelude.{IfSome, IsTrue}
use Rattle.std.specs.List.{AllByRecursion}
use Rattle.std.specs.Option.{option_copied}
use Rattle.std.specs.Str.{IsAscii, IsUtf8}
use Rattle.std.proofs.lemmas.Bool.Decides.{nat_tests}
use Rattle.std.proofs.lemmas.Str.{IsUtf8-from_ascii}
use Rattle.std.proofs.lemmas.Str.Ascii.{IsAscii-cons, IsAscii-nil}
use Rattle.ti_caps.specs.Entry.{Content, FitsPlace, IsEntry, string_at, string_in, value_at}
use Rattle.ti_caps.specs.Fits.{string_fits}
use Rattle.ti_caps.specs.declared.value.Value.{Value}
use Rattle.ti_caps.specs.declared.value.Value.TheVariants.{Flag, Number, String}
use Rattle.ti_source.specs.Prints.{letter_for, spelled, spelled_with, string_text}
use Rattle.ti_reports.proofs.ShownFacts.{part_then}

abbrev IsSmall : Option ℕ → Type 0
IsSmall (Some letter) = letter < 128
IsSmall None = Unit {0}

choice : (c : Bool) (letter : ℕ) (other : Option ℕ) → (c ≡ true → letter < 128) → IsSmall other → IsSmall (if c then Some letter else other)
choice true letter other small h = small refl
choice false letter other small h = h

letter_small : (b : ℕ) → IsSmall (letter_for b)
letter_small b =
    choice (b == 27) 69 _ (λ _. omega arith)
    (choice (b == 10) 110 _ (λ _. omega arith)
    (choice (b == 13) 114 _ (λ _. omega arith)
    (choice (b == 9) 116 _ (λ _. omega arith)
    (choice (b == 8) 98 _ (λ _. omega arith)
    (choice (b == 12) 102 _ (λ _. omega arith)
    (choice (b == 32) 115 _ (λ _. omega arith)
    (choice ((b == 44) || ((b == 92) || ((b == 94) || (b == 58)))) b None (λ e. grind (arith, nat_tests)) tt)))))))

with_letter : (b : ℕ) (letter : Option ℕ) (rest : List ℕ) → IsSmall letter → b < 256 → IsAscii rest → IsAscii (spelled_with b letter ++ rest)
with_letter b (Some letter) rest small l a = IsAscii-cons 92 (letter ∷ rest) (omega arith) (IsAscii-cons letter rest small a)
with_letter b None rest small l a = part_then (nat_le 33 b && nat_le b 126) b rest (λ e. grind (arith, nat_tests)) l a

spelled_then : (b : ℕ) (rest : List ℕ) → b < 256 → IsAscii rest → IsAscii (spelled b ++ rest)
unfolding spelled
spelled_then b rest l a = with_letter b (letter_for b) rest (letter_small b) l a

string_ascii : (bs : List ℕ) → AllByRecursion (λ b. b < 256) bs → IsAscii (string_text bs)
unfolding string_text
string_ascii [] h = IsAscii-nil
string_ascii (b ∷ bs) h = spelled_then b (string_text bs) h.0 (string_ascii bs h.1)

pub string_is_text : (bs : List ℕ) → AllByRecursion (λ b. b < 256) bs → IsUtf8 (string_text bs)
string_is_text bs h = IsUtf8-from_ascii (string_text bs) (string_ascii bs h)

fits_in : (cap : ℕ) (value : Option Value) → FitsPlace cap value → IfSome (string_in value) (λ string. IsTrue (string_fits string))
fits_in cap None h = tt
fits_in cap (Some Flag) h = tt
fits_in cap (Some (Number n)) h = tt
fits_in cap (Some (String bytes)) h = h.1

fits_found : (found : Option (Bor (List ℕ))) (value : Option (List ℕ)) → option_copied found ≡ value → IfSome value (λ string. IsTrue (string_fits string)) → IfSome found (λ string. IsTrue (string_fits string.now))
fits_found None value e h = tt
fits_found (Some string) value e h = subst (λ (it : Option (List ℕ)). IfSome it (λ own. IsTrue (string_fits own))) (sym e) h

-- the string of an entry fits
pub entry_fits : (entry : Content) (cap : ℕ) (found : Option (Bor (List ℕ))) → IsEntry entry → option_copied found ≡ string_at entry cap → IfSome found (λ string. IsTrue (string_fits string.now))
entry_fits entry cap found is e = fits_found found (string_at entry cap) e (fits_in cap (value_at entry cap) (is.fits cap))
