-- Shown bytes are ASCII, and therefore text.
use Rattle.std.proofs.Common.{◌≡◌, ◌<◌, ◌++◌, ◌&&◌, ◌+◌, ◌/◌, ◌%◌, ℕ, Bool, true, false, List, [], ◌∷◌, if◌then◌else◌, nat_le, refl, arith}
use Rattle.std.specs.List.{AllByRecursion}
use Rattle.std.specs.Str.{IsAscii, IsUtf8}
use Rattle.std.proofs.lemmas.Bool.Decides.{nat_tests}
use Rattle.std.proofs.lemmas.Str.{IsUtf8-from_ascii}
use Rattle.std.proofs.lemmas.Str.Ascii.{IsAscii-cons, IsAscii-nil}
use Rattle.ti_source.specs.Prints.{octal}
use Rattle.ti_files.specs.Shown.{shown}

octal_then : (b : ℕ) (rest : List ℕ) → b < 256 → IsAscii rest → IsAscii (octal b ++ rest)
octal_then b rest l a =
    let two : List ℕ = (48 + b / 8 % 8) ∷ (48 + b % 8) ∷ rest in
    IsAscii-cons 92 ((48 + b / 64) ∷ two) (omega arith)
    (IsAscii-cons (48 + b / 64) two (omega arith)
    (IsAscii-cons (48 + b / 8 % 8) ((48 + b % 8) ∷ rest) (omega arith) (IsAscii-cons (48 + b % 8) rest (omega arith) a)))

pub part_then : (is_printable : Bool) (b : ℕ) (rest : List ℕ) → (is_printable ≡ true → b < 127) → b < 256 → IsAscii rest → IsAscii ((if is_printable then b ∷ [] else octal b) ++ rest)
part_then true b rest small l a = let s = small refl in IsAscii-cons b rest (omega arith) a
part_then false b rest small l a = octal_then b rest l a

shown_ascii : (bs : List ℕ) → AllByRecursion (λ b. b < 256) bs → IsAscii (shown bs)
shown_ascii [] h = IsAscii-nil
shown_ascii (b ∷ bs) h =
    part_then (nat_le 32 b && nat_le b 126) b (shown bs) (λ e. grind (arith, nat_tests)) h.0 (shown_ascii bs h.1)

pub shown_is_text : (bs : List ℕ) → AllByRecursion (λ b. b < 256) bs → IsUtf8 (shown bs)
shown_is_text bs h = IsUtf8-from_ascii (shown bs) (shown_ascii bs h)
