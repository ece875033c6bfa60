-- The text of a string is read as that string.
use Rattle.std.proofs.Common.{◌≡◌, ℕ, ◌<◌, List, length, Some, None, Ok, Err, ap, ◌∙◌}
use Rattle.std.specs.Prelude.{if◌then◌else◌, ◌==◌, not, nat_le, IsTrue}
use Rattle.std.specs.List.{list_all, AllByRecursion}
use Rattle.std.proofs.lemmas.Bool.{and_parts}
use Rattle.ti_caps.specs.Fits.{string_fits}
use Rattle.ti_source.specs.declared.escapes.EscapeFault.TheVariants.{BadEscape, TooLong}
use Rattle.ti_source.specs.Escapes.{bounded, unescaped}
use Rattle.ti_source.specs.Prints.{string_text}
use Rattle.ti_source.proofs.ReadBack.{text_bytes}
use Rattle.ti_source.proofs.RoundTrip.{short_enough}
use Rattle.ti_source.proofs.Spellings.{string_reads}

pub string_back : (bytes : List ℕ) → IsTrue (string_fits bytes) → AllByRecursion (λ b. b < 256) bytes → unescaped (string_text bytes) ≡ Ok bytes
unfolding unescaped
string_back bytes fits range =
    let short = (and_parts (nat_le (length bytes) 4095) (list_all (λ b. not (b == 0)) bytes) fits).0 in
    ap (λ d. elim d [ None ↦ Err BadEscape | Some decoding ↦ bounded decoding.bytes ]) (string_reads bytes (text_bytes bytes fits range)).decoding
    ∙ ap (λ t. if t then Err TooLong else Ok bytes) (short_enough (length bytes) 4095 short)
