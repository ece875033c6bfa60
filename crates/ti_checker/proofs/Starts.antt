-- The text before the first line about a capability is short.
use Rattle.std.proofs.Common.{◌≡◌, ◌≤◌, ◌<◌, ◌+◌, ◌*◌, ℕ, true, List, [], ◌∷◌, ◌++◌, length, Option, None, Some, refl, sym, ap, ◌∙◌, arith, append-nil, length-append, subst}
use Rattle.std.specs.Prelude.{nat_le}
use Rattle.std.proofs.lemmas.Bool.{and_parts}
use Rattle.std.proofs.lemmas.Bool.Decides.{nat_tests}
use Rattle.hex.specs.Hex.{lower_digits}
use Rattle.hex.proofs.HexLemmas.{length-encode_with}
use Rattle.vt_term.specs.Size.{IsSize}
use Rattle.ti_caps.specs.Entry.{Content, IsEntry, FitsPlace, string_at, string_in, value_at}
use Rattle.ti_caps.specs.declared.value.Value.{Value}
use Rattle.ti_caps.specs.declared.value.Value.TheVariants.{Flag, Number, String}
use Rattle.ti_rows.specs.Names.{order}
use Rattle.ti_lines.specs.Heads.{acsc_text, size_text}
use Rattle.ti_lines.specs.Hex.{hex_text}
use Rattle.ti_lines.specs.Texts.{acsc_lines, ended}
use Rattle.ti_conforms.specs.Entries.{acsc}
use Rattle.ti_cert.proofs.BasicLines.{size_short}
use Rattle.ti_checker.specs.First.{IsDrafted}
use Rattle.ti_checker.specs.Limit.{most}
use Rattle.ti_checker.proofs.Passages.{heads, front_is}

few_bytes : (bytes : List ℕ) → nat_le (length bytes) 4095 ≡ true → length bytes ≤ 4095
few_bytes bytes h = grind (arith, nat_tests)

string_short : (place : ℕ) (v : Option Value) (bytes : List ℕ) → FitsPlace place v → string_in v ≡ Some bytes → length bytes ≤ 4095
string_short place None bytes h e = cc
string_short place (Some Flag) bytes h e = cc
string_short place (Some (Number n)) bytes h e = cc
string_short place (Some (String own)) bytes h e =
    let same : own ≡ bytes = cc in
    subst (λ (x : List ℕ). length x ≤ 4095) same (few_bytes own (and_parts (nat_le (length own) 4095) _ h.1).0)

hex_short : (bytes : List ℕ) → length (hex_text bytes) ≤ 2 * length bytes + 1
hex_short [] = omega arith
hex_short (b ∷ bytes) = let e = length-encode_with lower_digits (b ∷ bytes) in omega (arith, e)

pairs_short : (o : Option (List ℕ)) → ((bytes : List ℕ) → o ≡ Some bytes → length bytes ≤ 4095) → length (ended (acsc_lines o)) ≤ 10000
pairs_short None h = omega arith
pairs_short (Some bytes) h =
    let k = h bytes refl in
    let x = hex_short bytes in
    let l = length-append (acsc_text bytes) (10 ∷ []) in
    omega (arith, k, x, l)

heads_short : (entry : Content) (rows cols : ℕ) → IsEntry entry → IsSize rows cols → length (ended (heads entry rows cols)) ≤ most
heads_short entry rows cols is size =
    let s = size_short rows cols size in
    let p = pairs_short (string_at entry acsc) (λ bytes e. string_short acsc (value_at entry acsc) bytes (is.fits acsc) e) in
    let l = length-append (size_text rows cols) (10 ∷ ended (acsc_lines (string_at entry acsc))) in
    omega (arith, s, p, l)

pub begins : (entry : Content) (rows cols : ℕ) (old text : List ℕ) → IsEntry entry → IsSize rows cols → old ≡ [] → text ≡ old ++ ended (heads entry rows cols) → IsDrafted entry rows cols (λ row. order row < 0) text
begins entry rows cols old text is size none e = record {
  stand = λ row range lt. absurd (omega (arith, lt));
  written = record {
    lines = [];
    are = record { ordered = tt; each = λ line a. absurd a; held = λ line a. absurd a; all = λ row range checked lt. absurd (omega (arith, lt)) };
    text_is = whole ∙ sym (front_is entry rows cols [] ∙ append-nil (ended (heads entry rows cols)));
    short = subst (λ (x : List ℕ). length x ≤ most) (sym whole) (heads_short entry rows cols is size);
  };
}
  where
    whole : text ≡ ended (heads entry rows cols)
    whole = e ∙ ap (λ (x : List ℕ). x ++ ended (heads entry rows cols)) none
