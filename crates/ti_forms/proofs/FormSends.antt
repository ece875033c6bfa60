-- The bytes that the standard's strings send.
use Rattle.std.proofs.Common.{◌≡◌, ℕ, ◌+◌, ◌<◌, ◌≤◌, List, sym, subst, arith}
use Rattle.ti_rows.specs.declared.rows.Row.{Row}
use Rattle.ti_rows.specs.declared.rows.Row.TheVariants.{Cup, Hpa, Vpa, Cub, Cuf, Cuu, Cud, Ech, Csr}
use Rattle.ti_conforms.specs.Sends.{Sends, values}
use Rattle.ti_forms.specs.Forms.{HasForm, ToPlace, ToColumn, ToLine, Left, Right, Upward, Downward, Erasing, Bounding}
use Rattle.ti_forms.specs.Forms.{number_string, place_string, places_string, with_number, with_numbers}
use Rattle.ti_forms.specs.Forms.{standard_bytes, standard_string}
use Rattle.ti_forms.proofs.FormRuns.{Ends, ends_sent, ends_unread, number_ends, place_ends, places_ends}
use Rattle.ti_forms.proofs.FormRuns.{has_A, has_B, has_C, has_D, has_G, has_H, has_X, has_d, has_r}

of_ends : (string : List ℕ) (row : Row) (bytes : List ℕ) → Ends string (values row) bytes → Sends string row bytes
of_ends string row bytes e = record {
  sends = ends_sent string (values row) bytes e;
  sets_first = λ end m reads. ends_unread string (values row) bytes end e m reads;
}

-- the row's standard string sends the row's standard bytes
abbrev SendsForm : Row → Type 0
SendsForm row = Sends (standard_string row) row (standard_bytes row)

small : (n : ℕ) → n ≤ 500 → n < 65536
small n h = omega (arith, h)

sent_H : (m n : ℕ) → m ≤ 500 → n ≤ 500 → Sends (places_string 72) (Cup m n) (with_numbers (m + 1) (n + 1) 72)
sent_H m n h k = of_ends (places_string 72) (Cup m n) (with_numbers (m + 1) (n + 1) 72) (places_ends 72 m n has_H (small m h) (small n k) (λ d. cc))

form_H : (row : Row) (m n : ℕ) → row ≡ Cup m n → m ≤ 500 → n ≤ 500 → SendsForm row
form_H row m n e h k = subst (λ (r : Row). SendsForm r) (sym e) (sent_H m n h k)

sent_G : (n : ℕ) → n ≤ 500 → Sends (place_string 71) (Hpa n) (with_number (n + 1) 71)
sent_G n h = of_ends (place_string 71) (Hpa n) (with_number (n + 1) 71) (place_ends 71 n has_G (small n h) (λ d. cc))

form_G : (row : Row) (n : ℕ) → row ≡ Hpa n → n ≤ 500 → SendsForm row
form_G row n e h = subst (λ (r : Row). SendsForm r) (sym e) (sent_G n h)

sent_d : (n : ℕ) → n ≤ 500 → Sends (place_string 100) (Vpa n) (with_number (n + 1) 100)
sent_d n h = of_ends (place_string 100) (Vpa n) (with_number (n + 1) 100) (place_ends 100 n has_d (small n h) (λ d. cc))

form_d : (row : Row) (n : ℕ) → row ≡ Vpa n → n ≤ 500 → SendsForm row
form_d row n e h = subst (λ (r : Row). SendsForm r) (sym e) (sent_d n h)

sent_D : (n : ℕ) → n ≤ 500 → Sends (number_string 68) (Cub n) (with_number n 68)
sent_D n h = of_ends (number_string 68) (Cub n) (with_number n 68) (number_ends 68 n has_D (small n h) (λ d. cc))

form_D : (row : Row) (n : ℕ) → row ≡ Cub n → n ≤ 500 → SendsForm row
form_D row n e h = subst (λ (r : Row). SendsForm r) (sym e) (sent_D n h)

sent_C : (n : ℕ) → n ≤ 500 → Sends (number_string 67) (Cuf n) (with_number n 67)
sent_C n h = of_ends (number_string 67) (Cuf n) (with_number n 67) (number_ends 67 n has_C (small n h) (λ d. cc))

form_C : (row : Row) (n : ℕ) → row ≡ Cuf n → n ≤ 500 → SendsForm row
form_C row n e h = subst (λ (r : Row). SendsForm r) (sym e) (sent_C n h)

sent_A : (n : ℕ) → n ≤ 500 → Sends (number_string 65) (Cuu n) (with_number n 65)
sent_A n h = of_ends (number_string 65) (Cuu n) (with_number n 65) (number_ends 65 n has_A (small n h) (λ d. cc))

form_A : (row : Row) (n : ℕ) → row ≡ Cuu n → n ≤ 500 → SendsForm row
form_A row n e h = subst (λ (r : Row). SendsForm r) (sym e) (sent_A n h)

sent_B : (n : ℕ) → n ≤ 500 → Sends (number_string 66) (Cud n) (with_number n 66)
sent_B n h = of_ends (number_string 66) (Cud n) (with_number n 66) (number_ends 66 n has_B (small n h) (λ d. cc))

form_B : (row : Row) (n : ℕ) → row ≡ Cud n → n ≤ 500 → SendsForm row
form_B row n e h = subst (λ (r : Row). SendsForm r) (sym e) (sent_B n h)

sent_X : (n : ℕ) → n ≤ 500 → Sends (number_string 88) (Ech n) (with_number n 88)
sent_X n h = of_ends (number_string 88) (Ech n) (with_number n 88) (number_ends 88 n has_X (small n h) (λ d. cc))

form_X : (row : Row) (n : ℕ) → row ≡ Ech n → n ≤ 500 → SendsForm row
form_X row n e h = subst (λ (r : Row). SendsForm r) (sym e) (sent_X n h)

sent_r : (m n : ℕ) → m ≤ 500 → n ≤ 500 → Sends (places_string 114) (Csr m n) (with_numbers (m + 1) (n + 1) 114)
sent_r m n h k = of_ends (places_string 114) (Csr m n) (with_numbers (m + 1) (n + 1) 114) (places_ends 114 m n has_r (small m h) (small n k) (λ d. cc))

form_r : (row : Row) (m n : ℕ) → row ≡ Csr m n → m ≤ 500 → n ≤ 500 → SendsForm row
form_r row m n e h k = subst (λ (r : Row). SendsForm r) (sym e) (sent_r m n h k)

pub forms_sent : (row : Row) → HasForm row → SendsForm row
forms_sent row (ToPlace m n e h k) = form_H row m n e h k
forms_sent row (ToColumn n e h) = form_G row n e h
forms_sent row (ToLine n e h) = form_d row n e h
forms_sent row (Left n e g h) = form_D row n e h
forms_sent row (Right n e g h) = form_C row n e h
forms_sent row (Upward n e g h) = form_A row n e h
forms_sent row (Downward n e g h) = form_B row n e h
forms_sent row (Erasing n e g h) = form_X row n e h
forms_sent row (Bounding m n e h k) = form_r row m n e h k

-- a string that is the row's standard one sends bytes that are the row's standard ones
pub form_sends : (string : List ℕ) (row : Row) (bytes : List ℕ) → HasForm row → string ≡ standard_string row → bytes ≡ standard_bytes row → Sends string row bytes
form_sends string row bytes h e f = subst (λ (s : List ℕ). Sends s row bytes) (sym e) (subst (λ (b : List ℕ). Sends (standard_string row) row b) (sym f) (forms_sent row h))
