-- The parameters that a size allows, as a test and as a fact.
use Rattle.std.proofs.Common.{◌≡◌, ◌<◌, ◌≤◌, ◌&&◌, ◌↔◌, nat_lt, nat_le, ℕ, Bool, true, false, IsTrue, refl, sym}
use Rattle.std.proofs.lemmas.Bool.{and_parts, ltb-true, lt-ltb, leb-true, le-leb}
use Rattle.ti_rows.specs.declared.rows.Row.{Row}
use Rattle.ti_rows.specs.declared.rows.Row.TheVariants.{Cup, Hpa, Vpa, Cub, Cuf, Cuu, Cud, Ech, Csr}
use Rattle.ti_rows.specs.Lists.{IsInRange}
use Rattle.ti_cert.specs.Strings.{allows}

pub less : (a b : ℕ) → nat_lt a b ≡ true → a < b
less a b h = ltb-true a b h

least : (a b : ℕ) → nat_le a b ≡ true → a ≤ b
least a b h = leb-true a b h

pub is_less : (a b : ℕ) → a < b → nat_lt a b ≡ true
is_less a b h = lt-ltb a b h

is_least : (a b : ℕ) → a ≤ b → nat_le a b ≡ true
is_least a b h = le-leb a b h

both : (a b : Bool) → a ≡ true → b ≡ true → (a && b) ≡ true
both true b h k = k
both false b h k = cc

same_truth : (a b : Bool) → (a ≡ true → b ≡ true) → (b ≡ true → a ≡ true) → a ≡ b
same_truth true b f g = sym (f refl)
same_truth false true f g = g refl
same_truth false false f g = refl

pub in_range : (rows cols : ℕ) (row : Row) → allows rows cols row ≡ true → IsInRange rows cols row
in_range rows cols (Cup row col) h = (less row rows (and_parts (nat_lt row rows) (nat_lt col cols) h).0, less col cols (and_parts (nat_lt row rows) (nat_lt col cols) h).1)
in_range rows cols (Hpa col) h = less col cols h
in_range rows cols (Vpa row) h = less row rows h
in_range rows cols (Cub n) h = (least 1 n (and_parts (nat_le 1 n) (nat_lt n cols) h).0, less n cols (and_parts (nat_le 1 n) (nat_lt n cols) h).1)
in_range rows cols (Cuf n) h = (least 1 n (and_parts (nat_le 1 n) (nat_lt n cols) h).0, less n cols (and_parts (nat_le 1 n) (nat_lt n cols) h).1)
in_range rows cols (Cuu n) h = (least 1 n (and_parts (nat_le 1 n) (nat_lt n rows) h).0, less n rows (and_parts (nat_le 1 n) (nat_lt n rows) h).1)
in_range rows cols (Cud n) h = (least 1 n (and_parts (nat_le 1 n) (nat_lt n rows) h).0, less n rows (and_parts (nat_le 1 n) (nat_lt n rows) h).1)
in_range rows cols (Ech n) h = (least 1 n (and_parts (nat_le 1 n) (nat_le n cols) h).0, least n cols (and_parts (nat_le 1 n) (nat_le n cols) h).1)
in_range rows cols (Csr top bottom) h = (less top bottom (and_parts (nat_lt top bottom) (nat_lt bottom rows) h).0, less bottom rows (and_parts (nat_lt top bottom) (nat_lt bottom rows) h).1)
in_range rows cols row h = tt

pub is_allowed : (rows cols : ℕ) (row : Row) → IsInRange rows cols row → allows rows cols row ≡ true
is_allowed rows cols (Cup row col) h = both (nat_lt row rows) (nat_lt col cols) (is_less row rows h.0) (is_less col cols h.1)
is_allowed rows cols (Hpa col) h = is_less col cols h
is_allowed rows cols (Vpa row) h = is_less row rows h
is_allowed rows cols (Cub n) h = both (nat_le 1 n) (nat_lt n cols) (is_least 1 n h.0) (is_less n cols h.1)
is_allowed rows cols (Cuf n) h = both (nat_le 1 n) (nat_lt n cols) (is_least 1 n h.0) (is_less n cols h.1)
is_allowed rows cols (Cuu n) h = both (nat_le 1 n) (nat_lt n rows) (is_least 1 n h.0) (is_less n rows h.1)
is_allowed rows cols (Cud n) h = both (nat_le 1 n) (nat_lt n rows) (is_least 1 n h.0) (is_less n rows h.1)
is_allowed rows cols (Ech n) h = both (nat_le 1 n) (nat_le n cols) (is_least 1 n h.0) (is_least n cols h.1)
is_allowed rows cols (Csr top bottom) h = both (nat_lt top bottom) (nat_lt bottom rows) (is_less top bottom h.0) (is_less bottom rows h.1)
is_allowed rows cols row h = refl

pub allowed : (rows cols : ℕ) (row : Row) (b : Bool) → IsTrue b ↔ IsInRange rows cols row → b ≡ allows rows cols row
allowed rows cols row b h = same_truth b (allows rows cols row) (λ e. is_allowed rows cols row (h.0 e)) (λ e. h.1 (in_range rows cols row e))
