-- No line is longer than the longest of its group.
use Rattle.std.proofs.Common.{◌≡◌, ◌≤◌, ℕ, zero, suc, max, Bool, true, false, if◌then◌else◌, List, [], ◌∷◌, ◌++◌, length, length-append, Option, Some, None, refl, sym, ap, ◌∙◌, arith}
use Rattle.std.specs.Prelude.{is_some}
use Rattle.std.specs.List.{slice_get}
use Rattle.std.proofs.lemmas.Option.{same_Some}
use Rattle.ti_rows.specs.declared.rows.Row.{Row}
use Rattle.ti_rows.specs.declared.rows.Row.TheVariants.{Clear, Cup, El, El1, Ed, Ech, Sgr, Sgr0, Setaf, Setab, Op, Smacs, Rmacs, Csr, Ind, Ri, Civis, Cnorm, Cvvis}
use Rattle.ti_rows.specs.Names.{order, no_attributes}
use Rattle.ti_rows.specs.Lists.{rank}
use Rattle.ti_conforms.specs.Table as strings
use Rattle.ti_conforms.specs.Together.{StandTogether}
use Rattle.ti_cert.specs.Strings.{Strings, allows, group_at, row_string}
use Rattle.ti_cert.specs.Table.{CheckedTable, table_of, certified}
use Rattle.ti_conforms.specs.Certified.{or_nothing, limit_of, line_in}
use Rattle.ti_cert.specs.Lengths.{greatest, longest_line, longest_change, singly, longest_in}

allowed : (b : Bool) (o : Option (List ℕ)) (x : List ℕ) → (if b then o else None) ≡ Some x → o ≡ Some x
allowed true o x h = h
allowed false o x h = cc

at_most : (xs : List (List ℕ)) (k : ℕ) (x : List ℕ) → slice_get xs k ≡ Some x → length x ≤ greatest xs
at_most [] k x h = cc
at_most (y ∷ ys) zero x h = let e : length y ≡ length x = ap length (same_Some y x h) in omega arith
at_most (y ∷ ys) (suc k) x h = let further : length x ≤ greatest ys = at_most ys k x h in omega arith

-- the string of a row is at most as long as the longest of its capability
pub within : (s : Strings) (row : Row) (bytes : List ℕ) → row_string s row ≡ Some bytes → length bytes ≤ longest_line s row
within s row bytes h = at_most (group_at s (order row)) (rank s.rows s.cols row) bytes (allowed (allows s.rows s.cols row) (slice_get (group_at s (order row)) (rank s.rows s.cols row)) bytes h)

-- a line is no longer than itself, as for lines that have a limit of their own
itself : (o : Option (List ℕ)) (bytes : List ℕ) → o ≡ Some bytes → length bytes ≤ length (or_nothing o)
itself o bytes h = let e : length (or_nothing o) ≡ length bytes = ap (λ (p : Option (List ℕ)). length (or_nothing p)) h in omega arith

taken : (b : Bool) (m n : ℕ) → b ≡ true → (if b then m else n) ≡ m
taken true m n h = refl
taken false m n h = cc

there_is : (o : Option (List ℕ)) (x : List ℕ) → o ≡ Some x → is_some o ≡ true
there_is o x e = ap (λ (p : Option (List ℕ)). is_some p) e

-- if one set of attributes has a line, so has the empty one
sgr_within : (c : CheckedTable) → StandTogether (table_of c) → (row : Row) (bytes : List ℕ) → (strings.has (table_of c) row ≡ true → strings.has (table_of c) (Sgr no_attributes) ≡ true)
    → longest_line c.known.strings row ≡ longest_line c.known.strings (Sgr no_attributes) → row_string c.known.strings row ≡ Some bytes → length bytes ≤ longest_change c.known.strings
sgr_within c together row bytes same longest h =
    let there : strings.has (table_of c) (Sgr no_attributes) ≡ true = same (there_is (row_string c.known.strings row) bytes h) in
    let e : longest_change c.known.strings ≡ max (longest_line c.known.strings (Sgr no_attributes)) (longest_line c.known.strings Sgr0)
    = taken (strings.has (table_of c) (Sgr no_attributes)) (max (longest_line c.known.strings (Sgr no_attributes)) (longest_line c.known.strings Sgr0)) (singly c.known.strings) there in
    let w : length bytes ≤ longest_line c.known.strings row = within c.known.strings row bytes h in
    omega arith

clear_within : (t : strings.Table) (bytes : List ℕ) → t.line_of Clear ≡ Some bytes → length bytes ≤ length (strings.resync t)
unfolding strings.resync_of
clear_within t bytes h =
    let e : length (strings.text_of t Clear) ≡ length bytes = ap (λ (p : Option (List ℕ)). length (strings.or_nothing p)) h in
    omega (arith, length-append (strings.resync_front t) (strings.text_of t (strings.widening t) ++ strings.text_of t Clear), length-append (strings.text_of t (strings.widening t)) (strings.text_of t Clear))

-- each line is within its limit
pub short : (c : CheckedTable) → StandTogether (table_of c) → (row : Row) (bytes : List ℕ) → row_string c.known.strings row ≡ Some bytes → line_in (table_of c) row ≡ Some bytes → length bytes ≤ limit_of (certified c) row
unfolding longest_in
short c together Clear bytes h l = clear_within (table_of c) bytes h
short c together (Cup row col) bytes h l = within c.known.strings (Cup row col) bytes h
short c together El bytes h l = let w : length bytes ≤ longest_line c.known.strings El = within c.known.strings El bytes h in omega arith
short c together El1 bytes h l = let w : length bytes ≤ longest_line c.known.strings El1 = within c.known.strings El1 bytes h in omega arith
short c together Ed bytes h l = let w : length bytes ≤ longest_line c.known.strings Ed = within c.known.strings Ed bytes h in omega arith
short c together (Ech n) bytes h l = let w : length bytes ≤ longest_line c.known.strings (Ech n) = within c.known.strings (Ech n) bytes h in omega arith
short c together (Sgr a) bytes h l = sgr_within c together (Sgr a) bytes (λ e. sym (together.whole (Sgr a) (Sgr no_attributes) refl tt tt) ∙ e) refl h
short c together (Setaf color) bytes h l = within c.known.strings (Setaf color) bytes h
short c together (Setab color) bytes h l = within c.known.strings (Setab color) bytes h
short c together Op bytes h l = within c.known.strings Op bytes h
short c together Smacs bytes h l = let w : length bytes ≤ longest_line c.known.strings Smacs = within c.known.strings Smacs bytes h in omega arith
short c together Rmacs bytes h l = let w : length bytes ≤ longest_line c.known.strings Rmacs = within c.known.strings Rmacs bytes h in omega arith
short c together (Csr top bottom) bytes h l = let w : length bytes ≤ longest_line c.known.strings (Csr top bottom) = within c.known.strings (Csr top bottom) bytes h in omega arith
short c together Ind bytes h l = let w : length bytes ≤ longest_line c.known.strings Ind = within c.known.strings Ind bytes h in omega arith
short c together Ri bytes h l = let w : length bytes ≤ longest_line c.known.strings Ri = within c.known.strings Ri bytes h in omega arith
short c together Civis bytes h l = within c.known.strings Civis bytes h
short c together Cnorm bytes h l = within c.known.strings Cnorm bytes h
short c together Cvvis bytes h l = within c.known.strings Cvvis bytes h
short c together row bytes h l = itself (line_in (table_of c) row) bytes l
