-- The probes that are tried are starts of their row.
use Rattle.std.proofs.Common.{◌≡◌, ℕ, ◌+◌, ◌-◌, ◌<◌, ◌≤◌, ◌&&◌, Bool, true, false, if◌then◌else◌, refl, sym, ap, subst, ◌∙◌, arith}
use Rattle.std.proofs.lemmas.Bool.{ltb-true}
use Rattle.std.proofs.lemmas.List.{length-replicate}
use Rattle.std.specs.Prelude.{nat_lt}
use Rattle.vt_term.specs.Screen.{IsScreen}
use Rattle.vt_term.specs.Size.{IsSize}
use Rattle.vt_effects.specs.declared.starts.Start.{Start}
use Rattle.vt_effects.specs.declared.starts.Margins.{Margins}
use Rattle.vt_effects.specs.declared.starts.Margins.TheVariants as margins
use Rattle.ti_rows.specs.Asked.{start_of}
use Rattle.ti_rows.specs.Lists.{IsInRange}
use Rattle.ti_rows.specs.declared.rows.Row.{Row}
use Rattle.ti_rows.specs.declared.rows.Row.TheVariants.{Cup, Cub1, Cuf1, Cuu1, Cud1, Cub, Cuf, Cuu, Cud, El, El1, Ed, Ech, Csr, Ind, Ri}
use Rattle.ti_rows.specs.Starts.{IsAny, IsFree, IsCalm, Starts}
use Rattle.ti_checker.specs.Probes.{screen_of}
use Rattle.ti_checker.specs.Trials.{choices_of, top_by, bottom_by, row_by, probe_by}
use Rattle.ti_checker.specs.declared.probes.Probe.{Probe}
use Rattle.ti_checker.specs.declared.trials.Choices.{Choices}
use Rattle.ti_checker.proofs.Places.{printed_at, uniform_wide}

-- a choice of two numbers is within them
from_least : (b : Bool) (a z : ℕ) → a ≤ z → a ≤ (if b then z else a)
from_least true a z h = h
from_least false a z h = omega arith

to_greatest : (b : Bool) (a z : ℕ) → a ≤ z → (if b then z else a) ≤ z
to_greatest true a z h = omega arith
to_greatest false a z h = h

none_pending : (b : Bool) → (b && false) ≡ false
none_pending true = refl
none_pending false = refl

-- ---- margins

-- if the margins depend on the cursor, there is room for a line above or below it
abbrev HasRoom : Margins → ℕ → ℕ → Type 0
HasRoom margins.OnBottom row last = 1 ≤ row
HasRoom margins.OnTop row last = row < last
HasRoom _ row last = Unit {0}

narrowed : (b : Bool) (last : ℕ) → nat_lt 1 last ≡ b → 1 ≤ last → (if b then 1 else 0) < last
narrowed true last h one = ltb-true 1 last h
narrowed false last h one = omega (arith, one)

lowered : (b : Bool) (row last : ℕ) → row < last → row < (if b then row + 1 else last)
lowered true row last h = omega arith
lowered false row last h = h

lowered_in : (b : Bool) (row last : ℕ) → row < last → (if b then row + 1 else last) ≤ last
lowered_in true row last h = omega (arith, h)
lowered_in false row last h = omega arith

in_order : (narrow : Bool) (m : Margins) (row last : ℕ) → 1 ≤ last → HasRoom m row last → top_by narrow m row last < bottom_by narrow m row last
in_order narrow margins.Whole row last one room = omega (arith, one)
in_order true margins.Legal row last one room = narrowed (nat_lt 1 last) last refl one
in_order false margins.Legal row last one room = omega (arith, one)
in_order true margins.OnBottom row last one room = omega (arith, room)
in_order false margins.OnBottom row last one room = omega (arith, room)
in_order true margins.OnTop row last one room = lowered (nat_lt row last) row last room
in_order false margins.OnTop row last one room = room

on_screen : (narrow : Bool) (m : Margins) (row last : ℕ) → row ≤ last → HasRoom m row last → bottom_by narrow m row last ≤ last
on_screen narrow margins.Whole row last h room = omega arith
on_screen narrow margins.Legal row last h room = omega arith
on_screen narrow margins.OnBottom row last h room = h
on_screen true margins.OnTop row last h room = lowered_in (nat_lt row last) row last room
on_screen false margins.OnTop row last h room = omega arith

-- ---- a start whose corners lie on the screen

record Fits (rows cols : ℕ) (s : Start) : Type 0 where
  row_order : s.row_min ≤ s.row_max
  row_in : s.row_max < rows
  col_order : s.col_min ≤ s.col_max
  col_in : s.col_max < cols
  room : (c : Choices) → HasRoom s.margins (row_by c s) (rows - 1)

shape : (rows cols : ℕ) (p : Probe) → IsSize rows cols → p.fill ≡ 120 → p.row < rows → p.col < cols → p.top < p.bottom → p.bottom < rows → IsScreen (screen_of rows cols p)
shape rows cols p size fill row col region bottom = record {
  size = size;
  lines = length-replicate rows _;
  columns = λ i lt. uniform_wide rows cols i p.fill lt;
  characters = λ i j. printed_at rows cols i j p.fill (omega (arith, fill)) (omega (arith, fill));
  row = row;
  col = col;
  region = region;
  bottom = bottom;
}

any : (rows cols : ℕ) (c : Choices) (s : Start) → IsSize rows cols → Fits rows cols s → IsAny rows cols (screen_of rows cols (probe_by c s rows))
any rows cols c s size fits =
    let r : row_by c s ≤ s.row_max = to_greatest c.low s.row_min s.row_max fits.row_order in
    let k : (if c.right then s.col_max else s.col_min) ≤ s.col_max = to_greatest c.right s.col_min s.col_max fits.col_order in
    let two = size.0 in
    let b : bottom_by c.narrow s.margins (row_by c s) (rows - 1) ≤ rows - 1 = on_screen c.narrow s.margins (row_by c s) (rows - 1) (omega (arith, r, fits.row_in)) (fits.room c) in
    record {
      screen = shape rows cols (probe_by c s rows) size refl (omega (arith, r, fits.row_in)) (omega (arith, k, fits.col_in)) (in_order c.narrow s.margins (row_by c s) (rows - 1) (omega (arith, two)) (fits.room c)) (omega (arith, b, two));
      rows_are = refl;
      cols_are = refl;
      tame = record { autowrap = refl; inserting = refl };
    }

free : (rows cols : ℕ) (c : Choices) (s : Start) → IsSize rows cols → Fits rows cols s → s.margins ≡ margins.Whole → IsFree rows cols (screen_of rows cols (probe_by c s rows))
free rows cols c s size fits whole = record {
  any = any rows cols c s size fits;
  top = ap (λ (m : Margins). top_by c.narrow m (row_by c s) (rows - 1)) whole;
  bottom =
      let e : bottom_by c.narrow s.margins (row_by c s) (rows - 1) ≡ rows - 1 = ap (λ (m : Margins). bottom_by c.narrow m (row_by c s) (rows - 1)) whole in
      let two = size.0 in
      omega (arith, e, two);
}

whole_fits : (rows cols a b x y : ℕ) (pending : Bool) → a ≤ b → b < rows → x ≤ y → y < cols → Fits rows cols (record { row_min = a; row_max = b; col_min = x; col_max = y; pending = pending; margins = margins.Whole })
whole_fits rows cols a b x y pending ab br xy yc = record { row_order = ab; row_in = br; col_order = xy; col_in = yc; room = λ c. tt }

legal_fits : (rows cols : ℕ) → IsSize rows cols → Fits rows cols (record { row_min = 0; row_max = rows - 1; col_min = 0; col_max = cols - 1; pending = true; margins = margins.Legal })
legal_fits rows cols size = let two = size.0 in let wide = size.2 in record { row_order = omega arith; row_in = omega (arith, two); col_order = omega arith; col_in = omega (arith, wide); room = λ c. tt }

calm : (rows cols a b x y : ℕ) (c : Choices) → IsSize rows cols → a ≤ b → b < rows → x ≤ y → y < cols
    → IsCalm rows cols (screen_of rows cols (probe_by c (record { row_min = a; row_max = b; col_min = x; col_max = y; pending = false; margins = margins.Whole }) rows))
calm rows cols a b x y c size ab br xy yc = record { free = free rows cols c _ size (whole_fits rows cols a b x y false ab br xy yc) refl; pending = none_pending c.pending }

wherever : (rows cols : ℕ) (c : Choices) → IsSize rows cols → IsFree rows cols (screen_of rows cols (probe_by c (record { row_min = 0; row_max = rows - 1; col_min = 0; col_max = cols - 1; pending = true; margins = margins.Whole }) rows))
wherever rows cols c size = let two = size.0 in let wide = size.2 in free rows cols c _ size (whole_fits rows cols 0 (rows - 1) 0 (cols - 1) true (omega arith) (omega (arith, two)) (omega arith) (omega (arith, wide))) refl

-- ---- the probes of each row

-- the probe of these choices is a start of the row
pub probe_starts : (rows cols : ℕ) (row : Row) (c : Choices) → IsSize rows cols → IsInRange rows cols row → Starts rows cols row (screen_of rows cols (probe_by c (start_of rows cols row) rows))
probe_starts rows cols (Cup row col) c size range = any rows cols c _ size (legal_fits rows cols size)
probe_starts rows cols (Csr top bottom) c size range = any rows cols c _ size (legal_fits rows cols size)
probe_starts rows cols Cub1 c size range = let two = size.0 in let wide = size.2 in
    (calm rows cols 0 (rows - 1) 1 (cols - 1) c size (omega arith) (omega (arith, two)) (omega (arith, wide)) (omega (arith, wide)), from_least c.right 1 (cols - 1) (omega (arith, wide)))
probe_starts rows cols Cuf1 c size range = let two = size.0 in let wide = size.2 in
    (calm rows cols 0 (rows - 1) 0 (cols - 1 - 1) c size (omega arith) (omega (arith, two)) (omega (arith, wide)) (omega (arith, wide)), (let h = to_greatest c.right 0 (cols - 1 - 1) (omega arith) in omega (arith, wide, h)))
probe_starts rows cols Cuu1 c size range = let two = size.0 in let wide = size.2 in
    (calm rows cols 1 (rows - 1) 0 (cols - 1) c size (omega (arith, two)) (omega (arith, two)) (omega arith) (omega (arith, wide)), from_least c.low 1 (rows - 1) (omega (arith, two)))
probe_starts rows cols Cud1 c size range = let two = size.0 in let wide = size.2 in
    (calm rows cols 0 (rows - 1 - 1) 0 (cols - 1) c size (omega arith) (omega (arith, two)) (omega arith) (omega (arith, wide)), (let h = to_greatest c.low 0 (rows - 1 - 1) (omega arith) in omega (arith, two, h)))
probe_starts rows cols (Cub n) c size range = let two = size.0 in let far = range.1 in
    (calm rows cols 0 (rows - 1) n (cols - 1) c size (omega arith) (omega (arith, two)) (omega (arith, far)) (omega (arith, far)), from_least c.right n (cols - 1) (omega (arith, far)))
probe_starts rows cols (Cuf n) c size range = let two = size.0 in let far = range.1 in
    (calm rows cols 0 (rows - 1) 0 (cols - 1 - n) c size (omega arith) (omega (arith, two)) (omega arith) (omega (arith, far)), (let h = to_greatest c.right 0 (cols - 1 - n) (omega arith) in omega (arith, far, h)))
probe_starts rows cols (Cuu n) c size range = let wide = size.2 in let far = range.1 in
    (calm rows cols n (rows - 1) 0 (cols - 1) c size (omega (arith, far)) (omega (arith, far)) (omega arith) (omega (arith, wide)), from_least c.low n (rows - 1) (omega (arith, far)))
probe_starts rows cols (Cud n) c size range = let wide = size.2 in let far = range.1 in
    (calm rows cols 0 (rows - 1 - n) 0 (cols - 1) c size (omega arith) (omega (arith, far)) (omega arith) (omega (arith, wide)), (let h = to_greatest c.low 0 (rows - 1 - n) (omega arith) in omega (arith, far, h)))
probe_starts rows cols El c size range = let two = size.0 in let wide = size.2 in calm rows cols 0 (rows - 1) 0 (cols - 1) c size (omega arith) (omega (arith, two)) (omega arith) (omega (arith, wide))
probe_starts rows cols El1 c size range = let two = size.0 in let wide = size.2 in calm rows cols 0 (rows - 1) 0 (cols - 1) c size (omega arith) (omega (arith, two)) (omega arith) (omega (arith, wide))
probe_starts rows cols Ed c size range = let two = size.0 in let wide = size.2 in calm rows cols 0 (rows - 1) 0 (cols - 1) c size (omega arith) (omega (arith, two)) (omega arith) (omega (arith, wide))
probe_starts rows cols (Ech n) c size range = let two = size.0 in let wide = size.2 in calm rows cols 0 (rows - 1) 0 (cols - 1) c size (omega arith) (omega (arith, two)) (omega arith) (omega (arith, wide))
probe_starts rows cols Ind c size range = (record { any = any rows cols c (start_of rows cols Ind) size fits; pending = none_pending c.pending }, refl)
  where
    fits : Fits rows cols (start_of rows cols Ind)
    fits = let two = size.0 in let wide = size.2 in record { row_order = omega (arith, two); row_in = omega (arith, two); col_order = omega arith; col_in = omega (arith, wide); room = λ c. from_least c.low 1 (rows - 1) (omega (arith, two)) }
probe_starts rows cols Ri c size range = (record { any = any rows cols c (start_of rows cols Ri) size fits; pending = none_pending c.pending }, refl)
  where
    fits : Fits rows cols (start_of rows cols Ri)
    fits = let two = size.0 in let wide = size.2 in record { row_order = omega arith; row_in = omega (arith, two); col_order = omega arith; col_in = omega (arith, wide); room = λ c. (let h = to_greatest c.low 0 (rows - 1 - 1) (omega arith) in omega (arith, two, h)) }
probe_starts rows cols _ c size range = wherever rows cols c size

-- the probe with a number is a start of the row
pub numbered_starts : (rows cols n : ℕ) (row : Row) (p : Probe) (s : Start) (c : Choices) → p ≡ probe_by c s rows → s ≡ start_of rows cols row → c ≡ choices_of n → IsSize rows cols → IsInRange rows cols row → Starts rows cols row (screen_of rows cols p)
numbered_starts rows cols n row p s c is start choices size range =
    subst (λ (q : Probe). Starts rows cols row (screen_of rows cols q)) (sym (is ∙ (ap (λ (t : Start). probe_by c t rows) start ∙ ap (λ (d : Choices). probe_by d (start_of rows cols row) rows) choices)))
    (probe_starts rows cols row (choices_of n) size range)
