-- The starts of a row at two sizes.
use Rattle.std.proofs.Common.{◌≡◌, ℕ, ◌+◌, ◌-◌, refl, arith}
use Rattle.vt_term.specs.Size.{IsSize, max_rows, max_cols}
use Rattle.ti_rows.specs.declared.rows.Row.{Row}
use Rattle.ti_rows.specs.declared.rows.Row.TheVariants.{Cup, Hpa, Vpa, Cub1, Cuf1, Cuu1, Cud1, Cub, Cuf, Cuu, Cud, Ech, Csr, Ind, Ri}
use Rattle.ti_rows.specs.Asked.{start_of}
use Rattle.ti_rows.specs.Lists.{IsInRange}
use Rattle.ti_sizes.specs.Steady.{rows_free, cols_free}

-- the greatest size allows the row too
pub in_greatest : (rows cols : ℕ) (row : Row) → IsSize rows cols → IsInRange rows cols row → IsInRange max_rows max_cols row
in_greatest rows cols (Cup row col) z r = (omega (arith, z.1, r.0), omega (arith, z.3, r.1))
in_greatest rows cols (Hpa col) z r = omega (arith, z.3, r)
in_greatest rows cols (Vpa row) z r = omega (arith, z.1, r)
in_greatest rows cols (Cub n) z r = (r.0, omega (arith, z.3, r.1))
in_greatest rows cols (Cuf n) z r = (r.0, omega (arith, z.3, r.1))
in_greatest rows cols (Cuu n) z r = (r.0, omega (arith, z.1, r.1))
in_greatest rows cols (Cud n) z r = (r.0, omega (arith, z.1, r.1))
in_greatest rows cols (Ech n) z r = (r.0, omega (arith, z.3, r.1))
in_greatest rows cols (Csr top bottom) z r = (r.0, omega (arith, z.1, r.1))
in_greatest rows cols _ z r = tt

pub margins_fixed : (row : Row) (rows cols more many : ℕ) → (start_of rows cols row).margins ≡ (start_of more many row).margins
margins_fixed (Cup row col) rows cols more many = refl
margins_fixed (Csr top bottom) rows cols more many = refl
margins_fixed Ind rows cols more many = refl
margins_fixed Ri rows cols more many = refl
margins_fixed _ rows cols more many = refl

pub row_min_fixed : (row : Row) (rows cols more many : ℕ) → (start_of rows cols row).row_min ≡ (start_of more many row).row_min
row_min_fixed Cuu1 rows cols more many = refl
row_min_fixed (Cuu n) rows cols more many = refl
row_min_fixed Ind rows cols more many = refl
row_min_fixed _ rows cols more many = refl

pub col_min_fixed : (row : Row) (rows cols more many : ℕ) → (start_of rows cols row).col_min ≡ (start_of more many row).col_min
col_min_fixed Cub1 rows cols more many = refl
col_min_fixed (Cub n) rows cols more many = refl
col_min_fixed _ rows cols more many = refl

pub row_room : (rows cols : ℕ) (row : Row) → IsSize rows cols → IsInRange rows cols row → (start_of rows cols row).row_max + rows_free row ≡ rows - 1
row_room rows cols Cud1 z r = omega (arith, z.0)
row_room rows cols (Cud n) z r = omega (arith, z.0, z.1, r.0, r.1)
row_room rows cols Ri z r = omega (arith, z.0)
row_room rows cols _ z r = omega (arith, z.0)

pub col_room : (rows cols : ℕ) (row : Row) → IsSize rows cols → IsInRange rows cols row → (start_of rows cols row).col_max + cols_free row ≡ cols - 1
col_room rows cols Cuf1 z r = omega (arith, z.2)
col_room rows cols (Cuf n) z r = omega (arith, z.2, z.3, r.0, r.1)
col_room rows cols _ z r = omega (arith, z.2)
