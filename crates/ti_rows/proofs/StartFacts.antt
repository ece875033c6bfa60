-- The starts of a row are among the states that its start allows.
use Rattle.std.proofs.Common.{◌≡◌, ℕ, ◌-◌, ◌≤◌, Bool, true, false, arith}
use Rattle.std.proofs.lemmas.Bool.{true≢false}
use Rattle.vt_term.specs.Screen.{Screen}
use Rattle.vt_effects.specs.declared.starts.Margins.{Margins}
use Rattle.vt_effects.specs.declared.starts.Margins.TheVariants as margins
use Rattle.vt_effects.specs.Start.{Allows, HasMargins}
use Rattle.ti_rows.specs.Rows.{Row, Cup, Cub1, Cuf1, Cuu1, Cud1, Cub, Cuf, Cuu, Cud, El, El1, Ed, Ech, Csr, Ind, Ri}
use Rattle.ti_rows.specs.Starts.{IsAny, IsFree, IsCalm, Starts}
use Rattle.ti_rows.specs.Asked.{starting, start_of}

within : (rows cols a b x y : ℕ) (m : Margins) (pending : Bool) (s : Screen) → IsAny rows cols s → (pending ≡ false → s.pending ≡ false) → HasMargins m s
    → a ≤ s.row → s.row ≤ b → x ≤ s.col → s.col ≤ y → Allows rows cols (record { row_min = a; row_max = b; col_min = x; col_max = y; pending = pending; margins = m }) s
within rows cols a b x y m pending s h p k row_from row_to col_from col_to = record {
  screen = h.screen;
  rows = h.rows_are;
  cols = h.cols_are;
  row_from = row_from;
  row_to = row_to;
  col_from = col_from;
  col_to = col_to;
  pending = p;
  margins = k;
  autowrap = h.tame.autowrap;
  inserting = h.tame.inserting;
}

to_row : (rows cols : ℕ) (s : Screen) → IsAny rows cols s → s.row ≤ rows - 1
to_row rows cols s h = omega (arith, h.screen.row, h.rows_are)

to_col : (rows cols : ℕ) (s : Screen) → IsAny rows cols s → s.col ≤ cols - 1
to_col rows cols s h = omega (arith, h.screen.col, h.cols_are)

any_allows : (rows cols : ℕ) (m : Margins) (pending : Bool) (s : Screen) → IsAny rows cols s → (pending ≡ false → s.pending ≡ false) → HasMargins m s → Allows rows cols (starting rows cols pending m) s
any_allows rows cols m pending s h p k = within rows cols 0 (rows - 1) 0 (cols - 1) m pending s h p k (omega arith) (to_row rows cols s h) (omega arith) (to_col rows cols s h)

-- with this room on one side
calm_within : (rows cols a b x y : ℕ) (s : Screen) → IsCalm rows cols s → a ≤ s.row → s.row ≤ b → x ≤ s.col → s.col ≤ y
    → Allows rows cols (record { row_min = a; row_max = b; col_min = x; col_max = y; pending = false; margins = margins.Whole }) s
calm_within rows cols a b x y s h row_from row_to col_from col_to = within rows cols a b x y margins.Whole false s h.free.any (λ e. h.pending) (h.free.top, h.free.bottom) row_from row_to col_from col_to

pub never : {A : Type 0} → true ≡ false → A
never h = absurd (true≢false h)

free_allows : (rows cols : ℕ) (s : Screen) → IsFree rows cols s → Allows rows cols (starting rows cols true margins.Whole) s
free_allows rows cols s h = any_allows rows cols margins.Whole true s h.any never (h.top, h.bottom)

calm_allows : (rows cols : ℕ) (s : Screen) → IsCalm rows cols s → Allows rows cols (starting rows cols false margins.Whole) s
calm_allows rows cols s h = any_allows rows cols margins.Whole false s h.free.any (λ e. h.pending) (h.free.top, h.free.bottom)

pub starts_allowed : (rows cols : ℕ) (row : Row) (s : Screen) → Starts rows cols row s → Allows rows cols (start_of rows cols row) s
starts_allowed rows cols (Cup row col) s h = any_allows rows cols margins.Legal true s h never tt
starts_allowed rows cols Cub1 s h = calm_within rows cols 0 (rows - 1) 1 (cols - 1) s h.0 (omega arith) (to_row rows cols s h.0.free.any) h.1 (to_col rows cols s h.0.free.any)
starts_allowed rows cols Cuf1 s h = calm_within rows cols 0 (rows - 1) 0 (cols - 1 - 1) s h.0 (omega arith) (to_row rows cols s h.0.free.any) (omega arith) (omega (arith, h.1))
starts_allowed rows cols Cuu1 s h = calm_within rows cols 1 (rows - 1) 0 (cols - 1) s h.0 h.1 (to_row rows cols s h.0.free.any) (omega arith) (to_col rows cols s h.0.free.any)
starts_allowed rows cols Cud1 s h = calm_within rows cols 0 (rows - 1 - 1) 0 (cols - 1) s h.0 (omega arith) (omega (arith, h.1)) (omega arith) (to_col rows cols s h.0.free.any)
starts_allowed rows cols (Cub n) s h = calm_within rows cols 0 (rows - 1) n (cols - 1) s h.0 (omega arith) (to_row rows cols s h.0.free.any) h.1 (to_col rows cols s h.0.free.any)
starts_allowed rows cols (Cuf n) s h = calm_within rows cols 0 (rows - 1) 0 (cols - 1 - n) s h.0 (omega arith) (to_row rows cols s h.0.free.any) (omega arith) (omega (arith, h.1))
starts_allowed rows cols (Cuu n) s h = calm_within rows cols n (rows - 1) 0 (cols - 1) s h.0 h.1 (to_row rows cols s h.0.free.any) (omega arith) (to_col rows cols s h.0.free.any)
starts_allowed rows cols (Cud n) s h = calm_within rows cols 0 (rows - 1 - n) 0 (cols - 1) s h.0 (omega arith) (omega (arith, h.1)) (omega arith) (to_col rows cols s h.0.free.any)
starts_allowed rows cols El s h = calm_allows rows cols s h
starts_allowed rows cols El1 s h = calm_allows rows cols s h
starts_allowed rows cols Ed s h = calm_allows rows cols s h
starts_allowed rows cols (Ech n) s h = calm_allows rows cols s h
starts_allowed rows cols (Csr top bottom) s h = any_allows rows cols margins.Legal true s h never tt
starts_allowed rows cols Ind s h = within rows cols 1 (rows - 1) 0 (cols - 1) margins.OnBottom false s h.0.any (λ e. h.0.pending) h.1 (omega (arith, h.1, h.0.any.screen.region)) (to_row rows cols s h.0.any) (omega arith) (to_col rows cols s h.0.any)
starts_allowed rows cols Ri s h = within rows cols 0 (rows - 1 - 1) 0 (cols - 1) margins.OnTop false s h.0.any (λ e. h.0.pending) h.1 (omega arith) (omega (arith, h.1, h.0.any.screen.region, h.0.any.screen.bottom, h.0.any.rows_are)) (omega arith) (to_col rows cols s h.0.any)
starts_allowed rows cols row s h = free_allows rows cols s h
