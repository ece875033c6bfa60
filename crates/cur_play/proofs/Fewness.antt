-- No call sends 2^60 bytes.
use Rattle.std.proofs.Common.{◌≡◌, ℕ, ◌+◌, ◌-◌, ◌*◌, ◌<◌, ◌≤◌, ◌^◌, Bool, true, false, List, ◌++◌, length, length-append, Option, Some, ap, arith, if◌then◌else◌}
use Rattle.std.proofs.lemmas.Nat.{mul-le}
use Rattle.vt_term.specs.Size.{IsSize}
use Rattle.ti_rows.specs.declared.rows.Row.{Row}
use Rattle.ti_rows.specs.declared.rows.Row.TheVariants.{Cup, Sgr0, Rmacs, Cnorm, Rmcup}
use Rattle.ti_conforms.specs.Certified.{Table, IsSmall, cell_limit, or_nothing, text_of}
use Rattle.cur_steps.specs.declared.beliefs.Belief.{Belief}
use Rattle.cur_steps.specs.declared.inks.Ink.{Ink}
use Rattle.cur_paint.proofs.Bounds.{fresh_enough, most}
use Rattle.cur_paint.specs.Finish.{end_text, finish_text, from_cnorm_text, from_cup_text, from_rmacs_text}
use Rattle.cur_paint.specs.Limits.{fresh_limit, paint_limit, renewal_limit}
use Rattle.cur_paint.specs.Update.{refresh_limit}
use Rattle.cur_paint.specs.declared.updates.Status.{Status}
use Rattle.cur_paint.specs.declared.updates.Status.TheVariants.{Fresh, Known, Lost}
use Rattle.cur_paint.specs.declared.updates.Wanted.{Wanted}

fresh_few : (t : Table) → IsSize t.rows t.cols → IsSmall t → fresh_limit t < 2 ^ 59
fresh_few t size small =
    let cells : t.rows * t.cols ≤ 200 * 500 = mul-le t.rows t.cols 200 500 size.1 size.3 in
    let all : (t.rows * t.cols + 1) * cell_limit t ≤ 100001 * 2 ^ 31 = mul-le (t.rows * t.cols + 1) (cell_limit t) 100001 (2 ^ 31) (omega (arith, cells)) (omega (arith, small.cell)) in
    omega (arith, all, small.resync)

either : (b : Bool) (m n k : ℕ) → m ≤ k → n ≤ k → (if b then m else n) ≤ k
either true m n k h j = h
either false m n k h j = j

refresh_fresh : (t : Table) (shown g : ℕ → ℕ → Ink) (status : Status) (b : Belief) (w : Wanted) → refresh_limit t shown g status b w ≤ fresh_limit t
refresh_fresh t shown g Fresh b w = omega arith
refresh_fresh t shown g Lost b w = omega arith
refresh_fresh t shown g Known b w =
    let all : 0 + renewal_limit t shown g ≤ fresh_limit t = fresh_enough t 0 shown g (omega arith) in
    let paint : paint_limit t shown g b w.cursor w.mode ≤ renewal_limit t shown g = most t shown g b w.cursor w.mode in
    either w.clear (fresh_limit t) (paint_limit t shown g b w.cursor w.mode) (fresh_limit t) (omega arith) (omega (arith, all, paint))

pub refresh_few : (t : Table) (shown g : ℕ → ℕ → Ink) (status : Status) (b : Belief) (w : Wanted) → IsSize t.rows t.cols → IsSmall t → refresh_limit t shown g status b w < 2 ^ 60
refresh_few t shown g status b w size small = omega (arith, refresh_fresh t shown g status b w, fresh_few t size small)

pub line_few : (t : Table) (row : Row) (line : List ℕ) → t.line_of row ≡ Some line → IsSmall t → length line < 2 ^ 60
line_few t row line is small = let e : length (text_of t row) ≡ length line = ap (λ (o : Option (List ℕ)). length (or_nothing o)) is in omega (arith, small.lines row, e)

pub front_few : (whole front back : List ℕ) → whole ≡ front ++ back → length whole < 2 ^ 60 → length front < 2 ^ 60
front_few whole front back parts few = omega (arith, few, ap length parts, length-append front back)

end_few : (t : Table) → IsSmall t → length (end_text t) < 2 ^ 31
end_few t small =
    omega (
      arith,
      small.lines Sgr0,
      small.lines Rmacs,
      small.lines (Cup (t.rows - 1) 0),
      small.lines Cnorm,
      small.lines Rmcup,
      length-append (text_of t Sgr0) (from_rmacs_text t),
      length-append (text_of t Rmacs) (from_cup_text t),
      length-append (text_of t (Cup (t.rows - 1) 0)) (from_cnorm_text t),
      length-append (text_of t Cnorm) (text_of t Rmcup),
    )

pub finish_few : (t : Table) (status : Status) → IsSmall t → length (finish_text t status) < 2 ^ 60
finish_few t Fresh small = omega arith
finish_few t Known small = omega (arith, end_few t small)
finish_few t Lost small = omega (arith, end_few t small, small.resync, length-append t.resync (end_text t))
