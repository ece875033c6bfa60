-- A terminal in its reset state is one in which a session begins.
use Rattle.std.proofs.Common.{ℕ, refl, arith}
use Rattle.vt_term.specs.Size.{IsSize}
use Rattle.vt_term.specs.Screen.{reset, reset_screen}
use Rattle.vt_term.proofs.Resets.{reset_is_screen}
use Rattle.vt_term.proofs.Sequences.{empty_open}
use Rattle.ti_conforms.specs.Certified.{Table, IsChecked, IsWhole}
use Rattle.cur_paint.specs.Update.{IsFresh}

reset_is_whole : (rows cols : ℕ) → IsSize rows cols → IsWhole (reset_screen rows cols)
reset_is_whole rows cols size = record { top = refl; bottom = omega arith }

pub reset_fresh : (t : Table) → IsChecked t → IsFresh t (reset t.rows t.cols)
reset_fresh t checked = record {
  lost = record {
    sized = record {
      state = record { screen = reset_is_screen t.rows t.cols (reset_screen t.rows t.cols).charset checked.size; rest = empty_open };
      rows = refl;
      cols = refl;
    };
    tame = record { autowrap = refl; inserting = refl };
    reached = checked.starts;
    margins = λ e. reset_is_whole t.rows t.cols checked.size;
    visible = λ e. refl;
  };
  rest = refl;
  whole = reset_is_whole t.rows t.cols checked.size;
  visible = refl;
}
