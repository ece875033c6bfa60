use Rattle.std.proofs.Common.{◌≡◌, ◌∙◌, ℕ, ap, subst, sym}
use Rattle.cur_windows.specs.Desks.{State}
use Rattle.cur_screens.specs.VirtualScreen.{Screen, new_screen}
use Rattle.ti_conforms.specs.Certified.{IsChecked, Table}
use Rattle.cur_windows.proofs.TouchedFacts.{shows_full}
use Rattle.cur_play.proofs.MarkFacts.{same_shown}
use Rattle.cur_play.proofs.sessions.Session.open.Goals as goal

pub invariant_of-result : goal.invariant_of-result
invariant_of-result g c =
    let s = c.unwrap-size.result in
    let t : Table = g.C.Certificate.table c.args.checked in
    let table : g.C.Certificate.table c.in_ok-painter.painter.checked ≡ t = ap g.C.Certificate.table c.in_ok-painter.ensures.certificate in
    let size = rw c.unwrap-size.ensures at c.new.ensures.value in
    let rows : s.rows ≡ t.rows = size.0 ∙ c.rows.ensures.value in
    let cols : s.cols ≡ t.cols = size.1 ∙ c.cols.ensures.value in
    let screen : c.in_ok-screen.screen ≡ new_screen t.rows t.cols = c.in_ok-screen.ensures ∙ ap (λ (n : ℕ). new_screen n s.cols) rows ∙ ap (λ (n : ℕ). new_screen t.rows n) cols in (
      record {
        rows = ap (λ (v : Screen). v.rows) screen ∙ sym (ap (λ (x : Table). x.rows) table);
        cols = ap (λ (v : Screen). v.cols) screen ∙ sym (ap (λ (x : Table). x.cols) table);
        desk_rows = ap (λ (d : State). d.rows) c.in_ok-desk.ensures ∙ rows ∙ sym (ap (λ (x : Table). x.rows) table);
        desk_cols = ap (λ (d : State). d.cols) c.in_ok-desk.ensures ∙ cols ∙ sym (ap (λ (x : Table). x.cols) table);
      },
      subst IsChecked (sym table) c.rows.ensures.checked,
      record {
        window = shows_full c.in_ok-stale.stale.window c.in_ok-desk.desk c.in_ok-screen.screen.grid c.in_ok-stale.ensures;
        screen = same_shown c.in_ok-stale.stale.screen c.in_ok-painter.painter.shown c.in_ok-screen.screen (new_screen t.rows t.cols) c.in_ok-painter.ensures.shown (ap (λ (v : Screen). v.grid) screen);
      },
    )
