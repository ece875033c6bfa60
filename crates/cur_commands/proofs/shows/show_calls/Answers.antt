use Rattle.std.proofs.Common.{◌++◌, ◌∙◌, ℕ, List, ap}
use Rattle.cur_commands.proofs.Endings.{shown_at, shows_run}
use Rattle.cur_commands.proofs.RunFacts.{run_taken}
use Rattle.cur_commands.proofs.shows.show_calls.Goals as goal

pub screen_after-requires : goal.screen_after-requires
screen_after-requires g c =
    let size = rw c.unwrap-size.ensures at c.new.ensures.value in
    run_taken (g.C.Certificate.table c.args.checked) (g.C.Certificate.partners c.args.checked) c.rows.ensures.checked c.unwrap-size.result.rows c.unwrap-size.result.cols (size.0 ∙ c.rows.ensures.value) (size.1 ∙ c.cols.ensures.value)
    c.new-taken.result.bytes.items c.play_in_memory.new.taken.bytes.items c.as_slice-2.result.now c.args.calls.now c.in_ok-log.log.entries.items c.in_ok-log.ensures.ran c.new-taken.ensures.bytes c.as_slice-2.ensures.value

pub returns : goal.returns
returns g c =
    let t = g.C.Certificate.table c.args.checked in
    let partners = g.C.Certificate.partners c.args.checked in
    let size = rw c.unwrap-size.ensures at c.new.ensures.value in
    let lines = c.in_ok-text.text.items in
    shown_at t partners c.unwrap-size.result.rows c.unwrap-size.result.cols t.rows t.cols c.args.calls.now c.extend_from_slice.new.self.items (size.0 ∙ c.rows.ensures.value) (size.1 ∙ c.cols.ensures.value)
    (shows_run t partners c.unwrap-size.result.rows c.unwrap-size.result.cols c.args.calls.now c.new-taken.result.bytes.items c.play_in_memory.new.taken.bytes.items
    c.as_slice-2.result.now c.extend_from_slice.new.self.items lines c.in_ok-screen.screen.items c.in_ok-log.log.entries.items c.as_slice.result.now c.in_ok-log.ensures.ran c.new-taken.ensures.bytes c.in_ok-log.ensures.through
    c.as_slice-2.ensures.value c.in_ok-screen.ensures c.in_ok-text.ensures c.as_slice.ensures.value (c.in_ok-extend_from_slice.ensures.items ∙ ap (λ (l : List ℕ). lines ++ l) c.as_slice-3.ensures.value))
