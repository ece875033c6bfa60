use Rattle.std.proofs.Common.{ℕ, ◌≡◌, length-take, sym, subst, arith, ◌∙◌}
use Rattle.cur_paint.specs.Differ.{span}
use Rattle.cur_paint.proofs.SpanFacts.{are_of, same_by, some_alike}
use Rattle.cur_paint.proofs.counts.first_alike.Goals as goal

pub returns-clause-some : goal.returns-clause-some
returns-clause-some g c =
    let new = g.N.Picture.cells c.args.new.now in
    some_alike new c.args.cells c.text_like-count.result c.text_like-count.new.text c.text_like-count.ensures.found c.requires.some (omega (arith, c.requires.room, c.text_like-count.ensures.room))

pub returns-clause-value : goal.returns-clause-value
returns-clause-value g c =
    let old = g.O.Picture.cells c.args.old.now in
    let new = g.N.Picture.cells c.args.new.now in
    let n = c.text_like-count.result in
    let text = c.text_like-count.new.text in
    let are = are_of new c.args.cells c.args.cells.from n c.at-ink.result text c.at-ink.ensures.value c.text_like-count.ensures.found.characters in
    let told = c.count_marks.ensures.value old new c.args.cells.row c.args.cells.from (same_by old new c.args.cells c.at-ink.result n text c.shows_text.new.shown are c.shows_text.ensures.found) in
    let long : _ = length-take n c.shows_text.new.shown in
    subst (λ (k : ℕ). c.count_marks.result ≡ span old new c.args.cells.row c.args.cells.from k) (omega (arith, long)) told
