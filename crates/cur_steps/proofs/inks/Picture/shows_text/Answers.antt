use Rattle.std.proofs.Common.{◌≡◌, ◌+◌, false, slice_index_or, ◌∙◌, arith}
use Rattle.std.proofs.lemmas.List.{length-set}
use Rattle.cur_steps.specs.Inks.{same}
use Rattle.cur_steps.proofs.StretchFacts.{one_more}
use Rattle.cur_steps.proofs.inks.Picture.shows_text.Goals as goal

pub loop-n-preserved : goal.loop-n-preserved
loop-n-preserved g c =
    let cells = g.Self.Picture.cells c.args.self.now in
    let s = c.args.stretch in
    let n = c.loop-n.n in
    record {
      length = length-set c.loop-n.shown n c.shows.result ∙ c.loop-n.invariant.length;
      found = one_more (λ k a. a ≡ same (cells s.row (s.from + k)) (record c.args.ink { byte = slice_index_or c.args.text.now k 0 })) c.loop-n.shown n c.shows.result false (omega (arith, c.loop-n-test.true, c.requires.room, c.loop-n.invariant.length)) c.loop-n.invariant.found c.shows.ensures.value;
    }
