use Rattle.std.proofs.Common.{arith, sym, ◌∙◌, length}
use Rattle.ti_source.proofs.Decodings.{piece_more, piece_fails, piece_last, piece_within, odd_bound}
use Rattle.ti_source.proofs.Tests.{filled, emptied}
use Rattle.ti_source.proofs.escapes.decode.Goals as goal

pub returns-in_default : goal.returns-in_default
returns-in_default c =
    piece_fails c.loop-rest.bytes.items c.loop-rest.rest.now c.args.text.now c.loop-rest.odd c.loop-rest.invariant.whole
    (filled (length c.loop-rest.rest.now) c.is_empty.result c.is_empty.ensures c.loop-rest-test.true) (sym c.piece_at.ensures ∙ c.in_default.is)

pub split_at-requires : goal.split_at-requires
split_at-requires c = (piece_within c.loop-rest.rest.now c.in-Some.piece (sym c.piece_at.ensures ∙ c.in-Some.is)).room

pub loop-rest-smaller : goal.loop-rest-smaller
loop-rest-smaller c =
    let within = piece_within c.loop-rest.rest.now c.in-Some.piece (sym c.piece_at.ensures ∙ c.in-Some.is) in omega arith

pub loop-rest-preserved : goal.loop-rest-preserved
loop-rest-preserved c =
    let found = sym c.piece_at.ensures ∙ c.in-Some.is in
    let within = piece_within c.loop-rest.rest.now c.in-Some.piece found in
    let bit = odd_bound c.in-Some.piece.odd in
    let more = piece_more c.loop-rest.bytes.items c.loop-rest.rest.now c.args.text.now c.loop-rest.odd c.in-Some.piece c.loop-rest.invariant.whole found in
    record { few = omega arith; whole = rw (c.in_ok-push.ensures.items, c.from-odd.ensures, c.split_at.ensures.back) more }

pub returns : goal.returns
returns c =
    piece_last c.loop-rest.bytes.items c.loop-rest.rest.now c.args.text.now c.loop-rest.odd c.loop-rest.invariant.whole
    (emptied (length c.loop-rest.rest.now) c.is_empty.result c.is_empty.ensures c.loop-rest-test.false)
