use Rattle.std.proofs.Common.{◌+◌, ◌-◌, ◌∙◌, ◌≡◌, ap, arith, drop, length, map, sym}
use Rattle.ti_sources.specs.JoinedPlaces.{place_behind}
use Rattle.ti_sources.proofs.Origins.{behind_next, on_next}
use Rattle.ti_sources.proofs.joined_places.place_behind.Goals as goal

pub returns-then-left-own-clause-place : goal.returns-then-left-own-clause-place
returns-then-left-own-clause-place c =
    let lines = map (λ line. line.now) c.args.behind.now in
    on_next (c.args.number + c.loop-at.at) c.loop-at.left c.line_there-next.result.now c.skip_white-own.result.now (drop c.loop-at.at lines) (drop (c.loop-at.at + 1) lines) (place_behind c.args.number c.args.past lines)
    c.line_there-next.ensures c.skip_white-own.ensures c.if-left-own.true c.loop-at.invariant.place

pub loop-at-preserved : goal.loop-at-preserved
loop-at-preserved c =
    let lines = map (λ line. line.now) c.args.behind.now in
    let more : (c.args.number + c.loop-at.at) + 1 ≡ c.args.number + (c.loop-at.at + 1) = omega arith in
    record {
      place = sym (ap (λ n. place_behind n (c.loop-at.left - length c.skip_white-own.result.now) (drop (c.loop-at.at + 1) lines)) more)
          ∙ behind_next (c.args.number + c.loop-at.at) c.loop-at.left c.line_there-next.result.now c.skip_white-own.result.now (drop c.loop-at.at lines) (drop (c.loop-at.at + 1) lines) (place_behind c.args.number c.args.past lines)
          c.line_there-next.ensures c.skip_white-own.ensures c.if-left-own.false c.loop-at.invariant.place;
      column = omega arith;
      fewer = let was = c.loop-at.invariant.fewer in omega (arith, was);
    }
