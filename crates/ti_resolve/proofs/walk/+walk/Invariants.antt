use Rattle.std.proofs.Common.{◌≡◌, ◌+◌, ◌*◌, drop}
use Rattle.ti_resolve.specs.Uses.{uses_in}
use Rattle.ti_resolve.specs.Walk.{enter, follow_uses}
use Rattle.ti_resolve.proofs.walk.+walk.Given as goal

abbrev pub decreases-enter : goal.decreases-enter
decreases-enter l = 4 * l.depth

abbrev pub decreases-follow : goal.decreases-follow
decreases-follow l = 4 * l.depth + 1

abbrev pub decreases-follow_field : goal.decreases-follow_field
decreases-follow_field l = 4 * l.depth + 2

abbrev pub decreases-follow_all : goal.decreases-follow_all
decreases-follow_all l = 4 * l.depth + 3

abbrev pub invariant-follow_all-loop-field : goal.invariant-follow_all-loop-field
invariant-follow_all-loop-field l = record {
  chain : l.trail.chain.items ≡ l.fn.trail.chain.items;
  walk : follow_uses (enter l.depth l.index.raws.now l.fn.trail.chain.items) l.index.raws.now l.fn.trail.chain.items (uses_in (drop l.field-index l.fields)) l.trail.entered.items ≡ follow_uses (enter l.depth l.index.raws.now l.fn.trail.chain.items) l.index.raws.now l.fn.trail.chain.items (uses_in l.fields) l.fn.trail.entered.items;
}
