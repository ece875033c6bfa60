use Rattle.std.proofs.Common.{sym, ◌∙◌}
use Rattle.ti_fixes.proofs.Changed.{given_first, given_last}
use Rattle.ti_fixes.proofs.differences.with_own.Goals as goal

-- the field is given the string, and the others stay
pub returns-then-is_about : goal.returns-then-is_about
returns-then-is_about c =
    given_first c.args.cap c.args.string.now c.loop-rest.rest.now c.first-item.result c.in_ok-own.own c.loop-rest.given.items c.push.new.self.items c.push_copied.new.copy.items _
    c.in-len1-up.len_at_least c.first-item.is (sym c.is_about.ensures ∙ c.if-is_about.true) c.in_ok-own.ensures c.in_ok-push.ensures.items c.in_ok-push_copied.ensures c.loop-rest.invariant

-- none is about the capability
pub returns : goal.returns
returns c =
    given_last c.args.cap c.args.string.now c.loop-rest.rest.now c.in_ok-last.last c.loop-rest.given.items c.push-2.new.self.items _
    c.in_default.len_below c.in_ok-last.ensures c.in_ok-push-3.ensures.items c.loop-rest.invariant
