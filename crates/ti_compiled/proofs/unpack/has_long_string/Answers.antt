use Rattle.std.proofs.Common.{sym, ◌∙◌, arith, ◌≡◌, below_more, false}
use Rattle.ti_compiled.proofs.Fills.{long_found, long_none}
use Rattle.ti_caps.specs.declared.types.Kind.TheVariants as kinds
use Rattle.ti_compiled.specs.Contents.{value_of, is_long_string}
use Rattle.ti_compiled.specs.Readings.{parts_view}
use Rattle.ti_compiled.proofs.unpack.has_long_string.Goals as goal

pub returns-then-is_long_at : goal.returns-then-is_long_at
returns-then-is_long_at c =
    sym (long_found (parts_view c.args.parts.now) c.loop-position.position c.loop-position-test.true (sym c.is_long_at.ensures ∙ c.if-is_long_at.true))

pub loop-position-preserved : goal.loop-position-preserved
loop-position-preserved c =
    below_more (λ k. is_long_string (value_of (parts_view c.args.parts.now) kinds.String k) ≡ false) c.loop-position.position c.loop-position.invariant (sym c.is_long_at.ensures ∙ c.if-is_long_at.false)

pub returns : goal.returns
returns c = sym (long_none (parts_view c.args.parts.now) (λ k h. c.loop-position.invariant k (omega arith)))
