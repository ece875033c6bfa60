use Rattle.std.proofs.Common.{refl}
use Rattle.ti_caps.specs.Entry.{bare_entry}
use Rattle.ti_caps.proofs.Entries.{bare_has_none, bare_is_entry}
use Rattle.ti_caps.proofs.entry.Entry.new.Goals as goal

pub invariant_of-result : goal.invariant_of-result
unfolding bare_entry
invariant_of-result c = rw (c.in_ok-from_slice.ensures, c.in_ok-empty_rows.ensures) (bare_is_entry c.args.names.now c.requires)

pub returns-clause-value : goal.returns-clause-value
unfolding bare_entry
returns-clause-value c = rw (c.in_ok-from_slice.ensures, c.in_ok-empty_rows.ensures) refl

pub returns-clause-empty : goal.returns-clause-empty
unfolding bare_entry
returns-clause-empty c = rw (c.in_ok-from_slice.ensures, c.in_ok-empty_rows.ensures) (bare_has_none c.args.names.now)
