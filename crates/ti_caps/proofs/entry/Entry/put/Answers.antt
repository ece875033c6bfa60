use Rattle.std.proofs.Common.{refl, sym, subst}
use Rattle.ti_caps.specs.Entry.{Content, FitsPlace, with_value}
use Rattle.ti_caps.proofs.Entries.{with_value_fits, with_value_sets}
use Rattle.ti_caps.proofs.entry.Entry.put.Goals as goal

-- the entry before
before : goal.Joined-index_mut-value → Content
before c = record { names = c.self.inside.names; values = c.self.inside.values.items }

pub invariant_of-self : goal.invariant_of-self
unfolding with_value before
invariant_of-self c =
    let fits = subst (λ p. FitsPlace p c.args.value) (sym c.place.ensures.value) c.requires.fits in
    with_value_fits (before c) c.place.result c.args.value c.self.invariant c.place.ensures.range fits c.requires.bytes

pub returns-clause-value : goal.returns-clause-value
unfolding with_value
returns-clause-value c = rw (← c.self.view_is, ← c.place.ensures.value) refl

pub returns-clause-only : goal.returns-clause-only
unfolding with_value before
returns-clause-only c =
    rw (← c.self.view_is, ← c.place.ensures.value)
    (with_value_sets (before c) c.place.result c.args.value c.self.invariant.size c.place.ensures.range)
