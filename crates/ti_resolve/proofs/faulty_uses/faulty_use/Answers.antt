use Rattle.std.proofs.Common.{◌≡◌, List, ℕ, refl, subst, sym}
use Rattle.ti_resolve.specs.Faults.{itself}
use Rattle.ti_resolve.specs.FaultyUses.{EndsAtUse, IsAbout}
use Rattle.ti_resolve.specs.Walk.{FailsBy, enter, walk_at}
use Rattle.ti_resolve.proofs.FaultyFacts.{ends_about, fails_about, faulty_at, some_found}
use Rattle.ti_resolve.proofs.faulty_uses.faulty_use.Goals as goal

pub returns-clause-none : goal.returns-clause-none
returns-clause-none c =
    let raws = c.args.index.now.raws.now in
    let root = c.args.root in
    let chain = c.enter.new.trail.chain.items in
    let entered = c.in-Err.ensures.failed root itself in
    let about = subst (λ (n : List ℕ). IsAbout n c.in-Err.fault) (sym c.as_slice-in-Err.ensures) c.in_ok-name-in-Err.ensures in
    let ends = ends_about raws root chain c.as_slice-in-Err.result.now c.in-Err.fault about (entered.further (λ none. cc)) in
    some_found c.use_at_end.result _ _ (c.use_at_end.ensures root (subst (λ (l : List ℕ). EndsAtUse raws root l c.as_slice-in-Err.result.now) (sym c.as_slice.ensures.value) ends))

pub returns-clause-found : goal.returns-clause-found
returns-clause-found c =
    let raws = c.args.index.now.raws.now in
    let root = c.args.root in
    let chain = c.enter.new.trail.chain.items in
    let entered = c.in-Err.ensures.failed root itself in
    let about = subst (λ (n : List ℕ). IsAbout n c.in-Err.fault) (sym c.as_slice-in-Err.ensures) c.in_ok-name-in-Err.ensures in
    let ends = ends_about raws root chain c.as_slice-in-Err.result.now c.in-Err.fault about (entered.further (λ none. cc)) in
    let some = c.use_at_end.ensures root (subst (λ (l : List ℕ). EndsAtUse raws root l c.as_slice-in-Err.result.now) (sym c.as_slice.ensures.value) ends) in
    let walk : enter 65 raws c.new.result.items c.names_of.result.now root c.new-2.result.items ≡ walk_at raws root = rw (c.new.ensures.items, c.new-2.ensures.items, c.names_of.ensures) refl in
    faulty_at raws root chain c.as_slice-in-Err.result.now c.in-Err.fault c.use_at_end.result
    (fails_about c.as_slice-in-Err.result.now c.in-Err.fault (walk_at raws root) about (subst (FailsBy c.in-Err.fault) walk c.in-Err.ensures.walk)) about some
