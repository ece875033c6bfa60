use Rattle.std.proofs.Common.{◌≡◌, ◌∙◌, ℕ, List, ◌++◌, ap, length, slice_index_or, subst, sym}
use Rattle.std.proofs.Math.ListN.{drop, take}
use Rattle.std.proofs.Math.Seq.{take-append_seam}
use Rattle.std.proofs.lemmas.Result.{err_from_is_err_and}
use Rattle.cur_steps.specs.Inks.{CanShow}
use Rattle.cur_steps.specs.declared.inks.Ink.{Ink}
use Rattle.cur_screens.specs.VirtualScreen.{default_colors}
use Rattle.cur_screens.specs.declared.virtual_screen.Colors.{Colors}
use Rattle.cur_paint.specs.Update.{CutShort, Refreshed}
use Rattle.cur_update.specs.Inks.{ink_at, ink_at_with}
use Rattle.cur_paint.specs.declared.changes.Columns.{Columns}
use Rattle.cur_update.specs.Shift.{AreFound, IsShift}
use Rattle.cur_update.proofs.InkFacts.{can_show, as_table}
use Rattle.cur_update.proofs.painters.refresh.Goals as goal

pub update-requires-clause-drawable : goal.update-requires-clause-drawable
update-requires-clause-drawable g c =
    let t = g.C.Certificate.table c.args.checked.now in
    let partners = g.C.Certificate.partners c.args.checked.now in
    subst (CanShow t) (sym (as_table c.args.frame.now.means.now t partners c.args.frame.now.screen.now c.requires.means c.cells_hold.ensures.new))
    (can_show t partners c.args.frame.now.screen.now c.cells_hold.ensures.new)

pub update-requires-clause-changes : goal.update-requires-clause-changes
update-requires-clause-changes g c =
    let t = g.C.Certificate.table c.args.checked.now in
    let partners = g.C.Certificate.partners c.args.checked.now in
    let means = c.args.frame.now.means.now in
    let shift : IsShift t partners c.args.shown.now.screen c.args.frame.now.screen.now c.same_pairs.result
    (ink_at_with means c.args.shown.now.screen) (ink_at_with means c.args.frame.now.screen.now) = record {
      before = as_table means t partners c.args.shown.now.screen c.requires.means c.cells_hold.ensures.old;
      after = as_table means t partners c.args.frame.now.screen.now c.requires.means c.cells_hold.ensures.new;
      pairs = λ e p lt. ap (λ (l : List Colors). slice_index_or l p default_colors) (c.same_pairs.ensures.same e);
    } in
    let old : ℕ → ℕ → Ink = ink_at_with means c.args.shown.now.screen in
    let new : ℕ → ℕ → Ink = ink_at_with means c.args.frame.now.screen.now in
    let P : List Columns → Type 0 = λ x. AreFound c.find-lines.result x (length x) c.cols-cols.result old new in
    let found : List Columns = c.find-lines.new.columns in
    let rest : List Columns = drop (length found) c.args.shown.now.columns.items in
    let Q : ℕ → Type 0 = λ n. take n (found ++ rest) ≡ found in
    let same : c.deref.result.now ≡ found = c.deref.ensures.value ∙ subst Q (c.find-lines.ensures.long ∙ c.deref_mut.ensures.len) (take-append_seam found rest) in
    (shift, subst P (sym same) (c.find-lines.ensures.found old new shift))

pub returns-clause-refreshes : goal.returns-clause-refreshes
returns-clause-refreshes g c =
    let t = g.C.Certificate.table c.args.checked.now in
    let partners = g.C.Certificate.partners c.args.checked.now in
    let means = c.args.frame.now.means.now in
    let R : (ℕ → ℕ → Ink) → (ℕ → ℕ → Ink) → Type 0 =
    λ old new. Refreshed {W = g.row.W.Denot} g.W.Wire.went c.args.wire.now c.update.new.wire t old new c.args.frame.now.wanted c.args.session.now c.update.new.session in
    subst (λ (old : ℕ → ℕ → Ink). R old (ink_at t partners c.args.frame.now.screen.now)) (as_table means t partners c.args.shown.now.screen c.requires.means c.cells_hold.ensures.old)
    (subst (R (ink_at_with means c.args.shown.now.screen)) (as_table means t partners c.args.frame.now.screen.now c.requires.means c.cells_hold.ensures.new) c.in_ok-update.ensures.refreshes)

pub returns-in_err-update-clause-refreshes : goal.returns-in_err-update-clause-refreshes
returns-in_err-update-clause-refreshes g c =
    let e = err_from_is_err_and c.from_residual.result c.from_residual.ensures.1 in
    let t = g.C.Certificate.table c.args.checked.now in
    let partners = g.C.Certificate.partners c.args.checked.now in
    let means = c.args.frame.now.means.now in
    let R : (ℕ → ℕ → Ink) → (ℕ → ℕ → Ink) → Type 0 =
    λ old new. CutShort {W = g.row.W.Denot} g.W.Wire.went g.W.Wire.failures c.args.wire.now c.update.new.wire t old new c.args.frame.now.wanted c.args.session.now c.update.new.session in
    rw e.1 (subst (λ (old : ℕ → ℕ → Ink). R old (ink_at t partners c.args.frame.now.screen.now)) (as_table means t partners c.args.shown.now.screen c.requires.means c.cells_hold.ensures.old)
    (subst (R (ink_at_with means c.args.shown.now.screen)) (as_table means t partners c.args.frame.now.screen.now c.requires.means c.cells_hold.ensures.new) c.in_err-update.ensures.refreshes))
