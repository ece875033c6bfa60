use Rattle.std.proofs.Common.{arith, ◌≡◌, ℕ, ◌+◌, List, [], ◌∷◌, Some, length, refl, sym}
use Rattle.std.proofs.lemmas.List.{append-nil}
use Rattle.ti_conforms.specs.Certified.{Table}
use Rattle.ti_rows.specs.declared.rows.Row.TheVariants.{Clear}
use Rattle.cur_steps.specs.Beliefs.{Agrees}
use Rattle.cur_steps.specs.Inks.{blank_ink}
use Rattle.cur_steps.specs.Pieces.{Stroke}
use Rattle.cur_steps.specs.declared.inks.Ink.{Ink}
use Rattle.cur_paint.specs.Limits.{paint_limit, renewal_limit}
use Rattle.cur_paint.specs.Modes.{IsPainted}
use Rattle.cur_paint.proofs.Bounds.{fewer_enough}
use Rattle.cur_paint.proofs.ModeFacts.{quiet_joined, sets_wider}
use Rattle.cur_paint.proofs.Agreeing.{IsThere, there}
use Rattle.cur_paint.proofs.Renewals.{draws_sets}
use Rattle.cur_paint.proofs.Settling.{draws_ends, draws_still}
use Rattle.cur_paint.proofs.painters.Painter.mend.Goals as goal

-- a line that paints
painted_line : (t : Table) (bytes : List ℕ) → t.line_of Clear ≡ Some bytes → IsPainted t bytes
painted_line t bytes is = record { pieces = bytes ∷ []; made = sym (append-nil bytes); each = (Stroke Clear refl is, tt) }

pub returns-then-is_still-clause-draws : goal.returns-then-is_still-clause-draws
returns-then-is_still-clause-draws g c =
    let is = c.if-is_still.true in
    draws_still c.args.wanted g.met.W.Wire.lawful c.requires.can.paints.scene.checked (c.is_still.ensures.same is) (c.is_still.ensures.there is) (c.is_still.ensures.mode is) c.requires.rested

pub returns-in-Some-clause-draws : goal.returns-in-Some-clause-draws
returns-in-Some-clause-draws g c = draws_ends c.scroll_first.ensures.ends (omega arith) c.requires.can.paints.cursor

pub returns-then-is_better_cleared-clause-draws : goal.returns-then-is_better_cleared-clause-draws
returns-then-is_better_cleared-clause-draws g c =
    let t = g.C.Certificate.table c.args.self.now.screens.now.checked.now in
    let old = g.O.Picture.cells c.args.self.now.screens.now.old.now in
    let new = g.N.Picture.cells c.args.self.now.screens.now.new.now in
    let b = c.args.self.now.pen.now.belief in
    let w = c.args.wanted in
    let k : IsThere (t.line_of Clear) = there (t.line_of Clear) c.requires.can.paints.scene.checked.clears in
    let blank : ℕ → ℕ → Ink = λ i j. blank_ink in
    let z = c.clear_first.new.self in
    let anew = c.clear_first.ensures.step k.bytes k.is old in
    draws_sets w
    (sets_wider g.W.Wire.went g.W.Wire.failures c.args.self.now.pen.now.wire z.pen.now.wire c.clear_first.result t (length k.bytes + renewal_limit t blank new) (paint_limit t old new b w.cursor w.mode) b.mode w.cursor w.mode (Agrees t old b) (Agrees t new z.pen.now.belief)
    (fewer_enough t (length k.bytes) blank old new b w.cursor w.mode (c.is_better_cleared.ensures.saves c.if-is_better_cleared.true k.bytes k.is))
    (record { step = anew.step; quiet = quiet_joined c.clear_first.result t k.bytes b.mode w.cursor w.mode anew.step.bytes (painted_line t k.bytes k.is) anew.quiet })) c.requires.can.paints.cursor c.clear_first.ensures.set

pub returns-clause-draws : goal.returns-clause-draws
returns-clause-draws g c = draws_ends c.paint.ensures.ends (c.is_still.ensures.due c.if-is_still.false) c.requires.can.paints.cursor
