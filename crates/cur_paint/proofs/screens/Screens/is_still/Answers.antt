use Rattle.std.proofs.Common.{◌≡◌, Bool, true, false, not, refl, arith}
use Rattle.cur_paint.proofs.Bounds.{due_changed, due_moved, due_shown}
use Rattle.cur_paint.proofs.screens.Screens.is_still.Goals as goal

not_false : (r : Bool) → not r ≡ false → r ≡ true
not_false true e = refl
not_false false e = absurd (cc)

not_true : (r : Bool) → not r ≡ true → r ≡ false
not_true true e = absurd (cc)
not_true false e = refl

pub returns-clause-same : goal.returns-clause-same
returns-clause-same g c e = omega (arith, c.differ_in_more.ensures.within (not_true c.differ_in_more.result e))

pub returns-clause-due : goal.returns-clause-due
returns-clause-due g c e =
    let t = g.C.Certificate.table c.args.self.now.checked.now in
    let old = g.O.Picture.cells c.args.self.now.old.now in
    let new = g.N.Picture.cells c.args.self.now.new.now in
    due_changed t old new c.args.belief c.args.wanted.cursor c.args.wanted.mode (c.differ_in_more.ensures.more (not_false c.differ_in_more.result e))

pub returns-then-not-is_mode-clause-due : goal.returns-then-not-is_mode-clause-due
returns-then-not-is_mode-clause-due g c e =
    let t = g.C.Certificate.table c.args.self.now.checked.now in
    let old = g.O.Picture.cells c.args.self.now.old.now in
    let new = g.N.Picture.cells c.args.self.now.new.now in
    due_shown t old new c.args.belief c.args.wanted.cursor c.args.wanted.mode (c.is_mode.ensures.counted c.if-not-is_mode.true)

pub returns-then-not-is_in_place-clause-due : goal.returns-then-not-is_in_place-clause-due
returns-then-not-is_in_place-clause-due g c e =
    let t = g.C.Certificate.table c.args.self.now.checked.now in
    let old = g.O.Picture.cells c.args.self.now.old.now in
    let new = g.N.Picture.cells c.args.self.now.new.now in
    let seen = rw c.cols.ensures.value at c.is_in_place.ensures in
    due_moved t old new c.args.belief c.args.wanted.cursor c.args.wanted.mode (seen.counted c.if-not-is_in_place.true)

pub returns-then-first_differs-clause-due : goal.returns-then-first_differs-clause-due
returns-then-first_differs-clause-due g c e =
    let t = g.C.Certificate.table c.args.self.now.checked.now in
    let old = g.O.Picture.cells c.args.self.now.old.now in
    let new = g.N.Picture.cells c.args.self.now.new.now in
    due_changed t old new c.args.belief c.args.wanted.cursor c.args.wanted.mode (c.first_differs.ensures c.if-first_differs.true)
