use Rattle.std.proofs.Common.{◌≡◌, ◌+◌, ap, length, arith}
use Rattle.vt_screen.proofs.Rings.{length-rotated_up, rotated_up-next, next_within}
use Rattle.vt_screen.proofs.sheets.Sheet.turn_up.Goals as goal

pub invariant_of-self : goal.invariant_of-self
invariant_of-self c =
    let count : length c.self.inside.grid ≡ length c.lines-count.result.now = omega (arith, ap length c.lines-count.ensures) in
    rw (c.fill_lines.ensures, c.ring_next-self-inside.ensures) (next_within _ _ _ _ count (omega (arith, count, c.self.invariant)))

pub returns : goal.returns
returns c =
    let count : length c.self.inside.grid ≡ length c.lines-count.result.now = omega (arith, ap length c.lines-count.ensures) in
    let whole : c.args.bottom + 1 ≡ length c.lines-count.result.now = omega (arith, count, c.requires.whole, c.self.invariant, ap length c.self.view_is, length-rotated_up c.self.inside.start c.self.inside.grid (omega (arith, c.self.invariant))) in
    rw (c.fill_lines.ensures, c.ring_next-self-inside.ensures, ← c.self.view_is) (rotated_up-next _ _ _ _ _ count (omega (arith, count, c.self.invariant)) whole (rw (c.self.view_is) c.requires.even))
