use Rattle.std.proofs.Common.{◌≡◌, ap, arith, length, subst, sym, ◌∙◌}
use Rattle.cur_screens.specs.VirtualScreen.{AreDefault, Screen, IsScreen, screen_of}
use Rattle.cur_screens.proofs.Slices.{all_taken}
use Rattle.cur_screens.proofs.virtual_screen.Virtual.copy_marked.Goals as goal

pub invariant_of-self : goal.invariant_of-self
invariant_of-self c =
    let v : Screen = screen_of c.self.inside.rows c.self.inside.cols c.self.inside.grid c.self.inside.cursor c.self.inside.clearok c.self.inside.pairs.items in
    let w : Screen = screen_of c.other.inside.rows c.other.inside.cols c.other.inside.grid c.other.inside.cursor c.other.inside.clearok c.other.inside.pairs.items in
    let long : length c.copy_colors.new.pairs ≡ c.self.inside.pairs.len = omega (arith, c.deref_mut.ensures.len, ap length (c.copy_colors.ensures ∙ c.deref.ensures.value), c.self.invariant.0.pairs, c.other.invariant.0.pairs) in
    let taken = all_taken v w c.args.self.now c.args.other.now c.copy_marked.new.grid c.copy_colors.new.pairs c.self.inside.pairs.len c.self.invariant.0 c.other.invariant.0 c.self.view_is c.other.view_is c.requires.rows c.requires.cols c.copy_marked.ensures.value long
    (c.copy_colors.ensures ∙ c.deref.ensures.value) in
    (subst IsScreen (sym taken.all) c.other.invariant.0, subst (AreDefault c.other.inside.colored) (sym taken.same) c.other.invariant.1)

pub returns : goal.returns
returns c =
    let v : Screen = screen_of c.self.inside.rows c.self.inside.cols c.self.inside.grid c.self.inside.cursor c.self.inside.clearok c.self.inside.pairs.items in
    let w : Screen = screen_of c.other.inside.rows c.other.inside.cols c.other.inside.grid c.other.inside.cursor c.other.inside.clearok c.other.inside.pairs.items in
    let long : length c.copy_colors.new.pairs ≡ c.self.inside.pairs.len = omega (arith, c.deref_mut.ensures.len, ap length (c.copy_colors.ensures ∙ c.deref.ensures.value), c.self.invariant.0.pairs, c.other.invariant.0.pairs) in
    (all_taken v w c.args.self.now c.args.other.now c.copy_marked.new.grid c.copy_colors.new.pairs c.self.inside.pairs.len c.self.invariant.0 c.other.invariant.0 c.self.view_is c.other.view_is c.requires.rows c.requires.cols c.copy_marked.ensures.value long
    (c.copy_colors.ensures ∙ c.deref.ensures.value)).all ∙ c.other.view_is
