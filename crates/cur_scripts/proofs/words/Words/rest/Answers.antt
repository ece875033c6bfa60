use Rattle.std.proofs.Common.{sym, ap, ◌∙◌}
use Rattle.std.proofs.lemmas.List.{take_rest}
use Rattle.cur_scripts.specs.Words.{rest}
use Rattle.cur_scripts.proofs.WordsLeft.{rest_behind}
use Rattle.cur_scripts.proofs.words.Words.rest.Goals as goal

pub returns-in-len1-up : goal.returns-in-len1-up
returns-in-len1-up c = rw (c.new.ensures, take_rest c.self.inside.left.now 1) (sym (ap rest (sym c.self.view_is) ∙ rest_behind c.self.inside.left.now c.in-len1-up.len_at_least))
