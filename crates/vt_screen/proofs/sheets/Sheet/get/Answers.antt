use Rattle.std.proofs.Common.{◌∙◌, ap, get_or, List}
use Rattle.vt_screen.specs.Look.{Look, space}
use Rattle.vt_screen.specs.Grid.{line_at}
use Rattle.vt_screen.proofs.sheets.Sheet.get.Goals as goal

pub returns : goal.returns
returns c = c.get.ensures space ∙ ap (λ (l : List Look). get_or l c.args.col space) (c.place_of-at.ensures.line ∙ ap (λ g. line_at g c.args.row) c.self.view_is)
