use Rattle.std.proofs.Common.{◌+◌}
use Rattle.cur_drawing.proofs.Scrolls.{down_by_place}
use Rattle.cur_pads.proofs.drawing_laws.scroll_down_by_place.Goals as goal

pub returns : goal.returns
returns c = λ g w n. down_by_place g w (n + 1)
