use Rattle.std.proofs.Common.{refl}
use Rattle.cur_play.proofs.laws.most_kept.Goals as goal

pub returns : goal.returns
returns g c = λ t partners v old new answer before after rows cols refresh. refresh.bound refl before.shown rows cols (λ known. refl)
