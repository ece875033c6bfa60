use Rattle.ti_checker.proofs.Doubts.{one_teaching, never_unasked, never_untamed}
use Rattle.ti_checker.proofs.laws.no_doubt_of_what_stands.Goals as goal

pub returns : goal.returns
returns c = record { one_teaching = one_teaching; untamed = never_untamed; unasked = never_unasked }
