use Rattle.std.proofs.Common.{◌≡◌, ◌<◌, ℕ, get_or, length}
use Rattle.ti_conforms.specs.Alternates.{in_plain_set}
use Rattle.cur_update.specs.Inks.{alternate_of, known_as}
use Rattle.cur_update.proofs.inks.alternates_of.Given as goal

abbrev pub invariant-loop-k : goal.invariant-loop-k
invariant-loop-k g l = record {
  length : length l.characters ≡ 95;
  found : (k : ℕ) → k < l.k → get_or l.characters k (known_as (in_plain_set 32)) ≡ alternate_of l.graphic (g.C.Certificate.partners l.checked) k;
}
