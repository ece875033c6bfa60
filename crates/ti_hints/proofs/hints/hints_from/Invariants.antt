use Rattle.std.specs.Prelude.{IfSome, map}
use Rattle.std.specs.List.{AllByRecursion}
use Rattle.ti_hints.specs.Places.{IsHintOf, IsLineOf}
use Rattle.ti_hints.proofs.hints.hints_from.Given as goal

-- the hints of the lines so far, and the line from which on they are left out
abbrev pub invariant-loop-number : goal.invariant-loop-number
invariant-loop-number l = record {
  hold : AllByRecursion (IsHintOf (map (λ line. line.now) l.lines) l.raws l.place) l.hints.items;
  further : IfSome l.further (IsLineOf l.raws l.place);
}
