use Rattle.std.proofs.Common.{List, ℕ, IsPermutation, subst}
use Rattle.std.proofs.lemmas.List.Sorted.{IsPermutation-map}
use Rattle.ti_openings.specs.Openings.{texts_of}
use Rattle.ti_openings.proofs.Sorting.{sorted_texts}
use Rattle.ti_openings.proofs.openings.names_of.Goals as goal

-- a sort moves the names
pub returns : goal.returns
returns c = record {
  all = subst (λ (names : List (List ℕ)). IsPermutation names (texts_of c.sort.new.self.items)) c.in_ok-names.ensures
      (IsPermutation-map (λ name. name.now) c.in_ok-names.names.items c.sort.new.self.items c.sort.ensures.permutation);
  in_order = sorted_texts c.sort.new.self.items c.in_ok-sort.ensures.sorted;
}
