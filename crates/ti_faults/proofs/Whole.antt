-- The faults of the entry as a whole, and all faults.
use Rattle.std.proofs.Common.{◌≡◌, List, ◌++◌, map, ap, ◌∙◌}
use Rattle.ti_caps.specs.Entry.{Content}
use Rattle.ti_checker.specs.declared.causes.No.{No}
use Rattle.ti_faults.specs.Lacks.{Lacks, AddsPairs, lacking, said_by}

pub lacks_more : (entry : Content) (old new : List No) → map said_by old ≡ lacking entry → AddsPairs entry old new → Lacks entry new
lacks_more entry old new e a = record { pairs = a.pairs; of_pairs = a.of_pairs; are = a.added ∙ ap (λ l. l ++ a.pairs) e }
