use Rattle.std.proofs.Common.{◌≡◌, ◌-◌, ℕ, true, Some}
use Rattle.ti_caps.specs.Entry.{Content}
use Rattle.ti_conforms.specs.Entries.{is_checked, string_of}
use Rattle.ti_rows.specs.Lists.{IsInRange, rank, count}
use Rattle.ti_rows.specs.Names.{order}
use Rattle.ti_cert.specs.Certification.{IsDraft}
use Rattle.ti_cert.proofs.certification.Draft.push_string.Given as goal

abbrev pub invariant-loop-next : goal.invariant-loop-next
invariant-loop-next l = record {
  range : IsInRange l.size.rows l.size.cols l.row;
  same : order l.row ≡ order l.fn.first;
  on : (rows cols : ℕ) (entry : Content) (n : ℕ) → string_of entry l.fn.first ≡ Some l.string → is_checked entry l.fn.first ≡ true → IsDraft rows cols entry n l.fn.self → IsDraft rows cols entry n l.self;
}

abbrev pub decreases-loop-next : goal.decreases-loop-next
decreases-loop-next l = count l.size.rows l.size.cols l.row - rank l.size.rows l.size.cols l.row
