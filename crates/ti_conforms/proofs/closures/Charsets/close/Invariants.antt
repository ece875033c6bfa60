use Rattle.std.proofs.Common.{◌≡◌, true}
use Rattle.vt_term.specs.Screen.{Charset}
use Rattle.ti_conforms.specs.Closures.{Settled, SomeLeads, absent, has}
use Rattle.ti_conforms.proofs.closures.Charsets.close.Given as goal

abbrev pub invariant-loop-charset : goal.invariant-loop-charset
invariant-loop-charset l = record {
  sound : (c : Charset) → has l.self c ≡ true → Settled (λ d. has l.initial.self d ≡ true) (SomeLeads l.changes) c;
  more : (c : Charset) → has l.initial.self c ≡ true → has l.self c ≡ true;
}

abbrev pub decreases-loop-charset : goal.decreases-loop-charset
decreases-loop-charset l = absent l.self
