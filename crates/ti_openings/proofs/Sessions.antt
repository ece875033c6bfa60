-- Sessions, from what certificates without some strings are.
use Rattle.std.proofs.Common.{◌≡◌, ◌==◌, ℕ, Bool, true, false, List, [], length, All, Bor, Option, Some, None, IfSome, IfNone, is_some, true≢false, inr, subst}
use Rattle.ti_caps.specs.Entry.{Content}
use Rattle.ti_checker.specs.declared.causes.No.{No}
use Rattle.ti_faults.specs.AllFaults.{AreAllFaults, AreFaults, Faulty, NoFault}
use Rattle.ti_openings.specs.Openings.{AreNames, FindsOne, Less, Opens, OpensAs, texts_of}
use Rattle.ti_without.specs.Without.{IsClosed, IsFound, IsNeeded, IsWhole}
use Rattle.ti_without.specs.declared.left_out.LeftOut.{LeftOut}
use Rattle.ti_without.specs.declared.without.Without.{Without}

-- all faults of an entry that has some
pub some_faults : (entry : Content) (rows cols : ℕ) (nos : List No) → AreAllFaults entry rows cols nos → (length nos == 0) ≡ false → AreFaults entry rows cols nos
some_faults entry rows cols nos (NoFault none has) h = absurd (true≢false (subst (λ (l : List No). (length l == 0) ≡ false) none h))
some_faults entry rows cols nos (Faulty faults) h = faults

-- an entry with faults is refused as a whole
pub whole_by : (entry : Content) (rows cols : ℕ) (nos : List No) (left : List LeftOut) → AreFaults entry rows cols nos → IsWhole entry rows cols left
whole_by entry rows cols nos left f = inr (record { refusal = f.refusal; refused = f.refused; claims = f.claims })

pub opens_by : (entry : Content) (rows cols : ℕ) (w : Without) (left : List LeftOut) (told : List (Bor (List ℕ))) → left ≡ w.left_out.items → IsFound entry rows cols w → All (IsNeeded entry rows cols w.left_out.items) w.left_out.items → IsWhole entry rows cols w.left_out.items
    → AreNames left (texts_of told) → Opens entry rows cols (texts_of told)
opens_by entry rows cols w left told same found needed whole names =
    Less w found needed whole (subst (λ (l : List LeftOut). AreNames l (texts_of told)) same names)

-- a session opens exactly if a certificate was found
pub opens_as : (entry : Content) (rows cols : ℕ) (found : Option Without) → IfSome found (IsFound entry rows cols) → IfNone found (IsClosed entry rows cols) → OpensAs (is_some found) entry rows cols
opens_as entry rows cols (Some w) some none = FindsOne w some
opens_as entry rows cols None some none = none
