-- An entry mended step by step.
use Rattle.std.proofs.Common.{◌≡◌, ◌<◌, ◌+◌, ℕ, Bool, true, false, if◌then◌else◌, nat_lt, List, [], ◌∷◌, ◌++◌, take, get_or, length, refl, sym, subst, ap, ◌∙◌, arith}
use Rattle.std.proofs.lemmas.List.{take_more}
use Rattle.ti_caps.specs.Entry.{Content}
use Rattle.ti_caps.specs.Table.{kind_of}
use Rattle.ti_caps.specs.declared.types.Kind.TheVariants as kinds
use Rattle.ti_rows.specs.declared.rows.Row.{Row}
use Rattle.ti_rows.specs.Names.{cap_of, order, string_in_order}
use Rattle.ti_checker.specs.declared.causes.No.{No}
use Rattle.ti_faults.specs.Candidates.{singles}
use Rattle.ti_faults.specs.Mended.{Mends, MendsAll, choices, switches_sets}
use Rattle.ti_faults.specs.declared.candidates.Choice.{Choice}

-- ---- a checked capability is a string

kind_above : (n : ℕ) → kind_of (83 + n) ≡ kinds.String
unfolding kind_of
kind_above n =
    let first : nat_lt (83 + n) 44 ≡ false = grind arith in
    let second : nat_lt (83 + n) 83 ≡ false = grind arith in
    rw first (rw second refl)

pub string_kind : (row : Row) → kind_of (cap_of row) ≡ kinds.String
string_kind row = kind_above (string_in_order (order row))

-- ---- one more capability

mends_more : (own : Content) (choice : Choice) (nos : List No) (fault : No) (before between after : Content) → MendsAll own choice nos before between → Mends own choice fault.cap between after → MendsAll own choice (nos ++ fault ∷ []) before after
mends_more own choice [] fault before between after h m = (after, subst (λ (e : Content). Mends own choice fault.cap e after) h m, refl)
mends_more own choice (first ∷ rest) fault before between after h m = (h.0, h.1, mends_more own choice rest fault h.0 between after h.2 m)

pub mends_next : (own : Content) (choice : Choice) (nos : List No) (i : ℕ) (fault : No) (before between after : Content) → i < length nos → get_or nos i fault ≡ fault → MendsAll own choice (take i nos) before between → Mends own choice fault.cap between after → MendsAll own choice (take (i + 1) nos) before after
mends_next own choice nos i fault before between after lt is h m =
    let e : take (i + 1) nos ≡ take i nos ++ fault ∷ [] = take_more nos i fault lt ∙ ap (λ (x : No). take i nos ++ x ∷ []) is in
    subst (λ (l : List No). MendsAll own choice l before after) (sym e) (mends_more own choice (take i nos) fault before between after h m)

-- ---- there is a choice

some_of : (b : Bool) (n : ℕ) → 0 < (if b then 1 else n + 2)
some_of true n = omega arith
some_of false n = omega arith

pub some_choice : (entry : Content) (nos : List No) → 0 < choices entry nos
some_choice entry nos = some_of (switches_sets nos) (singles entry)
