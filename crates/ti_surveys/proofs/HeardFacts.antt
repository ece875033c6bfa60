-- The lines that a watcher has heard after one step more.
use Rattle.std.proofs.Common.{◌≡◌, ◌∙◌, ℕ, Bool, List, [], ◌++◌, Option, sym, subst}
use Rattle.std.specs.Io.KnownBytes.{Appends}
use Rattle.std.proofs.KnownBytes.{Appends-nil, Appends-trans}
use Rattle.ti_surveys.specs.Heard.{Hears}

pub hears_nothing : {W : Type 0} (heard : W → Option (List ℕ)) (has_failed : W → Bool) (watcher : W) (lines : List ℕ) → lines ≡ [] → Hears heard has_failed watcher watcher lines
hears_nothing heard has_failed watcher lines none going = (going, subst (Appends (heard watcher) (heard watcher)) (sym none) (Appends-nil (heard watcher)))

-- the lines of one more statement, which began with a report
pub hears_next : {W : Type 0} (heard : W → Option (List ℕ)) (has_failed : W → Bool) (first before begun after : W) (so_far own all : List ℕ) → all ≡ so_far ++ own → Hears heard has_failed first before so_far → heard begun ≡ heard before → has_failed begun ≡ has_failed before → Hears heard has_failed begun after own → Hears heard has_failed first after all
hears_next heard has_failed first before begun after so_far own all spelled past same going now works =
    let last = now works in
    let earlier = past (sym going ∙ last.0) in
    (earlier.0, subst (Appends (heard first) (heard after)) (sym spelled) (Appends-trans (heard first) (heard before) (heard after) so_far own earlier.1 (subst (λ (l : Option (List ℕ)). Appends l (heard after) own) same last.1)))

-- a report at the end changes nothing
pub hears_ended : {W : Type 0} (heard : W → Option (List ℕ)) (has_failed : W → Bool) (first before after : W) (lines : List ℕ) → heard after ≡ heard before → has_failed after ≡ has_failed before → Hears heard has_failed first before lines → Hears heard has_failed first after lines
hears_ended heard has_failed first before after lines same going past works =
    let earlier = past (sym going ∙ works) in
    (earlier.0, subst (λ (l : Option (List ℕ)). Appends (heard first) l lines) (sym same) earlier.1)
