-- The entries of a survey on which a session opens.
use Rattle.std.specs.Prelude.{◌≡◌, ℕ, Bool, List, [], ◌∷◌}
use Rattle.ti_caps.specs.Entry.{Content}
use Rattle.ti_openings.specs.Openings.{OpensAs}
use Rattle.ti_surveys.specs.declared.kinds.EntryKind.{EntryKind}
use Rattle.ti_surveys.specs.declared.kinds.EntryKind.TheVariants.{Other, Part, Usual}

-- whether a session opens on an entry of this kind, whole or without some of its strings; nothing of one that is only
-- there to be used, or is for a terminal of another kind
abbrev pub AreOpenings : EntryKind → Content → ℕ → ℕ → List Bool → Type 0
AreOpenings Part entry rows cols opened = opened ≡ []
AreOpenings Other entry rows cols opened = opened ≡ []
AreOpenings Usual entry rows cols opened = (opens : Bool) × OpensAs opens entry rows cols × (opened ≡ opens ∷ [])
