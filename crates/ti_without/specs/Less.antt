-- An entry without some of its capabilities (terminfo(5): an entry has the strings that its terminal understands, and
-- a program does without the others).
use Rattle.std.specs.Prelude.{ℕ, ◌==◌, ◌&&◌, ◌||◌, not, Bool, List, [], ◌∷◌, None, is_some, map, filter}
use Rattle.std.specs.List.{list_any}
use Rattle.vt_term.specs.Color.{Black}
use Rattle.ti_caps.specs.Entry.{Content, string_at, with_value}
use Rattle.ti_conforms.specs.Entries.{acsc}
use Rattle.ti_rows.specs.declared.rows.Row.TheVariants.{Clear, Cup, Sgr0, Smcup, Rmcup, Setaf, Setab, Op, Smacs, Rmacs}
use Rattle.ti_rows.specs.Names.{cap_of}
use Rattle.ti_without.specs.declared.left_out.LeftOut.{LeftOut}

-- the entry without these capabilities
abbrev pub less : Content → List ℕ → Content
less entry [] = entry
less entry (cap ∷ caps) = less (with_value entry cap None) caps

-- the capabilities that are left out
abbrev pub caps_of : List LeftOut → List ℕ
caps_of left = map (λ l. l.cap) left

-- ---- capabilities that belong together

abbrev pub is_among : List ℕ → ℕ → Bool
is_among caps cap = list_any (λ own. own == cap) caps

-- without any one of these an entry has no certificate
abbrev pub required : List ℕ
required = cap_of Clear ∷ cap_of (Cup 0 0) ∷ cap_of Sgr0 ∷ []

-- to the other screen and back
abbrev pub other_screen : List ℕ
other_screen = cap_of Smcup ∷ cap_of Rmcup ∷ []

-- each of these is checked only if the entry has all of them
abbrev pub colors : List ℕ
colors = cap_of (Setaf Black) ∷ cap_of (Setab Black) ∷ cap_of Op ∷ []

-- to the alternate set and back: checked only if the entry has both and `acsc`
abbrev pub alternate : List ℕ
alternate = cap_of Smacs ∷ cap_of Rmacs ∷ []

-- both are of the group
abbrev pub both : List ℕ → ℕ → ℕ → Bool
both group cap other = is_among group cap && is_among group other

-- `other` goes when `cap` does: a terminal that is led to the other screen has to be led back
abbrev pub goes_with : ℕ → ℕ → Bool
goes_with cap other = (other == cap) || both other_screen cap other

-- `other` comes back when `cap` does: `cap` is of use, and checked, only with it
abbrev pub comes_with : ℕ → ℕ → Bool
comes_with cap other = (((goes_with cap other) || both colors cap other) || both alternate cap other)
    || (is_among alternate cap && (other == acsc))

-- what stays left out when the capability is put back
abbrev pub but : ℕ → List LeftOut → List LeftOut
but cap left = filter (λ l. not (comes_with cap l.cap)) left

-- ---- what can be left out

-- the entry has the string, and a certificate can do without it
abbrev pub may_go : Content → ℕ → Bool
may_go entry cap = is_some (string_at entry cap) && not (is_among required cap)
