-- (Serves the code alone.) Places found by scans of a text.
use Rattle.std.specs.Prelude.{ℕ, ◌+◌, suc, List, [], ◌∷◌, ◌++◌, Option, Some, None, if◌then◌else◌, ◌==◌, option_map}
use Rattle.ti_caps.specs.declared.fits.Opener.{Opener}
use Rattle.ti_caps.specs.Fits.{opener_after}
use Rattle.ti_caps.specs.declared.fits.Opener.TheVariants.{Nothing}
use Rattle.ti_source.specs.Layout.{ends_field, Marked, marked_with}
use Rattle.ti_source.specs.Marks.{line_feed}

-- the line without a carriage return at its end
abbrev pub without_return : List ℕ → List ℕ
without_return [] = []
without_return (b ∷ []) = if b == 13 then [] else b ∷ []
without_return (b ∷ c ∷ rest) = b ∷ without_return (c ∷ rest)

-- the place of the first line feed
abbrev pub feed_in : List ℕ → Option ℕ
feed_in [] = None
feed_in (b ∷ rest) = if b == line_feed then Some 0 else option_map suc (feed_in rest)

-- the place of the first comma that ends a field
abbrev pub comma_from : Opener → List ℕ → Option ℕ
comma_from opener [] = None
comma_from opener (b ∷ rest) =
    if ends_field opener b then Some 0 else option_map suc (comma_from (opener_after opener b) rest)

unfoldable pub comma_in : List ℕ → Option ℕ
comma_in line = comma_from Nothing line

-- a place this many bytes further on
abbrev pub shifted : ℕ → Option ℕ → Option ℕ
shifted n None = None
shifted n (Some k) = Some (n + k)

-- bytes prepended to the name
abbrev pub before_name : List ℕ → Marked → Marked
before_name front marked = marked_with (front ++ marked.name) marked.mark marked.value
