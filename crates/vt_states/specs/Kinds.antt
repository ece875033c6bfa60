-- The kinds of the tokens that the terminal ignores, and how often each comes.
use Rattle.std.specs.Prelude.{ℕ, ◌+◌, ◌-◌, ◌==◌, ◌≡◌, not, bytes_eq, List, [], ◌∷◌, ◌++◌, length, map, take}
use Rattle.std.specs.Prelude.{if◌then◌else◌, Option, Some}
use Rattle.std.specs.Fmt.{decimal}
use Rattle.std.specs.List.{count_by, filter, flat_map, slice_index, sum_by}
use Rattle.vt_term.specs.Parameters.{is_numeral}
use Rattle.vt_term.specs.Function.{function_of}
use Rattle.vt_states.specs.Ignored.{is_ignored, lack_in}
use Rattle.vt_states.specs.declared.ignored.Lack.{Lack}
use Rattle.vt_states.specs.declared.ignored.Lack.TheVariants.{Number}

-- ---- the kind of a token

-- the bytes that are neither digits nor semicolons
abbrev pub mark : ℕ → List ℕ
mark b = if is_numeral b then [] else b ∷ []

abbrev pub marks : List ℕ → List ℕ
marks bytes = flat_map mark bytes

abbrev pub number_text : Option Lack → List ℕ
number_text (Some (Number n)) = decimal n
number_text _ = []

-- a control sequence by the bytes between ESC [ and its final byte, without numbers but for the first that is lacking
abbrev pub control_kind : Option Lack → List ℕ → ℕ → List ℕ
control_kind lack front final = 27 ∷ 91 ∷ (marks front ++ (number_text lack ++ final ∷ []))

-- a control sequence without numbers but for the first that is lacking, and any other token as it is
abbrev pub spelled : Option Lack → List ℕ → List ℕ
spelled lack (escape ∷ second ∷ body) =
    if second == 91 then control_kind lack (take (length body - 1) body) (slice_index body (length body - 1))
    else escape ∷ second ∷ body
spelled lack bytes = bytes

abbrev pub kind_of : List ℕ → List ℕ
kind_of token = spelled (lack_in (function_of token)) token

-- the kinds of the ignored ones among these tokens
abbrev pub kinds : List (List ℕ) → List (List ℕ)
kinds tokens = map kind_of (filter is_ignored tokens)

-- ---- how often they come

-- each kind once, in the order of first appearance
abbrev pub distinct : List (List ℕ) → List (List ℕ)
distinct [] = []
distinct (kind ∷ more) = kind ∷ filter (λ other. not (bytes_eq kind other)) (distinct more)

-- the number of kinds that are counted each by itself
abbrev pub most_kinds : ℕ
most_kinds = 50

-- a kind, and how often it came
pub record Counted : Type 0 where
  pub sequence : List ℕ
  pub times : ℕ

abbrev pub counted : List (List ℕ) → List ℕ → Counted
counted all kind = record { sequence = kind; times = count_by (bytes_eq kind) all }

abbrev pub all_times : List Counted → ℕ
all_times told = sum_by (λ c. c.times) told

pub record Counts : Type 0 where
  pub told : List Counted
  pub others : ℕ

-- how many were counted
abbrev pub total : Counts → ℕ
total counts = all_times counts.told + counts.others

-- the first kinds among these, each with its number; the others are counted together
pub record Count (came : List (List ℕ)) (counts : Counts) : Type 0 where
  pub told : counts.told ≡ map (counted came) (take most_kinds (distinct came))
  pub all : total counts ≡ length came

-- the count of the ignored ones among these tokens
abbrev pub CountsIgnored : List (List ℕ) → Counts → Type 0
CountsIgnored tokens counts = Count (kinds tokens) counts

-- (Serves the code alone.) the place of a kind, the number of all if it isn't among them
abbrev pub place_in : List ℕ → List Counted → ℕ
place_in sequence [] = 0
place_in sequence (c ∷ told) = if bytes_eq c.sequence sequence then 0 else 1 + place_in sequence told
