-- The number of answers, in all and of each kind.
use Rattle.std.specs.Prelude.{◌==◌, ℕ, List, [], ◌∷◌, ◌++◌, if◌then◌else◌, codes, length}
use Rattle.std.specs.Fmt.{decimal}
use Rattle.std.specs.List.{count_by, flat_map}
use Rattle.std.specs.Str.{bytes_eq}
use Rattle.ti_verdicts.specs.AnswerNames.{answer_name}
use Rattle.ti_verdicts.specs.declared.answers.Answer.{Answer}

-- the causes, in the order in which they are counted
unfoldable pub cause_names : List (List ℕ)
cause_names =
    codes "FlagOut" ∷ codes "Absent" ∷ codes "AcsByte" ∷ codes "Underflow" ∷ codes "BadNest" ∷ codes "BadCode"
    ∷ codes "Overflow" ∷ codes "BadChar" ∷ codes "WrongKind" ∷ codes "StaticRead" ∷ codes "Unfinished"
    ∷ codes "Stuck" ∷ codes "NotTame" ∷ codes "BadLook" ∷ codes "WrongEffect" ∷ codes "NotShown" ∷ codes "TooLong"
    ∷ codes "NoResync" ∷ []

-- the answers, in their order
unfoldable pub answer_names : List (List ℕ)
answer_names = codes "yes" ∷ (cause_names ++ codes "OtherKind" ∷ codes "part" ∷ codes "refused" ∷ [])

-- the number of answers that have this name
abbrev pub answer_count : List Answer → List ℕ → ℕ
answer_count answers name = count_by (λ answer. bytes_eq (answer_name answer) name) answers

-- `, NAME N`, unless N is 0
abbrev pub part_of : ℕ → List ℕ → List ℕ
part_of count name = if count == 0 then [] else codes ", " ++ (name ++ (codes " " ++ decimal count))

-- `, NAME N` of the answers that have this name
abbrev pub answer_part : List Answer → List ℕ → List ℕ
answer_part answers name = part_of (answer_count answers name) name

-- `total N`, and the number of each kind
abbrev pub answers_line : List Answer → List ℕ
answers_line answers =
    codes "total " ++ (decimal (length answers) ++ (flat_map (answer_part answers) answer_names ++ 10 ∷ []))
