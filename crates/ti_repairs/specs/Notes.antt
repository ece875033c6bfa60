-- The notes on standard error about files with suggestions taken.
use Rattle.std.specs.Prelude.{ℕ, ◌≡◌, Bool, true, false, List, [], ◌∷◌, ◌++◌, Result, Ok, Err}
use Rattle.std.specs.Prelude.{Vec, codes}
use Rattle.std.specs.Global.{Global}
use Rattle.std.specs.List.{flat_map}
use Rattle.ti_caps.specs.Entry.{Content}
use Rattle.ti_caps.specs.Table.{name_at}
use Rattle.ti_checker.specs.declared.causes.No.{No}
use Rattle.ti_commands.specs.Findings.{ResolvesAt}
use Rattle.ti_faults.specs.AllFaults.{AreAllFaults}
use Rattle.ti_files.specs.Refusals.{refusal_text_of}
use Rattle.ti_files.specs.Shown.{shown}
use Rattle.ti_files.specs.declared.failure.CommandRefusal.{CommandRefusal}
use Rattle.ti_steps.specs.Parts.{AreParts}
use Rattle.ti_steps.specs.declared.advice.Remedy.{Remedy}
use Rattle.ti_steps.specs.declared.kept.Kept.{Kept}
use Rattle.ti_steps.specs.declared.kept.Reason.{Reason}
use Rattle.ti_steps.specs.declared.kept.Reason.TheVariants.{Unplaced, Changes, Faults, Loses, Refused}
use Rattle.ti_resolve.specs.Uses.{names_at}
use Rattle.ti_source.specs.declared.types.RawEntry.{RawEntry}
use Rattle.ti_verdicts.specs.Locations.{first_name}
use Rattle.ti_verdicts.specs.Refusals.{no_text}

-- the first name of the entry at a place
abbrev pub own_name : List RawEntry → ℕ → List ℕ
own_name raws place = first_name (names_at raws place)

-- ---- suggestions that are left out

-- why a suggestion is left out, with the first name of an entry; `root` is the one that wants it
abbrev pub reason_text : List RawEntry → ℕ → Reason → List ℕ
reason_text raws root Unplaced = codes "no way to take it was found"
reason_text raws root (Changes place) = shown (own_name raws place) ++ codes " would change and not be mended"
reason_text raws root (Faults place cap) = shown (own_name raws place) ++ (codes " would be at fault in " ++ name_at cap)
reason_text raws root (Loses place) = shown (own_name raws place) ++ codes " would lose its yes"
reason_text raws root Refused = shown (own_name raws root) ++ codes " would stay at fault"

-- ` of NAME`, if entries are named
abbrev pub of_text : Bool → List ℕ → List ℕ
of_text true name = codes " of " ++ shown name
of_text false name = []

-- `kept CAP: REASON`, or `kept CAP of NAME: REASON`
abbrev pub reason_line : Bool → List RawEntry → Remedy → Reason → List ℕ
reason_line named raws remedy reason =
    codes "kept " ++ (name_at remedy.change.cap ++ (of_text named (own_name raws remedy.root)
    ++ (codes ": " ++ (reason_text raws remedy.root reason ++ 10 ∷ []))))

-- a line for each suggestion that is left out
abbrev pub left_out_lines : Bool → List RawEntry → List Kept → List ℕ
left_out_lines named raws kept = flat_map (λ (one : Kept). reason_line named raws one.remedy one.reason) kept

-- a line if it isn't known that nothing more can be taken
abbrev pub ended_line : Bool → List ℕ
ended_line true = []
ended_line false = codes "more suggestions may be taken by another run\n"

-- the notes about suggestions that are left out
abbrev pub kept_lines : Bool → List RawEntry → List Kept → Bool → List ℕ
kept_lines named raws kept ended = left_out_lines named raws kept ++ ended_line ended

-- ---- entries that are still wrong

-- what is wrong with an entry: its faults, or why it can't be resolved
abbrev pub IsWrongOf : ℕ → ℕ → Result Content CommandRefusal → Result (Vec No Global) CommandRefusal → Type 0
IsWrongOf rows cols (Ok entry) (Ok nos) = AreAllFaults entry rows cols nos.items
IsWrongOf rows cols (Err refusal) (Err told) = told ≡ refusal
IsWrongOf rows cols _ _ = ⊥

-- what is wrong with the entry at a place
pub record IsStillWrong (raws : List RawEntry) (rows cols place : ℕ) (wrong : Result (Vec No Global) CommandRefusal)
    : Type 0 where
  pub found : Result Content CommandRefusal
  pub resolves : ResolvesAt raws place found
  pub is : IsWrongOf rows cols found wrong

-- `NAME `, if entries are named
abbrev pub label_of : Bool → List ℕ → List ℕ
label_of true name = name ++ 32 ∷ []
label_of false name = []

-- `left: WORDS`, or `left: NAME WORDS`
abbrev pub wrong_line : List ℕ → List ℕ → List ℕ
wrong_line label words = codes "left: " ++ (shown (label ++ words) ++ 10 ∷ [])

-- a line for each fault, `no CAP P..: CAUSE`; or `refused: KIND` for an entry that can't be resolved
abbrev pub wrong_lines : List ℕ → Result (Vec No Global) CommandRefusal → List ℕ
wrong_lines label (Ok nos) = flat_map (λ no. wrong_line label (no_text no)) nos.items
wrong_lines label (Err refusal) = wrong_line label (codes "refused: " ++ refusal_text_of refusal)

-- the lines about the entry at a place, with its name
pub record AreWrongLines (raws : List RawEntry) (rows cols place : ℕ) (text : List ℕ) : Type 0 where
  pub wrong : Result (Vec No Global) CommandRefusal
  pub is : IsStillWrong raws rows cols place wrong
  pub says : text ≡ wrong_lines (label_of true (own_name raws place)) wrong

-- the lines about what is still wrong with each of the first `count` entries
abbrev pub AreStillWrong : List RawEntry → ℕ → ℕ → ℕ → List ℕ → Type 0
AreStillWrong raws rows cols count text = AreParts (AreWrongLines raws rows cols) count text
