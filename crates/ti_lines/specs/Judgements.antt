-- A text judged line by line: the first fault with its line, or the value that its lines lead to.
use Rattle.std.specs.Prelude.{ℕ, ◌+◌, ◌-◌, ◌<◌, ◌≤◌, ◌≡◌, ◌⊎◌, List, [], ◌∷◌, ◌++◌, length, Result, Ok, Err, IfErr}
use Rattle.ti_lines.specs.Reader.{AtEnd, Gave, Rose, piece_limit}
use Rattle.ti_lines.specs.Text.{Cut, cut_of}
use Rattle.ti_lines.specs.Lines.{Reading}
use Rattle.ti_lines.specs.declared.lines.Next.{Next}
use Rattle.ti_lines.specs.declared.lines.Next.TheVariants.{Line, End, Unended, Long}
use Rattle.ti_lines.specs.declared.lines.Halt.{Halt}
use Rattle.ti_lines.specs.declared.lines.Halt.TheVariants.{ReadFailed, NoMemory}
use Rattle.ti_lines.specs.declared.judgements.LineFault.{LineFault}

-- How texts of one kind are judged.
pub record Rules (T F : Type 0) : Type 1 where
  -- one more line leads to a new value, or to a fault
  pub line : T → List ℕ → Result T F → Type 0
  -- the end of the text leads to a last value, or to a fault
  pub end : T → Result T F → Type 0
  -- the fault of a line without LF, or with its LF past the limit
  pub no_line : F
  pub no_memory : F
  pub read_failed : F

abbrev pub fault_at : {F : Type 0} → ℕ → F → LineFault F
fault_at number kind = record { line = number; kind = kind }

-- an answer to a line, or to the end, as the answer for the text
abbrev pub AtLine : {T F : Type 0} → ℕ → (Result T F → Type 0) → Result T (LineFault F) → Type 0
AtLine number Is (Ok t) = Is (Ok t)
AtLine number Is (Err e) = (e.line ≡ number) × Is (Err e.kind)

-- no bytes may follow the last LF
abbrev pub JudgedLast : {T F : Type 0} → Rules T F → ℕ → T → List ℕ → Result T (LineFault F) → Type 0
JudgedLast rules number t [] answer = AtLine number (rules.end t) answer
JudgedLast rules number t (b ∷ last) answer = answer ≡ Err (fault_at number rules.no_line)

-- A line has its LF within the budget, and either it has a fault or the lines after it decide; or its LF comes too
-- late.
pub data JudgedLine {T F : Type 0} (rules : Rules T F) (budget number : ℕ) (t : T) (line : List ℕ) (Later : T → Type 0)
    (answer : Result T (LineFault F)) : Type 0 where
  Passes : length line < budget → (u : T) → rules.line t line (Ok u) → Later u
      → JudgedLine rules budget number t line Later answer
  Fails : length line < budget → (kind : F) → answer ≡ Err (fault_at number kind) → rules.line t line (Err kind)
      → JudgedLine rules budget number t line Later answer
  TooLong : budget ≤ length line → answer ≡ Err (fault_at number rules.no_line)
      → JudgedLine rules budget number t line Later answer

-- Line after line, each with its LF within the budget that the lines before it leave.
unfoldable pub JudgedLines : {T F : Type 0} → Rules T F → ℕ → ℕ → T → List (List ℕ) → List ℕ → Result T (LineFault F)
    → Type 0
JudgedLines rules budget number t [] last answer = JudgedLast rules number t last answer
JudgedLines rules budget number t (line ∷ lines) last answer =
    JudgedLine rules budget number t line
    (λ u. JudgedLines rules (budget - (length line + 1)) (number + 1) u lines last answer) answer

abbrev pub JudgedCut : {T F : Type 0} → Rules T F → ℕ → ℕ → T → Cut → Result T (LineFault F) → Type 0
JudgedCut rules budget number t cut answer = JudgedLines rules budget number t cut.lines cut.last answer

unfoldable pub JudgedFrom : {T F : Type 0} → Rules T F → ℕ → ℕ → T → List ℕ → Result T (LineFault F) → Type 0
JudgedFrom rules budget number t text answer = JudgedCut rules budget number t (cut_of text) answer

-- a whole text, whose lines are counted from 1 and may have `limit` bytes with their LFs
unfoldable pub Judged : {T F : Type 0} → Rules T F → ℕ → T → List ℕ → Result T (LineFault F) → Type 0
Judged rules limit t text answer = JudgedFrom rules limit 1 t text answer

-- the fault of a refusal is the judgement's, unless memory ran out
abbrev pub Refuses : {T F : Type 0} → Rules T F → F → (Result T F → Type 0) → Type 0
Refuses rules kind Is = Is (Err kind) ⊎ (kind ≡ rules.no_memory)

-- the fault of a refused text is the judgement's, unless memory ran out
abbrev pub FailsBy : {T F : Type 0} → Rules T F → LineFault F → (Result T (LineFault F) → Type 0) → Type 0
FailsBy rules fault Is = Is (Err fault) ⊎ (fault.kind ≡ rules.no_memory)

-- the answer, and the value `new` after it, are those of the text, unless memory ran out
abbrev pub Gives : {X T F : Type 0} → Rules T F → T → Result X (LineFault F) → (Result T (LineFault F) → Type 0)
    → Type 0
Gives rules new (Ok x) Is = Is (Ok new)
Gives rules new (Err e) Is = FailsBy rules e Is

-- the answer if no whole line is next
abbrev pub Closes : {X T F : Type 0} → Rules T F → Next → ℕ → T → T → Result X (LineFault F) → Type 0
Closes rules (Line n) number old new answer = Unit {0}
Closes rules End number old new answer = Gives rules new answer (AtLine number (rules.end old))
Closes rules Unended number old new answer = answer ≡ Err (fault_at number rules.no_line)
Closes rules Long number old new answer = answer ≡ Err (fault_at number rules.no_line)

-- the fault if the next line could not be read
abbrev pub halted : {T F : Type 0} → Rules T F → ℕ → Halt → LineFault F
halted rules number ReadFailed = fault_at number rules.read_failed
halted rules number NoMemory = fault_at number rules.no_memory

-- The answer is one for the bytes that were given: for them alone if the end was seen, else for every text that
-- begins with them. Or the reader failed, in the line after those that were given whole.
pub data Outcome {X T F : Type 0} (rules : Rules T F) (limit : ℕ) (old new : T) (Ended Failed : Type 0) (given : List ℕ)
    (answer : Result X (LineFault F)) : Type 0 where
  Whole : Ended → Gives rules new answer (Judged rules limit old given)
      → Outcome rules limit old new Ended Failed given answer
  Early : ((back : List ℕ) → Gives rules new answer (Judged rules limit old (given ++ back)))
      → Outcome rules limit old new Ended Failed given answer
  Cuts : (fault : LineFault F) → answer ≡ Err fault → fault.kind ≡ rules.read_failed
      → fault.line ≡ length (cut_of given).lines + 1 → Failed → Outcome rules limit old new Ended Failed given answer

-- The last call gave the final piece of the bytes given, and before it line `number` wasn't whole.
pub record LastCall (given : List ℕ) (number : ℕ) : Type 0 where
  pub before : List ℕ
  pub piece : List ℕ
  pub parts : given ≡ before ++ piece
  pub few : length piece ≤ piece_limit
  pub open_line : length (cut_of before).lines < number

-- The bytes that a reader gave in a call, at most one past the limit, and the answer. The reader isn't called again
-- once the line with the fault is whole.
pub record Reports {R X T F : Type 0} (rules : Rules T F) (limit : ℕ) (old new : T) (left : R → List ℕ → Type 0)
    (failures : R → ℕ) (reader after : R) (answer : Result X (LineFault F)) : Type 0 where
  pub given : List ℕ
  pub gave : Gave left failures reader after given
  pub few : length given ≤ limit + 1
  pub last : IfErr answer (λ e. LastCall given e.line)
  pub outcome : Outcome rules limit old new (AtEnd left after) (Rose (failures reader) (failures after)) given answer

-- the answer is that of this text, or the reader failed
abbrev pub GivesOr : {X T F : Type 0} → Rules T F → Type 0 → T → Result X (LineFault F)
    → (Result T (LineFault F) → Type 0) → Type 0
GivesOr rules Failed new (Ok x) Is = Is (Ok new)
GivesOr rules Failed new (Err e) Is = FailsBy rules e Is ⊎ ((e.kind ≡ rules.read_failed) × Failed)

-- Inside a call: the bytes `passed` are judged, and those of `r.unread` were taken.
pub record Progress {R T F : Type 0} (rules : Rules T F) (limit : ℕ) (start : T) (left : R → List ℕ → Type 0)
    (failures : R → ℕ) (old now : R) (r : Reading) (number : ℕ) (t : T) : Type 0 where
  pub passed : List ℕ
  pub gave : Gave left failures old now (passed ++ r.unread)
  pub budget : r.budget + length passed ≡ limit
  pub bound : length r.unread ≤ r.budget + 1
  pub few : number ≤ length passed + 1
  pub last : LastCall (passed ++ r.unread) number
  pub lines : (text : List ℕ) → length (cut_of (passed ++ text)).lines + 1 ≡ number + length (cut_of text).lines
  pub rest : (text : List ℕ) (answer : Result T (LineFault F)) → JudgedFrom rules r.budget number t text answer
      → Judged rules limit start (passed ++ text) answer
