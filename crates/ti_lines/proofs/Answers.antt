-- The answer for the bytes that were given is one for the text that a reader has left.
use Rattle.std.proofs.Common.{◌≡◌, ℕ, List, [], ◌++◌, Result, Ok, Err, sym, ap, subst, ◌∙◌, inl, inr}
use Rattle.std.proofs.lemmas.List.{append-nil}
use Rattle.ti_lines.specs.Reader.{Follows, AtEnd, Rose}
use Rattle.ti_lines.specs.Judgements.{Rules, Judged, Gives, Outcome, Whole, Early, Cuts, Reports, GivesOr}
use Rattle.ti_lines.specs.declared.judgements.LineFault.{LineFault}

weaker : {X T F : Type 0} (rules : Rules T F) (Failed : Type 0) (new : T) (answer : Result X (LineFault F)) (Is : Result T (LineFault F) → Type 0) → Gives rules new answer Is → GivesOr rules Failed new answer Is
weaker rules Failed new (Ok x) Is h = h
weaker rules Failed new (Err e) Is h = inl h

failed_is : {X T F : Type 0} (rules : Rules T F) (Failed : Type 0) (new : T) (answer : Result X (LineFault F)) (e : LineFault F) (Is : Result T (LineFault F) → Type 0) → answer ≡ Err e → e.kind ≡ rules.read_failed → Failed → GivesOr rules Failed new answer Is
failed_is {X} {T} {F} rules Failed new answer e Is is kind f =
    let Q : Result X (LineFault F) → Type 0 = λ r. GivesOr rules Failed new r Is in
    subst Q (sym is) (inr (kind, f))

-- an answer for each text that begins with the bytes given, and that ends there if the end was seen
of_text : {X T F : Type 0} (rules : Rules T F) (limit : ℕ) (old new : T) (Ended Failed : Type 0) (given rest : List ℕ) (answer : Result X (LineFault F)) → Outcome rules limit old new Ended Failed given answer → (Ended → rest ≡ [])
    → GivesOr rules Failed new answer (Judged rules limit old (given ++ rest))
of_text rules limit old new Ended Failed given rest answer (Whole end h) ends =
    let e : given ≡ given ++ rest = sym (append-nil given) ∙ ap (λ (l : List ℕ). given ++ l) (sym (ends end)) in
    weaker rules Failed new answer (Judged rules limit old (given ++ rest)) (subst (λ (l : List ℕ). Gives rules new answer (Judged rules limit old l)) e h)
of_text rules limit old new Ended Failed given rest answer (Early h) ends = weaker rules Failed new answer (Judged rules limit old (given ++ rest)) (h rest)
of_text rules limit old new Ended Failed given rest answer (Cuts e is kind line f) ends = failed_is rules Failed new answer e (Judged rules limit old (given ++ rest)) is kind f

pub of_left : {R X T F : Type 0} (rules : Rules T F) (limit : ℕ) (old new : T) (left : R → List ℕ → Type 0) (failures : R → ℕ) (reader after : R) (answer : Result X (LineFault F)) → Reports rules limit old new left failures reader after answer
    → (text : List ℕ) → left reader text → GivesOr rules (Rose (failures reader) (failures after)) new answer (Judged rules limit old text)
of_left rules limit old new left failures reader after answer p text h =
    let b : Follows (left after) p.given text = p.gave.tells text h in
    subst (λ (l : List ℕ). GivesOr rules (Rose (failures reader) (failures after)) new answer (Judged rules limit old l)) (sym b.parts)
    (of_text rules limit old new (AtEnd left after) (Rose (failures reader) (failures after)) p.given b.rest answer p.outcome (λ end. end b.rest b.there))
