-- The text of a certificate is accepted if its lines go together.
use Rattle.std.proofs.Common.{◌≡◌, ◌≤◌, ◌+◌, ◌-◌, ℕ, List, [], ◌∷◌, ◌++◌, length, reverse, is_some, Option, Some, None, Result, Ok, refl, sym, ap, subst, ◌∙◌, arith, append-nil}
use Rattle.std.specs.List.{AllByRecursion}
use Rattle.std.proofs.lemmas.List.{reverse-reverse}
use Rattle.ti_lines.specs.declared.row_lines.RowLine.{RowLine}
use Rattle.ti_lines.specs.Heads.{size_text, acsc_text, end_text, IsAcscText}
use Rattle.ti_lines.specs.RowLines.{line_text, IsLine}
use Rattle.ti_lines.specs.Texts.{acsc_lines, row_lines, ended, IsAcsc}
use Rattle.ti_lines.specs.Judgements.{JudgedFrom, Judged}
use Rattle.ti_lines.proofs.Texts.{judge_step, judge_end}
use Rattle.ti_cert.specs.Clashes.{GoesTogether, OfLines}
use Rattle.ti_cert.specs.Certificates.{Said, Nothing, Sized, Listing, Ended, Stands, Closes, JudgesLater, IsLast, IsRow, HasPairs, HasNoPairs, HasSize, JudgesLine, rules_of, limit, IsAnswer}
use Rattle.ti_cert.specs.Texts.{StandInOrder, IsCertificate, IsAcceptedCertificate, AcceptsCertificates}
use Rattle.ti_cert.specs.declared.faults.CertFaultKind.{CertFaultKind}
use Rattle.ti_cert.proofs.LineTexts.{no_end, row_lacks, acsc_lacks, size_lacks, not_end, no_pairs, end_no_pairs}
use Rattle.ti_cert.proofs.Texts.{ended_length, turned, that_of_certificate, accepted_together}

-- all lines go together, with these pairs
abbrev AreTogether : ℕ → ℕ → Option (List ℕ) → List RowLine → Type 0
AreTogether rows cols pairs lines = OfLines rows cols lines (λ t. GoesTogether (is_some pairs) t)

-- after this the lines about capabilities are judged, the first of them too
abbrev Reads : ℕ → ℕ → Option (List ℕ) → List RowLine → Said → Type 0
Reads rows cols pairs before said =
    (text : List ℕ) (answer : Result Said CertFaultKind) → ((bytes : List ℕ) → IsAcscText text bytes → ⊥) → JudgesLater rows cols pairs before text answer → JudgesLine rows cols said text answer

reads_on : (rows cols : ℕ) (pairs : Option (List ℕ)) (before : List RowLine) → Reads rows cols pairs before (Listing pairs before)
reads_on rows cols pairs before text answer never judges = judges

reads_first : (rows cols : ℕ) → Reads rows cols None [] Sized
reads_first rows cols text answer never judges = HasNoPairs never judges

-- the last line
closes : (rows cols budget number : ℕ) (pairs : Option (List ℕ)) (before final : List RowLine) (said : Said) → final ≡ before → Reads rows cols pairs before said → StandInOrder rows cols before [] → 4 ≤ budget
    → AreTogether rows cols pairs final → JudgedFrom (rules_of rows cols) budget number said (ended (row_lines [])) (Ok (Ended pairs final))
closes rows cols budget number pairs before final said e reads complete few together =
    judge_step (rules_of rows cols) budget number said (Ended pairs before) end_text [] (Ok (Ended pairs final)) refl (omega (arith, few))
    (reads end_text (Ok (Ended pairs before)) end_no_pairs (IsLast refl (Closes complete (subst (λ (lines : List RowLine). AreTogether rows cols pairs lines) e together) refl)))
    (judge_end (rules_of rows cols) (budget - (length end_text + 1)) (number + 1) (Ended pairs before) (Ok (Ended pairs final)) (ap (λ (lines : List RowLine). Ok (Ended pairs lines)) e))

-- these lines after those before them, and then the last one
rest_passes : (rows cols budget number : ℕ) (pairs : Option (List ℕ)) (before lines final : List RowLine) (said : Said) → final ≡ reverse lines ++ before → Reads rows cols pairs before said → AllByRecursion IsLine lines
    → StandInOrder rows cols before lines → length (ended (row_lines lines)) ≤ budget → AreTogether rows cols pairs final → JudgedFrom (rules_of rows cols) budget number said (ended (row_lines lines)) (Ok (Ended pairs final))
rest_passes rows cols budget number pairs before [] final said e reads each stand few together = closes rows cols budget number pairs before final said e reads stand few together
rest_passes rows cols budget number pairs before (line ∷ lines) final said e reads each stand few together =
    let l = ended_length (line_text line) (row_lines lines) in
    judge_step (rules_of rows cols) budget number said (Listing pairs (line ∷ before)) (line_text line) (ended (row_lines lines)) (Ok (Ended pairs final)) (no_end (line_text line) (row_lacks line each.0)) (omega (arith, few, l))
    (reads (line_text line) (Ok (Listing pairs (line ∷ before))) (no_pairs (line_text line) line (record { line_is = each.0; spelled = refl }))
    (IsRow (not_end line) line (record { line_is = each.0; spelled = refl }) (Stands stand.0.place stand.0.has stand.0.asked refl)))
    (rest_passes rows cols (budget - (length (line_text line) + 1)) (number + 1) pairs (line ∷ before) lines final (Listing pairs (line ∷ before)) (e ∙ turned line lines before) (reads_on rows cols pairs (line ∷ before)) each.1 stand.1
    (omega (arith, few, l)) together)

-- the line of alternate characters, if there is one
second_passes : (rows cols budget number : ℕ) (pairs : Option (List ℕ)) (lines final : List RowLine) → final ≡ reverse lines ++ [] → IsAcsc pairs → AllByRecursion IsLine lines → StandInOrder rows cols [] lines
    → length (ended (acsc_lines pairs ++ row_lines lines)) ≤ budget → AreTogether rows cols pairs final → JudgedFrom (rules_of rows cols) budget number Sized (ended (acsc_lines pairs ++ row_lines lines)) (Ok (Ended pairs final))
second_passes rows cols budget number None lines final e acsc each stand few together = rest_passes rows cols budget number None [] lines final Sized e (reads_first rows cols) each stand few together
second_passes rows cols budget number (Some bytes) lines final e acsc each stand few together =
    let l = ended_length (acsc_text bytes) (row_lines lines) in
    judge_step (rules_of rows cols) budget number Sized (Listing (Some bytes) []) (acsc_text bytes) (ended (row_lines lines)) (Ok (Ended (Some bytes) final)) (no_end (acsc_text bytes) (acsc_lacks bytes acsc)) (omega (arith, few, l))
    (HasPairs bytes (record { bytes_are = acsc; spelled = refl }) refl)
    (rest_passes rows cols (budget - (length (acsc_text bytes) + 1)) (number + 1) (Some bytes) [] lines final (Listing (Some bytes) []) e (reads_on rows cols (Some bytes) []) each stand (omega (arith, few, l)) together)

pub accepted_certificate : IsAcceptedCertificate
unfolding Judged
accepted_certificate rows cols text pairs lines c together = subst (λ (t : List ℕ). IsAnswer rows cols t (Ok (Ended pairs (reverse lines)))) c.spelled.spelled
    (judge_step (rules_of rows cols) limit 1 Nothing Sized (size_text rows cols) (ended (acsc_lines pairs ++ row_lines lines)) (Ok (Ended pairs (reverse lines)))
    (no_end (size_text rows cols) (size_lacks rows cols c.spelled.size.rows_fit c.spelled.size.cols_fit)) (omega (arith, l, few)) (HasSize c.spelled.size refl)
    (second_passes rows cols (limit - (length (size_text rows cols) + 1)) (1 + 1) pairs lines (reverse lines) (sym (append-nil (reverse lines))) c.spelled.acsc c.spelled.lines c.stands (omega (arith, l, few)) together))
  where
    l : length (ended (size_text rows cols ∷ (acsc_lines pairs ++ row_lines lines))) ≡ length (size_text rows cols) + (length (ended (acsc_lines pairs ++ row_lines lines)) + 1)
    l = ended_length (size_text rows cols) (acsc_lines pairs ++ row_lines lines)

    few : length (ended (size_text rows cols ∷ (acsc_lines pairs ++ row_lines lines))) ≤ limit
    few = subst (λ (t : List ℕ). length t ≤ limit) (sym c.spelled.spelled) c.few

pub accepts_certificates : AcceptsCertificates
accepts_certificates rows cols text pairs lines = (
  (λ p. record {
    certificate = subst (λ (l : List RowLine). IsCertificate rows cols text pairs l) (reverse-reverse lines) (that_of_certificate rows cols text pairs (reverse lines) p);
    together = accepted_together rows cols text pairs (reverse lines) p;
  }),
  λ a. accepted_certificate rows cols text pairs lines a.certificate a.together,
)
