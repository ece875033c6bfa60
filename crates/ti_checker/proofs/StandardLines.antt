-- The standard's string of a row does what the row asks for.
use Rattle.std.proofs.Common.{◌≡◌, ℕ, List, [], ◌∷◌, ◌++◌, refl, sym, ap, ◌∙◌}
use Rattle.vt_effects.specs.Effect.{unchanged}
use Rattle.vt_term.specs.Text.{Splits}
use Rattle.vt_effects.specs.declared.effects.Sets.{Sets}
use Rattle.ti_rows.specs.Lists.{Follows, IsInRange}
use Rattle.ti_rows.specs.Looks.{learned}
use Rattle.ti_rows.specs.declared.rows.Looks.{Looks}
use Rattle.ti_rows.specs.declared.rows.Row.{Row}
use Rattle.ti_lines.specs.RowLines.{line_text}
use Rattle.ti_conforms.specs.Charsets.{joined, reach_of}
use Rattle.ti_conforms.specs.Table.{settles}
use Rattle.ti_conforms.specs.declared.reach.Reach.{Reach}
use Rattle.ti_cert.specs.Known.{with_change}
use Rattle.ti_cert.proofs.Standards.{plain}
use Rattle.ti_forms.specs.Forms.{IsOfForm, IsStandardText, standard_bytes, standard_effect, standard_line}
use Rattle.ti_forms.proofs.FormEffects.{form_has_effect, form_learned}
use Rattle.ti_forms.proofs.FormSends.{form_sends}
use Rattle.ti_checker.specs.First.{SendsAsked}
use Rattle.ti_checker.specs.Limit.{AddsLine, IsLineFor}
use Rattle.ti_checker.specs.Switches.{IsSeenToo}
use Rattle.ti_checker.specs.Taught.{IsTaught}
use Rattle.ti_checker.proofs.Misjudgements.{sends_asked, taught_next}
use Rattle.ti_checker.proofs.Settled.{is_seen_too}

-- ---- the line of a standard string

line_for : (rows cols : ℕ) (string : List ℕ) (row : Row) (text : List ℕ) → IsInRange rows cols row → IsStandardText row string text → IsLineFor rows cols string (standard_line row)
line_for rows cols string row text range is =
    let found = form_has_effect rows cols row (standard_bytes row) (standard_effect row) is.has range refl refl in
    record {
      sends = form_sends string row (standard_bytes row) is.has is.string_is refl;
      has = record { tokens = found.tokens; splits = found.splits; recorded = sym found.is };
    }

pub standard_right : (rows cols : ℕ) (string : List ℕ) (row : Row) (looks : Looks) (text : List ℕ) → IsInRange rows cols row → IsTaught rows cols string row looks → IsStandardText row string text → SendsAsked rows cols string row
standard_right rows cols string row looks text range taught is =
    sends_asked rows cols string row looks (standard_bytes row) (standard_effect row) taught (line_for rows cols string row text range is) ((plain row is.has).asked_for (learned row (standard_effect row) looks))

pub standard_taught : (rows cols : ℕ) (string : List ℕ) (row : Row) (looks : Looks) (text : List ℕ) → IsInRange rows cols row → IsTaught rows cols string row looks → IsStandardText row string text
    → (next : Row) → Follows rows cols row next → IsTaught rows cols string next looks
standard_taught rows cols string row looks text range taught is next follows =
    taught_next rows cols string row looks looks (standard_bytes row) (standard_effect row) range taught (line_for rows cols string row text range is)
    ((plain row is.has).asked_for (learned row (standard_effect row) looks)) ((plain row is.has).untaught looks) next follows

pub standard_adds : (rows cols : ℕ) (string : List ℕ) (row : Row) (text line old new : List ℕ) → IsInRange rows cols row → IsStandardText row string text → line ≡ text → new ≡ old ++ (line ++ 10 ∷ []) → AddsLine rows cols string row old new
standard_adds rows cols string row text line old new range is same e = record {
  line = standard_line row;
  of_row = refl;
  is = line_for rows cols string row text range is;
  added = e ∙ ap (λ (t : List ℕ). old ++ (t ++ 10 ∷ [])) (same ∙ is.text_is);
}

pub standard_seen : (rows cols : ℕ) (string : List ℕ) (row : Row) (text : List ℕ) (old new : Reach) (before after : List Sets) → IsInRange rows cols row → IsStandardText row string text
    → new ≡ old → after ≡ with_change (settles row) before unchanged.charset → IsSeenToo string row old before new after
standard_seen rows cols string row text old new before after range is e f =
    is_seen_too rows cols string row (standard_bytes row) (standard_effect row) old new before after (line_for rows cols string row text range is)
    (λ tokens splits. e ∙ form_learned row (standard_bytes row) tokens old (record { has = is.has; bytes_are = refl }) splits)
    (f ∙ ap (λ (sets : Sets). with_change (settles row) before sets) (plain row is.has).same_sets)
