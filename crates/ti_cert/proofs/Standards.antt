-- A line with the standard's string is what its row asks for, and teaches nothing.
use Rattle.std.proofs.Common.{◌≡◌, ℕ, Bool, true, false, if◌then◌else◌, List, [], refl, sym, ap, subst, ◌∙◌}
use Rattle.vt_effects.specs.Effect.{unchanged}
use Rattle.vt_effects.specs.declared.effects.Sets.{Sets}
use Rattle.vt_term.specs.Text.{Splits}
use Rattle.ti_rows.specs.Asked.{asked}
use Rattle.ti_rows.specs.Lists.{IsInRange}
use Rattle.ti_rows.specs.Looks.{learned}
use Rattle.ti_rows.specs.declared.rows.Looks.{Looks}
use Rattle.ti_rows.specs.declared.rows.Row.{Row}
use Rattle.ti_conforms.specs.Table.{settles}
use Rattle.ti_conforms.specs.declared.reach.Reach.{Reach}
use Rattle.ti_forms.specs.Forms.{HasForm, ToPlace, ToColumn, ToLine, Left, Right, Upward, Downward, Erasing, Bounding, IsOfForm, standard_effect}
use Rattle.ti_forms.proofs.FormEffects.{form_has_effect, form_learned}
use Rattle.ti_cert.specs.Certificates.{rival}
use Rattle.ti_cert.specs.Known.{Known, Holds, HasRecord, looks_with, with_change}
use Rattle.ti_cert.specs.Strings.{Strings, Adds, allows, has_group}
use Rattle.ti_cert.proofs.Preservation.{holds_to}
use Rattle.ti_cert.proofs.Ranges.{in_range}

-- the effect is the one that the row asks for, whatever the looks are; it teaches none, and it changes no character set
pub record IsPlain (row : Row) : Type 0 where
  pub asked_for : (looks : Looks) → standard_effect row ≡ asked looks row (standard_effect row)
  pub untaught : (looks : Looks) → looks ≡ learned row (standard_effect row) looks
  pub same_sets : unchanged.charset ≡ (standard_effect row).charset

pub plain : (row : Row) → HasForm row → IsPlain row
plain row (ToPlace line column e h k) = subst (λ (r : Row). IsPlain r) (sym e) (record { asked_for = λ l. refl; untaught = λ l. refl; same_sets = refl })
plain row (ToColumn column e h) = subst (λ (r : Row). IsPlain r) (sym e) (record { asked_for = λ l. refl; untaught = λ l. refl; same_sets = refl })
plain row (ToLine line e h) = subst (λ (r : Row). IsPlain r) (sym e) (record { asked_for = λ l. refl; untaught = λ l. refl; same_sets = refl })
plain row (Left n e g h) = subst (λ (r : Row). IsPlain r) (sym e) (record { asked_for = λ l. refl; untaught = λ l. refl; same_sets = refl })
plain row (Right n e g h) = subst (λ (r : Row). IsPlain r) (sym e) (record { asked_for = λ l. refl; untaught = λ l. refl; same_sets = refl })
plain row (Upward n e g h) = subst (λ (r : Row). IsPlain r) (sym e) (record { asked_for = λ l. refl; untaught = λ l. refl; same_sets = refl })
plain row (Downward n e g h) = subst (λ (r : Row). IsPlain r) (sym e) (record { asked_for = λ l. refl; untaught = λ l. refl; same_sets = refl })
plain row (Erasing n e g h) = subst (λ (r : Row). IsPlain r) (sym e) (record { asked_for = λ l. refl; untaught = λ l. refl; same_sets = refl })
plain row (Bounding top bottom e h k) = subst (λ (r : Row). IsPlain r) (sym e) (record { asked_for = λ l. refl; untaught = λ l. refl; same_sets = refl })

either_way : (b : Bool) (l m : Looks) → l ≡ m → l ≡ (if b then l else m)
either_way true l m e = refl
either_way false l m e = e

-- the record of such a line's bytes, with the looks so far
pub record StandardTells (k : Known) (row : Row) (bytes : List ℕ) : Type 0 where
  pub tokens : List (List ℕ)
  pub splits : Splits bytes tokens []
  pub has : HasRecord k.strings.rows k.strings.cols k.looks row tokens (standard_effect row)
  pub looks_are : k.looks ≡ looks_with k row (standard_effect row)

pub standard_tells : (k : Known) (row : Row) (bytes : List ℕ) → IsOfForm row bytes → allows k.strings.rows k.strings.cols row ≡ true → StandardTells k row bytes
standard_tells k row bytes f fits =
    let range : IsInRange k.strings.rows k.strings.cols row = in_range k.strings.rows k.strings.cols row fits in
    let found = form_has_effect k.strings.rows k.strings.cols row bytes (standard_effect row) f.has range f.bytes_are refl in
    record {
      tokens = found.tokens;
      splits = found.splits;
      has = record { recorded = sym found.is; asked_for = (plain row f.has).asked_for k.looks };
      looks_are = either_way (has_group k.strings (rival row)) k.looks (learned row (standard_effect row) k.looks) ((plain row f.has).untaught k.looks);
    }

pub standard_holds : (k : Known) (s : Strings) (l : Looks) (q : Reach) (x : List Sets) → record { strings = s; looks = l; reach = q; changes = x } ≡ k → (strings : Strings) (row : Row) (bytes : List ℕ) (changes : List Sets)
    → Holds k → Adds s strings row bytes → IsOfForm row bytes → allows k.strings.rows k.strings.cols row ≡ true → changes ≡ with_change (settles row) x unchanged.charset
    → Holds (record { strings = strings; looks = l; reach = q; changes = changes })
standard_holds k s l q x is strings row bytes changes h a f fits changes_so =
    let t : StandardTells k row bytes = standard_tells k row bytes f fits in
    let same : k.looks ≡ l = ap (λ (y : Known). y.looks) (sym is) in
    holds_to k s l q x is strings row bytes t.tokens (standard_effect row) l q changes h a t.splits (sym same ∙ t.looks_are)
    (subst (λ (m : Looks). HasRecord k.strings.rows k.strings.cols m row t.tokens (standard_effect row)) same t.has)
    (form_learned row bytes t.tokens q f t.splits) (changes_so ∙ ap (λ (sets : Sets). with_change (settles row) x sets) (plain row f.has).same_sets)
