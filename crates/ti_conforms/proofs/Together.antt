-- Which lines exist together if they are just those that an entry sends.
use Rattle.std.proofs.Common.{◌≡◌, ◌&&◌, ℕ, not, Bool, true, false, List, Option, refl, sym, ap, ◌∙◌}
use Rattle.std.proofs.Math.Bool.{and-false}
use Rattle.std.specs.Prelude.{is_some}
use Rattle.vt_term.specs.Color.{Black}
use Rattle.ti_caps.specs.Entry.{Content, string_at}
use Rattle.ti_rows.specs.declared.rows.Row.{Row}
use Rattle.ti_rows.specs.declared.rows.Row.TheVariants.{Clear, Cup, Sgr, Sgr0, Setaf, Setab, Op, Smul, Rev, Blink, Dim, Bold, Invis, Smso, Smacs, Rmacs}
use Rattle.ti_rows.specs.Names.{no_attributes}
use Rattle.ti_rows.specs.Lists.{IsInRange}
use Rattle.ti_conforms.specs.Entries.{acsc, has_string, is_checked, LineAgrees, EntryAgrees}
use Rattle.ti_conforms.proofs.Matches.{same_checked}
use Rattle.ti_conforms.specs.Table.{Table, has}
use Rattle.ti_conforms.specs.Together.{HasNoSingles, AgreedStandTogether}

agreed_there : (entry : Content) (line : Option (List ℕ)) (row : Row) (b : Bool) → is_checked entry row ≡ b → LineAgrees entry line row → is_some line ≡ b
agreed_there entry line row true e a = ap (λ (o : Option (List ℕ)). is_some o) (a.checked e).sends.line_has
agreed_there entry line row false e a = ap (λ (o : Option (List ℕ)). is_some o) (a.unchecked e)

-- a row has a line exactly if it is checked
there : (entry : Content) (t : Table) → EntryAgrees t.rows t.cols entry t.line_of → (row : Row) → IsInRange t.rows t.cols row → has t row ≡ is_checked entry row
there entry t agrees row range = agreed_there entry (t.line_of row) row (is_checked entry row) refl (agrees row range)

alone : (b : Bool) → b ≡ true → (b && true) ≡ true
alone true h = refl
alone false h = h

first_of_three : (a b c : Bool) → (a && (a && (b && c))) ≡ (c && (a && (b && c)))
first_of_three true b true = refl
first_of_three true b false = and-false b
first_of_three false b c = sym (and-false c)

either_first : (a b c : Bool) → (a && (b && c)) ≡ (b && (a && c))
either_first true b c = refl
either_first false b c = sym (and-false b)

second_of_three : (a b c : Bool) → (b && (a && (b && c))) ≡ (c && (a && (b && c)))
second_of_three a b c = ap (λ (x : Bool). b && x) (either_first a b c) ∙ first_of_three b a c ∙ ap (λ (x : Bool). c && x) (sym (either_first a b c))

first_two_of_three : (a b c : Bool) → (a && (a && (b && c))) ≡ (b && (a && (b && c)))
first_two_of_three a b c = first_of_three a b c ∙ sym (second_of_three a b c)

excluded : (a s : Bool) → (s && true) ≡ true → (a && not s) ≡ false
excluded true true h = refl
excluded false true h = refl
excluded a false h = cc

no_singles : (entry : Content) (t : Table) → EntryAgrees t.rows t.cols entry t.line_of → has t (Sgr no_attributes) ≡ true → HasNoSingles t
no_singles entry t agrees sgr = record {
  smul = there entry t agrees Smul tt ∙ excluded (has_string entry Smul) (has_string entry (Sgr no_attributes)) checked;
  rev = there entry t agrees Rev tt ∙ excluded (has_string entry Rev) (has_string entry (Sgr no_attributes)) checked;
  blink = there entry t agrees Blink tt ∙ excluded (has_string entry Blink) (has_string entry (Sgr no_attributes)) checked;
  dim = there entry t agrees Dim tt ∙ excluded (has_string entry Dim) (has_string entry (Sgr no_attributes)) checked;
  bold = there entry t agrees Bold tt ∙ excluded (has_string entry Bold) (has_string entry (Sgr no_attributes)) checked;
  invis = there entry t agrees Invis tt ∙ excluded (has_string entry Invis) (has_string entry (Sgr no_attributes)) checked;
  smso = there entry t agrees Smso tt ∙ excluded (has_string entry Smso) (has_string entry (Sgr no_attributes)) checked;
}
  where
    checked : (has_string entry (Sgr no_attributes) && true) ≡ true
    checked = sym (there entry t agrees (Sgr no_attributes) tt) ∙ sgr

pub agreed_stand_together : AgreedStandTogether
agreed_stand_together entry t fit agrees = record {
  whole = λ row other same range ranged. there entry t agrees row range ∙ (same_checked entry row other same ∙ sym (there entry t agrees other ranged));
  clears = there entry t agrees Clear tt ∙ alone (has_string entry Clear) fit.clear;
  moves = λ row col r c. there entry t agrees (Cup row col) (r, c) ∙ (same_checked entry (Cup row col) (Cup 0 0) refl ∙ alone (has_string entry (Cup 0 0)) fit.cup);
  makes_plain = there entry t agrees Sgr0 tt ∙ alone (has_string entry Sgr0) fit.sgr0;
  foregrounds = λ c. there entry t agrees (Setaf c) tt ∙ (same_checked entry (Setaf c) (Setaf Black) refl ∙ (first_of_three (has_string entry (Setaf Black)) (has_string entry (Setab Black)) (has_string entry Op) ∙ sym (there entry t agrees Op tt)));
  backgrounds = λ c. there entry t agrees (Setab c) tt ∙ (same_checked entry (Setab c) (Setab Black) refl ∙ (second_of_three (has_string entry (Setaf Black)) (has_string entry (Setab Black)) (has_string entry Op) ∙ sym (there entry t agrees Op tt)));
  sets = there entry t agrees Smacs tt ∙ (first_two_of_three (has_string entry Smacs) (has_string entry Rmacs) (is_some (string_at entry acsc)) ∙ sym (there entry t agrees Rmacs tt));
  singles = λ sgr. no_singles entry t agrees sgr;
}
