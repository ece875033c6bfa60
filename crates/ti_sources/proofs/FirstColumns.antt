-- The first field about a capability, one field after another.
use Rattle.std.proofs.Common.{◌≡◌, ◌∙◌, ◌+◌, ◌≤◌, ℕ, Bool, true, false, List, [], ◌∷◌, Option, Some, None, length, ap, arith, sym}
use Rattle.std.specs.Prelude.{if◌then◌else◌}
use Rattle.std.proofs.lemmas.Bool.{cond-true, cond-false}
use Rattle.ti_caps.specs.Table.{name_at}
use Rattle.ti_sources.specs.Columns.{behind_names, columns_of_part, first_columns, is_named}
use Rattle.ti_sources.specs.declared.columns.Columns.{Columns}
use Rattle.ti_source.specs.Layout.{cut_of, is_white, put_field, skip_white}

-- the first field, as the definition has it
first_is : (cap before : ℕ) (part left behind : List ℕ) (whole : Option Columns) → cut_of left ≡ put_field part (cut_of behind) → first_columns cap before (cut_of left).ended ≡ whole
    → first_columns cap before (part ∷ (cut_of behind).ended) ≡ whole
first_is cap before part left behind whole cut was = sym (ap (λ c. first_columns cap before c.ended) cut) ∙ was

pub found : (cap before : ℕ) (part left behind : List ℕ) (whole : Option Columns) → cut_of left ≡ put_field part (cut_of behind) → is_named (name_at cap) (skip_white part) ≡ true
    → first_columns cap before (cut_of left).ended ≡ whole → Some (columns_of_part before part) ≡ whole
found cap before part left behind whole cut is was =
    sym (cond-true (is_named (name_at cap) (skip_white part)) (Some (columns_of_part before part)) (first_columns cap (before + length part + 1) (cut_of behind).ended) is) ∙ first_is cap before part left behind whole cut was

pub passed_over : (cap before : ℕ) (part left behind : List ℕ) (whole : Option Columns) → cut_of left ≡ put_field part (cut_of behind) → is_named (name_at cap) (skip_white part) ≡ false
    → first_columns cap before (cut_of left).ended ≡ whole → first_columns cap (before + length part + 1) (cut_of behind).ended ≡ whole
passed_over cap before part left behind whole cut is was =
    sym (cond-false (is_named (name_at cap) (skip_white part)) (Some (columns_of_part before part)) (first_columns cap (before + length part + 1) (cut_of behind).ended) is) ∙ first_is cap before part left behind whole cut was

pub none_left : (cap before : ℕ) (left : List ℕ) (whole : Option Columns) → cut_of left ≡ record { ended = []; last = left } → first_columns cap before (cut_of left).ended ≡ whole → None ≡ whole
none_left cap before left whole cut was = sym (ap (λ c. first_columns cap before c.ended) cut) ∙ was

-- ---- behind the names

pub behind_first : (cap : ℕ) (names line behind : List ℕ) → cut_of line ≡ put_field names (cut_of behind) → first_columns cap (length names + 1) (cut_of behind).ended ≡ behind_names cap (cut_of line).ended
behind_first cap names line behind cut = sym (ap (λ c. behind_names cap c.ended) cut)

pub no_names : (cap : ℕ) (line : List ℕ) → cut_of line ≡ record { ended = []; last = line } → None ≡ behind_names cap (cut_of line).ended
no_names cap line cut = sym (ap (λ c. behind_names cap c.ended) cut)

-- ---- white space before a field

shorter_by : (b : ℕ) (rest : List ℕ) (white : Bool) → length (skip_white rest) ≤ length rest → length (if white then skip_white rest else b ∷ rest) ≤ length (b ∷ rest)
shorter_by b rest true was = omega (arith, was)
shorter_by b rest false was = omega arith

pub skipped_shorter : (xs : List ℕ) → length (skip_white xs) ≤ length xs
skipped_shorter [] = omega arith
skipped_shorter (b ∷ rest) = shorter_by b rest (is_white b) (skipped_shorter rest)
