-- The lines of a basic certificate go together: no string changes the character sets, and the bytes that lead out of an
-- unknown state begin with ESC.
use Rattle.std.proofs.Common.{◌≡◌, ◌⊎◌, ℕ, Bool, true, false, if◌then◌else◌, List, [], ◌∷◌, ◌++◌, Some, None, inl, inr, refl, sym, ap, subst, ◌∙◌}
use Rattle.std.proofs.lemmas.Bool.{true≢false}
use Rattle.std.proofs.lemmas.Option.{same_Some, none-some}
use Rattle.vt_term.specs.Size.{IsSize}
use Rattle.vt_term.specs.Text.{Splits}
use Rattle.vt_term.specs.Function.{function_of}
use Rattle.vt_term.specs.Screen.{Charset, is_graphic}
use Rattle.vt_term.proofs.Splits.{one_splitting, splits_append}
use Rattle.vt_effects.specs.Basic.{sgr0_text, clear_text}
use Rattle.ti_conforms.specs.Charsets.{IsAmong, charset_after, charset_over, reset_charset}
use Rattle.ti_rows.specs.declared.rows.Row.{Row}
use Rattle.ti_rows.specs.declared.rows.Row.TheVariants.{Clear, Sgr0}
use Rattle.ti_conforms.specs.Table.{Table, no_lengths, resync, resync_of}
use Rattle.ti_conforms.specs.Sets.{CanHave, AtReset, AfterToken, LeadsBy, CanSettle, AfterResync, AfterLine}
use Rattle.ti_lines.specs.declared.row_lines.RowLine.{RowLine}
use Rattle.ti_cert.specs.Strings.{allows}
use Rattle.ti_conforms.specs.Looks.{no_looks}
use Rattle.ti_cert.specs.Clashes.{GoesTogether, OfLines}
use Rattle.ti_cert.specs.Basic.{basic_bytes, basic_line, is_basic, basic_rows}
use Rattle.ti_cert.proofs.Ranges as ranges
use Rattle.ti_cert.proofs.GroupFacts.{if_some}
use Rattle.ti_cert.proofs.Elements.{among_either}
use Rattle.ti_cert.proofs.BasicOrder.{IsClear, IsSgr0, kind_of, in_range, each_there}
use Rattle.ti_cert.proofs.BasicLines.{HasTokens, tokens_of, has_tokens}

-- a table of exactly the basic strings
pub basic_table : ℕ → ℕ → Bool → Bool → Table
basic_table rows cols home el = record {
  rows = rows;
  cols = cols;
  line_of = λ row. if is_basic home el row then (if allows rows cols row then Some (basic_bytes row) else None) else None;
  looks = no_looks;
  reached = λ c. true;
  settled = λ c. true;
  resync = [];
  longest = no_lengths;
}

-- a row of the table
record IsOne (rows cols : ℕ) (home el : Bool) (row : Row) (bytes : List ℕ) : Type 0 where
  among : IsAmong (basic_rows rows cols home el) row
  bytes_are : bytes ≡ basic_bytes row

is_one : (rows cols : ℕ) (home el : Bool) (row : Row) (bytes : List ℕ) → (basic_table rows cols home el).line_of row ≡ Some bytes → IsOne rows cols home el row bytes
unfolding basic_table
is_one rows cols home el row bytes h =
    let a = if_some (is_basic home el row) (if allows rows cols row then Some (basic_bytes row) else None) bytes h in
    let b = if_some (allows rows cols row) (Some (basic_bytes row)) bytes a.1 in
    record { among = each_there rows cols home el row (ranges.in_range rows cols row b.0) a.0; bytes_are = sym (same_Some (basic_bytes row) bytes b.1) }

there : (rows cols : ℕ) (home el : Bool) (row : Row) → IsAmong (basic_rows rows cols home el) row → (basic_table rows cols home el).line_of row ≡ Some (basic_bytes row)
unfolding basic_table
there rows cols home el row among =
    let r = in_range rows cols home el row (kind_of rows cols home el row among) in
    ap (λ (b : Bool). if b then (if allows rows cols row then Some (basic_bytes row) else None) else None) r.1
    ∙ ap (λ (b : Bool). if b then Some (basic_bytes row) else None) (ranges.is_allowed rows cols row r.0)

-- ---- the sets stay as they are

over_kept : (ts : List (List ℕ)) → ((t : List ℕ) → IsAmong ts t → (c : Charset) → charset_after (function_of t) c ≡ c) → (c : Charset) → charset_over ts c ≡ c
over_kept [] h c = refl
over_kept (t ∷ ts) h c = ap (charset_over ts) (h t (inl refl) c) ∙ over_kept ts (λ u a. h u (inr a)) c

tokens_keep : (rows cols : ℕ) (home el : Bool) (row : Row) (bytes : List ℕ) (tokens : List (List ℕ)) → IsSize rows cols → IsOne rows cols home el row bytes → Splits bytes tokens []
    → (token : List ℕ) → IsAmong tokens token → (c : Charset) → charset_after (function_of token) c ≡ c
tokens_keep rows cols home el row bytes tokens size one whole token among c =
    let h = has_tokens rows cols home el row size (kind_of rows cols home el row one.among) in
    let same = one_splitting (basic_bytes row) tokens (tokens_of row) [] [] (subst (λ (b : List ℕ). Splits b tokens []) one.bytes_are whole) h.splits in
    h.keeps_sets token (subst (λ (ts : List (List ℕ)). IsAmong ts token) (sym same.0) among) c

has_reset : (rows cols : ℕ) (home el : Bool) → IsSize rows cols → (c : Charset) → CanHave (basic_table rows cols home el) c → c ≡ reset_charset
has_reset rows cols home el size _ (AtReset c e) = e
has_reset rows cols home el size _ (AfterToken c d token has o e) =
    e ∙ (tokens_keep rows cols home el o.row o.bytes o.tokens size (is_one rows cols home el o.row o.bytes o.there) o.whole token o.among c ∙ has_reset rows cols home el size c has)

-- the bytes that lead out of an unknown state
resync_is : (rows cols : ℕ) (home el : Bool) → resync (basic_table rows cols home el) ≡ sgr0_text ++ clear_text
unfolding resync_of basic_table
resync_is rows cols home el = refl

resync_keeps : (rows cols : ℕ) (home el : Bool) → IsSize rows cols → (c d : Charset) → LeadsBy (resync (basic_table rows cols home el)) c d → d ≡ c
resync_keeps rows cols home el size c d l =
    l.is ∙ (ap (λ (ts : List (List ℕ)). charset_over ts c) (sym same) ∙ over_kept (tokens_of Sgr0 ++ tokens_of Clear) keeps c)
  where
    sgr0 : HasTokens rows cols Sgr0
    sgr0 = has_tokens rows cols home el Sgr0 size (IsSgr0 refl)

    clear : HasTokens rows cols Clear
    clear = has_tokens rows cols home el Clear size (IsClear refl)

    splits : Splits (sgr0_text ++ clear_text) (tokens_of Sgr0 ++ tokens_of Clear) []
    splits = splits_append sgr0_text (tokens_of Sgr0) (tokens_of Clear) [] clear_text [] sgr0.splits clear.splits

    same : tokens_of Sgr0 ++ tokens_of Clear ≡ l.tokens
    same = (one_splitting (sgr0_text ++ clear_text) l.tokens (tokens_of Sgr0 ++ tokens_of Clear) [] [] (subst (λ (b : List ℕ). Splits b l.tokens []) (resync_is rows cols home el) l.whole) splits).0

    by_string : (token : List ℕ) → IsAmong (tokens_of Sgr0) token ⊎ IsAmong (tokens_of Clear) token → (x : Charset) → charset_after (function_of token) x ≡ x
    by_string token (inl a) x = sgr0.keeps_sets token a x
    by_string token (inr a) x = clear.keeps_sets token a x

    keeps : (token : List ℕ) → IsAmong (tokens_of Sgr0 ++ tokens_of Clear) token → (x : Charset) → charset_after (function_of token) x ≡ x
    keeps token a x = by_string token (among_either (tokens_of Sgr0) (tokens_of Clear) token a) x

settles_reset : (rows cols : ℕ) (home el : Bool) → IsSize rows cols → (c : Charset) → CanSettle (basic_table rows cols home el) c → c ≡ reset_charset
settles_reset rows cols home el size _ (AfterResync c d has l) = resync_keeps rows cols home el size c d l ∙ has_reset rows cols home el size c has
settles_reset rows cols home el size _ (AfterLine c d row bytes before is keeps l) =
    l.is ∙ (over_kept l.tokens (λ t a x. tokens_keep rows cols home el row bytes l.tokens size (is_one rows cols home el row bytes is) l.whole t a x) c ∙ settles_reset rows cols home el size c before)

plain_at_reset : (c : Charset) → c ≡ reset_charset → is_graphic c ≡ false
plain_at_reset c e = ap is_graphic e

never_graphic : {A : Type 0} (c : Charset) → c ≡ reset_charset → is_graphic c ≡ true → A
never_graphic c e h = absurd (true≢false (sym h ∙ plain_at_reset c e))

together : (rows cols : ℕ) (home el : Bool) → IsSize rows cols → GoesTogether false (basic_table rows cols home el)
unfolding basic_table
together rows cols home el size = record {
  graphic = λ c m. none-some m.bytes m.there;
  plain = λ c m. none-some m.bytes m.there;
  settles = λ s. never_graphic s.charset (settles_reset rows cols home el size s.charset s.settles) s.graphic;
  escapes = λ never. never (91 ∷ 109 ∷ clear_text) (resync_is rows cols home el);
  quiet = λ c d has leads. plain_at_reset d (resync_keeps rows cols home el size c d leads ∙ has_reset rows cols home el size c has);
}

-- the lines are exactly those of a basic certificate
pub record AreBasic (rows cols : ℕ) (home el : Bool) (lines : List RowLine) : Type 0 where
  pub each : (line : RowLine) → IsAmong lines line → IsAmong (basic_rows rows cols home el) line.row × (line ≡ basic_line line.row)
  pub all : (row : Row) → IsAmong (basic_rows rows cols home el) row → IsAmong lines (basic_line row)

pub lines_together : (rows cols : ℕ) (home el : Bool) (lines : List RowLine) → IsSize rows cols → AreBasic rows cols home el lines → OfLines rows cols lines (λ t. GoesTogether false t)
unfolding basic_table
lines_together rows cols home el lines size are = record {
  table = basic_table rows cols home el;
  rows_are = refl;
  cols_are = refl;
  found = λ row bytes is. let o = is_one rows cols home el row bytes is in record { line = basic_line row; among = are.all row o.among; of_row = refl; bytes_are = sym o.bytes_are };
  kept = λ line among. let k = are.each line among in there rows cols home el line.row k.0 ∙ ap (λ (l : RowLine). Some l.bytes) (sym k.1);
  is = together rows cols home el size;
}
