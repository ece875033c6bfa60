-- The lines of a joined text.
use Rattle.std.proofs.Common.{◌≡◌, ℕ, suc, ◌==◌, Bool, true, false, not, ◌&&◌, List, [], ◌∷◌, ◌++◌, length, refl, ap, ◌∙◌}
use Rattle.std.specs.Prelude.{if◌then◌else◌}
use Rattle.std.specs.List.{flat_map, list_all}
use Rattle.std.proofs.lemmas.Bool.{and_parts, not-true}
use Rattle.ti_sources.specs.Joins.{Lines, all_of, before, continues, ended, joined_from, joined_lines, joined_text, with_blank}
use Rattle.ti_source.specs.Layout.{begins_feed, is_white, lines_of, onto_line, skip_white}
use Rattle.ti_source.proofs.Layouts.{kept}

-- ---- a line without a line feed

abbrev lacks : List ℕ → Bool
lacks line = list_all (λ b. not (b == 10)) line

-- the text of one byte and its end
single : (b : ℕ) (rest : List ℕ) (t : Bool) → (b == 13) ≡ t → (b == 10) ≡ false → lines_of (b ∷ ((if t then 13 ∷ [] else []) ++ 10 ∷ []) ++ rest) ≡ (b ∷ []) ∷ lines_of rest
single b rest true e f = kept b (13 ∷ 10 ∷ rest) f refl
single b rest false e f =
    ap (λ (t : Bool). if t then [] ∷ lines_of (10 ∷ rest) else (if (b == 13) && true then lines_of (10 ∷ rest) else onto_line b (lines_of (10 ∷ rest)))) f
    ∙ ap (λ (t : Bool). if t && true then lines_of (10 ∷ rest) else onto_line b (lines_of (10 ∷ rest))) e

ended_line : (line rest : List ℕ) → lacks line ≡ true → lines_of (ended line ++ rest) ≡ line ∷ lines_of rest
ended_line [] rest h = refl
ended_line (b ∷ []) rest h = single b rest (b == 13) refl (not-true (b == 10) (and_parts (not (b == 10)) true h).0)
ended_line (b ∷ c ∷ line) rest h =
    let first = and_parts (not (b == 10)) (lacks (c ∷ line)) h in
    let second = and_parts (not (c == 10)) (lacks line) first.1 in
    kept b (ended (c ∷ line) ++ rest) (not-true (b == 10) first.0) (not-true (c == 10) second.0) ∙ ap (onto_line b) (ended_line (c ∷ line) rest first.1)

-- ---- lines without line feeds

abbrev all_lack : List (List ℕ) → Bool
all_lack lines = list_all lacks lines

ended_lines : (lines : List (List ℕ)) → all_lack lines ≡ true → lines_of (flat_map ended lines) ≡ lines
ended_lines [] h = refl
ended_lines (line ∷ lines) h =
    let parts = and_parts (lacks line) (all_lack lines) h in
    ended_line line (flat_map ended lines) parts.0 ∙ ap (λ (l : List (List ℕ)). line ∷ l) (ended_lines lines parts.1)

both : (a b : Bool) → a ≡ true → b ≡ true → (a && b) ≡ true
both true b e f = f
both false b e f = e

lack_onto : (b : ℕ) (lines : List (List ℕ)) → not (b == 10) ≡ true → all_lack lines ≡ true → all_lack (onto_line b lines) ≡ true
lack_onto b [] e h = both (not (b == 10) && true) true (both (not (b == 10)) true e refl) refl
lack_onto b (line ∷ lines) e h =
    let parts = and_parts (lacks line) (all_lack lines) h in
    both (not (b == 10) && lacks line) (all_lack lines) (both (not (b == 10)) (lacks line) e parts.0) parts.1

lack_step : (b : ℕ) (rest : List ℕ) (t u : Bool) → (b == 10) ≡ t → all_lack (lines_of rest) ≡ true → all_lack (if t then [] ∷ lines_of rest else (if u then lines_of rest else onto_line b (lines_of rest))) ≡ true
lack_step b rest true u e h = h
lack_step b rest false true e h = h
lack_step b rest false false e h = lack_onto b (lines_of rest) (ap not e) h

lines_lack : (text : List ℕ) → all_lack (lines_of text) ≡ true
lines_lack [] = refl
lines_lack (b ∷ rest) = lack_step b rest (b == 10) ((b == 13) && begins_feed rest) refl (lines_lack rest)

lack_append : (line more : List ℕ) → lacks line ≡ true → lacks more ≡ true → lacks (line ++ more) ≡ true
lack_append [] more e f = f
lack_append (b ∷ line) more e f =
    let parts = and_parts (not (b == 10)) (lacks line) e in
    both (not (b == 10)) (lacks (line ++ more)) parts.0 (lack_append line more parts.1 f)

skip_step : (b : ℕ) (rest : List ℕ) (t : Bool) → lacks (b ∷ rest) ≡ true → lacks (skip_white rest) ≡ true → lacks (if t then skip_white rest else b ∷ rest) ≡ true
skip_step b rest true h more = more
skip_step b rest false h more = h

lack_skip : (line : List ℕ) → lacks line ≡ true → lacks (skip_white line) ≡ true
lack_skip [] h = refl
lack_skip (b ∷ rest) h = skip_step b rest (is_white b) h (lack_skip rest (and_parts (not (b == 10)) (lacks rest) h).1)

-- ---- joined lines

-- lines without line feeds, of this number
record Kept (n : ℕ) (lines : Lines) : Type 0 where
  lack : all_lack (all_of lines) ≡ true
  many : length (all_of lines) ≡ n

blank_kept : (n : ℕ) (lines : Lines) → Kept n lines → Kept (suc n) (with_blank lines)
blank_kept n lines h =
    let parts = and_parts (lacks lines.first) (all_lack lines.others) h.lack in
    record { lack = both (lacks lines.first) (all_lack ([] ∷ lines.others)) parts.0 parts.1; many = ap suc h.many }

before_kept : (n : ℕ) (line : List ℕ) (lines : Lines) → lacks line ≡ true → Kept n lines → Kept (suc n) (before line lines)
before_kept n line lines e h = record { lack = both (lacks line) (all_lack (all_of lines)) e h.lack; many = ap suc h.many }

kept_step : (line next : List ℕ) (behind : List (List ℕ)) (t : Bool) → lacks line ≡ true
    → Kept (suc (length behind)) (joined_from (line ++ skip_white next) behind) → Kept (suc (length behind)) (joined_from next behind)
    → Kept (suc (suc (length behind))) (if t then with_blank (joined_from (line ++ skip_white next) behind) else before line (joined_from next behind))
kept_step line next behind true e h k = blank_kept (suc (length behind)) (joined_from (line ++ skip_white next) behind) h
kept_step line next behind false e h k = before_kept (suc (length behind)) line (joined_from next behind) e k

joined_kept : (line : List ℕ) (behind : List (List ℕ)) → lacks line ≡ true → all_lack behind ≡ true → Kept (suc (length behind)) (joined_from line behind)
joined_kept line [] e h = record { lack = both (lacks line) true e refl; many = refl }
joined_kept line (next ∷ behind) e h =
    let parts = and_parts (lacks next) (all_lack behind) h in
    kept_step line next behind (continues line next) e (joined_kept (line ++ skip_white next) behind (lack_append line (skip_white next) e (lack_skip next parts.0)) parts.1) (joined_kept next behind parts.0 parts.1)

lines_kept : (lines : List (List ℕ)) → all_lack lines ≡ true → (all_lack (joined_lines lines) ≡ true) × (length (joined_lines lines) ≡ length lines)
lines_kept [] h = (refl, refl)
lines_kept (line ∷ behind) h =
    let parts = and_parts (lacks line) (all_lack behind) h in
    let whole = joined_kept line behind parts.0 parts.1 in
    (whole.lack, whole.many)

pub lines_joined : (text : List ℕ) → lines_of (joined_text text) ≡ joined_lines (lines_of text)
unfolding joined_text
lines_joined text = ended_lines (joined_lines (lines_of text)) (lines_kept (lines_of text) (lines_lack text)).0

pub lines_counted : (text : List ℕ) → length (lines_of (joined_text text)) ≡ length (lines_of text)
lines_counted text = ap length (lines_joined text) ∙ (lines_kept (lines_of text) (lines_lack text)).1
