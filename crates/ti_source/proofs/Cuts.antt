-- The relation between a text and its lines, and a line and its fields, is that of cutting.
use Rattle.std.proofs.Common.{◌≡◌, ◌≢◌, ℕ, Bool, true, false, not, ◌&&◌, List, [], ◌∷◌, ◌++◌, refl, sym, ap, ◌∙◌, subst}
use Rattle.std.specs.Prelude.{if◌then◌else◌, ◌==◌, IsTrue}
use Rattle.std.specs.List.{list_all}
use Rattle.std.proofs.lemmas.Bool.{and_parts, eqb-true, not-true}
use Rattle.ti_caps.specs.declared.fits.Opener.{Opener}
use Rattle.ti_caps.specs.declared.fits.Opener.TheVariants.{Nothing}
use Rattle.ti_caps.specs.Fits.{opener_after, ends_at_comma, is_one_field}
use Rattle.ti_source.specs.Layout.{onto_line, begins_feed, lines_of, ends_field, Cut, put_field, onto_ended, onto_cut, cut_from, cut_of}
use Rattle.ti_source.specs.Related.{NoFeed, ends_in_return, FirstLine, Fed, Returned, Alone, HasLines, is_unended, HasFields}
use Rattle.ti_source.proofs.Layouts.{kept}
use Rattle.ti_source.proofs.Spellings.{both_true, choose}

and_yes : (t : Bool) → (t && true) ≡ t
and_yes true = refl
and_yes false = refl

no_both : (t : Bool) → (t && false) ≡ true → ⊥
no_both true e = cc
no_both false e = cc

-- a byte that begins its line stays in it
stays : (b : ℕ) (rest : List ℕ) → (b == 10) ≡ false → ((b == 13) && begins_feed rest) ≡ false → lines_of (b ∷ rest) ≡ onto_line b (lines_of rest)
stays b rest e f =
    ap (λ t. if t then [] ∷ lines_of rest else (if (b == 13) && begins_feed rest then lines_of rest else onto_line b (lines_of rest))) e ∙ ap (λ t. if t then lines_of rest else onto_line b (lines_of rest)) f

no_feed_parts : (b : ℕ) (line : List ℕ) → NoFeed (b ∷ line) → ((b == 10) ≡ false) × NoFeed line
no_feed_parts b line h =
    let parts = and_parts (not (b == 10)) (list_all (λ c. not (c == 10)) line) h in
    (not-true (b == 10) parts.0, parts.1)

no_feed_more : (b : ℕ) (line : List ℕ) → (b == 10) ≡ false → NoFeed line → NoFeed (b ∷ line)
no_feed_more b line e h = both_true (not (b == 10)) (list_all (λ c. not (c == 10)) line) (ap not e) h

-- a cut text is related to its lines
onto_first : (b : ℕ) (line rest text : List ℕ) → (b == 10) ≡ false → ((b == 13) && begins_feed text) ≡ false → FirstLine line rest text → FirstLine (b ∷ line) rest (b ∷ text)
onto_first b [] rest text e f (Fed is clean apart) =
    Fed (ap (λ xs. b ∷ xs) is) (no_feed_more b [] e clean) (sym (ap (λ xs. (b == 13) && begins_feed xs) is ∙ and_yes (b == 13)) ∙ f)
onto_first b (c ∷ line) rest text e f (Fed is clean apart) = Fed (ap (λ xs. b ∷ xs) is) (no_feed_more b (c ∷ line) e clean) apart
onto_first b line rest text e f (Returned is clean) = Returned (ap (λ xs. b ∷ xs) is) (no_feed_more b line e clean)
onto_first b line rest text e f (Alone is some clean none) = Alone (ap (λ xs. b ∷ xs) is) (λ empty. cc) (no_feed_more b line e clean) none

onto_lines : (b : ℕ) (lines : List (List ℕ)) (text : List ℕ) → (b == 10) ≡ false → ((b == 13) && begins_feed text) ≡ false → HasLines lines text → HasLines (onto_line b lines) (b ∷ text)
onto_lines b [] text e f is = ([], Alone (ap (λ xs. b ∷ xs) is) (λ empty. cc) (no_feed_more b [] e refl) refl, refl)
onto_lines b (line ∷ lines) text e f h = (h.0, onto_first b line h.0 text e f h.1, h.2)

-- a carriage return before a line feed
behind_return : (b c : ℕ) (more : List ℕ) → (b == 13) ≡ true → (c == 10) ≡ true → HasLines (lines_of more) more → HasLines (lines_of (c ∷ more)) (b ∷ c ∷ more)
behind_return b c more e f h =
    let lines : lines_of (c ∷ more) ≡ [] ∷ lines_of more = ap (λ t. if t then [] ∷ lines_of more else (if (c == 13) && begins_feed more then lines_of more else onto_line c (lines_of more))) f in
    let text : b ∷ c ∷ more ≡ 13 ∷ 10 ∷ more = ap (λ x. x ∷ c ∷ more) (eqb-true b 13 e) ∙ ap (λ y. 13 ∷ y ∷ more) (eqb-true c 10 f) in
    subst (λ ls. HasLines ls (b ∷ c ∷ more)) (sym lines) (more, Returned text refl, h)

pub has_lines : (text : List ℕ) → HasLines (lines_of text) text
has_lines [] = refl
has_lines (b ∷ []) =
    choose (λ ls. HasLines ls (b ∷ [])) (b == 10) ([] ∷ []) (if (b == 13) && false then [] else (b ∷ []) ∷ [])
    (λ e. ([], Fed (ap (λ x. x ∷ []) (eqb-true b 10 e)) refl refl, refl))
    (λ e. choose (λ ls. HasLines ls (b ∷ [])) ((b == 13) && false) [] ((b ∷ []) ∷ []) (λ f. absurd (no_both (b == 13) f)) (λ f. onto_lines b [] [] e f refl))
has_lines (b ∷ c ∷ more) =
    choose (λ ls. HasLines ls (b ∷ c ∷ more)) (b == 10) ([] ∷ lines_of (c ∷ more)) (if (b == 13) && (c == 10) then lines_of (c ∷ more) else onto_line b (lines_of (c ∷ more)))
    (λ e. (c ∷ more, Fed (ap (λ x. x ∷ c ∷ more) (eqb-true b 10 e)) refl refl, has_lines (c ∷ more)))
    (λ e. choose (λ ls. HasLines ls (b ∷ c ∷ more)) ((b == 13) && (c == 10)) (lines_of (c ∷ more)) (onto_line b (lines_of (c ∷ more)))
    (λ f. let parts = and_parts (b == 13) (c == 10) f in behind_return b c more parts.0 parts.1 (has_lines more))
    (λ f. onto_lines b (lines_of (c ∷ more)) (c ∷ more) e f (has_lines (c ∷ more))))

-- a text related to lines is cut into them
fed_cut : (line rest : List ℕ) → NoFeed line → ends_in_return line ≡ false → lines_of (line ++ 10 ∷ rest) ≡ line ∷ lines_of rest
fed_cut [] rest clean apart = refl
fed_cut (b ∷ []) rest clean apart =
    let parts = no_feed_parts b [] clean in
    stays b (10 ∷ rest) parts.0 (ap (λ t. t && true) apart)
fed_cut (b ∷ c ∷ line) rest clean apart =
    let parts = no_feed_parts b (c ∷ line) clean in
    let next = no_feed_parts c line parts.1 in
    kept b (c ∷ line ++ 10 ∷ rest) parts.0 next.0 ∙ ap (onto_line b) (fed_cut (c ∷ line) rest parts.1 apart)

returned_cut : (line rest : List ℕ) → NoFeed line → lines_of (line ++ 13 ∷ 10 ∷ rest) ≡ line ∷ lines_of rest
returned_cut [] rest clean = refl
returned_cut (b ∷ []) rest clean = kept b (13 ∷ 10 ∷ rest) (no_feed_parts b [] clean).0 refl
returned_cut (b ∷ c ∷ line) rest clean =
    let parts = no_feed_parts b (c ∷ line) clean in
    let next = no_feed_parts c line parts.1 in
    kept b (c ∷ line ++ 13 ∷ 10 ∷ rest) parts.0 next.0 ∙ ap (onto_line b) (returned_cut (c ∷ line) rest parts.1)

alone_cut : (line : List ℕ) → line ≢ [] → NoFeed line → lines_of line ≡ line ∷ []
alone_cut [] some clean = absurd (some refl)
alone_cut (b ∷ []) some clean = kept b [] (no_feed_parts b [] clean).0 refl
alone_cut (b ∷ c ∷ line) some clean =
    let parts = no_feed_parts b (c ∷ line) clean in
    let next = no_feed_parts c line parts.1 in
    kept b (c ∷ line) parts.0 next.0 ∙ ap (onto_line b) (alone_cut (c ∷ line) (λ empty. cc) parts.1)

first_cut : (line rest text : List ℕ) → FirstLine line rest text → lines_of text ≡ line ∷ lines_of rest
first_cut line rest text (Fed is clean apart) = ap lines_of is ∙ fed_cut line rest clean apart
first_cut line rest text (Returned is clean) = ap lines_of is ∙ returned_cut line rest clean
first_cut line rest text (Alone is some clean none) = ap lines_of is ∙ (alone_cut line some clean ∙ ap (λ r. line ∷ lines_of r) (sym none))

pub lines_cut : (lines : List (List ℕ)) (text : List ℕ) → HasLines lines text → lines_of text ≡ lines
lines_cut [] text h = ap lines_of h
lines_cut (line ∷ lines) text h = first_cut line h.0 text h.1 ∙ ap (λ ls. line ∷ ls) (lines_cut lines h.0 h.2)

-- the fields of a line after this opener
abbrev FieldsFrom : Opener → List (List ℕ) → List ℕ → List ℕ → Type 0
FieldsFrom opener [] last line = (line ≡ last) × IsTrue (is_unended opener last)
FieldsFrom opener (field ∷ fields) last line = (rest : List ℕ) × (line ≡ field ++ 44 ∷ rest) × IsTrue (is_one_field opener field) × HasFields fields last rest

from_start : (fields : List (List ℕ)) (last line : List ℕ) → FieldsFrom Nothing fields last line → HasFields fields last line
from_start [] last line h = h
from_start (field ∷ fields) last line h = h

onto_from : (opener : Opener) (b : ℕ) (ended : List (List ℕ)) (last rest : List ℕ) → ends_field opener b ≡ false → FieldsFrom (opener_after opener b) ended last rest → FieldsFrom opener (onto_ended b ended last).ended (onto_ended b ended last).last (b ∷ rest)
onto_from opener b [] last rest e h = (ap (λ xs. b ∷ xs) h.0, both_true (not (ends_field opener b)) (is_unended (opener_after opener b) last) (ap not e) h.1)
onto_from opener b (field ∷ fields) last rest e h =
    (h.0, ap (λ xs. b ∷ xs) h.1, both_true (not (ends_field opener b)) (is_one_field (opener_after opener b) field) (ap not e) h.2, h.3)

has_from : (opener : Opener) (line : List ℕ) → FieldsFrom opener (cut_from opener line).ended (cut_from opener line).last line
has_from opener [] = (refl, refl)
has_from opener (b ∷ rest) =
    choose (λ (c : Cut). FieldsFrom opener c.ended c.last (b ∷ rest)) (ends_field opener b) (put_field [] (cut_from Nothing rest)) (onto_cut b (cut_from (opener_after opener b) rest))
    (λ e. let parts = and_parts (ends_at_comma opener) (b == 44) e in
    (rest, ap (λ x. x ∷ rest) (eqb-true b 44 parts.1), parts.0, from_start (cut_from Nothing rest).ended (cut_from Nothing rest).last rest (has_from Nothing rest)))
    (λ e. onto_from opener b (cut_from (opener_after opener b) rest).ended (cut_from (opener_after opener b) rest).last rest e (has_from (opener_after opener b) rest))

pub has_fields : (line : List ℕ) → HasFields (cut_of line).ended (cut_of line).last line
unfolding cut_of
has_fields line = from_start (cut_from Nothing line).ended (cut_from Nothing line).last line (has_from Nothing line)

-- a line related to fields is cut into them
unended_cut : (opener : Opener) (last : List ℕ) → is_unended opener last ≡ true → cut_from opener last ≡ record { ended = []; last = last }
unended_cut opener [] e = refl
unended_cut opener (b ∷ rest) e =
    let parts = and_parts (not (ends_field opener b)) (is_unended (opener_after opener b) rest) e in
    ap (λ t. if t then put_field [] (cut_from Nothing rest) else onto_cut b (cut_from (opener_after opener b) rest)) (not-true (ends_field opener b) parts.0)
    ∙ ap (onto_cut b) (unended_cut (opener_after opener b) rest parts.1)

field_first : (opener : Opener) (field rest : List ℕ) → is_one_field opener field ≡ true → cut_from opener (field ++ 44 ∷ rest) ≡ put_field field (cut_from Nothing rest)
field_first opener [] rest e = ap (λ t. if t && true then put_field [] (cut_from Nothing rest) else onto_cut 44 (cut_from (opener_after opener 44) rest)) e
field_first opener (b ∷ field) rest e =
    let parts = and_parts (not (ends_field opener b)) (is_one_field (opener_after opener b) field) e in
    ap (λ t. if t then put_field [] (cut_from Nothing (field ++ 44 ∷ rest)) else onto_cut b (cut_from (opener_after opener b) (field ++ 44 ∷ rest))) (not-true (ends_field opener b) parts.0)
    ∙ ap (onto_cut b) (field_first (opener_after opener b) field rest parts.1)

pub fields_cut : (fields : List (List ℕ)) (last line : List ℕ) → HasFields fields last line → cut_of line ≡ record { ended = fields; last = last }
unfolding cut_of
fields_cut [] last line h = ap (cut_from Nothing) h.0 ∙ unended_cut Nothing last h.1
fields_cut (field ∷ fields) last line h =
    ap (cut_from Nothing) h.1 ∙ (field_first Nothing field h.0 h.2 ∙ ap (put_field field) (fields_cut fields last h.0 h.3))
