-- The end of a line is what cutting it into fields leaves.
use Rattle.std.proofs.Common.{◌≡◌, ℕ, Bool, true, false, not, ◌&&◌, List, [], ◌∷◌, ◌++◌, refl, ap, ◌∙◌}
use Rattle.std.specs.Prelude.{if◌then◌else◌}
use Rattle.std.specs.List.{list_all}
use Rattle.ti_caps.specs.declared.fits.Opener.{Opener}
use Rattle.ti_caps.specs.declared.fits.Opener.TheVariants.{Nothing}
use Rattle.ti_caps.specs.Fits.{opener_after}
use Rattle.ti_sources.specs.Joins.{is_open}
use Rattle.ti_sources.specs.Steps.{scan_byte, scan_from, scan_of, start}
use Rattle.ti_sources.specs.declared.scan.Scan.{Scan}
use Rattle.ti_source.specs.Layout.{Cut, cut_from, cut_of, ends_field, is_white, onto_cut, onto_ended, put_field}
use Rattle.ti_source.specs.Source.{is_comment}

abbrev scan : Opener → Bool → Scan
scan opener blank = record { opener = opener; is_blank = blank }

-- whether the last of these fields is blank, if `blank` says so of what is before them
abbrev left_by : Bool → List (List ℕ) → List ℕ → Bool
left_by blank [] last = blank && list_all is_white last
left_by blank (field ∷ fields) last = list_all is_white last

abbrev left : Bool → Cut → Bool
left blank cut = left_by blank cut.ended cut.last

left_true : (ended : List (List ℕ)) (last : List ℕ) → left_by true ended last ≡ list_all is_white last
left_true [] last = refl
left_true (field ∷ fields) last = refl

and_assoc : (a b c : Bool) → ((a && b) && c) ≡ (a && (b && c))
and_assoc true b c = refl
and_assoc false b c = refl

and_true : (a : Bool) → a ≡ (a && true)
and_true true = refl
and_true false = refl

left_onto : (blank : Bool) (b : ℕ) (ended : List (List ℕ)) (last : List ℕ) → left_by (blank && is_white b) ended last ≡ left blank (onto_ended b ended last)
left_onto blank b [] last = and_assoc blank (is_white b) (list_all is_white last)
left_onto blank b (field ∷ fields) last = refl

-- one more byte, by whether it ends a field
scan_step : (opener : Opener) (blank : Bool) (b : ℕ) (rest : List ℕ) (t : Bool)
    → ((opener : Opener) (blank : Bool) → (scan_from (scan opener blank) rest).is_blank ≡ left blank (cut_from opener rest))
    → (scan_from (if t then start else scan (opener_after opener b) (blank && is_white b)) rest).is_blank ≡ left blank (if t then put_field [] (cut_from Nothing rest) else onto_cut b (cut_from (opener_after opener b) rest))
scan_step opener blank b rest true h = h Nothing true ∙ left_true (cut_from Nothing rest).ended (cut_from Nothing rest).last
scan_step opener blank b rest false h =
    let cut = cut_from (opener_after opener b) rest in
    h (opener_after opener b) (blank && is_white b) ∙ left_onto blank b cut.ended cut.last

scan_left : (line : List ℕ) (opener : Opener) (blank : Bool) → (scan_from (scan opener blank) line).is_blank ≡ left blank (cut_from opener line)
scan_left [] opener blank = and_true blank
scan_left (b ∷ rest) opener blank = scan_step opener blank b rest (ends_field opener b) (scan_left rest)

pub blank_by_scan : (line : List ℕ) → (scan_of line).is_blank ≡ list_all is_white (cut_of line).last
unfolding scan_of cut_of
blank_by_scan line = scan_left line Nothing true ∙ left_true (cut_from Nothing line).ended (cut_from Nothing line).last

pub open_by_scan : (line : List ℕ) (s : Scan) → s ≡ scan_of line → (not (is_comment line) && not s.is_blank) ≡ is_open line
unfolding is_open
open_by_scan line s e = ap (λ (t : Bool). not (is_comment line) && not t) (ap (λ (s : Scan). s.is_blank) e ∙ blank_by_scan line)

append_scan : (s : Scan) (line more : List ℕ) → scan_from (scan_from s line) more ≡ scan_from s (line ++ more)
append_scan s [] more = refl
append_scan s (b ∷ line) more = append_scan (scan_byte s b) line more

pub scan_more : (line more : List ℕ) (s : Scan) → s ≡ scan_of line → scan_from s more ≡ scan_of (line ++ more)
unfolding scan_of
scan_more line more s e = ap (λ (s : Scan). scan_from s more) e ∙ append_scan start line more
