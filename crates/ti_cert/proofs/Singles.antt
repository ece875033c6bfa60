-- The looks of attributes that have strings of their own, after one more line.
use Rattle.std.proofs.Common.{◌≡◌, ◌==◌, ◌||◌, ℕ, not, Bool, true, false, if◌then◌else◌, List, [], ◌∷◌, length, refl, sym, ap, subst, ◌∙◌, arith}
use Rattle.std.specs.Prelude.{is_some}
use Rattle.std.specs.List.{slice_get}
use Rattle.vt_effects.specs.declared.effects.Effect.{Effect}
use Rattle.ti_rows.specs.declared.rows.Looks.{Looks}
use Rattle.ti_rows.specs.declared.rows.Row.{Row}
use Rattle.ti_rows.specs.declared.rows.Row.TheVariants.{Sgr, Smul, Rev, Blink, Dim, Bold, Invis, Smso}
use Rattle.ti_rows.specs.Names.{order, no_attributes}
use Rattle.ti_rows.specs.Looks.{learned}
use Rattle.ti_cert.specs.Strings.{Strings, group_at, has_group, row_string, Adds}
use Rattle.ti_cert.specs.Known.{Known, looks_with}
use Rattle.ti_cert.specs.Certificates.{rival}
use Rattle.ti_conforms.specs.Looks.{SingleLooks, LooksAlone}
use Rattle.ti_cert.proofs.GroupFacts.{not_zero}

-- the capability of a row joins those that have strings
abbrev Joins : (Row → Bool) → Row → (Row → Bool) → Type 0
Joins before row after = (other : Row) → after other ≡ (order other == order row || before other)

kept : (before after : Row → Bool) (l : Looks) → SingleLooks before l → after Smul ≡ before Smul → after Rev ≡ before Rev → after Blink ≡ before Blink → after Dim ≡ before Dim → after Bold ≡ before Bold
    → after Invis ≡ before Invis → after Smso ≡ before Smso → SingleLooks after l
kept before after l o u r k d b i s = record {
  underline = o.underline ∙ sym u;
  reverse = o.reverse ∙ sym r;
  blink = o.blink ∙ sym k;
  dim = o.dim ∙ sym d;
  bold = o.bold ∙ sym b;
  invisible = o.invisible ∙ sym i;
  standout = λ h. o.standout (sym s ∙ h);
}

-- the looks with a line of the row, where a row's capability has lines if it had some or is that row's
joined_looks : (before : Row → Bool) (row : Row) (e : Effect) (l : Looks) → SingleLooks before l → (order (Sgr no_attributes) == order row) ≡ false → SingleLooks (λ r. order r == order row || before r) (learned row e l)
joined_looks before (Sgr a) e l o other = cc
joined_looks before Smul e l o other = record { underline = refl; reverse = o.reverse; blink = o.blink; dim = o.dim; bold = o.bold; invisible = o.invisible; standout = o.standout }
joined_looks before Rev e l o other = record { underline = o.underline; reverse = refl; blink = o.blink; dim = o.dim; bold = o.bold; invisible = o.invisible; standout = o.standout }
joined_looks before Blink e l o other = record { underline = o.underline; reverse = o.reverse; blink = refl; dim = o.dim; bold = o.bold; invisible = o.invisible; standout = o.standout }
joined_looks before Dim e l o other = record { underline = o.underline; reverse = o.reverse; blink = o.blink; dim = refl; bold = o.bold; invisible = o.invisible; standout = o.standout }
joined_looks before Bold e l o other = record { underline = o.underline; reverse = o.reverse; blink = o.blink; dim = o.dim; bold = refl; invisible = o.invisible; standout = o.standout }
joined_looks before Invis e l o other = record { underline = o.underline; reverse = o.reverse; blink = o.blink; dim = o.dim; bold = o.bold; invisible = refl; standout = o.standout }
joined_looks before Smso e l o other = record { underline = o.underline; reverse = o.reverse; blink = o.blink; dim = o.dim; bold = o.bold; invisible = o.invisible; standout = λ h. cc }
joined_looks before _ e l o other = record { underline = o.underline; reverse = o.reverse; blink = o.blink; dim = o.dim; bold = o.bold; invisible = o.invisible; standout = o.standout }

one_more : (before after : Row → Bool) (row : Row) (e : Effect) (l : Looks) → SingleLooks before l → Joins before row after → (order (Sgr no_attributes) == order row) ≡ false → SingleLooks after (learned row e l)
one_more before after row e l o g other =
    kept (λ r. order r == order row || before r) after (learned row e l) (joined_looks before row e l o other) (g Smul) (g Rev) (g Blink) (g Dim) (g Bold) (g Invis) (g Smso)

is_rival : (row : Row) → (order (Sgr no_attributes) == order row) ≡ false → rival row ≡ Sgr no_attributes
is_rival (Sgr a) h = cc
is_rival _ h = refl

first_off : (a b : Bool) → (a || b) ≡ false → a ≡ false
first_off true b h = h
first_off false b h = refl

last_off : (a b : Bool) → (a || b) ≡ false → b ≡ false
last_off true b h = cc
last_off false b h = h

pub looks_more : (k : Known) (strings : Strings) (row : Row) (bytes : List ℕ) (e : Effect) → Adds k.strings strings row bytes → LooksAlone (λ r. has_group k.strings r) k.looks → LooksAlone (λ r. has_group strings r) (looks_with k row e)
looks_more k strings row bytes e a old off =
    let both : (order (Sgr no_attributes) == order row || has_group k.strings (Sgr no_attributes)) ≡ false = sym (a.groups (Sgr no_attributes)) ∙ off in
    let other : (order (Sgr no_attributes) == order row) ≡ false = first_off (order (Sgr no_attributes) == order row) (has_group k.strings (Sgr no_attributes)) both in
    let none : has_group k.strings (Sgr no_attributes) ≡ false = last_off (order (Sgr no_attributes) == order row) (has_group k.strings (Sgr no_attributes)) both in
    let no_rival : has_group k.strings (rival row) ≡ false = ap (λ (r : Row). has_group k.strings r) (is_rival row other) ∙ none in
    let same : looks_with k row e ≡ learned row e k.looks = ap (λ (b : Bool). if b then k.looks else learned row e k.looks) no_rival in
    subst (λ (l : Looks). SingleLooks (λ r. has_group strings r) l) (sym same) (one_more (λ r. has_group k.strings r) (λ r. has_group strings r) row e k.looks (old none) a.groups other)

first_there : (g : List (List ℕ)) → is_some (slice_get g 0) ≡ not (length g == 0)
first_there [] = refl
first_there (x ∷ xs) = sym (not_zero (length (x ∷ xs)) 0 (omega arith))

-- a capability without parameters has strings exactly if it has a line
pub looks_stand : (s : Strings) (l : Looks) → LooksAlone (λ row. has_group s row) l → LooksAlone (λ row. is_some (row_string s row)) l
looks_stand s l looks off = kept (λ row. has_group s row) (λ row. is_some (row_string s row)) l (looks (sym (there 35) ∙ off)) (there 40) (there 29) (there 1) (there 18) (there 2) (there 27) (there 39)
  where
    there : (n : ℕ) → is_some (slice_get (group_at s n) 0) ≡ not (length (group_at s n) == 0)
    there n = first_there (group_at s n)
