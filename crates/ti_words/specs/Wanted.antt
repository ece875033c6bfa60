-- The results that programs want from each checked string, in words. Each row is in one of three groups, whose words it
-- gets.
use Rattle.std.specs.Prelude.{ℕ, List, [], ◌∷◌, ◌++◌, codes}
use Rattle.std.specs.Fmt.{decimal}
use Rattle.vt_term.specs.Color.{color_number}
use Rattle.ti_rows.specs.declared.rows.Attributes.{Attributes}
use Rattle.ti_rows.specs.declared.rows.Row.{Row}
use Rattle.ti_rows.specs.declared.rows.Row.TheVariants.{Clear, Cup, Home, Cr, Hpa, Vpa, Cub1, Cuf1, Cuu1, Cud1, Cub}
use Rattle.ti_rows.specs.declared.rows.Row.TheVariants.{Cuf, Cuu, Cud, El, El1, Ed, Ech, Sgr, Sgr0, Setaf, Setab, Op}
use Rattle.ti_rows.specs.declared.rows.Row.TheVariants.{Smul, Rev, Blink, Dim, Bold, Invis, Smso, Enacs, Smacs, Rmacs}
use Rattle.ti_rows.specs.declared.rows.Row.TheVariants.{Csr, Ind, Ri, Civis, Cnorm, Cvvis, Smcup, Rmcup, Bel}
use Rattle.ti_words.specs.Starts.{if_so}

-- a number between words
abbrev pub number_text : List ℕ → ℕ → List ℕ → List ℕ
number_text front n behind = front ++ (decimal n ++ behind)

abbrev pub no_more : List ℕ
no_more = codes ", and nothing else changes"

abbrev pub place_text : ℕ → ℕ → List ℕ
place_text row col =
    codes "the cursor is at row " ++ (decimal row ++ (codes ", column " ++ (decimal col
    ++ codes ", and nothing else changes")))

abbrev pub region_text : ℕ → ℕ → List ℕ
region_text top bottom =
    codes "the scrolling region is rows " ++ (decimal top ++ (codes " to " ++ (decimal bottom
    ++ codes ", and nothing else but the cursor changes")))

-- strings with parameters, but for `sgr`
abbrev pub numbered_text : Row → List ℕ
numbered_text (Cup row col) = place_text row col
numbered_text (Csr top bottom) = region_text top bottom
numbered_text (Hpa col) =
    number_text (codes "the cursor is in column ") col (codes " of its row, and nothing else changes")
numbered_text (Vpa row) =
    number_text (codes "the cursor is in row ") row (codes " of its column, and nothing else changes")
numbered_text (Cub n) = number_text (codes "the cursor moves left by ") n no_more
numbered_text (Cuf n) = number_text (codes "the cursor moves right by ") n no_more
numbered_text (Cuu n) = number_text (codes "the cursor moves up by ") n no_more
numbered_text (Cud n) = number_text (codes "the cursor moves down by ") n no_more
numbered_text (Ech n) =
    number_text (codes "the cells from the cursor on, as many as ") n
    (codes " and at most to the end of its row, are blank, and nothing else changes")
numbered_text (Setaf c) = number_text (codes "the foreground is color ") (color_number c) no_more
numbered_text (Setab c) = number_text (codes "the background is color ") (color_number c) no_more
numbered_text _ = []

-- moves, erasures and scrolling without parameters
abbrev pub fixed_text : Row → List ℕ
fixed_text Clear = codes "every cell is blank, the cursor is at row 0, column 0, and nothing else changes"
fixed_text Home = codes "the cursor is at row 0, column 0, and nothing else changes"
fixed_text Cr = codes "the cursor is in column 0 of its row, and nothing else changes"
fixed_text Cub1 = codes "the cursor moves left by 1, and nothing else changes"
fixed_text Cuf1 = codes "the cursor moves right by 1, and nothing else changes"
fixed_text Cuu1 = codes "the cursor moves up by 1, and nothing else changes"
fixed_text Cud1 = codes "the cursor moves down by 1, and nothing else changes"
fixed_text El = codes "the cells from the cursor to the end of its row are blank, and nothing else changes"
fixed_text El1 = codes "the cells from the start of the row to the cursor are blank, and nothing else changes"
fixed_text Ed = codes "the cells from the cursor to the end of the screen are blank, and nothing else changes"
fixed_text Ind = codes "the scrolling region moves up by one line, the last one is blank, and nothing else changes"
fixed_text Ri = codes "the scrolling region moves down by one line, the first one is blank, and nothing else changes"
fixed_text Bel = codes "nothing changes"
fixed_text _ = []

-- `sgr` with these attributes
unfoldable pub names_text : Attributes → List ℕ
names_text a =
    if_so a.standout (codes " standout") ++ (if_so a.underline (codes " underline")
    ++ (if_so a.reverse (codes " reverse") ++ (if_so a.blink (codes " blink") ++ (if_so a.dim (codes " dim")
    ++ (if_so a.bold (codes " bold") ++ if_so a.invisible (codes " invisible"))))))

abbrev pub or_none : List ℕ → List ℕ
or_none [] = codes " none"
or_none (first ∷ rest) = first ∷ rest

abbrev pub listed_text : List ℕ → List ℕ
listed_text names =
    codes "just the renditions of these attributes are on:" ++ (names
    ++ codes "; both colors stay or become default, and cells and cursor stay")

abbrev pub attributes_text : Attributes → List ℕ
attributes_text a = listed_text (or_none (names_text a))

abbrev pub around : List ℕ
around = codes "cells change by one erasure at most, and the scrolling region and the cursor's visibility stay"

-- renditions and colors without parameters, character sets, the cursor's visibility, and the strings that begin and end
-- a program's screen
abbrev pub fixed_look_text : Row → List ℕ
fixed_look_text Sgr0 = codes "no rendition is on, both colors are default, and cells and cursor stay"
fixed_look_text Op = codes "both colors are default, and nothing else changes"
fixed_look_text Smul = codes "underlined is on, and no other rendition changes"
fixed_look_text Rev = codes "reverse is on, and no other rendition changes"
fixed_look_text Blink = codes "blinking is on, and no other rendition changes"
fixed_look_text Dim = codes "dim is on, and no other rendition changes"
fixed_look_text Bold = codes "bold is on, and no other rendition changes"
fixed_look_text Invis = codes "invisible is on, and no other rendition changes"
fixed_look_text Smso = codes "renditions may go on and none goes off, and colors, cells and cursor stay"
fixed_look_text Enacs = codes "nothing but the character sets changes"
fixed_look_text Smacs = codes "the line drawing set is active, and nothing but the character sets changes"
fixed_look_text Rmacs = codes "the plain set is active, and nothing but the character sets changes"
fixed_look_text Civis = codes "the cursor is hidden, and nothing else changes"
fixed_look_text Cnorm = codes "the cursor is visible, and nothing else changes"
fixed_look_text Cvvis = codes "nothing changes, but that the cursor may become visible"
fixed_look_text Smcup = around
fixed_look_text Rmcup = around
fixed_look_text _ = []

abbrev pub look_text : Row → List ℕ
look_text (Sgr a) = attributes_text a
look_text row = fixed_look_text row

abbrev pub wanted_text : Row → List ℕ
wanted_text row = numbered_text row ++ (fixed_text row ++ look_text row)
