-- The strings that the standards have for the checked capabilities, in the parameter language of terminfo(5): those of
-- ECMA-48 (5th edition), and of the VT100 User Guide (chapter 3) and the VT220 Programmer Reference where ECMA-48 has
-- none.
use Rattle.std.specs.Prelude.{ℕ, ◌≡◌, ◌≢◌, ◌++◌, ◌==◌, ◌&&◌, ◌||◌, nat_le, nat_lt, Bool, false, if◌then◌else◌, List, []}
use Rattle.std.specs.Prelude.{◌∷◌, Option, Some, None, codes}
use Rattle.std.specs.List.{list_any, starts_with}
use Rattle.ti_caps.specs.Entry.{Content, number_at}
use Rattle.ti_rows.specs.declared.rows.Row.{Row}
use Rattle.ti_rows.specs.declared.rows.Row.TheVariants.{Bel, Blink, Bold, Civis, Clear, Cnorm, Cr, Csr, Cub, Cub1, Cud}
use Rattle.ti_rows.specs.declared.rows.Row.TheVariants.{Cud1, Cuf, Cuf1, Cup, Cuu, Cuu1, Cvvis, Dim, Ech, Ed, El, El1}
use Rattle.ti_rows.specs.declared.rows.Row.TheVariants.{Enacs, Home, Hpa, Ind, Invis, Op, Rev, Ri, Rmacs, Rmcup, Setab}
use Rattle.ti_rows.specs.declared.rows.Row.TheVariants.{Setaf, Sgr, Sgr0, Smacs, Smcup, Smso, Smul, Vpa}
use Rattle.ti_rows.specs.Names.{cap_of}
use Rattle.ti_conforms.specs.Entries.{string_of, has_string}

-- ---- bytes

-- ESC before a text, and CSI, which is ESC and `[`
abbrev pub esc : List ℕ → List ℕ
esc text = 27 ∷ text

abbrev pub csi : List ℕ → List ℕ
csi text = 27 ∷ 91 ∷ text

-- SO and SI (ECMA-48 8.3.126, 8.3.119)
abbrev pub so : List ℕ
so = 14 ∷ []

abbrev pub si : List ℕ
si = 15 ∷ []

-- SCS of the VT100: the line drawing characters as G0, and ASCII as G0
abbrev pub graphic_g0 : List ℕ
graphic_g0 = esc (codes "(0")

abbrev pub plain_g0 : List ℕ
plain_g0 = esc (codes "(B")

-- SGR 0 and the parameter that each asked attribute adds (ECMA-48 8.3.117); standout is shown as negative
abbrev pub attribute_string : List ℕ
attribute_string = csi (codes "0%?%p1%p3%|%t;7%;%?%p2%t;4%;%?%p4%t;5%;%?%p5%t;2%;%?%p6%t;1%;%?%p7%t;8%;m")

-- ---- the string of each capability, if a standard has one: none has a second screen

abbrev pub standard : Row → Option (List ℕ)
-- ECMA-48 8.3.3, BEL
standard Bel = Some (7 ∷ [])
-- 8.3.117, SGR: 5 is slowly blinking, 1 bold
standard Blink = Some (csi (codes "5m"))
standard Bold = Some (csi (codes "1m"))
-- VT220, DECTCEM
standard Civis = Some (csi (codes "?25l"))
-- 8.3.21, CUP, and 8.3.39, ED
standard Clear = Some (csi (codes "H") ++ csi (codes "2J"))
standard Cnorm = Some (csi (codes "?25h"))
-- 8.3.15, CR
standard Cr = Some (13 ∷ [])
-- VT100, DECSTBM
standard (Csr top bottom) = Some (csi (codes "%i%p1%d;%p2%dr"))
-- 8.3.18, CUB; 8.3.5, BS
standard (Cub n) = Some (csi (codes "%p1%dD"))
standard Cub1 = Some (8 ∷ [])
-- 8.3.19, CUD; 8.3.74, LF
standard (Cud n) = Some (csi (codes "%p1%dB"))
standard Cud1 = Some (10 ∷ [])
-- 8.3.20, CUF
standard (Cuf n) = Some (csi (codes "%p1%dC"))
standard Cuf1 = Some (csi (codes "C"))
standard (Cup row col) = Some (csi (codes "%i%p1%d;%p2%dH"))
-- 8.3.22, CUU
standard (Cuu n) = Some (csi (codes "%p1%dA"))
standard Cuu1 = Some (csi (codes "A"))
standard Cvvis = Some (csi (codes "?25h"))
standard Dim = Some (csi (codes "2m"))
-- 8.3.38, ECH; 8.3.39, ED; 8.3.41, EL
standard (Ech n) = Some (csi (codes "%p1%dX"))
standard Ed = Some (csi (codes "J"))
standard El = Some (csi (codes "K"))
standard El1 = Some (csi (codes "1K"))
-- VT100, SCS: ASCII as G0, the line drawing characters as G1
standard Enacs = Some (esc (codes "(B") ++ esc (codes ")0"))
standard Home = Some (csi (codes "H"))
-- 8.3.9, CHA
standard (Hpa col) = Some (csi (codes "%i%p1%dG"))
standard Ind = Some (10 ∷ [])
standard Invis = Some (csi (codes "8m"))
standard Op = Some (csi (codes "39;49m"))
standard Rev = Some (csi (codes "7m"))
-- 8.3.104, RI
standard Ri = Some (esc (codes "M"))
standard Rmacs = Some plain_g0
standard Rmcup = None
standard (Setab c) = Some (csi (codes "4%p1%dm"))
standard (Setaf c) = Some (csi (codes "3%p1%dm"))
standard (Sgr a) = Some attribute_string
standard Sgr0 = Some (csi (codes "m"))
standard Smacs = Some graphic_g0
standard Smcup = None
standard Smso = Some (csi (codes "7m"))
standard Smul = Some (csi (codes "4m"))
-- 8.3.158, VPA
standard (Vpa row) = Some (csi (codes "%i%p1%dd"))

-- the standards' string by the capability; there is none for one that isn't checked
pub data IsStandard (cap : ℕ) (found : Option (List ℕ)) : Type 0 where
  OfRow : (row : Row) → cap_of row ≡ cap → found ≡ standard row → IsStandard cap found
  OfNone : ((row : Row) → cap_of row ≢ cap) → found ≡ None → IsStandard cap found

-- ---- the string that fits the entry's other strings better, if there is one

-- the entry changes between ASCII and the line drawing characters by SO and SI: its `smacs` has an SO, or its `rmacs`
-- an SI
abbrev pub has_byte : ℕ → Option (List ℕ) → Bool
has_byte byte None = false
has_byte byte (Some bytes) = list_any (λ b. b == byte) bytes

abbrev pub shifts : Content → Bool
shifts entry = has_byte 14 (string_of entry Smacs) || has_byte 15 (string_of entry Rmacs)

-- the number of colors that the entry has: its number `colors`
abbrev pub number_or_zero : Option ℕ → ℕ
number_or_zero None = 0
number_or_zero (Some n) = n

abbrev pub colors : ℕ
colors = 57

abbrev pub colors_of : Content → ℕ
colors_of entry = number_or_zero (number_at entry colors)

-- up to 256 colors by ITU-T T.416 13.1.8, and 8 to 15 as aixterm has them
abbrev pub many_colors : Content → Bool
many_colors entry = nat_lt 8 (colors_of entry) && nat_le (colors_of entry) 256

-- xterm's other screen, if the entry's other string uses it
abbrev pub begins : Option (List ℕ) → List ℕ → Bool
begins None text = false
begins (Some bytes) text = starts_with (λ a b. a == b) bytes text

abbrev pub where_so : Bool → List ℕ → Option (List ℕ)
where_so b text = if b then Some text else None

abbrev pub by_sets : Content → List ℕ → List ℕ → Option (List ℕ)
by_sets entry shifted designated =
    if shifts entry then Some shifted else (if has_string entry Rmacs then Some designated else None)

abbrev pub matching : Content → Row → Option (List ℕ)
matching entry Smacs = where_so (shifts entry) so
matching entry Rmacs = where_so (shifts entry) si
matching entry Sgr0 = by_sets entry (csi (codes "m") ++ si) (plain_g0 ++ csi (codes "m"))
matching entry (Sgr a) =
    by_sets entry (attribute_string ++ (codes "%?%p9%t" ++ so ++ codes "%e" ++ si ++ codes "%;"))
    ((codes "%?%p9%t" ++ graphic_g0 ++ codes "%e" ++ plain_g0 ++ codes "%;") ++ attribute_string)
matching entry (Setaf c) =
    where_so (many_colors entry) (csi (codes "%?%p1%{8}%<%t3%p1%d%e%p1%{16}%<%t9%p1%{8}%-%d%e38;5;%p1%d%;m"))
matching entry (Setab c) =
    where_so (many_colors entry) (csi (codes "%?%p1%{8}%<%t4%p1%d%e%p1%{16}%<%t10%p1%{8}%-%d%e48;5;%p1%d%;m"))
matching entry Smcup = where_so (begins (string_of entry Rmcup) (csi (codes "?1049l"))) (csi (codes "?1049h"))
matching entry Rmcup = where_so (begins (string_of entry Smcup) (csi (codes "?1049h"))) (csi (codes "?1049l"))
matching entry _ = None

-- The standards' strings for 8 colors don't suit an entry with more than 256, whose colors aren't numbers of a palette.
abbrev pub general : Content → Row → Option (List ℕ)
general entry (Setaf c) = if nat_lt 256 (colors_of entry) then None else standard (Setaf c)
general entry (Setab c) = if nat_lt 256 (colors_of entry) then None else standard (Setab c)
general entry row = standard row

-- ---- the strings that are tried, in this order

abbrev pub as_list : Option (List ℕ) → List (List ℕ)
as_list None = []
as_list (Some bytes) = bytes ∷ []

abbrev pub candidates : Content → Row → List (List ℕ)
candidates entry row = as_list (matching entry row) ++ as_list (general entry row)
