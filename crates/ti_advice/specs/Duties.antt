-- The strings that programs send without asking, and what each name means on T (terminfo(5), "Predefined
-- Capabilities"): which of T's functions does the same. T has no function for some, so that nothing changes.
use Rattle.std.specs.Prelude.{ℕ, Bool, true, false, List, [], ◌∷◌, Option, Some, None, codes}
use Rattle.ti_advice.specs.declared.duties.Duty.{Duty}
use Rattle.ti_advice.specs.declared.duties.Duty.TheVariants.{Smul, Rev, Blink, Dim, Bold, Invis}
use Rattle.ti_advice.specs.declared.duties.Duty.TheVariants.{Smso, Rmul, Rmso, Ich1, Ich}
use Rattle.ti_advice.specs.declared.duties.Duty.TheVariants.{Dch1, Dch, Il1, Il, Dl1, Dl, Indn, Rin, Ht, Cbt}
use Rattle.ti_advice.specs.declared.duties.Duty.TheVariants.{Nel, Sc, Rc, Flash, Rmam, Smam, Smir, Rmir, Smkx, Rmkx}

abbrev pub all : List Duty
all = Smul ∷ Rev ∷ Blink ∷ Dim ∷ Bold ∷ Invis ∷ Smso ∷ Rmul ∷ Rmso ∷ Ich1 ∷ Ich ∷ Dch1 ∷ Dch ∷ Il1 ∷ Il ∷ Dl1 ∷ Dl
    ∷ Indn ∷ Rin ∷ Ht ∷ Cbt ∷ Nel ∷ Sc ∷ Rc ∷ Flash ∷ Rmam ∷ Smam ∷ Smir ∷ Rmir ∷ Smkx ∷ Rmkx ∷ []

-- the name in terminfo(5)
abbrev pub name : Duty → List ℕ
name Smul = codes "smul"
name Rev = codes "rev"
name Blink = codes "blink"
name Dim = codes "dim"
name Bold = codes "bold"
name Invis = codes "invis"
name Smso = codes "smso"
name Rmul = codes "rmul"
name Rmso = codes "rmso"
name Ich1 = codes "ich1"
name Ich = codes "ich"
name Dch1 = codes "dch1"
name Dch = codes "dch"
name Il1 = codes "il1"
name Il = codes "il"
name Dl1 = codes "dl1"
name Dl = codes "dl"
name Indn = codes "indn"
name Rin = codes "rin"
name Ht = codes "ht"
name Cbt = codes "cbt"
name Nel = codes "nel"
name Sc = codes "sc"
name Rc = codes "rc"
name Flash = codes "flash"
name Rmam = codes "rmam"
name Smam = codes "smam"
name Smir = codes "smir"
name Rmir = codes "rmir"
name Smkx = codes "smkx"
name Rmkx = codes "rmkx"

-- the number that the string is sent with
abbrev pub number : Duty → ℕ
number Smul = 0
number Rev = 0
number Blink = 0
number Dim = 0
number Bold = 0
number Invis = 0
number Smso = 0
number Rmul = 0
number Rmso = 0
number Ich1 = 0
number Ich = 2
number Dch1 = 0
number Dch = 2
number Il1 = 0
number Il = 2
number Dl1 = 0
number Dl = 2
number Indn = 2
number Rin = 2
number Ht = 0
number Cbt = 0
number Nel = 0
number Sc = 0
number Rc = 0
number Flash = 0
number Rmam = 0
number Smam = 0
number Smir = 0
number Rmir = 0
number Smkx = 0
number Rmkx = 0

-- the string that begins what this one ends
abbrev pub begun : Duty → Option (List ℕ)
begun Smul = None
begun Rev = None
begun Blink = None
begun Dim = None
begun Bold = None
begun Invis = None
begun Smso = None
begun Rmul = Some (codes "smul")
begun Rmso = Some (codes "smso")
begun Ich1 = None
begun Ich = None
begun Dch1 = None
begun Dch = None
begun Il1 = None
begun Il = None
begun Dl1 = None
begun Dl = None
begun Indn = None
begun Rin = None
begun Ht = None
begun Cbt = None
begun Nel = None
begun Sc = None
begun Rc = None
begun Flash = None
begun Rmam = None
begun Smam = None
begun Smir = None
begun Rmir = None
begun Smkx = None
begun Rmkx = None

-- the bytes that lead to the place from which the string is sent, as CUP (ECMA-48 8.3.21); to the edge of the line for
-- wrapping, and behind the mode that ends there
abbrev pub start : Duty → List ℕ
start Smul = []
start Rev = []
start Blink = []
start Dim = []
start Bold = []
start Invis = []
start Smso = 27 ∷ codes "[1;2;4;5;7;8;31;42m"
start Rmul = []
start Rmso = []
start Ich1 = 27 ∷ codes "[3;4H"
start Ich = 27 ∷ codes "[3;4H"
start Dch1 = 27 ∷ codes "[3;4H"
start Dch = 27 ∷ codes "[3;4H"
start Il1 = 27 ∷ codes "[3H"
start Il = 27 ∷ codes "[3H"
start Dl1 = 27 ∷ codes "[3H"
start Dl = 27 ∷ codes "[3H"
start Indn = 27 ∷ codes "[5H"
start Rin = 27 ∷ codes "[1H"
start Ht = 27 ∷ codes "[3;3H"
start Cbt = 27 ∷ codes "[3;6H"
start Nel = 27 ∷ codes "[3;6H"
start Sc = 27 ∷ codes "[3;6H"
start Rc = 27 ∷ codes "[3;6H"
start Flash = 27 ∷ codes "[3;6H"
start Rmam = 27 ∷ codes "[3;9H"
start Smam = 27 ∷ 91 ∷ 63 ∷ 55 ∷ 108 ∷ 27 ∷ codes "[3;9H"
start Smir = 27 ∷ codes "[3;4H"
start Rmir = 27 ∷ 91 ∷ 52 ∷ 104 ∷ 27 ∷ codes "[3;4H"
start Smkx = 27 ∷ codes "[3;6H"
start Rmkx = 27 ∷ codes "[3;6H"

-- the string begins a mark: it may take nothing off, and put nothing else on
abbrev pub is_mark : Duty → Bool
is_mark Smul = true
is_mark Rev = true
is_mark Blink = true
is_mark Dim = true
is_mark Bold = true
is_mark Invis = true
is_mark Smso = false
is_mark Rmul = false
is_mark Rmso = false
is_mark Ich1 = false
is_mark Ich = false
is_mark Dch1 = false
is_mark Dch = false
is_mark Il1 = false
is_mark Il = false
is_mark Dl1 = false
is_mark Dl = false
is_mark Indn = false
is_mark Rin = false
is_mark Ht = false
is_mark Cbt = false
is_mark Nel = false
is_mark Sc = false
is_mark Rc = false
is_mark Flash = false
is_mark Rmam = false
is_mark Smam = false
is_mark Smir = false
is_mark Rmir = false
is_mark Smkx = false
is_mark Rmkx = false

-- the bytes that do on T what the name means
abbrev pub standard : Duty → List ℕ
-- SGR 4, ECMA-48 8.3.117
standard Smul = 27 ∷ codes "[4m"
-- SGR 7, ECMA-48 8.3.117
standard Rev = 27 ∷ codes "[7m"
-- SGR 5, ECMA-48 8.3.117
standard Blink = 27 ∷ codes "[5m"
-- SGR 2, ECMA-48 8.3.117
standard Dim = 27 ∷ codes "[2m"
-- SGR 1, ECMA-48 8.3.117
standard Bold = 27 ∷ codes "[1m"
-- SGR 8, ECMA-48 8.3.117
standard Invis = 27 ∷ codes "[8m"
-- SGR, ECMA-48 8.3.117
standard Smso = []
-- SGR 0, ECMA-48 8.3.117
standard Rmul = 27 ∷ codes "[m"
-- SGR 0, ECMA-48 8.3.117
standard Rmso = 27 ∷ codes "[m"
-- ICH, ECMA-48 8.3.64
standard Ich1 = 27 ∷ codes "[@"
-- ICH, ECMA-48 8.3.64
standard Ich = 27 ∷ codes "[2@"
-- DCH, ECMA-48 8.3.26
standard Dch1 = 27 ∷ codes "[P"
-- DCH, ECMA-48 8.3.26
standard Dch = 27 ∷ codes "[2P"
-- IL, ECMA-48 8.3.67
standard Il1 = 27 ∷ codes "[L"
-- IL, ECMA-48 8.3.67
standard Il = 27 ∷ codes "[2L"
-- DL, ECMA-48 8.3.32
standard Dl1 = 27 ∷ codes "[M"
-- DL, ECMA-48 8.3.32
standard Dl = 27 ∷ codes "[2M"
-- SU, ECMA-48 8.3.147
standard Indn = 27 ∷ codes "[2S"
-- SD, ECMA-48 8.3.113
standard Rin = 27 ∷ codes "[2T"
-- HT, ECMA-48 8.3.60
standard Ht = 9 ∷ []
-- CBT, ECMA-48 8.3.7, which T has not
standard Cbt = []
-- NEL, ECMA-48 8.3.86
standard Nel = 13 ∷ 10 ∷ []
standard Sc = []
standard Rc = []
standard Flash = []
-- DECAWM, VT100 user guide
standard Rmam = 27 ∷ codes "[?7l"
-- DECAWM, VT100 user guide
standard Smam = 27 ∷ codes "[?7h"
-- SM 4, ECMA-48 7.2.10
standard Smir = 27 ∷ codes "[4h"
-- RM 4, ECMA-48 7.2.10
standard Rmir = 27 ∷ codes "[4l"
standard Smkx = []
standard Rmkx = []
