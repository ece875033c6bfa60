-- The names of the capabilities, as terminfo(5) lists them ("Predefined Capabilities"): booleans, numbers and
-- strings, each in the order of term(5). The table of the code is proved to be this one.
use Rattle.std.specs.Prelude.{ℕ, ◌≡◌, ◌+◌, ◌<◌, ◌==◌, List, ◌++◌, [], codes, length, slice_index_or}
use Rattle.std.specs.List.{slice_split}
use Rattle.ti_caps.specs.declared.types.Kind.{Kind}
use Rattle.ti_caps.specs.declared.types.Kind.TheVariants.{Flag, Number, String}
use Rattle.ti_caps.specs.Table.{count_of, first_of, name_at}

-- the words of a line
abbrev pub words : List ℕ → List (List ℕ)
words line = slice_split (λ b. b == 32) line

unfoldable pub boolean_names : List (List ℕ)
boolean_names =
    words (codes "bw am xsb xhp xenl eo gn hc km hs in da db mir msgr os eslok xt hz ul xon nxon mc5i chts nrrmc")
    ++ words (codes "npc ndscr ccc bce hls xhpa crxm daisy xvpa sam cpix lpix OTbs OTns OTnc OTMT OTNL OTpt OTxr")

unfoldable pub number_names : List (List ℕ)
number_names =
    words (codes "cols it lines lm xmc pb vt wsl nlab lh lw ma wnum colors pairs ncv bufsz spinv spinh maddr mjump")
    ++ words (codes "mcs mls npins orc orl orhi orvi cps widcs btns bitwin bitype OTug OTdC OTdN OTdB OTdT OTkn")

unfoldable pub string_names : List (List ℕ)
string_names =
    words (codes "cbt bel cr csr tbc clear el ed hpa cmdch cup cud1 home civis cub1 mrcup cnorm cuf1 ll cuu1 cvvis")
    ++ words (codes "dch1 dl1 dsl hd smacs blink bold smcup smdc dim smir invis prot rev smso smul ech rmacs sgr0")
    ++ words (codes "rmcup rmdc rmir rmso rmul flash ff fsl is1 is2 is3 if ich1 il1 ip kbs ktbc kclr kctab kdch1 kdl1")
    ++ words (codes "kcud1 krmir kel ked kf0 kf1 kf10 kf2 kf3 kf4 kf5 kf6 kf7 kf8 kf9 khome kich1 kil1 kcub1 kll knp")
    ++ words (codes "kpp kcuf1 kind kri khts kcuu1 rmkx smkx lf0 lf1 lf10 lf2 lf3 lf4 lf5 lf6 lf7 lf8 lf9 rmm smm nel")
    ++ words (codes "pad dch dl cud ich indn il cub cuf rin cuu pfkey pfloc pfx mc0 mc4 mc5 rep rs1 rs2 rs3 rf rc vpa")
    ++ words (codes "sc ind ri sgr hts wind ht tsl uc hu iprog ka1 ka3 kb2 kc1 kc3 mc5p rmp acsc pln kcbt smxon rmxon")
    ++ words (codes "smam rmam xonc xoffc enacs smln rmln kbeg kcan kclo kcmd kcpy kcrt kend kent kext kfnd khlp kmrk")
    ++ words (codes "kmsg kmov knxt kopn kopt kprv kprt krdo kref krfr krpl krst kres ksav kspd kund kBEG kCAN kCMD")
    ++ words (codes "kCPY kCRT kDC kDL kslt kEND kEOL kEXT kFND kHLP kHOM kIC kLFT kMSG kMOV kNXT kOPT kPRV kPRT kRDO")
    ++ words (codes "kRPL kRIT kRES kSAV kSPD kUND rfi kf11 kf12 kf13 kf14 kf15 kf16 kf17 kf18 kf19 kf20 kf21 kf22")
    ++ words (codes "kf23 kf24 kf25 kf26 kf27 kf28 kf29 kf30 kf31 kf32 kf33 kf34 kf35 kf36 kf37 kf38 kf39 kf40 kf41")
    ++ words (codes "kf42 kf43 kf44 kf45 kf46 kf47 kf48 kf49 kf50 kf51 kf52 kf53 kf54 kf55 kf56 kf57 kf58 kf59 kf60")
    ++ words (codes "kf61 kf62 kf63 el1 mgc smgl smgr fln sclk dclk rmclk cwin wingo hup dial qdial tone pulse hook")
    ++ words (codes "pause wait u0 u1 u2 u3 u4 u5 u6 u7 u8 u9 op oc initc initp scp setf setb cpi lpi chr cvr defc")
    ++ words (codes "swidm sdrfq sitm slm smicm snlq snrmq sshm ssubm ssupm sum rwidm ritm rlm rmicm rshm rsubm rsupm")
    ++ words (codes "rum mhpa mcud1 mcub1 mcuf1 mvpa mcuu1 porder mcud mcub mcuf mcuu scs smgb smgbp smglp smgrp smgt")
    ++ words (codes "smgtp sbim scsd rbim rcsd subcs supcs docr zerom csnm kmous minfo reqmp getm setaf setab pfxl")
    ++ words (codes "devt csin s0ds s1ds s2ds s3ds smglr smgtb birep binel bicr colornm defbi endbi setcolor slines")
    ++ words (codes "dispc smpch rmpch smsc rmsc pctrm scesc scesa ehhlm elhlm elohlm erhlm ethlm evhlm sgr1 slength")
    ++ words (codes "OTi2 OTrs OTnl OTbc OTko OTma OTG2 OTG3 OTG1 OTG4 OTGR OTGL OTGU OTGD OTGH OTGV OTGC meml memu")
    ++ words (codes "box1")

-- the names of a kind
abbrev pub names_of : Kind → List (List ℕ)
names_of Flag = boolean_names
names_of Number = number_names
names_of String = string_names

-- there are as many capabilities of each kind as the standard lists
abbrev pub CountsAreStandard : Type 0
CountsAreStandard = (kind : Kind) → length (names_of kind) ≡ count_of kind

-- the capability of a kind at a position has the name that the standard lists there
abbrev pub NamesAreStandard : Type 0
NamesAreStandard =
    (kind : Kind) (position : ℕ) → position < count_of kind
    → name_at (first_of kind + position) ≡ slice_index_or (names_of kind) position []
