-- Attributes look by the lines before a row as the rows of its string before it teach.
use Rattle.std.proofs.Common.{◌≡◌, ℕ, Bool, true, false, not, if◌then◌else◌, List, [], ◌∷◌, Some, inl, inr, refl, sym, ap, subst, ◌∙◌, arith}
use Rattle.std.proofs.lemmas.Bool.{true≢false, and_parts, cases_Bool}
use Rattle.std.proofs.lemmas.Option.{same_Some}
use Rattle.vt_effects.specs.declared.effects.Effect.{Effect}
use Rattle.ti_caps.specs.Entry.{Content}
use Rattle.ti_conforms.specs.Charsets.{IsAmong}
use Rattle.ti_conforms.specs.declared.entries.Group.{Group}
use Rattle.ti_conforms.specs.declared.entries.Group.TheVariants as groups
use Rattle.ti_conforms.specs.Entries.{group_of, string_of, has_string, meets, is_checked}
use Rattle.ti_conforms.specs.Looks.{no_looks}
use Rattle.ti_conforms.proofs.Matches.{same_checked}
use Rattle.ti_rows.specs.declared.rows.Attributes.{Attributes}
use Rattle.ti_rows.specs.declared.rows.Looks.{Looks}
use Rattle.ti_rows.specs.declared.rows.Row.{Row}
use Rattle.ti_rows.specs.declared.rows.Row.TheVariants.{Sgr, Smul, Rev, Blink, Dim, Bold, Invis, Smso}
use Rattle.ti_rows.specs.Lists.{IsFirst, IsInRange, Follows}
use Rattle.ti_rows.specs.Looks.{learned, shown}
use Rattle.ti_rows.specs.Names.{order, no_attributes}
use Rattle.ti_lines.specs.declared.row_lines.RowLine.{RowLine}
use Rattle.ti_cert.specs.Order.{Precedes, HasLine, HasCap}
use Rattle.ti_cert.specs.Certificates.{rival, speaks_of, looks_of, IsAskedFor}
use Rattle.ti_cert.proofs.AuditSteps.{has_cap}
use Rattle.ti_cert.proofs.Preservation.{asked_by}
use Rattle.ti_cert.proofs.Singleness.{never_itself}
use Rattle.ti_checker.specs.First.{SendsAsked, RowStands}
use Rattle.ti_checker.specs.Limit.{IsLineOf, IsLineFor}
use Rattle.ti_checker.specs.Taught.{IsAskedOf, IsTaught, AtFirst, After}
use Rattle.ti_checker.proofs.Doubts.{same_effect}
use Rattle.ti_checker.proofs.Walks.{same_string}

-- each line comes after those that follow it in the list, so the latest is first
abbrev pub Falls : ℕ → ℕ → List RowLine → Type 0
Falls rows cols [] = Unit {0}
Falls rows cols (line ∷ lines) = ((other : RowLine) → IsAmong lines other → Precedes rows cols other.row line.row) × Falls rows cols lines

-- the entry's lines for all checked rows before this one, the latest first
pub record AreBefore (entry : Content) (rows cols : ℕ) (row : Row) (lines : List RowLine) : Type 0 where
  pub each : (line : RowLine) → IsAmong lines line → IsLineOf entry rows cols line
  pub held : (line : RowLine) → IsAmong lines line → Precedes rows cols line.row row
  pub all : (other : Row) → IsInRange rows cols other → is_checked entry other ≡ true → Precedes rows cols other row → HasLine lines other
  pub falls : Falls rows cols lines

-- ---- `sgr`, or else single attributes

abbrev IsSgr : Row → Type 0
IsSgr row = order row ≡ order (Sgr no_attributes)

abbrev HasSgr : Content → Type 0
HasSgr entry = has_string entry (Sgr no_attributes) ≡ true

sgr_there : (entry : Content) (row : Row) → IsSgr row → is_checked entry row ≡ true → HasSgr entry
sgr_there entry row is checked =
    (and_parts (has_string entry (Sgr no_attributes)) (meets entry (group_of (Sgr no_attributes))) (sym (same_checked entry row (Sgr no_attributes) is) ∙ checked)).0

single_off : (entry : Content) (row : Row) → group_of row ≡ groups.Single → is_checked entry row ≡ true → HasSgr entry → ⊥
single_off entry row is checked has =
    let met : meets entry (group_of row) ≡ true = (and_parts (has_string entry row) (meets entry (group_of row)) checked).1 in
    let none : not (has_string entry (Sgr no_attributes)) ≡ true = ap (λ (g : Group). meets entry g) (sym is) ∙ met in
    true≢false (sym none ∙ ap not has)

-- if the entry has `sgr`, no other checked row teaches how attributes look
learned_same : (entry : Content) (row : Row) → HasSgr entry → is_checked entry row ≡ true → (IsSgr row → ⊥) → (e : Effect) (l : Looks) → learned row e l ≡ l
learned_same entry (Sgr a) has checked never e l = absurd (never refl)
learned_same entry Smul has checked never e l = absurd (single_off entry Smul refl checked has)
learned_same entry Rev has checked never e l = absurd (single_off entry Rev refl checked has)
learned_same entry Blink has checked never e l = absurd (single_off entry Blink refl checked has)
learned_same entry Dim has checked never e l = absurd (single_off entry Dim refl checked has)
learned_same entry Bold has checked never e l = absurd (single_off entry Bold refl checked has)
learned_same entry Invis has checked never e l = absurd (single_off entry Invis refl checked has)
learned_same entry Smso has checked never e l = absurd (single_off entry Smso refl checked has)
learned_same entry _ has checked never e l = refl

rival_is : (row : Row) → IsSgr row → rival row ≡ Smso
rival_is (Sgr a) is = refl
rival_is _ is = cc

abbrev AreOf : Content → ℕ → ℕ → List RowLine → Type 0
AreOf entry rows cols lines = (line : RowLine) → IsAmong lines line → IsLineOf entry rows cols line

never_spoken : (lines : List RowLine) (row : Row) → (HasCap lines row → ⊥) → speaks_of lines row ≡ false
never_spoken lines row never = elim (cases_Bool (speaks_of lines row)) [
  | inl e ↦ absurd (never (has_cap lines row row refl e))
  | inr e ↦ e
]

no_smso : (entry : Content) (rows cols : ℕ) (lines : List RowLine) → HasSgr entry → AreOf entry rows cols lines → speaks_of lines Smso ≡ false
no_smso entry rows cols lines has each = never_spoken lines Smso
    (λ c. single_off entry Smso refl (sym (same_checked entry c.line.row Smso c.of_cap) ∙ (each c.line c.among).sent.checked) has)

no_sgr : (entry : Content) (rows cols : ℕ) (lines : List RowLine) → is_checked entry Smso ≡ true → AreOf entry rows cols lines → speaks_of lines (Sgr no_attributes) ≡ false
no_sgr entry rows cols lines checked each = never_spoken lines (Sgr no_attributes)
    (λ c. single_off entry Smso refl checked (sgr_there entry c.line.row c.of_cap (each c.line c.among).sent.checked))

learnt : (lines : List RowLine) (line : RowLine) → speaks_of lines (rival line.row) ≡ false → looks_of (line ∷ lines) ≡ learned line.row line.effect (looks_of lines)
learnt lines line e = ap (λ (b : Bool). if b then looks_of lines else learned line.row line.effect (looks_of lines)) e

either : (b : Bool) (x y : Looks) → y ≡ x → (if b then x else y) ≡ x
either true x y e = refl
either false x y e = e

untaught : (entry : Content) (rows cols : ℕ) (lines : List RowLine) → HasSgr entry → AreOf entry rows cols lines → ((line : RowLine) → IsAmong lines line → IsSgr line.row → ⊥) → looks_of lines ≡ no_looks
untaught entry rows cols [] has each never = refl
untaught entry rows cols (line ∷ lines) has each never =
    either (speaks_of lines (rival line.row)) (looks_of lines) (learned line.row line.effect (looks_of lines))
    (learned_same entry line.row has (each line (inl refl)).sent.checked (never line (inl refl)) line.effect (looks_of lines))
    ∙ untaught entry rows cols lines has (λ l a. each l (inr a)) (λ l a. never l (inr a))

-- ---- the row before a row

never_first : (rows cols : ℕ) (one row : Row) → IsFirst rows cols row → order one ≡ order row → Precedes rows cols one row → ⊥
never_first rows cols one row first same (inl lt) = omega (arith, same, lt)
never_first rows cols one row first same (inr p) = let zero = first.rank_zero in let lt = p.1 in omega (arith, zero, lt)

-- no row is between a row and the one that follows it
never_between : (rows cols : ℕ) (one between row : Row) → Follows rows cols one row → Precedes rows cols one between → Precedes rows cols between row → ⊥
never_between rows cols one between row f (inl lt) (inl less) = let same = f.same_order in omega (arith, same, lt, less)
never_between rows cols one between row f (inl lt) (inr p) = let same = f.same_order in let e = p.0 in omega (arith, same, lt, e)
never_between rows cols one between row f (inr p) (inl less) = let same = f.same_order in let e = p.0 in omega (arith, same, less, e)
never_between rows cols one between row f (inr p) (inr q) = let next = f.rank_next in let lt = p.1 in let less = q.1 in omega (arith, next, lt, less)

before_next : (rows cols : ℕ) (other one row : Row) → Follows rows cols one row → Precedes rows cols other one → Precedes rows cols other row
before_next rows cols other one row f (inl lt) = let same = f.same_order in inl (omega (arith, same, lt))
before_next rows cols other one row f (inr p) = let next = f.rank_next in let lt = p.1 in inr (p.0 ∙ sym f.same_order, omega (arith, next, lt))

just_before : (rows cols : ℕ) (one row : Row) → Follows rows cols one row → Precedes rows cols one row
just_before rows cols one row f = let next = f.rank_next in inr (sym f.same_order, omega (arith, next))

-- the latest line before a row is that of the row that it follows
head_is : (entry : Content) (rows cols : ℕ) (one row : Row) (head : RowLine) (tail : List RowLine) → Follows rows cols one row → AreBefore entry rows cols row (head ∷ tail) → HasLine (head ∷ tail) one → head.row ≡ one
head_is entry rows cols one row head tail f b h = by_part h.among
  where
    by_part : IsAmong (head ∷ tail) h.line → head.row ≡ one
    by_part (inl e) = ap (λ (l : RowLine). l.row) (sym e) ∙ h.of_row
    by_part (inr a) = absurd (never_between rows cols one head.row row f (subst (λ (r : Row). Precedes rows cols r head.row) h.of_row (b.falls.0 h.line a)) (b.held head (inl refl)))

tail_before : (entry : Content) (rows cols : ℕ) (one row : Row) (head : RowLine) (tail : List RowLine) → Follows rows cols one row → head.row ≡ one → AreBefore entry rows cols row (head ∷ tail) → AreBefore entry rows cols one tail
tail_before entry rows cols one row head tail f same b = record {
  each = λ line a. b.each line (inr a);
  held = λ line a. subst (λ (r : Row). Precedes rows cols line.row r) same (b.falls.0 line a);
  all = λ other range checked p. by_part other p (b.all other range checked (before_next rows cols other one row f p));
  falls = b.falls.1;
}
  where
    by_among : (other : Row) → Precedes rows cols other one → (line : RowLine) → line.row ≡ other → IsAmong (head ∷ tail) line → HasLine tail other
    by_among other p line e (inl is) = absurd (never_itself rows cols one (subst (λ (r : Row). Precedes rows cols r one) (sym e ∙ (ap (λ (l : RowLine). l.row) is ∙ same)) p))
    by_among other p line e (inr a) = record { line = line; among = a; of_row = e }

    by_part : (other : Row) → Precedes rows cols other one → HasLine (head ∷ tail) other → HasLine tail other
    by_part other p h = by_among other p h.line h.of_row h.among

-- the entry's line, as one of the string
for_string : (entry : Content) (rows cols : ℕ) (string : List ℕ) (row : Row) (line : RowLine) → string_of entry row ≡ Some string → order line.row ≡ order row → IsLineOf entry rows cols line → IsLineFor rows cols string line
for_string entry rows cols string row line there same is =
    let s = is.sent.sends in
    let own : s.string ≡ string = same_Some s.string string (sym s.there ∙ (same_string entry line.row row same ∙ there)) in
    subst (λ (x : List ℕ). IsLineFor rows cols x line) own (record { sends = s.sends; has = is.has })

-- ---- looks that are taught

learned_by : (one other : Row) (e f : Effect) (l m : Looks) → one ≡ other → e ≡ f → l ≡ m → learned one e l ≡ learned other f m
learned_by one other e f l m p q r = ap (λ (x : Row). learned x e l) p ∙ (ap (λ (x : Effect). learned other x l) q ∙ ap (λ (x : Looks). learned other f x) r)

pub taught_is : (entry : Content) (rows cols : ℕ) (string : List ℕ) (row : Row) (looks : Looks) → IsTaught rows cols string row looks → IsSgr row → is_checked entry row ≡ true → string_of entry row ≡ Some string
    → (lines : List RowLine) → AreBefore entry rows cols row lines → looks_of lines ≡ looks
taught_is entry rows cols string row looks (AtFirst _ _ first e) is checked there lines b =
    untaught entry rows cols lines (sgr_there entry row is checked) b.each (λ line a same. never_first rows cols line.row row first (same ∙ sym is) (b.held line a)) ∙ sym e
taught_is entry rows cols string row looks (After line _ before _ range f earlier own asked e) is checked there lines b =
    by_lines lines b (λ tail c. taught_is entry rows cols string line.row before earlier (sym f.same_order ∙ is) checked_there (same_string entry line.row row (sym f.same_order) ∙ there) tail c)
  where
    checked_there : is_checked entry line.row ≡ true
    checked_there = same_checked entry line.row row (sym f.same_order) ∙ checked

    by_lines : (list : List RowLine) → AreBefore entry rows cols row list → ((tail : List RowLine) → AreBefore entry rows cols line.row tail → looks_of tail ≡ before) → looks_of list ≡ looks
    by_lines [] c so_far = absurd (c.all line.row range checked_there (just_before rows cols line.row row f)).among
    by_lines (head ∷ tail) c so_far =
        let same : head.row ≡ line.row = head_is entry rows cols line.row row head tail f c (c.all line.row range checked_there (just_before rows cols line.row row f)) in
        let sgr : IsSgr head.row = ap order same ∙ (sym f.same_order ∙ is) in
        let effects : head.effect ≡ line.effect = same_effect rows cols string head line same (for_string entry rows cols string row head there (ap order same ∙ sym f.same_order) (c.each head (inl refl))) own in
        let quiet : speaks_of tail (rival head.row) ≡ false = ap (λ (r : Row). speaks_of tail r) (rival_is head.row sgr) ∙ no_smso entry rows cols tail (sgr_there entry row is checked) (λ l a. c.each l (inr a)) in
        learnt tail head quiet ∙ (learned_by head.row line.row head.effect line.effect (looks_of tail) before same effects (so_far tail (tail_before entry rows cols line.row row head tail f same c)) ∙ sym e)

smso_shows : (row : Row) (e : Effect) (l m : Looks) → row ≡ Smso → (learned row e l).standout ≡ (learned row e m).standout
smso_shows row e l m h = rw h refl

-- a line that is asked for with the looks that its string's rows teach is asked for with those of the lines before it
pub asked_before : (entry : Content) (rows cols : ℕ) (line : RowLine) (lines : List RowLine) → IsLineOf entry rows cols line → RowStands entry rows cols line.row → AreBefore entry rows cols line.row lines → IsAskedFor lines line
asked_before entry rows cols line lines is stands b = asked ∙ asked_by (learned line.row line.effect r.looks) (looks_of (line ∷ lines)) line.row line.effect sets standout
  where
    r : SendsAsked rows cols is.sent.sends.string line.row
    r = stands is.sent.checked is.sent.sends.string is.sent.sends.there

    effects : r.effect ≡ line.effect
    effects = same_effect rows cols is.sent.sends.string (record { row = line.row; bytes = r.bytes; effect = r.effect }) line refl r.is (record { sends = is.sent.sends.sends; has = is.has })

    asked : IsAskedOf r.looks line.row line.effect
    asked = subst (λ (e : Effect). IsAskedOf r.looks line.row e) effects r.asked

    sets : (a : Attributes) → line.row ≡ Sgr a → shown (learned line.row line.effect r.looks) a ≡ shown (looks_of (line ∷ lines)) a
    sets a e =
        let sgr : IsSgr line.row = ap order e in
        let quiet : speaks_of lines (rival line.row) ≡ false = ap (λ (x : Row). speaks_of lines x) (rival_is line.row sgr) ∙ no_smso entry rows cols lines (sgr_there entry line.row sgr is.sent.checked) b.each in
        let taught : looks_of lines ≡ r.looks = taught_is entry rows cols is.sent.sends.string line.row r.looks r.taught sgr is.sent.checked is.sent.sends.there lines b in
        ap (λ (l : Looks). shown l a) (sym (learnt lines line quiet ∙ ap (λ (l : Looks). learned line.row line.effect l) taught))

    standout : line.row ≡ Smso → (learned line.row line.effect r.looks).standout ≡ (looks_of (line ∷ lines)).standout
    standout e =
        let quiet : speaks_of lines (rival line.row) ≡ false = ap (λ (x : Row). speaks_of lines (rival x)) e ∙ no_sgr entry rows cols lines (ap (λ (x : Row). is_checked entry x) (sym e) ∙ is.sent.checked) b.each in
        smso_shows line.row line.effect r.looks (looks_of lines) e ∙ sym (ap (λ (l : Looks). l.standout) (learnt lines line quiet))
