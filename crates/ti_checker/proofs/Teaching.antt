-- Looks with which the rows of a string are right agree with what those rows teach.
use Rattle.std.proofs.Common.{◌≡◌, ◌⊎◌, inl, inr, ℕ, ◌==◌, ◌||◌, ◌&&◌, ◌<◌, ◌≤◌, ◌+◌, not, Bool, true, false, List, [], refl, sym, ap, subst, ◌∙◌, arith}
use Rattle.std.proofs.Math.Nat.{eq-or-lt_of_le}
use Rattle.std.proofs.lemmas.Bool.{true≢false, false≢true}
use Rattle.vt_term.specs.Screen.{State, Screen}
use Rattle.vt_term.proofs.Runs.{runs_once}
use Rattle.vt_effects.specs.declared.effects.Effect.{Effect}
use Rattle.ti_rows.specs.Bits.{bit, number_of}
use Rattle.ti_rows.specs.Lists.{Follows, rank}
use Rattle.ti_rows.specs.Looks.{learned, shown}
use Rattle.ti_rows.specs.Names.{no_attributes}
use Rattle.ti_rows.specs.Right.{IsRight, EndsWell}
use Rattle.ti_rows.specs.Starts.{IsFree}
use Rattle.ti_rows.specs.declared.rows.Attributes.{Attributes}
use Rattle.ti_rows.specs.declared.rows.Looks.{Looks}
use Rattle.ti_rows.specs.declared.rows.Marks.{Marks}
use Rattle.ti_rows.specs.declared.rows.Row.{Row}
use Rattle.ti_rows.specs.declared.rows.Row.TheVariants.{Sgr}
use Rattle.ti_rows.proofs.Answers.{earlier_kept}
use Rattle.ti_rows.proofs.ListFacts.{one_of_rank}
use Rattle.ti_rows.proofs.Rightness.{recorded_is_right}
use Rattle.ti_lines.specs.declared.row_lines.RowLine.{RowLine}
use Rattle.ti_conforms.specs.Looks.{is_single}
use Rattle.ti_conforms.specs.Sends.{Sends}
use Rattle.ti_checker.specs.Alone.{is_several, marks_of}
use Rattle.ti_checker.specs.Breakage.{AgreeBefore}
use Rattle.ti_checker.specs.First.{SendsRight, StandBefore}
use Rattle.ti_checker.specs.Limit.{IsLineFor}
use Rattle.ti_checker.specs.Taught.{IsAskedOf, IsTaught, AtFirst, After}
use Rattle.ti_checker.proofs.Mislooked.{just_marks}

-- ---- a row of `sgr` that is right with two looks shows the same with both

same_shown : (rows cols : ℕ) (l m : Looks) (a : Attributes) (bytes : List ℕ) (s : Screen) → IsFree rows cols s → IsRight rows cols l (Sgr a) bytes → IsRight rows cols m (Sgr a) bytes → shown l a ≡ shown m a
same_shown rows cols l m a bytes s free h k =
    let t : State = record { screen = s; rest = [] } in
    let p : EndsWell l (Sgr a) t bytes = h.ends t refl free in
    let q : EndsWell m (Sgr a) t bytes = k.ends t refl free in
    sym (just_marks (shown l a) s p.after.screen p.wanted)
    ∙ sym (ap (λ (x : State). marks_of x.screen.rendition) (runs_once t p.after q.after bytes p.runs q.runs))
    ∙ just_marks (shown m a) s q.after.screen q.wanted

-- ---- one row after another

agree_first : (rows cols : ℕ) (row : Row) (l m : Looks) → rank rows cols row ≡ 0 → AgreeBefore row l m
agree_first rows cols (Sgr a) l m zero = λ b lt. absurd (omega (arith, zero, lt))
agree_first rows cols _ l m zero = tt

-- if the row is one of `sgr`, both looks show it by the same marks
abbrev SameHere : Row → Looks → Looks → Type 0
SameHere row l m = (a : Attributes) → row ≡ Sgr a → shown l a ≡ shown m a

sets_more : (rows cols : ℕ) (a b : Attributes) (e : Effect) (before after m : Looks) → number_of b ≡ number_of a + 1 → after ≡ learned (Sgr a) e before → AgreeBefore (Sgr a) before m → SameHere (Sgr a) after m → AgreeBefore (Sgr b) after m
sets_more rows cols a b e before after m next is agree here c lt = by_number (eq-or-lt_of_le (omega (arith, next, lt)))
  where
    by_number : (number_of c ≡ number_of a) ⊎ (number_of c < number_of a) → shown after c ≡ shown m c
    by_number (inl same) =
        let rows_same : Sgr c ≡ Sgr a = one_of_rank rows cols (Sgr c) (Sgr a) tt tt refl same in
        here c (sym rows_same)
    by_number (inr less) = ap (λ (l : Looks). shown l c) is ∙ (earlier_kept before a c e less ∙ agree c less)

agree_next : (rows cols : ℕ) (row other : Row) (e : Effect) (before after m : Looks) → Follows rows cols row other → after ≡ learned row e before → AgreeBefore row before m → SameHere row after m → AgreeBefore other after m
agree_next rows cols (Sgr a) (Sgr b) e before after m f is agree here = sets_more rows cols a b e before after m f.rank_next is agree here
agree_next rows cols _ (Sgr b) e before after m f is agree here = let o = f.same_order in absurd (omega (arith, o))
agree_next rows cols _ _ e before after m f is agree here = tt

-- ---- all rows before a row

pub one_sent : (string : List ℕ) (row : Row) (a b : List ℕ) → Sends string row a → Sends string row b → a ≡ b
one_sent string row a b s t = cc (s.sends, t.sends)

same_here : (rows cols : ℕ) (string : List ℕ) (line : RowLine) (before after m : Looks) (s : Screen) → IsFree rows cols s → IsLineFor rows cols string line → IsAskedOf before line.row line.effect
    → after ≡ learned line.row line.effect before → SendsRight rows cols m string line.row → SameHere line.row after m
same_here rows cols string line before after m s free is asked taught right a e =
    let own : IsRight rows cols after line.row line.bytes = subst (λ (l : Looks). IsRight rows cols l line.row line.bytes) (sym taught)
    (recorded_is_right rows cols (learned line.row line.effect before) line.row line.bytes is.has.tokens line.effect is.has.splits is.has.recorded asked) in
    let other : IsRight rows cols m line.row line.bytes = subst (λ (x : List ℕ). IsRight rows cols m line.row x) (one_sent string line.row right.bytes line.bytes right.sends is.sends) right.right in
    same_shown rows cols after m a line.bytes s free (subst (λ (r : Row). IsRight rows cols after r line.bytes) e own) (subst (λ (r : Row). IsRight rows cols m r line.bytes) e other)

pub agreeing : (rows cols : ℕ) (string : List ℕ) (m : Looks) (s : Screen) → IsFree rows cols s → (row : Row) (taught : Looks) → IsTaught rows cols string row taught → StandBefore rows cols m string row → AgreeBefore row taught m
agreeing rows cols string m s free row taught (AtFirst _ _ first none) stand = agree_first rows cols row taught m first.rank_zero
agreeing rows cols string m s free row taught (After line _ before _ range f earlier is asked e) stand =
    agree_next rows cols line.row row line.effect before taught m f e
    (agreeing rows cols string m s free line.row before earlier (λ other in_range same lt. let next = f.rank_next in stand other in_range (same ∙ sym f.same_order) (omega (arith, next, lt))))
    (same_here rows cols string line before taught m s free is asked e (stand line.row range (sym f.same_order) (let next = f.rank_next in omega (arith, next))))

-- ---- a set of several attributes is shown as each of them is alone

one_of : (b c : Bool) → (b || false) ≡ (c || false) → b ≡ c
one_of true true h = refl
one_of true false h = absurd (true≢false h)
one_of false true h = absurd (false≢true h)
one_of false false h = refl

either_shown : (a s lx mx sx tx : Bool) → (a ≡ true → lx ≡ mx) → (s ≡ true → sx ≡ tx) → ((a && lx) || (s && sx)) ≡ ((a && mx) || (s && tx))
either_shown true true lx mx sx tx f g = ap (λ (z : Bool). z || sx) (f refl) ∙ ap (λ (z : Bool). mx || z) (g refl)
either_shown true false lx mx sx tx f g = ap (λ (z : Bool). z || false) (f refl)
either_shown false true lx mx sx tx f g = g refl
either_shown false false lx mx sx tx f g = refl

abbrev pub sets : Bool → Bool → Bool → Bool → Bool → Bool → Marks
sets b f u k n c = record { bold = b; faint = f; underline = u; blink = k; negative = n; concealed = c }

pub same_sets : (b f u k n c b' f' u' k' n' c' : Bool) → b ≡ b' → f ≡ f' → u ≡ u' → k ≡ k' → n ≡ n' → c ≡ c' → sets b f u k n c ≡ sets b' f' u' k' n' c'
same_sets b f u k n c b' f' u' k' n' c' p q r s t v =
    ap (λ (z : Bool). sets z f u k n c) p
    ∙ (ap (λ (z : Bool). sets b' z u k n c) q
    ∙ (ap (λ (z : Bool). sets b' f' z k n c) r
    ∙ (ap (λ (z : Bool). sets b' f' u' z n c) s
    ∙ (ap (λ (z : Bool). sets b' f' u' k' z c) t
    ∙ ap (λ (z : Bool). sets b' f' u' k' n' z) v))))

abbrev Several : ℕ → Type 0
Several n = not (is_single n || n == 64) ≡ true

greater : (n k : ℕ) → Several n → not (is_single k || k == 64) ≡ false → k ≤ n → k < n
greater n k h single le = by_case (eq-or-lt_of_le le)
  where
    by_case : (k ≡ n) ⊎ (k < n) → k < n
    by_case (inl e) = absurd (false≢true (sym single ∙ (ap (λ (x : ℕ). not (is_single x || x == 64)) e ∙ h)))
    by_case (inr lt) = lt

-- an attribute that is on counts in the number of its set
has_bit : (b : Bool) → b ≡ true → bit b ≡ 1
has_bit b h = ap bit h

pub several_shown : (a : Attributes) (l m : Looks) → is_several (Sgr a) ≡ true → AgreeBefore (Sgr a) l m → shown l a ≡ shown m a
several_shown a l m several agree = same_sets _ _ _ _ _ _ _ _ _ _ _ _
    (either_shown a.bold a.standout l.bold m.bold l.standout.bold m.standout.bold bold (λ h. ap (λ (x : Marks). x.bold) (standout h)))
    (either_shown a.dim a.standout l.dim m.dim l.standout.faint m.standout.faint dim (λ h. ap (λ (x : Marks). x.faint) (standout h)))
    (either_shown a.underline a.standout l.underline m.underline l.standout.underline m.standout.underline underline (λ h. ap (λ (x : Marks). x.underline) (standout h)))
    (either_shown a.blink a.standout l.blink m.blink l.standout.blink m.standout.blink blink (λ h. ap (λ (x : Marks). x.blink) (standout h)))
    (either_shown a.reverse a.standout l.reverse m.reverse l.standout.negative m.standout.negative reverse (λ h. ap (λ (x : Marks). x.negative) (standout h)))
    (either_shown a.invisible a.standout l.invisible m.invisible l.standout.concealed m.standout.concealed invisible (λ h. ap (λ (x : Marks). x.concealed) (standout h)))
  where
    standout : a.standout ≡ true → shown l (record no_attributes { standout = true }) ≡ shown m (record no_attributes { standout = true })
    standout h = let b = has_bit a.standout h in agree (record no_attributes { standout = true }) (greater (number_of a) 64 several refl (omega (arith, b)))

    underline : a.underline ≡ true → l.underline ≡ m.underline
    underline h = let b = has_bit a.underline h in
        one_of l.underline m.underline (ap (λ (x : Marks). x.underline) (agree (record no_attributes { underline = true }) (greater (number_of a) 32 several refl (omega (arith, b)))))

    reverse : a.reverse ≡ true → l.reverse ≡ m.reverse
    reverse h = let b = has_bit a.reverse h in
        one_of l.reverse m.reverse (ap (λ (x : Marks). x.negative) (agree (record no_attributes { reverse = true }) (greater (number_of a) 16 several refl (omega (arith, b)))))

    blink : a.blink ≡ true → l.blink ≡ m.blink
    blink h = let b = has_bit a.blink h in
        one_of l.blink m.blink (ap (λ (x : Marks). x.blink) (agree (record no_attributes { blink = true }) (greater (number_of a) 8 several refl (omega (arith, b)))))

    dim : a.dim ≡ true → l.dim ≡ m.dim
    dim h = let b = has_bit a.dim h in
        one_of l.dim m.dim (ap (λ (x : Marks). x.faint) (agree (record no_attributes { dim = true }) (greater (number_of a) 4 several refl (omega (arith, b)))))

    bold : a.bold ≡ true → l.bold ≡ m.bold
    bold h = let b = has_bit a.bold h in
        one_of l.bold m.bold (ap (λ (x : Marks). x.bold) (agree (record no_attributes { bold = true }) (greater (number_of a) 2 several refl (omega (arith, b)))))

    invisible : a.invisible ≡ true → l.invisible ≡ m.invisible
    invisible h = let b = has_bit a.invisible h in
        one_of l.invisible m.invisible (ap (λ (x : Marks). x.concealed) (agree (record no_attributes { invisible = true }) (greater (number_of a) 1 several refl (omega (arith, b)))))
