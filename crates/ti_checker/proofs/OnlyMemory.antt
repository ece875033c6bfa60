-- A string that stands for a row has no fault there: if it gets one, memory ran out.
use Rattle.std.proofs.Common.{◌≡◌, ◌⊎◌, inl, inr, ℕ, ◌+◌, ◌<◌, Bool, true, List, Some, refl, sym, ap, subst, ◌∙◌, arith}
use Rattle.std.proofs.Math.Nat.{eq-or-lt_of_le}
use Rattle.std.proofs.lemmas.Bool.{and_parts}
use Rattle.vt_term.specs.Screen.{State, Screen}
use Rattle.vt_effects.specs.declared.effects.Effect.{Effect}
use Rattle.ti_caps.specs.Entry.{Content}
use Rattle.ti_rows.specs.Bits.{number_of}
use Rattle.ti_rows.specs.Lists.{IsInRange, Follows, rank}
use Rattle.ti_rows.specs.Looks.{learned, shown}
use Rattle.ti_rows.specs.Names.{order}
use Rattle.ti_rows.specs.Right.{IsRight, EndsWell}
use Rattle.ti_rows.specs.Wants.{Wants, HasJust, Renders, adding}
use Rattle.ti_rows.specs.declared.rows.Looks.{Looks}
use Rattle.ti_rows.specs.declared.rows.Marks.{Marks}
use Rattle.ti_rows.specs.declared.rows.Row.{Row}
use Rattle.ti_rows.specs.declared.rows.Row.TheVariants.{Sgr, Smso}
use Rattle.ti_rows.proofs.Answers.{earlier_kept}
use Rattle.ti_rows.proofs.ListFacts.{one_of_rank}
use Rattle.ti_rows.proofs.Rightness.{recorded_is_right}
use Rattle.ti_conforms.specs.Entries.{is_checked, string_of}
use Rattle.ti_checker.specs.Breakage.{AgreeBefore}
use Rattle.ti_checker.specs.First.{SendsAsked, SendsRight, StandBefore}
use Rattle.ti_checker.specs.Kept.{KeptStand, is_sent}
use Rattle.ti_checker.specs.No.{IsFaulty, ClaimsNothing}
use Rattle.ti_checker.specs.Taught.{IsTaught, AtFirst, After}
use Rattle.ti_checker.specs.declared.causes.Cause.{Cause}
use Rattle.ti_checker.specs.declared.causes.Cause.TheVariants.{NotTame, NotShown, NoMemory}
use Rattle.ti_checker.proofs.Doubts.{never_untamed, never_unasked}
use Rattle.ti_checker.proofs.Exclusions.{none_faulty}

-- ---- looks with which a row is right

-- the looks show the row alike
abbrev SameShown : Row → Looks → Looks → Type 0
SameShown (Sgr a) l m = shown l a ≡ shown m a
SameShown Smso l m = l.standout ≡ m.standout
SameShown _ l m = Unit {0}

wants_too : (l m : Looks) (row : Row) (s t : Screen) → SameShown row l m → Wants l row s t → Wants m row s t
wants_too l m (Sgr a) s t same w = subst (λ (k : Marks). HasJust k s t) same w
wants_too l m Smso s t same w = subst (λ (k : Marks). Renders (adding k s.rendition) s t) same w
wants_too l m _ s t same w = w

right_too : (rows cols : ℕ) (l m : Looks) (row : Row) (bytes : List ℕ) → SameShown row l m → IsRight rows cols l row bytes → IsRight rows cols m row bytes
right_too rows cols l m row bytes same r = record {
  tokens = r.tokens;
  whole = r.whole;
  ends = λ s rest starts. ends s (r.ends s rest starts);
  tame = r.tame;
  margins = r.margins;
  visible = r.visible;
}
  where
    ends : (s : State) → EndsWell l row s bytes → EndsWell m row s bytes
    ends s e = record { after = e.after; runs = e.runs; rest = e.rest; wanted = wants_too l m row s.screen e.after.screen same e.wanted }

-- ---- the rows before a row

-- looks that agree with those taught before a row show the row that it follows alike
shown_there : (rows cols : ℕ) (one row : Row) (l m : Looks) → Follows rows cols one row → AgreeBefore row l m → SameShown one l m
shown_there rows cols (Sgr a) (Sgr b) l m f agree = let next : number_of b ≡ number_of a + 1 = f.rank_next in agree a (omega (arith, next))
shown_there rows cols (Sgr a) _ l m f agree = let o = f.same_order in absurd (omega (arith, o))
shown_there rows cols Smso Smso l m f agree = let next : rank rows cols Smso ≡ rank rows cols Smso + 1 = f.rank_next in absurd (omega (arith, next))
shown_there rows cols Smso _ l m f agree = let o = f.same_order in absurd (omega (arith, o))
shown_there rows cols _ _ l m f agree = tt

agree_back : (rows cols : ℕ) (one row : Row) (e : Effect) (before taught m : Looks) → Follows rows cols one row → taught ≡ learned one e before → AgreeBefore row taught m → AgreeBefore one before m
agree_back rows cols (Sgr a) (Sgr b) e before taught m f is agree = λ c lt.
    let next : number_of b ≡ number_of a + 1 = f.rank_next in
    sym (earlier_kept before a c e lt) ∙ (sym (ap (λ (l : Looks). shown l c) is) ∙ agree c (omega (arith, next, lt)))
agree_back rows cols (Sgr a) _ e before taught m f is agree = let o = f.same_order in absurd (omega (arith, o))
agree_back rows cols _ _ e before taught m f is agree = tt

agree_learned : (row : Row) (e : Effect) (l : Looks) → AgreeBefore row l (learned row e l)
agree_learned (Sgr a) e l = λ c lt. sym (earlier_kept l a c e lt)
agree_learned _ e l = tt

-- the rows before a row are right with all looks that agree with what they teach
stand_before : (rows cols : ℕ) (string : List ℕ) (m : Looks) (row : Row) (taught : Looks) → IsTaught rows cols string row taught → AgreeBefore row taught m → StandBefore rows cols m string row
stand_before rows cols string m row taught (AtFirst _ _ first none) agree other in_range same lt = let zero = first.rank_zero in absurd (omega (arith, zero, lt))
stand_before rows cols string m row taught (After line _ before _ range f earlier is asked e) agree other in_range same lt =
    let next = f.rank_next in
    by_rank (eq-or-lt_of_le (omega (arith, next, lt))) (stand_before rows cols string m line.row before earlier (agree_back rows cols line.row row line.effect before taught m f e agree) other in_range (same ∙ f.same_order))
  where
    own : IsRight rows cols taught line.row line.bytes
    own = subst (λ (l : Looks). IsRight rows cols l line.row line.bytes) (sym e) (recorded_is_right rows cols (learned line.row line.effect before) line.row line.bytes is.has.tokens line.effect is.has.splits is.has.recorded asked)

    here : SendsRight rows cols m string line.row
    here = record { bytes = line.bytes; sends = is.sends; right = right_too rows cols taught m line.row line.bytes (shown_there rows cols line.row row taught m f agree) own }

    by_rank : (rank rows cols other ≡ rank rows cols line.row) ⊎ (rank rows cols other < rank rows cols line.row) → (rank rows cols other < rank rows cols line.row → SendsRight rows cols m string other) → SendsRight rows cols m string other
    by_rank (inl k) before_it = subst (λ (r : Row). SendsRight rows cols m string r) (one_of_rank rows cols line.row other range in_range (sym (same ∙ f.same_order)) (sym k)) here
    by_rank (inr less) before_it = before_it less

-- ---- the faults of a string that stands

claims_nothing : (rows cols : ℕ) (string : List ℕ) (row : Row) (cause : Cause) → SendsAsked rows cols string row → IsFaulty rows cols string row cause → ClaimsNothing cause
claims_nothing rows cols string row cause r h =
    let l : Looks = learned row r.effect r.looks in
    none_faulty rows cols l string row cause (record { bytes = r.bytes; sends = r.is.sends; right = r.right }) (stand_before rows cols string l row r.looks r.taught (agree_learned row r.effect r.looks)) h

by_cause : (rows cols : ℕ) (string : List ℕ) (row : Row) (cause : Cause) → SendsAsked rows cols string row → IsFaulty rows cols string row cause → ClaimsNothing cause → cause ≡ NoMemory
by_cause rows cols string row NotTame r h c = absurd (never_untamed rows cols string row r h)
by_cause rows cols string row NotShown r h c = absurd (never_unasked rows cols string row r h)
by_cause rows cols string row NoMemory r h c = refl
by_cause rows cols string row _ r h c = absurd c

pub only_memory : (rows cols : ℕ) (string : List ℕ) (row : Row) (cause : Cause) → SendsAsked rows cols string row → IsFaulty rows cols string row cause → cause ≡ NoMemory
only_memory rows cols string row cause r h = by_cause rows cols string row cause r h (claims_nothing rows cols string row cause r h)

pub kept_memory : (entry : Content) (rows cols : ℕ) (kept : ℕ → Bool) (row : Row) (string : List ℕ) (cause : Cause) → KeptStand entry rows cols kept → IsInRange rows cols row → is_sent entry kept row ≡ true → string_of entry row ≡ Some string
    → IsFaulty rows cols string row cause → cause ≡ NoMemory
kept_memory entry rows cols kept row string cause stand range sent there h =
    let on = and_parts (kept (order row)) (is_checked entry row) sent in only_memory rows cols string row cause (stand row range on.0 on.1 string there) h
