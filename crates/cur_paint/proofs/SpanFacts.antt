-- Cells that go out in one piece.
use Rattle.std.proofs.Common.{◌≡◌, ◌+◌, ◌-◌, ◌*◌, ◌<◌, ◌≤◌, ℕ, Bool, true, false, None, zero, suc, refl, if◌then◌else◌, List, length, length-take, slice_index_or, take, sym, ap, subst, ◌∙◌, arith}
use Rattle.std.proofs.lemmas.List.{get_or-take}
use Rattle.ti_conforms.specs.Certified.{Table, cell_limit}
use Rattle.cur_steps.specs.Inks.{blank_ink, byte_as, same}
use Rattle.cur_steps.specs.Stretches.{AreLike, AreShown, IsTextLike}
use Rattle.cur_steps.specs.declared.inks.Cells.{Cells}
use Rattle.cur_steps.specs.declared.inks.Ink.{Ink}
use Rattle.cur_steps.proofs.Sameness.{byte_as_is, byte_as_known}
use Rattle.cur_paint.specs.Differ.{differs, span, HasFewGaps, IsSameBy}
use Rattle.cur_paint.specs.Scenes.{AreInked}
use Rattle.cur_paint.proofs.Mixtures.{span_grows, span_more, times_grows}

grows_each : (d few : ℕ) → (d + 1) * (few + 1) ≡ d * (few + 1) + (few + 1)
grows_each d few = grind arith

-- a piece becomes longer by a place that differs, after few that don't
pub piece_longer : (old new : ℕ → ℕ → Ink) (i from end k few : ℕ) → end ≤ k → k ≤ end + few → end ≤ span old new i from end * (few + 1) → differs old new i (from + k) ≡ 1
    → k + 1 ≤ span old new i from (k + 1) * (few + 1)
piece_longer old new i from end k few le gap short one =
    let more = span_more old new i from k in
    let grown : span old new i from end + 1 ≤ span old new i from (k + 1) = omega (arith, more, one, span_grows old new i from end k le) in
    omega (arith, times_grows (span old new i from end + 1) (span old new i from (k + 1)) (few + 1) grown, grows_each (span old new i from end) few, short, gap)

-- the end of a piece after one more place, which is the same or differs
pub end_within : {t : Bool} (end k result : ℕ) → (t ≡ true → result ≡ end) → (t ≡ false → result ≡ k + 1) → end ≤ k → result ≤ k + 1
end_within {t = true} end k result stays moves le = let e = stays refl in omega (arith, e, le)
end_within {t = false} end k result stays moves le = let e = moves refl in omega (arith, e)

pub piece_goes_on : {t : Bool} (old new : ℕ → ℕ → Ink) (i from end k few result : ℕ) → (t ≡ true → result ≡ end) → (t ≡ false → result ≡ k + 1) → differs old new i (from + k) ≡ (if t then 0 else 1)
    → end ≤ k → k ≤ end + few → end ≤ span old new i from end * (few + 1) → result ≤ span old new i from result * (few + 1)
piece_goes_on {t = true} old new i from end k few result stays moves told le gap short = subst (λ (n : ℕ). n ≤ span old new i from n * (few + 1)) (sym (stays refl)) short
piece_goes_on {t = false} old new i from end k few result stays moves told le gap short =
    subst (λ (n : ℕ). n ≤ span old new i from n * (few + 1)) (sym (moves refl)) (piece_longer old new i from end k few le gap short told)

times_more : (d few n : ℕ) → few + 1 ≤ n → d * (few + 1) ≤ d * n
times_more d few n le = grind arith

-- a piece has no more places than bytes may go out for those of them that differ
pub piece_short : (t : Table) (d few n : ℕ) → n ≤ d * (few + 1) → few ≤ t.longest.cup → n ≤ d * cell_limit t
piece_short t d few n short le =
    let room : few + 1 ≤ cell_limit t = omega (arith, le) in
    omega (arith, short, times_more d few (cell_limit t) room)

-- one more place of a line, which is the same or differs
pub marks_on : {t : Bool} (old new : ℕ → ℕ → Ink) (i from k count one : ℕ) → (t ≡ true → one ≡ 0) → (t ≡ false → one ≡ 1) → differs old new i (from + k) ≡ (if t then 0 else 1)
    → count ≡ span old new i from k → count + one ≡ span old new i from (k + 1)
marks_on {t = true} old new i from k count one stays moves told e = let none = stays refl in omega (arith, none, told, e, span_more old new i from k)
marks_on {t = false} old new i from k count one stays moves told e = let some = moves refl in omega (arith, some, told, e, span_more old new i from k)

-- a place of a line is printed in the set and the brush of itself
pub some_alike : (g : ℕ → ℕ → Ink) (s : Cells) (n : ℕ) (text : List ℕ) → IsTextLike g s s.from n text → 0 < s.count → 0 < length text → 0 < n
some_alike g s zero text found some room =
    let P : ℕ → Type 0 = λ k. byte_as (g s.row k) (g s.row s.from) ≡ None in
    let here : s.from + 0 ≡ s.from = omega arith in
    let none : byte_as (g s.row s.from) (g s.row s.from) ≡ None = subst P here (found.end some room) in
    let known = byte_as_known (g s.row s.from) (g s.row s.from) (g s.row s.from).byte refl in
    absurd (cc)
some_alike g s (suc n) text found some room = omega arith

-- a place that becomes blank
pub blank_differs : (old new : ℕ → ℕ → Ink) (i from n k : ℕ) → from ≤ k → k < from + n → same (old i k) blank_ink ≡ false → new i k ≡ blank_ink → 0 < span old new i from n
blank_differs old new i from n k le lt other blank =
    let told : differs old new i k ≡ 1 = ap (λ (x : Ink). if same (old i k) x then 0 else 1) blank ∙ ap (λ (t : Bool). if t then 0 else 1) other in
    let at : from + (k - from) ≡ k = omega (arith, le) in
    let here : differs old new i (from + (k - from)) ≡ 1 = subst (λ (m : ℕ). differs old new i m ≡ 1) (sym at) told in
    omega (arith, here, span_more old new i from (k - from), span_grows old new i from (k - from + 1) n (omega (arith, le, lt)))

-- a piece without a gap is one with few
pub gaps_wider : (marks : List Bool) (few n : ℕ) → HasFewGaps marks 0 n → HasFewGaps marks few n
gaps_wider marks few n short old new i from same =
    omega (arith, short old new i from same, times_more (span old new i from n) 0 (few + 1) (omega arith))

pub are_of : (new : ℕ → ℕ → Ink) (cells : Cells) (like n : ℕ) (ink : Ink) (text : List ℕ) → ink ≡ new cells.row like → AreLike new cells like n text → AreInked new cells ink n text
are_of new cells like n ink text e h k lt =
    subst (λ (z : Ink). new cells.row (cells.from + k) ≡ record z { byte = slice_index_or text k 0 }) (sym e)
    (byte_as_is (new cells.row (cells.from + k)) (new cells.row like) (slice_index_or text k 0) (h k lt))

pub same_by : (old new : ℕ → ℕ → Ink) (cells : Cells) (ink : Ink) (n : ℕ) (text : List ℕ) (marks : List Bool) → AreInked new cells ink n text → AreShown old (record cells { count = n }) ink text marks
    → IsSameBy old new cells.row cells.from (take n marks)
same_by old new cells ink n text marks are shown k lt =
    let within : k < n = omega (arith, lt, length-take n marks) in
    get_or-take n marks k false within ∙ shown k within ∙ ap (λ (x : Ink). same (old cells.row (cells.from + k)) x) (sym (are k within))
