-- The strings for some rows, sent one after another.
use Rattle.std.proofs.Common.{◌≡◌, ℕ, ◌+◌, ◌<◌, ◌≤◌, List, ◌++◌, length, drop, get_or, Err, sym, ap, subst, ◌∙◌, append_assoc}
use Rattle.std.proofs.lemmas.List.{append-nil, at_drop_more, drop_all}
use Rattle.cur_steps.specs.Wire.{IsWire, StopsIn}
use Rattle.cur_steps.proofs.Paints.{sends_then, stops_more}
use Rattle.ti_rows.specs.declared.rows.Row.{Row}
use Rattle.ti_conforms.specs.Certified.{Table, text_of}
use Rattle.cur_steps.specs.Texts.{texts_of}

-- the strings for the first n rows went out
pub record IsSentTo {W : Type 0} (went : W → W → List ℕ → Type 0) (a b : W) (t : Table) (rows : List Row) (n : ℕ) : Type 0 where
  pub sent : List ℕ
  pub goes : went a b sent
  pub ahead : sent ++ texts_of t (drop n rows) ≡ texts_of t rows

-- with the next one
next_ahead : (t : Table) (rows : List Row) (n : ℕ) (d : Row) (sent : List ℕ) → n < length rows → sent ++ texts_of t (drop n rows) ≡ texts_of t rows → (sent ++ text_of t (get_or rows n d)) ++ texts_of t (drop (n + 1) rows) ≡ texts_of t rows
next_ahead t rows n d sent lt e =
    append_assoc sent (text_of t (get_or rows n d)) (texts_of t (drop (n + 1) rows))
    ∙ ap (λ (l : List ℕ). sent ++ l) (sym (at_drop_more (λ (rs : List Row). texts_of t rs) rows n d lt)) ∙ e

pub sent_more : {W : Type 0} (went : W → W → List ℕ → Type 0) (failures : W → ℕ) → IsWire went failures → (a b z : W) (t : Table) (rows : List Row) (n : ℕ) (d : Row) → n < length rows
    → IsSentTo went a b t rows n → went b z (text_of t (get_or rows n d)) → IsSentTo went a z t rows (n + 1)
sent_more went failures laws a b z t rows n d lt h goes =
    record { sent = h.sent ++ text_of t (get_or rows n d); goes = laws.joins a b z h.sent (text_of t (get_or rows n d)) h.goes goes; ahead = next_ahead t rows n d h.sent lt h.ahead }

pub sent_short : {W : Type 0} (went : W → W → List ℕ → Type 0) (failures : W → ℕ) → IsWire went failures → (a b z : W) (t : Table) (rows : List Row) (n : ℕ) (d : Row) → n < length rows
    → IsSentTo went a b t rows n → StopsIn went failures b z (text_of t (get_or rows n d)) → StopsIn went failures a z (texts_of t rows)
sent_short went failures laws a b z t rows n d lt h stops =
    let x : List ℕ = text_of t (get_or rows n d) in
    let both : StopsIn went failures a z (h.sent ++ x) = sends_then {T = Unit {0}} {E = Unit {0}} went failures laws a b z h.sent x (Err tt) h.goes stops in
    subst (λ (l : List ℕ). StopsIn went failures a z l) (next_ahead t rows n d h.sent lt h.ahead) (stops_more went failures a z (h.sent ++ x) (texts_of t (drop (n + 1) rows)) both)

pub sent_all : {W : Type 0} (went : W → W → List ℕ → Type 0) (a b : W) (t : Table) (rows : List Row) (n : ℕ) → length rows ≤ n → IsSentTo went a b t rows n → went a b (texts_of t rows)
sent_all went a b t rows n le h =
    subst (λ (l : List ℕ). went a b l) (sym (append-nil h.sent) ∙ ap (λ (rs : List Row). h.sent ++ texts_of t rs) (sym (drop_all n rows le)) ∙ h.ahead) h.goes
