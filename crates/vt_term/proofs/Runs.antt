-- Runs, one after another.
use Rattle.std.proofs.Common.{◌≡◌, ℕ, ◌+◌, ◌<◌, ◌≤◌, List, [], ◌∷◌, ◌++◌, length, take, drop, get_or, ◌-◌, Option, None, Some, IfSome, zero, suc, inl, inr, length-append, refl, sym, ap, subst, ◌∙◌, arith, append_assoc}
use Rattle.std.proofs.lemmas.Bool.{cases_lt}
use Rattle.std.proofs.lemmas.List.{append-nil, take-take, take-append-drop, take_all, take_more, get_or_read, drop-take, length-drop}
use Rattle.vt_screen.specs.Screen.{Screen, IsScreen}
use Rattle.vt_screen.proofs.Keeps.{Kept}
use Rattle.vt_term.specs.Screen.{State, IsOfSize}
use Rattle.vt_term.specs.Text.{IsOpen, Splits, IsSplit}
use Rattle.vt_term.specs.Function.{Function}
use Rattle.vt_term.specs.Step.{act, step, steps}
use Rattle.vt_term.proofs.Drops.{open_ignored}
use Rattle.vt_term.specs.Run.{Runs, Sticks, RunsCut, LeadsTo, Reaches}
use Rattle.vt_term.proofs.Keeps.{steps_kept}
use Rattle.vt_term.specs.Fronts.{GoesOn}
use Rattle.vt_term.proofs.Splits.{goes_on, one_splitting, splits_append, splits_front, splits_open}

pub steps_append : (ts us : List (List ℕ)) (s : Screen) → steps (ts ++ us) s ≡ steps us (steps ts s)
steps_append [] us s = refl
steps_append (t ∷ ts) us s = steps_append ts us (step t s)

-- bytes that follow a text are run after it
pub runs_append : (s t u : State) (a b : List ℕ) → Runs s a t → Runs t b u → Runs s (a ++ b) u
runs_append s t u a b h k = record {
  tokens = h.tokens ++ k.tokens;
  splits = subst (λ (l : List ℕ). Splits l (h.tokens ++ k.tokens) u.rest) (append_assoc s.rest a b) (splits_append (s.rest ++ a) h.tokens k.tokens t.rest b u.rest h.splits k.splits);
  screen = k.screen ∙ ap (λ (x : Screen). steps k.tokens x) h.screen ∙ sym (steps_append h.tokens k.tokens s.screen);
}

pub runs_nothing : (s : State) → IsOpen s.rest → Runs s [] s
runs_nothing s h = record { tokens = []; splits = (append-nil s.rest, h); screen = refl }

same_state : (t u : State) → u.screen ≡ t.screen → u.rest ≡ t.rest → u ≡ t
same_state t u e f = ap (λ (x : Screen). record { screen = x; rest = u.rest }) e ∙ ap (λ (x : List ℕ). record { screen = t.screen; rest = x }) f

-- a text has at most one run
pub runs_once : (s t u : State) (a : List ℕ) → Runs s a t → Runs s a u → u ≡ t
runs_once s t u a h k =
    let o : (k.tokens ≡ h.tokens) × (u.rest ≡ t.rest) = one_splitting (s.rest ++ a) h.tokens k.tokens t.rest u.rest h.splits k.splits in
    same_state t u (k.screen ∙ ap (λ (x : List (List ℕ)). steps x s.screen) o.0 ∙ sym h.screen) o.1

-- a run can be cut anywhere
pub runs_cut : (s u : State) (a b : List ℕ) → Runs s (a ++ b) u → RunsCut s a b u
runs_cut s u a b h =
    let whole : Splits ((s.rest ++ a) ++ b) h.tokens u.rest = subst (λ (l : List ℕ). Splits l h.tokens u.rest) (sym (append_assoc s.rest a b)) h.splits in
    let f : IsSplit (s.rest ++ a) = splits_front (s.rest ++ a) b h.tokens u.rest whole in
    let g : GoesOn f.tokens h.tokens f.rest b u.rest = goes_on (s.rest ++ a) f.tokens h.tokens f.rest b u.rest f.splits whole in
    record {
      between = record { screen = steps f.tokens s.screen; rest = f.rest };
      runs_first = record { tokens = f.tokens; splits = f.splits; screen = refl };
      runs_second = record { tokens = g.later; splits = g.splits; screen = h.screen ∙ ap (λ (x : List (List ℕ)). steps x s.screen) g.tokens ∙ steps_append f.tokens g.later s.screen };
    }

-- if no run goes on after the first text, none runs both
pub stuck_behind : (s t : State) (a b : List ℕ) → Runs s a t → ((u : State) → Runs t b u → ⊥) → (u : State) → Runs s (a ++ b) u → ⊥
stuck_behind s t a b h none u k =
    let c : RunsCut s a b u = runs_cut s u a b k in
    none u (subst (λ (x : State). Runs x b u) (runs_once s t c.between a h c.runs_first) c.runs_second)

-- a text that gets stuck does so at one place, and has no run
stuck_front : (s u : State) (a : List ℕ) (n m : ℕ) → n ≤ m → m ≤ length a → ((v : State) → Runs s (take n a) v → ⊥) → Runs s (take m a) u → ⊥
stuck_front s u a n m le fits none h =
    let e : take m a ≡ take n a ++ drop n (take m a) = sym (take-append-drop n (take m a)) ∙ ap (λ (l : List ℕ). l ++ drop n (take m a)) (take-take n m a le) in
    let c : RunsCut s (take n a) (drop n (take m a)) u = runs_cut s u (take n a) (drop n (take m a)) (subst (λ (l : List ℕ). Runs s l u) e h) in
    none c.between c.runs_first

pub runs_or_sticks : (s t u : State) (a : List ℕ) (k : ℕ) → Runs s a t → Sticks s a k u → ⊥
runs_or_sticks s t u a k h p = stuck_front s t a (k + 1) (length a) (omega (arith, p.within)) (omega arith) p.fits_nothing
    (subst (λ (l : List ℕ). Runs s l t) (sym (take_all (length a) a (omega arith))) h)

sticks_late : (s u v : State) (a : List ℕ) (k m : ℕ) → Sticks s a k u → Sticks s a m v → k < m → ⊥
sticks_late s u v a k m p q lt = stuck_front s q.reached a (k + 1) m (omega arith) (omega (arith, q.within)) p.fits_nothing q.runs

pub sticks_once : (s u v : State) (a : List ℕ) (k m : ℕ) → Sticks s a k u → Sticks s a m v → (m ≡ k) × (v ≡ u)
sticks_once s u v a k m p q = elim (cases_lt k m) [
  | inl lt ↦ absurd (sticks_late s u v a k m p q lt)
  | inr ge ↦ elim (cases_lt m k) [
    | inl lt ↦ absurd (sticks_late s v u a m k q p lt)
    | inr le ↦ (let e : m ≡ k = omega arith in
        let same : q.reached ≡ p.reached = runs_once s p.reached q.reached (take k a) p.runs (subst (λ (n : ℕ). Runs s (take n a) q.reached) e q.runs) in
        (e, q.dropped ∙ ap (λ (x : State). record x { rest = [] }) same ∙ sym p.dropped))
  ]
]

take_past : (a b : List ℕ) (n m : ℕ) → m ≡ length a + n → take m (a ++ b) ≡ a ++ take n b
take_past [] b n m e = ap (λ (k : ℕ). take k b) (let f : m ≡ n = omega (arith, e) in f)
take_past (x ∷ a) b n zero e = absurd (omega (arith, e))
take_past (x ∷ a) b n (suc m) e = ap (λ (l : List ℕ). x ∷ l) (take_past a b n m (omega (arith, e)))

-- a byte that gets stuck after a run gets stuck in the joined text
pub sticks_behind : (s t u : State) (a b : List ℕ) (k : ℕ) → Runs s a t → Sticks t b k u → Sticks s (a ++ b) (length a + k) u
sticks_behind s t u a b k h p = record {
  within = omega (arith, p.within, length-append a b);
  reached = p.reached;
  runs = subst (λ (l : List ℕ). Runs s l p.reached) (sym (take_past a b k (length a + k) refl)) (runs_append s t p.reached a (take k b) h p.runs);
  fits_nothing = λ v r. stuck_behind s t a (take (k + 1) b) h p.fits_nothing v (subst (λ (l : List ℕ). Runs s l v) (take_past a b (k + 1) (length a + k + 1) (omega arith)) r);
  dropped = p.dropped;
}

-- the run of a whole text
pub text_runs : (s : State) (bytes : List ℕ) (ts : List (List ℕ)) → s.rest ≡ [] → Splits bytes ts [] → Runs s bytes (record { screen = steps ts s.screen; rest = [] })
text_runs s bytes ts e h = record { tokens = ts; splits = subst (λ (l : List ℕ). Splits (l ++ bytes) ts []) (sym e) h; screen = refl }

pub run_keeps : (rows cols : ℕ) (s t : State) (bytes : List ℕ) → IsOfSize rows cols s → Runs s bytes t → IsOfSize rows cols t
run_keeps rows cols s t bytes h k =
    let p : Kept s.screen (steps k.tokens s.screen) = steps_kept k.tokens s.screen h.state.screen in
    record {
      state = record { screen = subst IsScreen (sym k.screen) p.screen; rest = splits_open (s.rest ++ bytes) k.tokens t.rest k.splits };
      rows = ap (λ (x : Screen). x.rows) k.screen ∙ p.rows ∙ h.rows;
      cols = ap (λ (x : Screen). x.cols) k.screen ∙ p.cols ∙ h.cols;
    }

reaches_last : (rows cols : ℕ) (front : List (List ℕ)) (token : List ℕ) (row col : ℕ) → LeadsTo rows cols token row col → (bytes : List ℕ) → Splits bytes (front ++ token ∷ []) [] → Reaches rows cols bytes row col
reaches_last rows cols front token row col leads bytes h before size rest =
    let runs : Runs before bytes (record { screen = steps (front ++ token ∷ []) before.screen; rest = [] }) = text_runs before bytes (front ++ token ∷ []) rest.rest h in
    let k : Kept before.screen (steps front before.screen) = steps_kept front before.screen size.state.screen in
    let l : ((step token (steps front before.screen)).row ≡ row) × ((step token (steps front before.screen)).col ≡ col) = leads (steps front before.screen) k.screen (k.rows ∙ size.rows) (k.cols ∙ size.cols) in
    let e : steps (front ++ token ∷ []) before.screen ≡ step token (steps front before.screen) = steps_append front (token ∷ []) before.screen in
    record {
      after = record { screen = steps (front ++ token ∷ []) before.screen; rest = [] };
      runs = runs;
      size = run_keeps rows cols before _ bytes size runs;
      at_row = ap (λ (x : Screen). x.row) e ∙ l.0;
      at_col = ap (λ (x : Screen). x.col) e ∙ l.1;
    }

last_of : (tokens : List (List ℕ)) (token : List ℕ) → 1 ≤ length tokens → token ≡ get_or tokens (length tokens - 1) token → tokens ≡ take (length tokens - 1) tokens ++ token ∷ []
last_of tokens token some e =
    let n : length tokens - 1 + 1 ≡ length tokens = omega arith in
    sym (take_all (length tokens) tokens (omega arith)) ∙ ap (λ (k : ℕ). take k tokens) (sym n) ∙ take_more tokens (length tokens - 1) [] (omega arith)
    ∙ ap (λ (t : List ℕ). take (length tokens - 1) tokens ++ t ∷ []) (sym (get_or_read tokens (length tokens - 1) token (omega arith) e []))

pub reaches_place : (rows cols : ℕ) (tokens : List (List ℕ)) (token : List ℕ) (place : Option (ℕ × ℕ)) → 1 ≤ length tokens → token ≡ get_or tokens (length tokens - 1) token
    → IfSome place (λ p. LeadsTo rows cols token p.0 p.1) → IfSome place (λ p. (bytes : List ℕ) → Splits bytes tokens [] → Reaches rows cols bytes p.0 p.1)
reaches_place rows cols tokens token None some e h = tt
reaches_place rows cols tokens token (Some p) some e h = λ bytes s. reaches_last rows cols (take (length tokens - 1) tokens) token p.0 p.1 h bytes
    (subst (λ (ts : List (List ℕ)). Splits bytes ts []) (last_of tokens token some e) s)

-- a text that gets stuck does so whatever follows it
take_within : (a b : List ℕ) (n : ℕ) → n ≤ length a → take n (a ++ b) ≡ take n a
take_within a b zero le = refl
take_within [] b (suc n) le = absurd (omega arith)
take_within (x ∷ a) b (suc n) le = ap (λ (l : List ℕ). x ∷ l) (take_within a b n (omega arith))

pub sticks_first : (s u : State) (a b : List ℕ) (k : ℕ) → Sticks s a k u → Sticks s (a ++ b) k u
sticks_first s u a b k p = record {
  within = omega (arith, p.within, length-append a b);
  reached = p.reached;
  runs = subst (λ (l : List ℕ). Runs s l p.reached) (sym (take_within a b k (omega (arith, p.within)))) p.runs;
  fits_nothing = λ v r. p.fits_nothing v (subst (λ (l : List ℕ). Runs s l v) (take_within a b (k + 1) (omega (arith, p.within))) r);
  dropped = p.dropped;
}

-- a whole text, and the bytes after it
pub whole_text_rests : (s t : State) (a : List ℕ) (ts : List (List ℕ)) → s.rest ≡ [] → Splits a ts [] → Runs s a t → t.rest ≡ []
whole_text_rests s t a ts e h k = ap (λ (x : State). x.rest) (runs_once s (record { screen = steps ts s.screen; rest = [] }) t a (text_runs s a ts e h) k)

pub whole_text_first : (s t : State) (a b : List ℕ) (ts : List (List ℕ)) → s.rest ≡ [] → Splits a ts [] → Runs s (a ++ b) t → Runs (record { screen = steps ts s.screen; rest = [] }) b t
whole_text_first s t a b ts e h k =
    let c : RunsCut s a b t = runs_cut s t a b k in
    subst (λ (x : State). Runs x b t) (runs_once s (record { screen = steps ts s.screen; rest = [] }) c.between a (text_runs s a ts e h) c.runs_first) c.runs_second

-- ESC drops an open sequence
from_open : (x : Screen) (r : List ℕ) (t : State) (bytes : List ℕ) → IsOpen r → Runs (record { screen = x; rest = [] }) (27 ∷ bytes) t → Runs (record { screen = x; rest = r }) (27 ∷ bytes) t
from_open x [] t bytes o h = h
from_open x (y ∷ ys) t bytes o h = record {
  tokens = (y ∷ ys) ∷ h.tokens;
  splits = (27 ∷ bytes, refl, inr (record { some = omega arith; fits = o; cut = inl refl }), h.splits);
  screen = h.screen ∙ ap (λ (z : Screen). steps h.tokens z) (sym (ap (λ (f : Function). act f x) (open_ignored (y ∷ ys) o)));
}

pub escape_drops : (s t : State) (bytes : List ℕ) → IsOpen s.rest → Runs (record s { rest = [] }) (27 ∷ bytes) t → Runs s (27 ∷ bytes) t
escape_drops s t bytes o h = from_open s.screen s.rest t bytes o h

take_plus : (n m : ℕ) (xs : List ℕ) → take (n + m) xs ≡ take n xs ++ take m (drop n xs)
take_plus n m xs = sym (take-append-drop n (take (n + m) xs)) ∙ ap (λ (l : List ℕ). l ++ drop n (take (n + m) xs)) (take-take n (n + m) xs (omega arith)) ∙ ap (λ (l : List ℕ). take n xs ++ l) (drop-take n m xs)

-- n bytes and then m of the remaining ones are run as n + m bytes
pub runs_further : (s t u : State) (bytes : List ℕ) (n m : ℕ) → Runs s (take n bytes) t → Runs t (take m (take (length bytes - n) (drop n bytes))) u → Runs s (take (n + m) bytes) u
runs_further s t u bytes n m h k =
    let left : take (length bytes - n) (drop n bytes) ≡ drop n bytes = take_all (length bytes - n) (drop n bytes) (omega (arith, length-drop n bytes)) in
    let runs : Runs t (take m (drop n bytes)) u = subst (λ (l : List ℕ). Runs t (take m l) u) left k in
    subst (λ (l : List ℕ). Runs s l u) (sym (take_plus n m bytes)) (runs_append s t u (take n bytes) (take m (drop n bytes)) h runs)
