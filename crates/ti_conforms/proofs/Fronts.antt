-- A prefix of a line's bytes leaves a lost state.
use Rattle.std.proofs.Common.{◌≡◌, ◌+◌, ℕ, Bool, true, false, List, [], ◌∷◌, ◌++◌, refl, sym, ap, ◌∙◌, subst}
use Rattle.std.specs.List.{AllByRecursion}
use Rattle.vt_term.specs.Function.{function_of}
use Rattle.vt_term.specs.Text.{Splits, IsSplit}
use Rattle.vt_term.specs.Screen.{State, Screen, IsScreen, Charset}
use Rattle.vt_term.specs.Step.{step, steps}
use Rattle.vt_term.specs.Run.{Runs}
use Rattle.vt_term.specs.Fronts.{GoesOn}
use Rattle.vt_term.proofs.Splits.{goes_on, splits_front}
use Rattle.vt_screen.proofs.Keeps.{Kept}
use Rattle.vt_term.proofs.Keeps.{steps_kept}
use Rattle.vt_term.proofs.Runs.{run_keeps}
use Rattle.vt_effects.specs.Settings.{IsTame, EachTame, EachKeepsMargins, EachKeepsVisible, SameMargins}
use Rattle.ti_conforms.specs.Lost.{IsWhole, IsLost}
use Rattle.vt_term.specs.Ends.{Ends}
use Rattle.ti_conforms.specs.Lines.{StaysIn}
use Rattle.ti_conforms.specs.Resync.{FrontsStay, WholesStay}
use Rattle.vt_term.proofs.Charsets.{act_charset}

all_front : (P : List ℕ → Type 0) (xs ys : List (List ℕ)) → AllByRecursion P (xs ++ ys) → AllByRecursion P xs
all_front P [] ys h = tt
all_front P (x ∷ xs) ys h = (h.0, all_front P xs ys h.1)

tame_steps : (tokens : List (List ℕ)) (s : Screen) → EachTame tokens → IsTame s → IsTame (steps tokens s)
tame_steps [] s h k = k
tame_steps (t ∷ ts) s h k = tame_steps ts (step t s) h.1 (h.0 s k)

reached_steps : (reached : Charset → Bool) (tokens : List (List ℕ)) (s : Screen) → StaysIn reached tokens → reached s.charset ≡ true → reached (steps tokens s).charset ≡ true
reached_steps reached [] s h k = k
reached_steps reached (t ∷ ts) s h k = reached_steps reached ts (step t s) h.1 (ap (λ (c : Charset). reached c) (act_charset (function_of t) s) ∙ h.0 s.charset k)

margins_steps : (rows : ℕ) (tokens : List (List ℕ)) (s : Screen) → IsScreen s → s.rows ≡ rows → EachKeepsMargins rows tokens → IsWhole s → IsWhole (steps tokens s)
margins_steps rows [] s screen height h k = k
margins_steps rows (t ∷ ts) s screen height h k =
    let m : SameMargins s (step t s) = h.0 s height in
    let p : Kept s (step t s) = steps_kept (t ∷ []) s screen in
    margins_steps rows ts (step t s) p.screen (p.rows ∙ height) h.1 (record { top = m.top ∙ k.top; bottom = ap (λ (n : ℕ). n + 1) m.bottom ∙ (k.bottom ∙ sym p.rows) })

visible_steps : (tokens : List (List ℕ)) (s : Screen) → EachKeepsVisible tokens → (steps tokens s).visible ≡ s.visible
visible_steps [] s h = refl
visible_steps (t ∷ ts) s h = visible_steps ts (step t s) h.1 ∙ h.0 s

stay : (rows cols : ℕ) (sets_margins shows : Bool) (reached : Charset → Bool) (tokens : List (List ℕ)) (rest bytes : List ℕ) (s : State) → EachTame tokens → StaysIn reached tokens
    → (sets_margins ≡ false → EachKeepsMargins rows tokens) → (shows ≡ false → EachKeepsVisible tokens) → s.rest ≡ [] → Splits bytes tokens rest
    → IsLost rows cols sets_margins shows reached s → Ends s bytes (λ t. (t.rest ≡ rest) × IsLost rows cols sets_margins shows reached t)
stay rows cols sets_margins shows reached tokens rest bytes s tame stays margins visible closed splits lost =
    let t : State = record { screen = steps tokens s.screen; rest = rest } in
    let runs : Runs s bytes t = record { tokens = tokens; splits = subst (λ (l : List ℕ). Splits (l ++ bytes) tokens rest) (sym closed) splits; screen = refl } in
    record {
      after = t;
      runs = runs;
      there = (
        refl,
        record {
          sized = run_keeps rows cols s t bytes lost.sized runs;
          tame = tame_steps tokens s.screen tame lost.tame;
          reached = reached_steps reached tokens s.screen stays lost.reached;
          margins = λ none. margins_steps rows tokens s.screen lost.sized.state.screen lost.sized.rows (margins none) (lost.margins none);
          visible = λ none. visible_steps tokens s.screen (visible none) ∙ lost.visible none;
        },
      );
    }

pub fronts_stay : FrontsStay
fronts_stay rows cols sets_margins shows reached bytes m s rest lost front back parts =
    let whole : Splits (front ++ back) m.tokens [] = subst (λ (l : List ℕ). Splits l m.tokens []) parts m.whole in
    let f : IsSplit front = splits_front front back m.tokens [] whole in
    let g : GoesOn f.tokens m.tokens f.rest back [] = goes_on front f.tokens m.tokens f.rest back [] f.splits whole in
    let x = stay rows cols sets_margins shows reached f.tokens f.rest front s
    (all_front _ f.tokens g.later (subst EachTame g.tokens m.tame))
    (all_front _ f.tokens g.later (subst (StaysIn reached) g.tokens m.stays))
    (λ none. all_front _ f.tokens g.later (subst (EachKeepsMargins rows) g.tokens (m.margins none)))
    (λ none. all_front _ f.tokens g.later (subst EachKeepsVisible g.tokens (m.visible none)))
    rest f.splits lost in
    record { after = x.after; runs = x.runs; there = x.there.1 }

pub wholes_stay : WholesStay
wholes_stay rows cols sets_margins shows reached bytes m s rest lost =
    let x = stay rows cols sets_margins shows reached m.tokens [] bytes s m.tame m.stays m.margins m.visible rest m.whole lost in
    record { after = x.after; runs = x.runs; there = record { rest = x.there.0; lost = x.there.1 } }
