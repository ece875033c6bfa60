-- From single calls to the states that a terminal reaches.
use Rattle.std.proofs.Common.{◌≡◌, ℕ, ℤ, List, [], ◌∷◌, ◌++◌, take, drop, length, Option, refl, sym, ap, subst, ◌∙◌, append_assoc}
use Rattle.std.proofs.lemmas.List.{append-nil}
use lib.ListN.{take-append-drop}
use Rattle.vt_term.specs.Ends.{Ends}
use Rattle.vt_term.specs.Screen.{State}
use Rattle.vt_term.proofs.Runs.{runs_nothing}
use Rattle.cur_steps.specs.Leads.{Within, Past}
use Rattle.cur_steps.proofs.Leads.{ends_then, meet}
use Rattle.ti_cert.specs.Table.{CheckedTable, certified}
use Rattle.ti_cert.specs.Verified.{partner_in}
use Rattle.ti_conforms.specs.Certified.{Table, IsChecked, IsLost}
use Rattle.cur_scripts.specs.declared.calls.Call.{Call}
use Rattle.cur_play.proofs.Deliveries.{fits_lost}
use Rattle.cur_paint.specs.Update.{Fits}
use Rattle.cur_paint.specs.declared.updates.Status.{Status}
use Rattle.cur_paint.specs.declared.updates.Status.TheVariants.{Fresh}
use Rattle.cur_update.specs.Inks.{ink_at}
use Rattle.cur_update.specs.Painters.{Painted}
use Rattle.cur_play.specs.Deliveries.{FitsIn}
use Rattle.cur_play.specs.Scenes.{Scene, Stage}
use Rattle.cur_play.specs.declared.answers.Answer.{Answer}
use Rattle.curses_c.specs.Held.{CopiesLines, Hands, Makes, Recolors, noting}
use Rattle.curses_c.specs.Laws.{Reaches, Begun, Called, Took, Noted, Recolored, CopiedLines, Played, Rests, FitsHeld, ShowsAfter, Begins, CallsReach, RefreshesShow, LossesBegin, LossesFit, OpeningsBegin}
use Rattle.curses_c.specs.declared.held.Held.{Held}

-- all sent bytes lead to a state that fits, and each prefix of them to a state that fits a lost session
record Reached (k : Held) (sent : List ℕ) (s : State) : Type 0 where
  pub whole : Ends s sent (FitsHeld k)
  pub cut : (front back : List ℕ) → sent ≡ front ++ back → Ends s front (IsLost (certified k.session.painter.checked))
  pub checked : IsChecked (certified k.session.painter.checked)

-- the bytes handed out and those that still wait are those that waited
handed : (before taken waiting rest : List ℕ) (count : ℕ) → taken ≡ before ++ take count waiting → rest ≡ drop count waiting → taken ++ rest ≡ before ++ waiting
handed before taken waiting rest count e f =
    ap (λ (l : List ℕ). l ++ rest) e ∙ ap (λ (l : List ℕ). (before ++ take count waiting) ++ l) f ∙ append_assoc before (take count waiting) (drop count waiting)
    ∙ ap (λ (l : List ℕ). before ++ l) (take-append-drop count waiting)

empty_list : (xs : List ℕ) → length xs ≡ 0 → xs ≡ []
empty_list [] e = refl
empty_list (x ∷ xs) e = absurd (cc)

only_nothing : (front back : List ℕ) → [] ≡ front ++ back → front ≡ []
only_nothing [] back e = refl
only_nothing (x ∷ front) back e = absurd (cc)

-- one more call
made : (mid k : Held) (call : Call) (answer : Answer) (taken : List ℕ) (s : State) → Makes mid call answer k → Reached mid (taken ++ mid.outbox.waiting) s → Reached k (taken ++ k.outbox.waiting) s
made mid k call answer taken s m r =
    let x : List ℕ = m.carries.bytes in
    let all : List ℕ = taken ++ mid.outbox.waiting in
    let t = certified mid.session.painter.checked in
    let same : all ++ x ≡ taken ++ k.outbox.waiting = append_assoc taken mid.outbox.waiting x ∙ ap (λ (l : List ℕ). taken ++ l) (sym m.carries.sent.waiting) in
    let Fits : CheckedTable → State → Type 0 = λ c s. FitsIn (certified c) (partner_in c) k.session.painter s in
    let Lost : CheckedTable → State → Type 0 = λ c s. IsLost (certified c) s in
    let whole : Ends s (all ++ x) (Fits mid.session.painter.checked) = ends_then (FitsHeld mid) (Fits mid.session.painter.checked) s all x r.whole m.carries.fits in
    let cut : (front back : List ℕ) → all ++ x ≡ front ++ back → Ends s front (Lost mid.session.painter.checked) = λ front back e.
    elim (meet front back all x (sym e)) [
      | Within y p q ↦ subst (λ (l : List ℕ). Ends s l (Lost mid.session.painter.checked)) (sym p) (ends_then (FitsHeld mid) (Lost mid.session.painter.checked) s all y r.whole (m.carries.cut y back q))
      | Past y p q ↦ r.cut front y p
    ] in
    let both : (Ends s (all ++ x) (Fits mid.session.painter.checked)) × ((front back : List ℕ) → all ++ x ≡ front ++ back → Ends s front (Lost mid.session.painter.checked)) = (whole, cut) in
    let there = subst (λ (c : CheckedTable). (Ends s (all ++ x) (Fits c)) × ((front back : List ℕ) → all ++ x ≡ front ++ back → Ends s front (Lost c))) (sym m.certificate) both in
    subst (λ (l : List ℕ). Reached k l s) same (record { whole = there.0; cut = there.1; checked = subst (λ (c : CheckedTable). IsChecked (certified c)) (sym m.certificate) r.checked })

-- handing out changes nothing of the sent bytes
took : (mid k : Held) (room : List ℕ) (count : ℕ) (sent : List ℕ) (s : State) → Hands mid room count k → Reached mid sent s → Reached k sent s
took mid k room count sent s hands r =
    let P : Stage CheckedTable → Type 0 = λ p. (Ends s sent (FitsIn (certified p.painter.checked) (partner_in p.painter.checked) p.painter)) × ((front back : List ℕ) → sent ≡ front ++ back → Ends s front (IsLost (certified p.painter.checked))) in
    let there : P k.session = subst P (sym hands.session) (r.whole, r.cut) in
    record { whole = there.0; cut = there.1; checked = subst (λ (p : Stage CheckedTable). IsChecked (certified p.painter.checked)) (sym hands.session) r.checked }

-- a change of the noted line changes nothing of them
noted : (mid k : Held) (line : ℕ) (sent : List ℕ) (s : State) → k ≡ noting line mid → Reached mid sent s → Reached k sent s
noted mid k line sent s e r = subst (λ (x : Held). Reached x sent s) (sym e) (record { whole = r.whole; cut = r.cut; checked = r.checked })

-- the colors of a pair, which the painter doesn't hold, change nothing of them
recolors : (mid k : Held) (p f b : ℤ) (answer : Answer) (sent : List ℕ) (s : State) → Recolors p f b mid answer k → Reached mid sent s → Reached k sent s
recolors mid k p f b answer sent s e r = subst (λ (x : Held). Reached x sent s) (sym e.0) (record { whole = r.whole; cut = r.cut; checked = r.checked })

-- nor do lines that are copied to the virtual screen
copies_lines : (mid k : Held) (n : ℕ) (top bottom : ℤ) (answer : Answer) (sent : List ℕ) (s : State) → CopiesLines n top bottom mid answer k → Reached mid sent s → Reached k sent s
copies_lines mid k n top bottom answer sent s e r = subst (λ (x : Held). Reached x sent s) (sym e.0) (record { whole = r.whole; cut = r.cut; checked = r.checked })

nothing_sent : {C : Type 0} (t : Table) → IsChecked t → (partners : ℕ → Option ℕ) (p : Painted C) (s : State) → FitsIn t partners p s → Ends s [] (FitsIn t partners p)
nothing_sent t checked partners p s f =
    let lost = fits_lost t checked (ink_at t partners p.shown) p.session.status p.session.cursor s f in
    record { after = s; runs = runs_nothing s lost.sized.state.rest; there = f }

begun : (h : Held) (s : State) → Begins h s → Reached h ([] ++ h.outbox.waiting) s
begun h s b =
    let t = certified h.session.painter.checked in
    let still : Ends s [] (IsLost t) = (let lost = fits_lost t b.checked (ink_at t (partner_in h.session.painter.checked) h.session.painter.shown) h.session.painter.session.status h.session.painter.session.cursor s b.fits in
    record { after = s; runs = runs_nothing s lost.sized.state.rest; there = lost }) in
    let cut : (front back : List ℕ) → [] ≡ front ++ back → Ends s front (IsLost t) = λ front back e. subst (λ (l : List ℕ). Ends s l (IsLost t)) (sym (only_nothing front back e)) still in
    subst (λ (l : List ℕ). Reached h l s) (sym b.nothing) (record { whole = nothing_sent t b.checked (partner_in h.session.painter.checked) h.session.painter s b.fits; cut = cut; checked = b.checked })

reached : (h k : Held) (taken : List ℕ) (s : State) → Played h taken k → Begins h s → Reached k (taken ++ k.outbox.waiting) s
reached h k taken s (Begun _ _ e f) b = subst (λ (x : Held). Reached x (taken ++ x.outbox.waiting) s) (sym f) (subst (λ (l : List ℕ). Reached h (l ++ h.outbox.waiting) s) (sym e) (begun h s b))
reached h k taken s (Called _ mid _ call answer p m _) b = made mid k call answer taken s m (reached h mid taken s p b)
reached h k taken s (Took before _ mid _ room count p hands e) b =
    subst (λ (l : List ℕ). Reached k l s) (sym (handed before taken mid.outbox.waiting k.outbox.waiting count e hands.rest))
    (took mid k room count (before ++ mid.outbox.waiting) s hands (reached h mid before s p b))
reached h k taken s (Noted _ mid _ line p e) b =
    subst (λ (l : List ℕ). Reached k (taken ++ l) s) (sym (ap (λ (x : Held). x.outbox.waiting) e)) (noted mid k line (taken ++ mid.outbox.waiting) s e (reached h mid taken s p b))
reached h k taken s (Recolored _ mid _ p f b answer q e) x =
    subst (λ (l : List ℕ). Reached k (taken ++ l) s) (sym (ap (λ (y : Held). y.outbox.waiting) e.0)) (recolors mid k p f b answer (taken ++ mid.outbox.waiting) s e (reached h mid taken s q x))
reached h k taken s (CopiedLines _ mid _ n top bottom answer q e) x =
    subst (λ (l : List ℕ). Reached k (taken ++ l) s) (sym (ap (λ (y : Held). y.outbox.waiting) e.0)) (copies_lines mid k n top bottom answer (taken ++ mid.outbox.waiting) s e (reached h mid taken s q x))

pub calls_reach : CallsReach
calls_reach h k taken s p b = (reached h k taken s p b).whole

-- the bytes that waited are those taken since, and those that wait
rested : (h k : Held) (taken : List ℕ) → Rests h taken k → taken ++ k.outbox.waiting ≡ h.outbox.waiting
rested h k taken (Begun _ _ e f) = ap (λ (l : List ℕ). l ++ k.outbox.waiting) e ∙ ap (λ (x : Held). x.outbox.waiting) f
rested h k taken (Called _ mid _ call answer p m quiet) =
    let none : m.carries.bytes ≡ [] = empty_list m.carries.bytes (m.carries.quiet quiet) in
    ap (λ (l : List ℕ). taken ++ l) (m.carries.sent.waiting ∙ ap (λ (l : List ℕ). mid.outbox.waiting ++ l) none ∙ append-nil mid.outbox.waiting) ∙ rested h mid taken p
rested h k taken (Took before _ mid _ room count p hands e) = handed before taken mid.outbox.waiting k.outbox.waiting count e hands.rest ∙ rested h mid before p
rested h k taken (Noted _ mid _ line p e) = ap (λ (x : Held). taken ++ x.outbox.waiting) e ∙ rested h mid taken p
rested h k taken (Recolored _ mid _ p f b answer q e) = ap (λ (x : Held). taken ++ x.outbox.waiting) e.0 ∙ rested h mid taken q
rested h k taken (CopiedLines _ mid _ n top bottom answer q e) = ap (λ (x : Held). taken ++ x.outbox.waiting) e.0 ∙ rested h mid taken q

pub refreshes_show : RefreshesShow
refreshes_show h mid k last taken more call answer s p m shown rests none b =
    let r = reached h mid taken s p b in
    let all : List ℕ = taken ++ mid.outbox.waiting in
    let x : List ℕ = m.carries.bytes in
    let after : Ends s (all ++ x) (ShowsAfter mid call) = ends_then (FitsHeld mid) (ShowsAfter mid call) s all x r.whole (m.carries.shows shown) in
    let waits : more ≡ k.outbox.waiting = sym (append-nil more) ∙ ap (λ (l : List ℕ). more ++ l) (sym none) ∙ rested k last more rests in
    let same : all ++ x ≡ taken ++ more = append_assoc taken mid.outbox.waiting x ∙ ap (λ (l : List ℕ). taken ++ l) (sym m.carries.sent.waiting ∙ sym waits) in
    subst (λ (l : List ℕ). Ends s l (ShowsAfter mid call)) same after

pub losses_fit : LossesFit
losses_fit h mid k taken front back s p e loses b =
    let r = reached h mid taken s p b in
    let Lost : Stage CheckedTable → State → Type 0 = λ q t. IsChecked (certified q.painter.checked) × FitsIn (certified q.painter.checked) (partner_in q.painter.checked) q.painter t in
    let x = r.cut front back e in
    let there : Lost k.session x.after = subst (λ (q : Stage CheckedTable). Lost q x.after) (sym loses.session) (r.checked, x.there) in
    record { after = x.after; runs = x.runs; there = record { nothing = loses.waiting; checked = there.0; fits = there.1 } }

pub losses_begin : LossesBegin
losses_begin h k s loses checked lost =
    let Lost : Stage CheckedTable → Type 0 = λ q. IsChecked (certified q.painter.checked) × FitsIn (certified q.painter.checked) (partner_in q.painter.checked) q.painter s in
    let there : Lost k.session = subst Lost (sym loses.session) (checked, lost) in
    record { nothing = loses.waiting; checked = there.0; fits = there.1 }

pub openings_begin : OpeningsBegin
openings_begin h s scene nothing checked fresh =
    let t = certified h.session.painter.checked in
    let p = h.session.painter in
    let status : p.session.status ≡ Fresh = ap (λ (x : Scene). x.status) scene in
    record {
      nothing = nothing;
      checked = checked;
      fits = subst (λ (x : Status). Fits t (ink_at t (partner_in p.checked) p.shown) x p.session.cursor s) (sym status) fresh;
    }
