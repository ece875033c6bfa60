-- Two effects in their one form compose to one in its one form.
use Rattle.std.proofs.Common.{◌≡◌, ℕ, ◌+◌, ◌-◌, ◌<◌, ◌≤◌, Bool, true, false, ◌&&◌, Option, Some, None, refl, subst, arith}
use Rattle.std.specs.Prelude.{if◌then◌else◌, ◌==◌, nat_lt}
use Rattle.std.specs.Option.{option_map}
use Rattle.std.proofs.lemmas.Bool.Decides.{nat_tests}
use Rattle.std.proofs.lemmas.Option.{cond_some, option_and_then_some, same_Some}
use Rattle.vt_effects.specs.declared.effects.Move.{Move}
use Rattle.vt_effects.specs.declared.effects.Move.TheVariants as moves
use Rattle.vt_effects.specs.declared.effects.Erasure.{Erasure}
use Rattle.vt_effects.specs.declared.effects.Erasure.TheVariants as erasures
use Rattle.vt_effects.specs.declared.effects.Scroll.{Scroll}
use Rattle.vt_effects.specs.declared.effects.Scroll.TheVariants as scrolls
use Rattle.vt_effects.specs.declared.effects.Region.{Region}
use Rattle.vt_effects.specs.declared.effects.Effect.{Effect}
use Rattle.vt_effects.specs.Record.{net, and_back, and_forward, is_first, is_unmoved, is_still, erases_nothing, erases_screen, keeps_background, screen_erased, cells_erased}
use Rattle.vt_effects.specs.Compose.{goes_back, goes_forward, then_moved, then_margins, then_erased, scrolls_first, then_scrolled, both_cells, both_else, both_moved}
use Rattle.ti_lines.specs.EffectText.{IsPlainMove, IsPlainErasure, IsPlainRegion, IsPlain}
use Rattle.ti_lines.specs.EffectLaws.{ComposedPlain}
use Rattle.ti_lines.proofs.Glyphs.{branch, mapped}

-- two counts that are less than 65536 apart
pub net_near : (forward back : ℕ) → forward < back + 65536 → back < forward + 65536 → IsPlainMove (net forward back)
net_near forward back h k = by_order (forward == back) (nat_lt back forward) refl refl
  where
    by_order : (t u : Bool) → (forward == back) ≡ t → nat_lt back forward ≡ u → IsPlainMove (if t then moves.Kept else (if u then moves.Forward (forward - back) else moves.Back (back - forward)))
    by_order true u e f = tt
    by_order false true e f =
        let more : back < forward = grind (arith, nat_tests) in
        (omega (arith, more), omega (arith, h, more))
    by_order false false e f =
        let less : forward < back = grind (arith, nat_tests) in
        (omega (arith, less), omega (arith, k, less))

net_plain : (forward back : ℕ) → forward < 65536 → back < 65536 → IsPlainMove (net forward back)
net_plain forward back h k = net_near forward back (omega (arith, h)) (omega (arith, k))

back_plain : (m : Move) (n : ℕ) → IsPlainMove m → n < 65536 → goes_back m n ≡ true → IsPlainMove (and_back m n)
back_plain moves.Kept n p h t = net_plain 0 n (omega arith) h
back_plain (moves.To k) n p h t = omega (arith, p)
back_plain (moves.Back k) n p h t = let most : k + n ≤ 65535 = grind (arith, nat_tests) in net_plain 0 (k + n) (omega arith) (omega (arith, most))
back_plain (moves.Forward k) n p h t = net_plain k n p.1 h

forward_plain : (m : Move) (n : ℕ) → IsPlainMove m → n < 65536 → goes_forward m n ≡ true → IsPlainMove (and_forward m n)
forward_plain moves.Kept n p h t = net_plain n 0 h (omega arith)
forward_plain (moves.To k) n p h t = let most : k + n ≤ 65535 = grind (arith, nat_tests) in omega (arith, most)
forward_plain (moves.Back k) n p h t = net_plain n k h p.1
forward_plain (moves.Forward k) n p h t = let most : k + n ≤ 65535 = grind (arith, nat_tests) in net_plain (k + n) 0 (omega (arith, most)) (omega arith)

moved_plain : (m b c : Move) → IsPlainMove m → IsPlainMove b → then_moved m b ≡ Some c → IsPlainMove c
moved_plain m moves.Kept c p q h = subst IsPlainMove (same_Some m c h) p
moved_plain m (moves.To k) c p q h = subst IsPlainMove (same_Some (moves.To k) c h) q
moved_plain m (moves.Back n) c p q h = let x = cond_some (goes_back m n) (and_back m n) c h in subst IsPlainMove x.1 (back_plain m n p q.1 x.0)
moved_plain m (moves.Forward n) c p q h = let x = cond_some (goes_forward m n) (and_forward m n) c h in subst IsPlainMove x.1 (forward_plain m n p q.1 x.0)

-- the erasure of such a composition
abbrev ErasesPlainly : Effect → Type 0
ErasesPlainly e = IsPlainErasure e.erasure

screen_plain : (e f : Effect) → screen_erased e ≡ Some f → ErasesPlainly f
screen_plain e f h = subst ErasesPlainly (cond_some (keeps_background e) (record e { erasure = erasures.Screen; scroll = scrolls.Still }) f h).1 tt

cells_plain : (x : Erasure) (e f : Effect) → IsPlainErasure x → ErasesPlainly e → cells_erased x e ≡ Some f → ErasesPlainly f
cells_plain x e f p q h =
    branch (ErasesPlainly f) (keeps_background e && is_still e.scroll) _ None f
    (λ t h. branch (ErasesPlainly f) (erases_screen e.erasure) (Some e) _ f (λ t g. subst ErasesPlainly (same_Some e f g) q)
    (λ h. subst ErasesPlainly (cond_some (is_unmoved e && erases_nothing e.erasure) (record e { erasure = x }) f h).1 p) h)
    (λ h. absurd (cc)) h

erased_plain : (x : Erasure) (e f : Effect) → IsPlainErasure x → ErasesPlainly e → then_erased e x ≡ Some f → ErasesPlainly f
erased_plain erasures.Nothing e f p q h = subst ErasesPlainly (same_Some e f h) q
erased_plain erasures.Screen e f p q h = screen_plain e f h
erased_plain erasures.Rest e f p q h =
    branch (ErasesPlainly f) (is_first e.row && is_first e.col) (screen_erased e) (cells_erased erasures.Rest e) f (λ t g. screen_plain e f g) (λ g. cells_plain erasures.Rest e f tt q g) h
erased_plain erasures.Tail e f p q h = cells_plain erasures.Tail e f tt q h
erased_plain erasures.Head e f p q h = cells_plain erasures.Head e f tt q h
erased_plain (erasures.Next n) e f p q h = cells_plain (erasures.Next n) e f p q h

scrolled_plain : (first here f : Effect) (x : Scroll) → ErasesPlainly here → then_scrolled first here x ≡ Some f → ErasesPlainly f
scrolled_plain first here f scrolls.Still q h = subst ErasesPlainly (same_Some here f h) q
scrolled_plain first here f scrolls.Up q h = subst ErasesPlainly (cond_some (scrolls_first first here) (record here { scroll = scrolls.Up }) f h).1 q
scrolled_plain first here f scrolls.Down q h = subst ErasesPlainly (cond_some (scrolls_first first here) (record here { scroll = scrolls.Down }) f h).1 q

cells_of_both : (a b cells : Effect) → IsPlain a → IsPlain b → both_cells a b ≡ Some cells → ErasesPlainly cells
cells_of_both a b cells p q h =
    option_and_then_some (λ here. then_scrolled a here b.scroll) (then_erased a b.erasure) cells h
    (λ here e f. scrolled_plain a here cells b.scroll (erased_plain b.erasure a here q.erasure p.erasure e) f)

margins_plain : (a b : Option Region) → IsPlainRegion a → IsPlainRegion b → IsPlainRegion (then_margins a b)
margins_plain a None p q = p
margins_plain a (Some r) p q = q

moved_both : (a b cells c : Effect) → IsPlain a → IsPlain b → ErasesPlainly cells → both_moved a b cells ≡ Some c → IsPlain c
moved_both a b cells c p q s h =
    option_and_then_some (λ row. option_map (λ col. both_else a b cells row col) (then_moved a.col b.col)) (then_moved a.row b.row) c h
    (λ row e g. mapped (IsPlain c) (λ col. both_else a b cells row col) (then_moved a.col b.col) c
    (λ col f i. subst IsPlain i (record { row = moved_plain a.row b.row row p.row q.row e; col = moved_plain a.col b.col col p.col q.col f; erasure = s; margins = margins_plain a.margins b.margins p.margins q.margins })) g)

pub composed_plain : ComposedPlain
composed_plain a b c p q h =
    option_and_then_some (λ cells. both_moved a b cells) (both_cells a b) c h (λ cells e f. moved_both a b cells c p q (cells_of_both a b cells p q e) f)
