-- Sets of charsets that no change leads out of.
use Rattle.std.proofs.Common.{Option, None, Some, not, ◌≤◌, below_more, ◌≡◌, ◌⊎◌, inl, inr, ℕ, ◌+◌, ◌<◌, Bool, true, false, List, [], ◌∷◌, drop, length, get_or, suc, refl, sym, ap, ◌∙◌, subst, arith}
use Rattle.std.specs.Prelude.{IfNone, is_some}
use Rattle.std.proofs.Math.Seq.{drop-cons}
use Rattle.vt_term.specs.Screen.{Charset}
use Rattle.vt_effects.specs.declared.effects.Sets.{Sets}
use Rattle.vt_effects.specs.Effect.{designated}
use Rattle.ti_conforms.specs.declared.closures.Charsets.{Charsets}
use Rattle.std.proofs.Math.Bool.{beq}
use Rattle.ti_conforms.specs.declared.reach.Reach.{Reach}
use Rattle.ti_conforms.specs.Charsets.{IsAmong, can_have}
use Rattle.ti_conforms.specs.Closures.{Settled, First, After, SomeLeads, bit, charset_number, has, StaysFrom, LeadsOut, Leaves, designated_all}

bit_small : (b : Bool) → bit b < 2
bit_small true = omega arith
bit_small false = omega arith

pub number_small : (c : Charset) → charset_number c < 8
number_small c = omega (arith, bit_small c.g0_graphic, bit_small c.g1_graphic, bit_small c.shifted_out)

pub stays_none : (s : Charsets) (c : Charset) → StaysFrom s [] c
stays_none s c d l = absurd l.among

among_cons : (s : Charsets) (x : Sets) (xs : List Sets) (c d : Charset) (change : Sets) → has s (designated x c) ≡ true → StaysFrom s xs c → (change ≡ x) ⊎ IsAmong xs change → d ≡ designated change c → has s d ≡ true
among_cons s x xs c d change h f (inl e) l = ap (λ (z : Charset). has s z) (l ∙ ap (λ (y : Sets). designated y c) e) ∙ h
among_cons s x xs c d change h f (inr a) l = f d (record { change = change; among = a; leads = l })

pub stays_cons : (s : Charsets) (x : Sets) (xs : List Sets) (c : Charset) → has s (designated x c) ≡ true → StaysFrom s xs c → StaysFrom s (x ∷ xs) c
stays_cons s x xs c h f d l = among_cons s x xs c d l.change h f l.among l.leads

-- A set that has all of `old` and that no change leads out of has the whole closure of `old`.
pub settled_stays : (s old : Charsets) (changes : List Sets) → ((c : Charset) → has old c ≡ true → has s c ≡ true) → ((c : Charset) → has s c ≡ true → StaysFrom s changes c)
    → (c : Charset) → Settled (λ d. has old d ≡ true) (SomeLeads changes) c → has s c ≡ true
settled_stays s old changes more stays c (First _ h) = more c h
settled_stays s old changes more stays d (After c _ h l) = stays c (settled_stays s old changes more stays c h) d l

-- none of the changes before the place `i` leads out of the set
pub record Staying (s : Charsets) (changes : List Sets) (c : Charset) (i : ℕ) : Type 0 where
  pub stays : StaysFrom s (drop i changes) c → StaysFrom s changes c
  pub among : (x : Sets) → IsAmong (drop i changes) x → IsAmong changes x

pub record Cut (changes : List Sets) (i : ℕ) (x : Sets) : Type 0 where
  pub cut : drop i changes ≡ x ∷ drop (i + 1) changes

pub cut_at : (changes : List Sets) (i : ℕ) (x d : Sets) → i < length changes → x ≡ get_or changes i d → Cut changes i x
cut_at changes i x d lt is = record { cut = drop-cons changes i d lt ∙ (ap (λ (y : Sets). y ∷ drop (suc i) changes) (sym is) ∙ (let e : suc i ≡ i + 1 = omega arith in ap (λ k. x ∷ drop k changes) e)) }

pub staying_more : (s : Charsets) (changes : List Sets) (c : Charset) (i : ℕ) (x : Sets) → Cut changes i x → has s (designated x c) ≡ true → (StaysFrom s (drop i changes) c → StaysFrom s changes c) → StaysFrom s (drop (i + 1) changes) c → StaysFrom s changes c
staying_more s changes c i x k h f g = f (subst (λ (l : List Sets). StaysFrom s l c) (sym k.cut) (stays_cons s x (drop (i + 1) changes) c h g))

pub among_more : (changes : List Sets) (i : ℕ) (x : Sets) → Cut changes i x → ((y : Sets) → IsAmong (drop i changes) y → IsAmong changes y) → (y : Sets) → IsAmong (drop (i + 1) changes) y → IsAmong changes y
among_more changes i x k f y a = f y (subst (λ (l : List Sets). IsAmong l y) (sym k.cut) (inr a))

-- one more member
pub settled_more : (old s new : Charsets) (changes : List Sets) (added : Charset) → ((c : Charset) → has s c ≡ true → Settled (λ d. has old d ≡ true) (SomeLeads changes) c) → LeadsOut s changes added
    → ((c : Charset) → has new c ≡ true → (has s c ≡ true) ⊎ (c ≡ added)) → (c : Charset) → has new c ≡ true → Settled (λ d. has old d ≡ true) (SomeLeads changes) c
settled_more old s new changes added sound out only c h = which (only c h)
  where
    which : (has s c ≡ true) ⊎ (c ≡ added) → Settled (λ d. has old d ≡ true) (SomeLeads changes) c
    which (inl m) = sound c m
    which (inr e) = subst (λ (z : Charset). Settled (λ d. has old d ≡ true) (SomeLeads changes) z) (sym e) (After out.before added (sound out.before out.there) out.leads)

pub staying_next : (s : Charsets) (changes : List Sets) (c left : Charset) (i : ℕ) (x : Sets) → i < length changes → left ≡ designated (get_or changes i x) c → true ≡ has s left
    → (StaysFrom s (drop i changes) c → StaysFrom s changes c) → StaysFrom s (drop (i + 1) changes) c → StaysFrom s changes c
staying_next s changes c left i x lt e h = staying_more s changes c i (get_or changes i x) (cut_at changes i (get_or changes i x) x lt refl) (ap (λ (z : Charset). has s z) (sym e) ∙ sym h)

pub among_next : (changes : List Sets) (c left : Charset) (i : ℕ) (x : Sets) → i < length changes → left ≡ designated (get_or changes i x) c
    → ((y : Sets) → IsAmong (drop i changes) y → IsAmong changes y) → (y : Sets) → IsAmong (drop (i + 1) changes) y → IsAmong changes y
among_next changes c left i x lt e = among_more changes i (get_or changes i x) (cut_at changes i (get_or changes i x) x lt refl)

pub none_there : {A : Type 0} {P : Type 0} (o : Option A) → false ≡ is_some o → IfNone o P → P
none_there None e p = p
none_there (Some x) e p = cc

pub not_other : (a b : Bool) → not (beq a b) ≡ false → a ≡ b
not_other true true e = refl
not_other true false e = cc
not_other false true e = cc
not_other false false e = refl

-- one more charset that strings leave
pub left_sound : (reach : Reach) (changes : List Sets) (old new : Charsets) (added c : Charset) → can_have reach c ≡ true → added ≡ designated_all changes c → ((d : Charset) → has old d ≡ true → Leaves reach changes d)
    → ((d : Charset) → has new d ≡ true → (has old d ≡ true) ⊎ (d ≡ added)) → (d : Charset) → has new d ≡ true → Leaves reach changes d
left_sound reach changes old new added c can is sound only d h = which (only d h)
  where
    which : (has old d ≡ true) ⊎ (d ≡ added) → Leaves reach changes d
    which (inl m) = sound d m
    which (inr e) = record { before = c; there = can; leads = e ∙ is }

abbrev pub AllLeft : Reach → List Sets → Charsets → ℕ → Type 0
AllLeft reach changes s k = (c : Charset) → charset_number c ≡ k → can_have reach c ≡ true → has s (designated_all changes c) ≡ true

pub all_left : (reach : Reach) (changes : List Sets) (old new : Charsets) (n : ℕ) → ((k : ℕ) → k < n → AllLeft reach changes old k) → ((c : Charset) → has old c ≡ true → has new c ≡ true) → AllLeft reach changes new n
    → (k : ℕ) → k < n + 1 → AllLeft reach changes new k
all_left reach changes old new n before more here = below_more (AllLeft reach changes new) n (λ k lt c e h. more (designated_all changes c) (before k lt c e h)) here

pub left_complete : (reach : Reach) (changes : List Sets) (s : Charsets) (n : ℕ) → 8 ≤ n → ((k : ℕ) → k < n → AllLeft reach changes s k) → (d : Charset) → Leaves reach changes d → has s d ≡ true
left_complete reach changes s n le all d l = let lt : charset_number l.before < n = omega (arith, number_small l.before) in ap (λ (z : Charset). has s z) l.leads ∙ all (charset_number l.before) lt l.before refl l.there
