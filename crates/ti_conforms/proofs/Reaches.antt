-- The charsets that tokens reach.
use Rattle.std.proofs.Math.Seq.{drop-cons}
use Rattle.std.proofs.Common.{◌≡◌, ◌⊎◌, ◌&&◌, ◌<◌, ◌+◌, suc, drop, length, get_or, arith, inl, inr, ℕ, Bool, true, false, if◌then◌else◌, List, [], ◌∷◌, ◌++◌, refl, sym, ap, ◌∙◌}
use Rattle.vt_term.specs.Function.{Function, function_of, G0, G1, ShiftOut, ShiftIn, Designate}
use Rattle.vt_term.specs.Screen.{Charset}
use Rattle.ti_conforms.specs.declared.reach.Reach.{Reach}
use Rattle.ti_conforms.specs.Charsets.{reset_charset, charset_after, IsAmong, Reached, AtReset, AfterToken, makes_g0_graphic, makes_g1_graphic, shifts_out, some_make, reach_of, within, can_have, joined}

or_step : (a m b : Bool) → (if (if a then true else (if m then true else false)) then true else b) ≡ (if a then true else (if m then true else b))
or_step true m b = refl
or_step false true b = refl
or_step false false b = refl

pub same_reach : {a b c x y z : Bool} → a ≡ x → b ≡ y → c ≡ z → ◌≡◌ {A = Reach} (record { g0_graphic = a; g1_graphic = b; shifted_out = c }) (record { g0_graphic = x; g1_graphic = y; shifted_out = z })
same_reach p q r = cc

pub joined_step : (r : Reach) (t : List ℕ) (ts : List (List ℕ)) → joined (joined r (reach_of (t ∷ []))) (reach_of ts) ≡ joined r (reach_of (t ∷ ts))
joined_step r t ts = same_reach
    (or_step r.g0_graphic (makes_g0_graphic (function_of t)) (some_make makes_g0_graphic ts))
    (or_step r.g1_graphic (makes_g1_graphic (function_of t)) (some_make makes_g1_graphic ts))
    (or_step r.shifted_out (shifts_out (function_of t)) (some_make shifts_out ts))

or_none : (a : Bool) → (if a then true else false) ≡ a
or_none true = refl
or_none false = refl

pub joined_none : (r : Reach) → joined r (reach_of []) ≡ r
joined_none r = same_reach (or_none r.g0_graphic) (or_none r.g1_graphic) (or_none r.shifted_out)

some_append : (mark : Function → Bool) (ts us : List (List ℕ)) → some_make mark (ts ++ us) ≡ (if some_make mark ts then true else some_make mark us)
some_append mark [] us = refl
some_append mark (t ∷ ts) us = either_way (mark (function_of t)) (some_make mark ts) (some_make mark us) (some_make mark (ts ++ us)) (some_append mark ts us)
  where
    either_way : (m a b c : Bool) → c ≡ (if a then true else b) → (if m then true else c) ≡ (if (if m then true else a) then true else b)
    either_way true a b c h = refl
    either_way false a b c h = h

pub reach_of-append : (ts us : List (List ℕ)) → reach_of (ts ++ us) ≡ joined (reach_of ts) (reach_of us)
reach_of-append ts us = same_reach (some_append makes_g0_graphic ts us) (some_append makes_g1_graphic ts us) (some_append shifts_out ts us)

-- a token among these turns the mark on
record Maker (mark : Function → Bool) (tokens : List (List ℕ)) : Type 0 where
  token : List ℕ
  among : IsAmong tokens token
  makes : mark (function_of token) ≡ true

maker_on : (mark : Function → Bool) (t : List ℕ) (ts : List (List ℕ)) (b : Bool) → mark (function_of t) ≡ b → (if b then true else some_make mark ts) ≡ true → (some_make mark ts ≡ true → Maker mark ts) → Maker mark (t ∷ ts)
maker_on mark t ts true e h deeper = record { token = t; among = inl refl; makes = e }
maker_on mark t ts false e h deeper = let m : Maker mark ts = deeper h in record { token = m.token; among = inr m.among; makes = m.makes }

maker : (mark : Function → Bool) (ts : List (List ℕ)) → some_make mark ts ≡ true → Maker mark ts
maker mark [] h = cc
maker mark (t ∷ ts) h = maker_on mark t ts (mark (function_of t)) refl h (maker mark ts)

some_on : (mark : Function → Bool) (t : List ℕ) (ts : List (List ℕ)) (b : Bool) → b ≡ true → (if b then true else some_make mark ts) ≡ true
some_on mark t ts true h = refl
some_on mark t ts false h = cc

some_later : (b c : Bool) → c ≡ true → (if b then true else c) ≡ true
some_later true c h = refl
some_later false c h = h

some_of : (mark : Function → Bool) (token : List ℕ) (ts : List (List ℕ)) → IsAmong ts token → mark (function_of token) ≡ true → some_make mark ts ≡ true
some_of mark token [] a h = absurd a
some_of mark token (t ∷ ts) (inl e) h = some_on mark t ts (mark (function_of t)) (ap (λ (x : List ℕ). mark (function_of x)) (sym e) ∙ h)
some_of mark token (t ∷ ts) (inr a) h = some_later (mark (function_of t)) (some_make mark ts) (some_of mark token ts a h)

-- a function that turns a mark on changes no other mark
g0_made : (f : Function) (c : Charset) → makes_g0_graphic f ≡ true → charset_after f c ≡ record c { g0_graphic = true }
g0_made (Designate G0 true) c h = refl
g0_made _ c h = cc

g1_made : (f : Function) (c : Charset) → makes_g1_graphic f ≡ true → charset_after f c ≡ record c { g1_graphic = true }
g1_made (Designate G1 true) c h = refl
g1_made _ c h = cc

out_made : (f : Function) (c : Charset) → shifts_out f ≡ true → charset_after f c ≡ record c { shifted_out = true }
out_made ShiftOut c h = refl
out_made _ c h = cc

-- a mark that is on was on, or was turned on
g0_before : (f : Function) (c : Charset) → (charset_after f c).g0_graphic ≡ true → (c.g0_graphic ≡ true) ⊎ (makes_g0_graphic f ≡ true)
g0_before (Designate G0 true) c h = inr refl
g0_before (Designate G0 false) c h = cc
g0_before (Designate G1 g) c h = inl h
g0_before _ c h = inl h

g1_before : (f : Function) (c : Charset) → (charset_after f c).g1_graphic ≡ true → (c.g1_graphic ≡ true) ⊎ (makes_g1_graphic f ≡ true)
g1_before (Designate G1 true) c h = inr refl
g1_before (Designate G1 false) c h = cc
g1_before (Designate G0 g) c h = inl h
g1_before _ c h = inl h

out_before : (f : Function) (c : Charset) → (charset_after f c).shifted_out ≡ true → (c.shifted_out ≡ true) ⊎ (shifts_out f ≡ true)
out_before ShiftOut c h = inr refl
out_before ShiftIn c h = cc
out_before (Designate G0 g) c h = inl h
out_before (Designate G1 g) c h = inl h
out_before _ c h = inl h

-- the tokens turn on each mark of the charset
record Has (tokens : List (List ℕ)) (c : Charset) : Type 0 where
  g0 : c.g0_graphic ≡ true → some_make makes_g0_graphic tokens ≡ true
  g1 : c.g1_graphic ≡ true → some_make makes_g1_graphic tokens ≡ true
  out : c.shifted_out ≡ true → some_make shifts_out tokens ≡ true

from_either : {P Q R : Type 0} → P ⊎ Q → (P → R) → (Q → R) → R
from_either (inl p) f g = f p
from_either (inr q) f g = g q

reached_has : (tokens : List (List ℕ)) (c : Charset) → Reached tokens c → Has tokens c
reached_has tokens c (AtReset _ e) = record {
  g0 = λ h. let no : false ≡ true = ap (λ (x : Charset). x.g0_graphic) (sym e) ∙ h in cc;
  g1 = λ h. let no : false ≡ true = ap (λ (x : Charset). x.g1_graphic) (sym e) ∙ h in cc;
  out = λ h. let no : false ≡ true = ap (λ (x : Charset). x.shifted_out) (sym e) ∙ h in cc;
}
reached_has tokens d (AfterToken c _ token r a e) =
    let p : Has tokens c = reached_has tokens c r in
    record {
      g0 = λ h. from_either (g0_before (function_of token) c (ap (λ (x : Charset). x.g0_graphic) (sym e) ∙ h)) p.g0 (λ m. some_of makes_g0_graphic token tokens a m);
      g1 = λ h. from_either (g1_before (function_of token) c (ap (λ (x : Charset). x.g1_graphic) (sym e) ∙ h)) p.g1 (λ m. some_of makes_g1_graphic token tokens a m);
      out = λ h. from_either (out_before (function_of token) c (ap (λ (x : Charset). x.shifted_out) (sym e) ∙ h)) p.out (λ m. some_of shifts_out token tokens a m);
    }

within_is : (a b : Bool) → (a ≡ true → b ≡ true) → within a b ≡ true
within_is true b h = h refl
within_is false b h = refl

all_three : (a b c : Bool) → a ≡ true → b ≡ true → c ≡ true → (a && (b && c)) ≡ true
all_three a b c p q r = ap (λ (x : Bool). x && (b && c)) p ∙ (ap (λ (x : Bool). x && c) q ∙ r)

pub reached_can : (tokens : List (List ℕ)) (c : Charset) → Reached tokens c → can_have (reach_of tokens) c ≡ true
reached_can tokens c r =
    let h : Has tokens c = reached_has tokens c r in
    all_three _ _ _ (within_is c.g0_graphic _ h.g0) (within_is c.g1_graphic _ h.g1) (within_is c.shifted_out _ h.out)

first_of_and : (a b : Bool) → (a && b) ≡ true → a ≡ true
first_of_and true b h = refl
first_of_and false b h = cc

second_of_and : (a b : Bool) → (a && b) ≡ true → b ≡ true
second_of_and true b h = h
second_of_and false b h = cc

within_use : (a b : Bool) → within a b ≡ true → a ≡ true → b ≡ true
within_use true b h e = h
within_use false b h e = cc

-- one mark after another is turned on
with_g0 : (tokens : List (List ℕ)) (a : Bool) → (a ≡ true → some_make makes_g0_graphic tokens ≡ true) → Reached tokens (record { g0_graphic = a; g1_graphic = false; shifted_out = false })
with_g0 tokens false h = AtReset _ refl
with_g0 tokens true h =
    let m : Maker makes_g0_graphic tokens = maker makes_g0_graphic tokens (h refl) in
    AfterToken reset_charset _ m.token (AtReset reset_charset refl) m.among (sym (g0_made (function_of m.token) reset_charset m.makes))

with_g1 : (tokens : List (List ℕ)) (a b : Bool) → Reached tokens (record { g0_graphic = a; g1_graphic = false; shifted_out = false }) → (b ≡ true → some_make makes_g1_graphic tokens ≡ true) → Reached tokens (record { g0_graphic = a; g1_graphic = b; shifted_out = false })
with_g1 tokens a false r h = r
with_g1 tokens a true r h =
    let m : Maker makes_g1_graphic tokens = maker makes_g1_graphic tokens (h refl) in
    AfterToken _ _ m.token r m.among (sym (g1_made (function_of m.token) (record { g0_graphic = a; g1_graphic = false; shifted_out = false }) m.makes))

with_out : (tokens : List (List ℕ)) (a b c : Bool) → Reached tokens (record { g0_graphic = a; g1_graphic = b; shifted_out = false }) → (c ≡ true → some_make shifts_out tokens ≡ true) → Reached tokens (record { g0_graphic = a; g1_graphic = b; shifted_out = c })
with_out tokens a b false r h = r
with_out tokens a b true r h =
    let m : Maker shifts_out tokens = maker shifts_out tokens (h refl) in
    AfterToken _ _ m.token r m.among (sym (out_made (function_of m.token) (record { g0_graphic = a; g1_graphic = b; shifted_out = false }) m.makes))

pub can_reached : (tokens : List (List ℕ)) (c : Charset) → can_have (reach_of tokens) c ≡ true → Reached tokens c
can_reached tokens c h =
    let r : Reach = reach_of tokens in
    let p : within c.g0_graphic r.g0_graphic ≡ true = first_of_and _ _ h in
    let q : (within c.g1_graphic r.g1_graphic && within c.shifted_out r.shifted_out) ≡ true = second_of_and _ _ h in
    with_out tokens c.g0_graphic c.g1_graphic c.shifted_out
    (with_g1 tokens c.g0_graphic c.g1_graphic (with_g0 tokens c.g0_graphic (λ e. within_use _ _ p e)) (λ e. within_use _ _ (first_of_and _ _ q) e))
    (λ e. within_use _ _ (second_of_and _ _ q) e)

pub learned : (r new : Reach) (ts : List (List ℕ)) (i : ℕ) (t d : List ℕ) (all : Reach) → i < length ts → t ≡ get_or ts i d → new ≡ joined r (reach_of (t ∷ [])) → joined r (reach_of (drop i ts)) ≡ all → joined new (reach_of (drop (i + 1) ts)) ≡ all
learned r new ts i t d all lt is h inv =
    let cut : drop i ts ≡ t ∷ drop (i + 1) ts = drop-cons ts i d lt ∙ (ap (λ (x : List ℕ). x ∷ drop (suc i) ts) (sym is) ∙ (let e : suc i ≡ i + 1 = omega arith in ap (λ k. t ∷ drop k ts) e)) in
    ap (λ (q : Reach). joined q (reach_of (drop (i + 1) ts))) h ∙ (joined_step r t (drop (i + 1) ts) ∙ (ap (λ (l : List (List ℕ)). joined r (reach_of l)) (sym cut) ∙ inv))
