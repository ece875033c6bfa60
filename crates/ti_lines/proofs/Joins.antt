-- A text written word by word is its words joined.
use Rattle.std.proofs.Common.{append_assoc, append-nil, ◌≡◌, ℕ, ◌<◌, List, [], ◌∷◌, ◌++◌, length, refl, sym, ap, ◌∙◌, arith}
use Rattle.std.specs.List.{join_with_byte}
use Rattle.vt_effects.specs.declared.effects.Effect.{Effect}
use Rattle.ti_lines.specs.EffectText.{texts, nonempty, joined, spelled, rows_name}
use Rattle.ti_lines.specs.EffectWriter.{begun, with_text, with_texts}

pub word_begun : (front name rest : List ℕ) → 0 < length name → with_text front (name ++ rest) ≡ (begun front ++ name) ++ rest
word_begun front [] rest h = absurd (omega arith)
word_begun front (b ∷ bs) rest h = sym (append_assoc (begun front) (b ∷ bs) rest)

pub rows_begun : (front top bottom : List ℕ) → with_text front (rows_name ++ (top ++ 44 ∷ bottom)) ≡ (with_text front (rows_name ++ top) ++ 44 ∷ []) ++ bottom
rows_begun front top bottom =
    sym (append_assoc (begun front ++ (rows_name ++ top)) (44 ∷ []) bottom ∙ append_assoc (begun front) (rows_name ++ top) (44 ∷ bottom))

-- each of these has a text
abbrev pub NoneEmpty : List (List ℕ) → Type 0
NoneEmpty [] = Unit {0}
NoneEmpty (w ∷ ws) = (0 < length w) × NoneEmpty ws

pub none_empty : (ts : List (List ℕ)) → NoneEmpty (nonempty ts)
none_empty [] = tt
none_empty ([] ∷ ts) = none_empty ts
none_empty ((b ∷ bs) ∷ ts) = (omega arith, none_empty ts)

none_more : (ws : List (List ℕ)) (b : ℕ) (bs : List ℕ) → NoneEmpty ws → NoneEmpty (ws ++ (b ∷ bs) ∷ [])
none_more [] b bs h = (omega arith, tt)
none_more (w ∷ ws) b bs h = (h.0, none_more ws b bs h.1)

join_more : (v : List ℕ) (vs : List (List ℕ)) (w : List ℕ) → join_with_byte 32 ((v ∷ vs) ++ w ∷ []) ≡ join_with_byte 32 (v ∷ vs) ++ 32 ∷ w
join_more v [] w = refl
join_more v (u ∷ us) w = ap (λ (l : List ℕ). v ++ 32 ∷ l) (join_more u us w) ∙ sym (append_assoc v (32 ∷ join_with_byte 32 (u ∷ us)) (32 ∷ w))

joins_as : (a : ℕ) (az : List ℕ) (vs : List (List ℕ)) → (rest : List ℕ) × (join_with_byte 32 ((a ∷ az) ∷ vs) ≡ a ∷ rest)
joins_as a az [] = (az, refl)
joins_as a az (v ∷ vs) = (az ++ 32 ∷ join_with_byte 32 (v ∷ vs), refl)

begun_some : (front : List ℕ) (a : ℕ) (rest : List ℕ) → front ≡ a ∷ rest → begun front ≡ front ++ 32 ∷ []
begun_some [] a rest e = absurd (cc)
begun_some (b ∷ bs) a rest e = refl

one_more : (ws : List (List ℕ)) (b : ℕ) (bs : List ℕ) → NoneEmpty ws → with_text (join_with_byte 32 ws) (b ∷ bs) ≡ join_with_byte 32 (ws ++ (b ∷ bs) ∷ [])
one_more [] b bs h = refl
one_more ([] ∷ ws) b bs h = absurd (omega (arith, h.0))
one_more ((a ∷ az) ∷ ws) b bs h =
    let r = joins_as a az ws in
    ap (λ (l : List ℕ). l ++ b ∷ bs) (begun_some (join_with_byte 32 ((a ∷ az) ∷ ws)) a r.0 r.1)
    ∙ append_assoc (join_with_byte 32 ((a ∷ az) ∷ ws)) (32 ∷ []) (b ∷ bs) ∙ sym (join_more (a ∷ az) ws (b ∷ bs))

all_more : (ws ts : List (List ℕ)) → NoneEmpty ws → with_texts (join_with_byte 32 ws) ts ≡ join_with_byte 32 (ws ++ nonempty ts)
all_more ws [] h = ap (join_with_byte 32) (sym (append-nil ws))
all_more ws ([] ∷ ts) h = all_more ws ts h
all_more ws ((b ∷ bs) ∷ ts) h =
    ap (λ (l : List ℕ). with_texts l ts) (one_more ws b bs h) ∙ all_more (ws ++ (b ∷ bs) ∷ []) ts (none_more ws b bs h)
    ∙ ap (join_with_byte 32) (append_assoc ws ((b ∷ bs) ∷ []) (nonempty ts))

pub writes_joined : (ts : List (List ℕ)) → with_texts [] ts ≡ join_with_byte 32 (nonempty ts)
writes_joined ts = all_more [] ts tt

-- a dash for no words
as_joined : (ws : List (List ℕ)) → NoneEmpty ws → ((join_with_byte 32 ws ≡ []) → joined ws ≡ 45 ∷ []) × ((0 < length (join_with_byte 32 ws)) → joined ws ≡ join_with_byte 32 ws)
as_joined [] h = (λ e. refl, λ l. absurd (omega (arith, l)))
as_joined ([] ∷ ws) h = absurd (omega (arith, h.0))
as_joined ((a ∷ az) ∷ ws) h = let r = joins_as a az ws in (λ e. absurd (omega (arith, ap length (sym e ∙ r.1))), λ l. refl)

all_dashed : (ts : List (List ℕ)) → with_texts [] ts ≡ [] → joined (nonempty ts) ≡ 45 ∷ []
all_dashed ts e = (as_joined (nonempty ts) (none_empty ts)).0 (sym (writes_joined ts) ∙ e)

all_undashed : (ts : List (List ℕ)) → 0 < length (with_texts [] ts) → joined (nonempty ts) ≡ with_texts [] ts
all_undashed ts l =
    let e : length (with_texts [] ts) ≡ length (join_with_byte 32 (nonempty ts)) = ap length (writes_joined ts) in
    (as_joined (nonempty ts) (none_empty ts)).1 (omega (arith, l, e)) ∙ sym (writes_joined ts)

pub dashed : (e : Effect) → with_texts [] (texts e) ≡ [] → spelled e ≡ 45 ∷ []
unfolding spelled
dashed e h = all_dashed (texts e) h

pub undashed : (e : Effect) → 0 < length (with_texts [] (texts e)) → spelled e ≡ with_texts [] (texts e)
unfolding spelled
undashed e h = all_undashed (texts e) h
