-- A text splits into tokens in at most one way, and so do its prefixes.
use Rattle.std.proofs.Common.{◌≡◌, ℕ, ◌<◌, ◌⊎◌, length, inl, inr, List, [], ◌∷◌, ◌++◌, refl, sym, ap, subst, ◌∙◌, arith, append_assoc}
use Rattle.std.proofs.lemmas.List.{append-nil}
use Rattle.vt_term.specs.Fronts.{GoesOn}
use Rattle.vt_term.specs.Text.{Cuts, IsCutBy, IsOpen, IsWhole, IsToken, Splits, IsSplit}
use Rattle.vt_term.proofs.Sequences.{token_ends, token_not_open, token_stays, token_before, open_front, token_front, empty_open, escape_open}

-- of two prefixes of one list, one is a prefix of the other
pub data Compared (a b c d : List ℕ) : Type 0 where
  Longer : (x : List ℕ) → c ≡ a ++ x → b ≡ x ++ d → Compared a b c d
  Shorter : (x : List ℕ) → a ≡ c ++ x → d ≡ x ++ b → Compared a b c d

pub compare : (a b c d : List ℕ) → a ++ b ≡ c ++ d → Compared a b c d
compare [] b c d e = Longer c refl e
compare (y ∷ a) b [] d e = Shorter (y ∷ a) refl (sym e)
compare (y ∷ a) b (z ∷ c) d e =
    let same : y ≡ z = cc in
    elim (compare a b c d (cc)) [
      | Longer x p q ↦ Longer x (cc) q
      | Shorter x p q ↦ Shorter x (cc) q
    ]

pub record SameFirst (t behind u after : List ℕ) : Type 0 where
  pub token : u ≡ t
  pub rest : after ≡ behind

pub same_first : (t behind u after : List ℕ) → IsToken t behind → IsToken u after → t ++ behind ≡ u ++ after → SameFirst t behind u after
same_first t behind u after h k e = elim (compare t behind u after e) [
  | Longer x p q ↦ (let none : x ≡ [] = token_ends t x after (subst (IsToken t) q h) (subst (λ (l : List ℕ). IsToken l after) p k) in
      record { token = p ∙ ap (λ (l : List ℕ). t ++ l) none ∙ append-nil t; rest = sym (q ∙ ap (λ (l : List ℕ). l ++ after) none) })
  | Shorter x p q ↦ (let none : x ≡ [] = token_ends u x behind (subst (IsToken u) q k) (subst (λ (l : List ℕ). IsToken l behind) p h) in
      record { token = sym (p ∙ ap (λ (l : List ℕ). u ++ l) none ∙ append-nil u); rest = q ∙ ap (λ (l : List ℕ). l ++ behind) none })
]

pub splits_open : (text : List ℕ) (ts : List (List ℕ)) (r : List ℕ) → Splits text ts r → IsOpen r
splits_open text [] r s = s.1
splits_open text (t ∷ ts) r s = splits_open s.0 ts r s.3

-- an open text has no tokens
pub open_whole : (text : List ℕ) (ts : List (List ℕ)) (r : List ℕ) → IsOpen text → Splits text ts r → (ts ≡ []) × (r ≡ text)
open_whole text [] r h s = (refl, sym s.0)
open_whole text (t ∷ ts) r h s = absurd (token_not_open t s.0 s.2 (subst IsOpen s.1 h))

-- the tokens of a longer text are those of the shorter one and those of its rest with the bytes after it
pub goes_on : (text : List ℕ) (ts us : List (List ℕ)) (r more q : List ℕ) → Splits text ts r → Splits (text ++ more) us q → GoesOn ts us r more q
goes_on text [] us r more q s k = record { later = us; splits = subst (λ (l : List ℕ). Splits (l ++ more) us q) s.0 k; tokens = refl }
goes_on text (t ∷ ts) [] r more q s k =
    let e : text ++ more ≡ t ++ (s.0 ++ more) = ap (λ (l : List ℕ). l ++ more) s.1 ∙ append_assoc t s.0 more in
    absurd (token_not_open t (s.0 ++ more) (token_stays t s.0 more s.2) (subst IsOpen (sym k.0 ∙ e) k.1))
goes_on text (t ∷ ts) (u ∷ us) r more q s k =
    let e : text ++ more ≡ t ++ (s.0 ++ more) = ap (λ (l : List ℕ). l ++ more) s.1 ∙ append_assoc t s.0 more in
    let f : SameFirst t (s.0 ++ more) u k.0 = same_first t (s.0 ++ more) u k.0 (token_stays t s.0 more s.2) k.2 (sym e ∙ k.1) in
    let g : GoesOn ts us r more q = goes_on s.0 ts us r more q s.3 (subst (λ (l : List ℕ). Splits l us q) f.rest k.3) in
    record { later = g.later; splits = g.splits; tokens = ap (λ (x : List ℕ). x ∷ us) f.token ∙ ap (λ (l : List (List ℕ)). t ∷ l) g.tokens }

pub one_splitting : (text : List ℕ) (ts us : List (List ℕ)) (r q : List ℕ) → Splits text ts r → Splits text us q → (us ≡ ts) × (q ≡ r)
one_splitting text ts us r q s k =
    let g : GoesOn ts us r [] q = goes_on text ts us r [] q s (subst (λ (l : List ℕ). Splits l us q) (sym (append-nil text)) k) in
    let o : (g.later ≡ []) × (q ≡ r ++ []) = open_whole (r ++ []) g.later q (subst IsOpen (sym (append-nil r)) (splits_open text ts r s)) g.splits in
    (g.tokens ∙ ap (λ (l : List (List ℕ)). ts ++ l) o.0 ∙ append-nil ts, o.1 ∙ append-nil r)

-- a text and the bytes after it
pub splits_append : (text : List ℕ) (ts us : List (List ℕ)) (r more q : List ℕ) → Splits text ts r → Splits (r ++ more) us q → Splits (text ++ more) (ts ++ us) q
splits_append text [] us r more q s k = subst (λ (l : List ℕ). Splits (l ++ more) us q) (sym s.0) k
splits_append text (t ∷ ts) us r more q s k =
    (s.0 ++ more, ap (λ (l : List ℕ). l ++ more) s.1 ∙ append_assoc t s.0 more, token_stays t s.0 more s.2, splits_append s.0 ts us r more q s.3 k)

pub empty_splits : Splits [] [] []
empty_splits = (refl, empty_open)

-- a prefix of a text that splits splits too
pub splits_front : (xs ys : List ℕ) (ts : List (List ℕ)) (r : List ℕ) → Splits (xs ++ ys) ts r → IsSplit xs
splits_front xs ys [] r s = record { tokens = []; rest = xs; splits = (refl, open_front xs ys (subst IsOpen (sym s.0) s.1)) }
splits_front xs ys (t ∷ ts) r s = elim (compare xs ys t s.0 s.1) [
  | Longer more p q ↦ within xs t more s.0 s.2 p
  | Shorter more p q ↦ behind xs ys t more s.0 s.2 p q (splits_front more ys ts r (subst (λ (l : List ℕ). Splits l ts r) q s.3))
]
  where
    one : (xs t after : List ℕ) → IsToken t after → t ≡ xs → IsSplit xs
    one xs t after h p = elim h [
      | inl w ↦ record { tokens = xs ∷ []; rest = []; splits = ([], sym (append-nil xs), inl (subst IsWhole p w), (refl, empty_open)) }
      | inr d ↦ record { tokens = []; rest = xs; splits = (refl, subst IsOpen p d.fits) }
    ]

    within : (xs t more after : List ℕ) → IsToken t after → t ≡ xs ++ more → IsSplit xs
    within xs t [] after h p = one xs t after h (p ∙ append-nil xs)
    within xs t (m ∷ ms) after h p = record { tokens = []; rest = xs; splits = (refl, token_front xs (m ∷ ms) after (omega arith) (subst (λ (l : List ℕ). IsToken l after) p h)) }

    behind : (xs ys t more after : List ℕ) → IsToken t after → xs ≡ t ++ more → after ≡ more ++ ys → IsSplit more → IsSplit xs
    behind xs ys t [] after h p q g = one xs t after h (sym (p ∙ append-nil t))
    behind xs ys t (m ∷ ms) after h p q g =
        record { tokens = t ∷ g.tokens; rest = g.rest; splits = (m ∷ ms, p, token_before t m ms ys (subst (IsToken t) q h), g.splits) }

nothing_before : (xs ys : List ℕ) → xs ++ ys ≡ [] → xs ≡ []
nothing_before [] ys e = refl
nothing_before (x ∷ xs) ys e = cc

-- an open sequence isn't a token before a byte that doesn't cut it off
not_cut : (r : List ℕ) (b : ℕ) → IsOpen r → (0 < length r → Cuts b → ⊥) → IsToken r (b ∷ []) → ⊥
not_cut r b o other h = elim h [ inl w ↦ token_not_open r [] (inl w) (subst IsOpen (sym (append-nil r)) o) | inr d ↦ other d.some d.cut ]

tail_only : (r : List ℕ) (b : ℕ) (u more behind : List ℕ) → IsOpen r → (IsWhole (r ++ b ∷ []) → ⊥) → (0 < length r → Cuts b → ⊥) → IsToken u behind → u ≡ r ++ more → b ∷ [] ≡ more ++ behind → ⊥
tail_only r b u [] behind o other goes h p e =
    not_cut r b o goes (subst (λ (l : List ℕ). IsToken l (b ∷ [])) (p ∙ append-nil r) (subst (IsToken u) (sym e) h))
tail_only r b u (m ∷ more) behind o other goes h p e =
    let none : more ≡ [] = nothing_before more behind (cc) in
    let last : behind ≡ [] = nothing_after more behind (cc) in
    let same : u ≡ r ++ b ∷ [] = p ∙ ap (λ (l : List ℕ). r ++ l) (let q : m ∷ more ≡ b ∷ [] = cc in q) in
    elim h [ inl w ↦ other (subst IsWhole same w) | inr d ↦ none_cuts behind last d.cut ]
  where
    nothing_after : (xs ys : List ℕ) → [] ≡ xs ++ ys → ys ≡ []
    nothing_after [] ys e = sym e
    nothing_after (x ∷ xs) ys e = cc

    none_cuts : (l : List ℕ) → l ≡ [] → IsCutBy l → ⊥
    none_cuts [] e h = h
    none_cuts (x ∷ l) e h = cc

-- an open sequence, and a byte that neither continues nor ends it nor cuts it off
nothing_more : (r : List ℕ) (b : ℕ) (us : List (List ℕ)) (q : List ℕ) → IsOpen r → (IsOpen (r ++ b ∷ []) → ⊥) → (IsWhole (r ++ b ∷ []) → ⊥) → (0 < length r → Cuts b → ⊥) → Splits (r ++ b ∷ []) us q → ⊥
nothing_more r b [] q h closed other goes s = closed (subst IsOpen (sym s.0) s.1)
nothing_more r b (u ∷ us) q h closed other goes s = elim (compare r (b ∷ []) u s.0 s.1) [
  | Longer more p e ↦ tail_only r b u more s.0 h other goes s.2 p e
  | Shorter more p e ↦ shorter r b u more s.0 h goes s.2 p e
]
  where
    shorter : (r : List ℕ) (b : ℕ) (u more behind : List ℕ) → IsOpen r → (0 < length r → Cuts b → ⊥) → IsToken u behind → r ≡ u ++ more → behind ≡ more ++ b ∷ [] → ⊥
    shorter r b u [] behind o goes h p e =
        not_cut r b o goes (subst (λ (l : List ℕ). IsToken l (b ∷ [])) (sym (p ∙ append-nil u)) (subst (IsToken u) e h))
    shorter r b u (m ∷ more) behind o goes h p e =
        token_not_open u (m ∷ more) (token_before u m more (b ∷ []) (subst (IsToken u) e h)) (subst IsOpen p o)

pub fails : (r : List ℕ) (b : ℕ) → IsOpen r → (IsOpen (r ++ b ∷ []) → ⊥) → (IsWhole (r ++ b ∷ []) → ⊥) → (0 < length r → Cuts b → ⊥) → IsSplit (r ++ b ∷ []) → ⊥
fails r b o closed other goes k = nothing_more r b k.tokens k.rest o closed other goes k.splits

-- a byte that fits nothing after the rest fits nothing after the text
pub fits_nothing : (text : List ℕ) (ts : List (List ℕ)) (r : List ℕ) (b : ℕ) → Splits text ts r → (IsSplit (r ++ b ∷ []) → ⊥) → IsSplit (text ++ b ∷ []) → ⊥
fits_nothing text ts r b s none k =
    let g : GoesOn ts k.tokens r (b ∷ []) k.rest = goes_on text ts k.tokens r (b ∷ []) k.rest s k.splits in
    none (record { tokens = g.later; rest = k.rest; splits = g.splits })

-- an open sequence is cut off
pub restarts : (r : List ℕ) (b : ℕ) → IsOpen r → 0 < length r → b ≡ 27 → Splits (r ++ b ∷ []) (r ∷ []) (b ∷ [])
restarts r b o some e = (b ∷ [], refl, inr (record { some = some; fits = o; cut = inl e }), (refl, escape_open b e))

pub cut_whole : {b : ℕ} → (b ≡ 24) ⊎ (b ≡ 26) → IsWhole (b ∷ [])
cut_whole (inl e) = inl (inr (inl (omega (arith, e), λ n. omega (arith, e, n))))
cut_whole (inr e) = inl (inr (inl (omega (arith, e), λ n. omega (arith, e, n))))

pub cancels : (r : List ℕ) (b : ℕ) → IsOpen r → 0 < length r → (b ≡ 24) ⊎ (b ≡ 26) → Splits (r ++ b ∷ []) (r ∷ (b ∷ []) ∷ []) []
cancels r b o some e = (b ∷ [], refl, inr (record { some = some; fits = o; cut = inr e }), ([], refl, inl (cut_whole e), (refl, empty_open)))
