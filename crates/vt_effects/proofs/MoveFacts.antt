-- A row or column after two moves.
use Rattle.std.proofs.Common.{◌≡◌, ℕ, ◌+◌, ◌-◌, ◌<◌, ◌≤◌, ◌==◌, Bool, true, false, min, nat_le, nat_lt, if◌then◌else◌, Option, Some, None, refl, subst, arith}
use Rattle.std.proofs.lemmas.Bool.{leb-true, ltb-true, ltb-false, eqb-true}
use Rattle.std.proofs.lemmas.Option.{same_Some, none-some}
use Rattle.vt_effects.specs.declared.effects.Move.{Move}
use Rattle.vt_effects.specs.declared.effects.Move.TheVariants as moves
use Rattle.vt_effects.specs.Effect.{moved}
use Rattle.vt_effects.specs.Record.{net, and_back, and_forward, back_by, forward_by}

-- either branch of a choice may have given the value
pub chosen : {A G : Type 0} (b : Bool) (x y : Option A) (f : A) → (if b then x else y) ≡ Some f → (b ≡ true → x ≡ Some f → G) → (b ≡ false → y ≡ Some f → G) → G
chosen true x y f h p q = p refl h
chosen false x y f h p q = q refl h

-- a property of the value given holds of the value found
pub given : {A : Type 0} (P : A → Type 0) (e f : A) → Some e ≡ Some f → P e → P f
given P e f h p = subst P (same_Some e f h) p

-- nothing was found
pub not_found : {A G : Type 0} (f : A) → None ≡ Some f → G
not_found f h = absurd (none-some f h)

-- a move, if back, never passes the first row or column
abbrev pub IsBack : Move → ℕ → Type 0
IsBack (moves.Back k) low = k ≤ low
IsBack _ low = Unit {0}

either_move : (b : Bool) (P : Move → Type 0) (m n : Move) → (b ≡ true → P m) → (b ≡ false → P n) → P (if b then m else n)
either_move true P m n p q = p refl
either_move false P m n p q = q refl

net_moved : (f b x : ℕ) → b ≤ x + f → moved (net f b) x ≡ x + f - b
net_moved f b x le = either_move (f == b) (λ m. moved m x ≡ x + f - b) _ _ (λ e. (let h : f ≡ b = eqb-true f b e in omega (arith, h)))
    (λ e. either_move (nat_lt b f) (λ m. moved m x ≡ x + f - b) _ _ (λ l. (let h : b < f = ltb-true b f l in omega (arith, h))) (λ l. (let h : f ≤ b = ltb-false b f l in omega (arith, h))))

net_back : (f b low : ℕ) → b ≤ low + f → IsBack (net f b) low
net_back f b low le = either_move (f == b) (λ m. IsBack m low) _ _ (λ e. tt)
    (λ e. either_move (nat_lt b f) (λ m. IsBack m low) _ _ (λ l. tt) (λ l. (let h : f ≤ b = ltb-false b f l in omega (arith, h))))

-- a new move, and where it leads from x
pub record Leads (m : Move) (low x to : ℕ) : Type 0 where
  pub back : IsBack m low
  pub there : to ≡ moved m x

pub and_back_leads : (m : Move) (n low x : ℕ) → IsBack m low → low ≤ x → n ≤ moved m low → Leads (and_back m n) low x (moved m x - n)
and_back_leads moves.Kept n low x g l h = record { back = net_back 0 n low (omega arith); there = (let e = net_moved 0 n x (omega arith) in omega (arith, e)) }
and_back_leads (moves.To k) n low x g l h = record { back = tt; there = refl }
and_back_leads (moves.Back k) n low x g l h = record { back = net_back 0 (k + n) low (omega arith); there = (let e = net_moved 0 (k + n) x (omega arith) in omega (arith, e)) }
and_back_leads (moves.Forward k) n low x g l h = record { back = net_back k n low (omega arith); there = (let e = net_moved k n x (omega arith) in omega (arith, e)) }

and_forward_leads : (m : Move) (n low x : ℕ) → IsBack m low → low ≤ x → Leads (and_forward m n) low x (moved m x + n)
and_forward_leads moves.Kept n low x g l = record { back = net_back n 0 low (omega arith); there = (let e = net_moved n 0 x (omega arith) in omega (arith, e)) }
and_forward_leads (moves.To k) n low x g l = record { back = tt; there = refl }
and_forward_leads (moves.Back k) n low x g l = record { back = net_back n k low (omega arith); there = (let e = net_moved n k x (omega arith) in omega (arith, e)) }
and_forward_leads (moves.Forward k) n low x g l = record { back = net_back (k + n) 0 low (omega arith); there = (let e = net_moved (k + n) 0 x (omega arith) in omega (arith, e)) }

-- a greater row or column stays at least as great after a move
pub moved_in_order : (m : Move) (x y : ℕ) → x ≤ y → moved m x ≤ moved m y
moved_in_order moves.Kept x y h = h
moved_in_order (moves.To k) x y h = omega arith
moved_in_order (moves.Back k) x y h = omega arith
moved_in_order (moves.Forward k) x y h = omega arith

-- a move back by n that no start is cut in
pub one_back : (m : Move) (n low x : ℕ) → IsBack m low → low ≤ x → nat_le n (moved m low) ≡ true → Leads (and_back m n) low x (moved m x - n)
one_back m n low x g l h = and_back_leads m n low x g l (leb-true n (moved m low) h)

pub one_forward : (m : Move) (n low x : ℕ) → IsBack m low → low ≤ x → Leads (and_forward m n) low x (moved m x + n)
one_forward m n low x g l = and_forward_leads m n low x g l

pub back_leads : (m m' : Move) (n low high x : ℕ) → back_by n low high m ≡ Some m' → IsBack m low → low ≤ x → x ≤ high → Leads m' low x (moved m x - n)
back_leads m m' n low high x e g l h = chosen (nat_le n (moved m low)) (Some (and_back m n)) _ m' e
    (λ b k. given (λ w. Leads w low x (moved m x - n)) _ m' k (one_back m n low x g l b))
    (λ b k. chosen (nat_lt (moved m high) n) (Some (moves.To 0)) None m' k
    (λ c i. given (λ w. Leads w low x (moved m x - n)) (moves.To 0) m' i (record {
      back = tt;
      there = omega (arith, ltb-true (moved m high) n c, moved_in_order m x high h);
    }))
    (λ c i. not_found m' i))

pub forward_leads : (m m' : Move) (n low high last x : ℕ) → forward_by n low high last m ≡ Some m' → IsBack m low → low ≤ x → x ≤ high → Leads m' low x (min (moved m x + n) last)
forward_leads m m' n low high last x e g l h = chosen (nat_le (moved m high + n) last) (Some (and_forward m n)) _ m' e
    (λ b k. given (λ w. Leads w low x (min (moved m x + n) last)) _ m' k
    (let there : Leads (and_forward m n) low x (moved m x + n) = one_forward m n low x g l in
    let fits : moved m high + n ≤ last = leb-true (moved m high + n) last b in
    let order : moved m x ≤ moved m high = moved_in_order m x high h in
    let inside : moved m x + n ≡ min (moved m x + n) last = omega (arith, fits, order) in
    subst (λ (w : ℕ). Leads (and_forward m n) low x w) inside there))
    (λ b k. chosen (nat_lt last (moved m low + n)) (Some (moves.To last)) None m' k
    (λ c i. given (λ w. Leads w low x (min (moved m x + n) last)) (moves.To last) m' i (record {
      back = tt;
      there = omega (arith, ltb-true last (moved m low + n) c, moved_in_order m low x l);
    }))
    (λ c i. not_found m' i))

-- the new move, if back, never passes the first row or column
pub back_kept : (m m' : Move) (n low high : ℕ) → back_by n low high m ≡ Some m' → IsBack m low → IsBack m' low
back_kept m m' n low high e g = chosen (nat_le n (moved m low)) (Some (and_back m n)) _ m' e
    (λ b k. given (λ w. IsBack w low) _ m' k (one_back m n low low g (omega arith) b).back)
    (λ b k. chosen (nat_lt (moved m high) n) (Some (moves.To 0)) None m' k (λ c i. given (λ w. IsBack w low) (moves.To 0) m' i tt) (λ c i. not_found m' i))

pub forward_kept : (m m' : Move) (n low high last : ℕ) → forward_by n low high last m ≡ Some m' → IsBack m low → IsBack m' low
forward_kept m m' n low high last e g = chosen (nat_le (moved m high + n) last) (Some (and_forward m n)) _ m' e
    (λ b k. given (λ w. IsBack w low) _ m' k (one_forward m n low low g (omega arith)).back)
    (λ b k. chosen (nat_lt last (moved m low + n)) (Some (moves.To last)) None m' k (λ c i. given (λ w. IsBack w low) (moves.To last) m' i tt) (λ c i. not_found m' i))
