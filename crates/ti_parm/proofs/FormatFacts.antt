-- Reading a format part by part, with its numbers capped at a limit.
use Rattle.std.proofs.Common.{◌≡◌, ◌⊎◌, inl, inr, ℕ, ℤ, ◌-◌, length, ◌<◌, min, Bool, true, false, cond, ◌&&◌, List, [], ◌∷◌, Option, Some, None, nat_le, refl, sym, ap, ◌∙◌, arith}
use Rattle.std.specs.Option.{option_map}
use Rattle.ti_parm.specs.declared.formats.Conversion.{Conversion}
use Rattle.ti_parm.specs.declared.formats.Flags.{Flags}
use Rattle.ti_parm.specs.declared.formats.Format.{Format}
use Rattle.ti_parm.specs.Formats.{digits_shown, least_digits, magnitude, number_shown, padded, prefix_of, zeros_shown}
use Rattle.ti_parm.specs.Codes.{behind_flags, finished, flag_at, flags_on, format_of, is_byte, is_flag, with_flag}
use Rattle.ti_parm.proofs.Numbers.{either-none, either-some, le_or_ge}

pub flags_on-flag : (f g : Flags) (text more : List ℕ) → flag_at f text ≡ Some (g, more) → flags_on f text ≡ flags_on g more
flags_on-flag f g [] more e = cc
flags_on-flag f g (b ∷ rest) more e =
    let p = either-some (is_flag b) (with_flag b f) g rest more e in
    ap (λ d. cond d (flags_on (with_flag b f) rest) f) p.0 ∙ ap (λ h. flags_on h rest) p.1 ∙ ap (flags_on g) p.2

pub behind_flags-flag : (f g : Flags) (text more : List ℕ) → flag_at f text ≡ Some (g, more) → behind_flags text ≡ behind_flags more
behind_flags-flag f g [] more e = cc
behind_flags-flag f g (b ∷ rest) more e =
    let p = either-some (is_flag b) (with_flag b f) g rest more e in
    ap (λ d. cond d (behind_flags rest) (b ∷ rest)) p.0 ∙ ap behind_flags p.2

pub flags_on-none : (f : Flags) (text : List ℕ) → flag_at f text ≡ None → flags_on f text ≡ f
flags_on-none f [] e = refl
flags_on-none f (b ∷ rest) e = ap (λ d. cond d (flags_on (with_flag b f) rest) f) (either-none (is_flag b) (with_flag b f, rest) e)

pub behind_flags-none : (f : Flags) (text : List ℕ) → flag_at f text ≡ None → behind_flags text ≡ text
behind_flags-none f [] e = refl
behind_flags-none f (b ∷ rest) e = ap (λ d. cond d (behind_flags rest) (b ∷ rest)) (either-none (is_flag b) (with_flag b f, rest) e)

too_large : (n : ℕ) → 255 < n → nat_le n 255 ≡ false
too_large n h = grind arith

-- a small number is read exactly, and a large one is seen to be too large
small-or-large : (n : ℕ) → (min 2147483648 n ≡ n) ⊎ ((nat_le n 255 ≡ false) × (nat_le (min 2147483648 n) 255 ≡ false))
small-or-large n = elim (le_or_ge n 2147483648) [
  | inl h ↦ inl (omega arith)
  | inr h ↦ inr (too_large n (omega arith), too_large (min 2147483648 n) (omega arith))
]

second-false : (a b : Bool) → b ≡ false → (a && b) ≡ false
second-false true b e = e
second-false false b e = refl

first-false : (a b : Bool) → a ≡ false → (a && b) ≡ false
first-false a b e = ap (λ c. c && b) e

finished-width : (f : Flags) (w : ℕ) (p : Option ℕ) (k : Conversion) → finished f (min 2147483648 w) p k ≡ finished f w p k
finished-width f w p k = elim (small-or-large w) [
  | inl e ↦ ap (λ n. finished f n p k) e
  | inr e ↦
      ap (λ d. cond d (Some (format_of f (min 2147483648 w) p k)) None) (first-false _ (is_byte p) e.1)
      ∙ sym (ap (λ d. cond d (Some (format_of f w p k)) None) (first-false _ (is_byte p) e.0))
]

finished-precision : (f : Flags) (w : ℕ) (p : Option ℕ) (k : Conversion) → finished f w (option_map (min 2147483648) p) k ≡ finished f w p k
finished-precision f w None k = refl
finished-precision f w (Some n) k = elim (small-or-large n) [
  | inl e ↦ ap (λ m. finished f w (Some m) k) e
  | inr e ↦
      ap (λ d. cond d (Some (format_of f w (Some (min 2147483648 n)) k)) None) (second-false (nat_le w 255) _ e.1)
      ∙ sym (ap (λ d. cond d (Some (format_of f w (Some n) k)) None) (second-false (nat_le w 255) _ e.0))
]

pub finished-capped : (f : Flags) (w : ℕ) (p : Option ℕ) (k : Conversion) → finished f (min 2147483648 w) (option_map (min 2147483648) p) k ≡ finished f w p k
finished-capped f w p k = finished-width f w (option_map (min 2147483648) p) k ∙ finished-precision f w p k

-- the parts of a number in a format
pub shown-by : (f : Format) (n : ℤ) (prefix : List ℕ) (zeros : ℕ) (text : List ℕ) → text ≡ digits_shown f (magnitude f.conversion n) → zeros ≡ least_digits f.precision - length text → prefix ≡ prefix_of f.conversion f n → padded f prefix zeros text ≡ number_shown f n
unfolding number_shown
shown-by f n prefix zeros text t z p =
    let same : zeros ≡ zeros_shown f (magnitude f.conversion n) = z ∙ ap (λ xs. least_digits f.precision - length xs) t in
    ap (λ x. padded f x zeros text) p
    ∙ ap (λ k. padded f (prefix_of f.conversion f n) k text) same
    ∙ ap (padded f (prefix_of f.conversion f n) (zeros_shown f (magnitude f.conversion n))) t
