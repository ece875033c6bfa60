-- A recording shown part by part.
use Rattle.std.proofs.Common.{◌≡◌, ℕ, zero, suc, ◌+◌, ◌<◌, ◌≤◌, List, [], ◌∷◌, ◌++◌, length, take, drop, refl, sym, ap, ◌∙◌, arith, append_assoc, length-drop, length-take, Bool, true, false, if◌then◌else◌}
use Rattle.std.specs.List.{flat_map}
use Rattle.std.proofs.lemmas.List.{append-nil, drop-drop, drop_all}
use Rattle.vt_states.specs.Recordings.{begins_string, is_character, part_length, parts, shown, dropped, replaced, total, all_parts, plain_text}

-- the parts before a place as T gets them, and enough parts for the bytes after it
pub record ShownSoFar (bytes : List ℕ) (at : ℕ) (text : List ℕ) (gone marks : ℕ) : Type 0 where
  pub within : at ≤ length bytes
  pub fuel : ℕ
  pub enough : length (drop at bytes) ≤ fuel
  pub text_left : text ++ flat_map shown (parts fuel (drop at bytes)) ≡ plain_text bytes
  pub gone_left : gone + total dropped (parts fuel (drop at bytes)) ≡ total dropped (all_parts bytes)
  pub marks_left : marks + total replaced (parts fuel (drop at bytes)) ≡ total replaced (all_parts bytes)
  pub few_gone : gone ≤ at
  pub few_marks : marks ≤ at

pub nothing_shown : (bytes : List ℕ) → ShownSoFar bytes 0 [] 0 0
nothing_shown bytes = record {
  within = omega arith;
  fuel = length bytes;
  enough = omega arith;
  text_left = refl;
  gone_left = omega arith;
  marks_left = omega arith;
  few_gone = omega arith;
  few_marks = omega arith;
}

record First (fuel : ℕ) (rest : List ℕ) : Type 0 where
  pub left : ℕ
  pub fewer : fuel ≡ suc left
  pub first : parts fuel rest ≡ take (part_length rest) rest ∷ parts left (drop (part_length rest) rest)

first_part : (fuel : ℕ) (rest : List ℕ) → 0 < length rest → length rest ≤ fuel → First fuel rest
first_part zero rest some h = absurd (omega arith)
first_part (suc m) [] some h = absurd (omega arith)
first_part (suc m) (b ∷ rest) some h = record { left = m; fewer = refl; first = refl }

no_parts : (fuel : ℕ) → parts fuel [] ≡ []
no_parts zero = refl
no_parts (suc n) = refl

chosen_within : (t : Bool) (n m l : ℕ) → n ≤ l → m ≤ l → (if t then n else m) ≤ l
chosen_within true n m l h k = h
chosen_within false n m l h k = k

pub one_shown : (bytes : List ℕ) (at : ℕ) (text : List ℕ) (gone marks n : ℕ) (part more : List ℕ) (gone_now marks_now : ℕ) → ShownSoFar bytes at text gone marks → at < length bytes
    → n ≡ part_length (drop at bytes) → part ≡ take n (drop at bytes) → 0 < n → n ≤ length (drop at bytes)
    → more ≡ text ++ shown part → gone_now ≡ gone + dropped part → marks_now ≡ marks + replaced part → ShownSoFar bytes (at + n) more gone_now marks_now
one_shown bytes at text gone marks n part more gone_now marks_now h lt e p some within t g m =
    let f : First h.fuel (drop at bytes) = first_part h.fuel (drop at bytes) (omega (arith, length-drop at bytes)) h.enough in
    let behind : drop (part_length (drop at bytes)) (drop at bytes) ≡ drop (at + n) bytes = ap (λ (k : ℕ). drop k (drop at bytes)) (sym e) ∙ drop-drop n at bytes in
    let front : take (part_length (drop at bytes)) (drop at bytes) ≡ part = ap (λ (k : ℕ). take k (drop at bytes)) (sym e) ∙ sym p in
    let all : parts h.fuel (drop at bytes) ≡ part ∷ parts f.left (drop (at + n) bytes) =
    f.first ∙ ap (λ (l : List ℕ). l ∷ parts f.left (drop (part_length (drop at bytes)) (drop at bytes))) front ∙ ap (λ (l : List ℕ). part ∷ parts f.left l) behind in
    let long : length part ≡ n = omega (arith, ap length p, length-take n (drop at bytes)) in
    let few_here : dropped part ≤ n = chosen_within (begins_string part) (length part) 0 n (omega arith) (omega arith) in
    let marks_here : replaced part ≤ n = chosen_within (begins_string part) 0 _ n (omega arith) (chosen_within (is_character part) 1 0 n (omega arith) (omega arith)) in
    record {
      within = omega (arith, length-drop at bytes, h.within);
      fuel = f.left;
      enough = omega (arith, length-drop at bytes, length-drop (at + n) bytes, h.enough, f.fewer);
      text_left = ap (λ (l : List ℕ). l ++ flat_map shown (parts f.left (drop (at + n) bytes))) t ∙ append_assoc text (shown part) (flat_map shown (parts f.left (drop (at + n) bytes)))
          ∙ ap (λ (l : List (List ℕ)). text ++ flat_map shown l) (sym all) ∙ h.text_left;
      gone_left = let sums : total dropped (parts h.fuel (drop at bytes)) ≡ dropped part + total dropped (parts f.left (drop (at + n) bytes)) = ap (λ (l : List (List ℕ)). total dropped l) all in omega (arith, h.gone_left, g);
      marks_left = let sums : total replaced (parts h.fuel (drop at bytes)) ≡ replaced part + total replaced (parts f.left (drop (at + n) bytes)) = ap (λ (l : List (List ℕ)). total replaced l) all in omega (arith, h.marks_left, m);
      few_gone = omega (arith, h.few_gone, g);
      few_marks = omega (arith, h.few_marks, m);
    }

pub record AllShown (bytes text : List ℕ) (gone marks : ℕ) : Type 0 where
  pub is_text : text ≡ plain_text bytes
  pub is_gone : gone ≡ total dropped (all_parts bytes)
  pub is_marks : marks ≡ total replaced (all_parts bytes)

pub all_shown : (bytes : List ℕ) (at : ℕ) (text : List ℕ) (gone marks : ℕ) → ShownSoFar bytes at text gone marks → length bytes ≤ at → AllShown bytes text gone marks
all_shown bytes at text gone marks h end =
    let nothing : parts h.fuel (drop at bytes) ≡ [] = ap (λ (l : List ℕ). parts h.fuel l) (drop_all at bytes end) ∙ no_parts h.fuel in
    record {
      is_text = sym (append-nil text) ∙ ap (λ (l : List (List ℕ)). text ++ flat_map shown l) (sym nothing) ∙ h.text_left;
      is_gone = let sums : total dropped (parts h.fuel (drop at bytes)) ≡ 0 = ap (λ (l : List (List ℕ)). total dropped l) nothing in omega (arith, h.gone_left);
      is_marks = let sums : total replaced (parts h.fuel (drop at bytes)) ≡ 0 = ap (λ (l : List (List ℕ)). total replaced l) nothing in omega (arith, h.marks_left);
    }
