-- Characters and whole control sequences, taken at once if nothing is open.
use Rattle.std.proofs.Common.{◌≡◌, ℕ, ◌+◌, ◌-◌, ◌*◌, ◌<◌, ◌≤◌, ◌==◌, ◌&&◌, ◌⊎◌, nat_le, min, Bool, true, false, List, [], ◌∷◌, ◌++◌, length, length-append, take, get_or, set, Option, None, Some, refl, sym, subst, ap, ◌∙◌, arith, inl, inr, suc, if◌then◌else◌}
use Rattle.std.specs.List.{AllByRecursion, list_all}
use Rattle.std.specs.Option.{unwrap_or}
use Rattle.std.proofs.lemmas.Bool.{and_parts}
use Rattle.std.proofs.lemmas.Bool.Decides.{nat_tests}
use Rattle.std.proofs.lemmas.List.{append-nil, length-take, same_from_push, take_more, take_more_set}
use Rattle.vt_screen.specs.Screen.{Screen}
use Rattle.vt_screen.specs.Step.{act, printed, all_printed}
use Rattle.vt_screen.specs.declared.functions.Function.{Function}
use Rattle.vt_screen.specs.declared.functions.Function.TheVariants.{Print}
use Rattle.vt_term.specs.Screen.{State}
use Rattle.vt_term.specs.Text.{IsParameter, IsPrinted, IsWhole, Splits}
use Rattle.vt_term.specs.Parameters.{numbers, is_numeral}
use Rattle.vt_term.specs.ParserStates.{ReadsTo}
use Rattle.vt_term.specs.Function.{of_numbers, of_private_numbers, function_of}
use Rattle.vt_term.specs.Step.{steps}
use Rattle.vt_term.specs.Run.{Runs}
use Rattle.vt_term.proofs.Sequences.{empty_open}
use Rattle.vt_term.proofs.Decimals.{numbers_semicolon, LastLonger, last_longer}
use Rattle.vt_term.proofs.Readers.{sequence_push, list_all_push}
use Rattle.vt_term.proofs.Runs.{text_runs}

singles : List ℕ → List (List ℕ)
singles [] = []
singles (b ∷ bytes) = (b ∷ []) ∷ singles bytes

asks_to_print : (b : ℕ) (f : Function) → IsPrinted b → (if nat_le 32 b && nat_le b 126 then Print b else f) ≡ Print b
asks_to_print b f p = let lo : 32 ≤ b = p.0 in let hi : b ≤ 126 = p.1 in grind (arith, nat_tests)

splits_singly : (bytes : List ℕ) → AllByRecursion IsPrinted bytes → Splits bytes (singles bytes) []
unfolding singles
splits_singly [] p = (refl, empty_open)
splits_singly (b ∷ bytes) p = (bytes, refl, inl (inl (inl p.0)), splits_singly bytes p.1)

steps_singly : (bytes : List ℕ) (s : Screen) → AllByRecursion IsPrinted bytes → steps (singles bytes) s ≡ all_printed bytes s
unfolding singles
steps_singly [] s p = refl
steps_singly (b ∷ bytes) s p = ap (λ (f : Function). steps (singles bytes) (act f s)) (asks_to_print b _ p.0) ∙ steps_singly bytes (printed b s) p.1

-- characters are run
pub characters_run : (s : Screen) (rest bytes : List ℕ) → rest ≡ [] → AllByRecursion IsPrinted bytes → Runs (record { screen = s; rest = rest }) bytes (record { screen = all_printed bytes s; rest = rest })
characters_run s rest bytes e p = subst (λ (x : List ℕ). Runs (record { screen = s; rest = x }) bytes (record { screen = all_printed bytes s; rest = x })) (sym e)
    (record { tokens = singles bytes; splits = splits_singly bytes p; screen = sym (steps_singly bytes s p) })

-- the parameters are parameter bytes
parameters_fit : (front : List ℕ) → list_all is_numeral front ≡ true → AllByRecursion IsParameter front
parameters_fit [] h = tt
parameters_fit (b ∷ front) h = (in_range b (both_true_parts h).0, parameters_fit front (both_true_parts h).1)
  where
    in_range : (b : ℕ) → is_numeral b ≡ true → IsParameter b
    in_range b e = (let lo : 48 ≤ b = grind (arith, nat_tests) in lo, let hi : b ≤ 63 = grind (arith, nat_tests) in hi)

    both_true_parts : {x y : Bool} → (x && y) ≡ true → (x ≡ true) × (y ≡ true)
    both_true_parts {x} {y} h = and_parts x y h

sequence_spelled : (bytes : List ℕ) (at final : ℕ) → at < length bytes → final ≡ get_or bytes at 0 → take (at + 3) (27 ∷ 91 ∷ bytes) ≡ 27 ∷ 91 ∷ (take at bytes ++ final ∷ [])
sequence_spelled bytes at final lt e =
    let n : at + 3 ≡ suc (suc (at + 1)) = omega arith in
    ap (λ (n : ℕ). take n (27 ∷ 91 ∷ bytes)) n ∙ ap (λ (l : List ℕ). 27 ∷ 91 ∷ l) (take_more bytes at 0 lt ∙ ap (λ (b : ℕ). take at bytes ++ b ∷ []) (sym e))

nothing_open : (x : Screen) (bytes : List ℕ) (ns : List (Option ℕ)) (at final : ℕ) → at + 3 ≤ 256 → ReadsTo bytes ns at final
    → Runs (record { screen = x; rest = [] }) (take (at + 3) (27 ∷ 91 ∷ bytes)) (record { screen = act (of_numbers final ns) x; rest = [] })
nothing_open x bytes ns at final short h =
    let s : State = record { screen = x; rest = [] } in
    let front : List ℕ = take at bytes in
    let token : List ℕ = 27 ∷ 91 ∷ (front ++ final ∷ []) in
    let size : length token ≤ 256 = omega (arith, length-append front (final ∷ []), length-take at bytes) in
    let whole : IsWhole token = inr (inl (record { parameters = front; intermediates = []; final = final; spelled = refl; each_parameter = parameters_fit front h.numeral; each_intermediate = tt; ends = h.ends; short = size })) in
    let asks : function_of token ≡ of_numbers final ns = sequence_push front final ∙ rw (h.numeral) (ap (of_numbers final) (sym h.read)) in
    let runs : Runs s token (record { screen = act (function_of token) x; rest = [] }) = text_runs s token (token ∷ []) refl ([], sym (append-nil token), inl whole, (refl, empty_open)) in
    subst (λ (l : List ℕ). Runs s l (record { screen = act (of_numbers final ns) x; rest = [] })) (sym (sequence_spelled bytes at final h.within h.last))
    (subst (λ (f : Function). Runs s token (record { screen = act f x; rest = [] })) asks runs)

pub sequence_runs : (x : Screen) (rest bytes : List ℕ) (ns : List (Option ℕ)) (at final : ℕ) → rest ≡ [] → at + 3 ≤ 256 → ReadsTo bytes ns at final
    → Runs (record { screen = x; rest = rest }) (take (at + 3) (27 ∷ 91 ∷ bytes)) (record { screen = act (of_numbers final ns) x; rest = rest })
sequence_runs x rest bytes ns at final e short h =
    subst (λ (r : List ℕ). Runs (record { screen = x; rest = r }) (take (at + 3) (27 ∷ 91 ∷ bytes)) (record { screen = act (of_numbers final ns) x; rest = r })) (sym e) (nothing_open x bytes ns at final short h)

private_spelled : (bytes : List ℕ) (at final : ℕ) → at < length bytes → final ≡ get_or bytes at 0 → take (at + 4) (27 ∷ 91 ∷ 63 ∷ bytes) ≡ 27 ∷ 91 ∷ 63 ∷ (take at bytes ++ final ∷ [])
private_spelled bytes at final lt e =
    let n : at + 4 ≡ suc (suc (suc (at + 1))) = omega arith in
    ap (λ (n : ℕ). take n (27 ∷ 91 ∷ 63 ∷ bytes)) n ∙ ap (λ (l : List ℕ). 27 ∷ 91 ∷ 63 ∷ l) (take_more bytes at 0 lt ∙ ap (λ (b : ℕ). take at bytes ++ b ∷ []) (sym e))

nothing_open_private : (x : Screen) (bytes : List ℕ) (ns : List (Option ℕ)) (at final : ℕ) → at + 4 ≤ 256 → ReadsTo bytes ns at final
    → Runs (record { screen = x; rest = [] }) (take (at + 4) (27 ∷ 91 ∷ 63 ∷ bytes)) (record { screen = act (of_private_numbers final ns) x; rest = [] })
nothing_open_private x bytes ns at final short h =
    let s : State = record { screen = x; rest = [] } in
    let front : List ℕ = take at bytes in
    let token : List ℕ = 27 ∷ 91 ∷ 63 ∷ (front ++ final ∷ []) in
    let size : length token ≤ 256 = omega (arith, length-append front (final ∷ []), length-take at bytes) in
    let whole : IsWhole token = inr (inl (record { parameters = 63 ∷ front; intermediates = []; final = final; spelled = refl; each_parameter = ((omega arith, omega arith), parameters_fit front h.numeral); each_intermediate = tt; ends = h.ends; short = size })) in
    let asks : function_of token ≡ of_private_numbers final ns = sequence_push (63 ∷ front) final ∙ rw (h.numeral) (ap (of_private_numbers final) (sym h.read)) in
    let runs : Runs s token (record { screen = act (function_of token) x; rest = [] }) = text_runs s token (token ∷ []) refl ([], sym (append-nil token), inl whole, (refl, empty_open)) in
    subst (λ (l : List ℕ). Runs s l (record { screen = act (of_private_numbers final ns) x; rest = [] })) (sym (private_spelled bytes at final h.within h.last))
    (subst (λ (f : Function). Runs s token (record { screen = act f x; rest = [] })) asks runs)

pub private_runs : (x : Screen) (rest bytes : List ℕ) (ns : List (Option ℕ)) (at final : ℕ) → rest ≡ [] → at + 4 ≤ 256 → ReadsTo bytes ns at final
    → Runs (record { screen = x; rest = rest }) (take (at + 4) (27 ∷ 91 ∷ 63 ∷ bytes)) (record { screen = act (of_private_numbers final ns) x; rest = rest })
private_runs x rest bytes ns at final e short h =
    subst (λ (r : List ℕ). Runs (record { screen = x; rest = r }) (take (at + 4) (27 ∷ 91 ∷ 63 ∷ bytes)) (record { screen = act (of_private_numbers final ns) x; rest = r })) (sym e) (nothing_open_private x bytes ns at final short h)

-- one more byte of the parameters, a semicolon
pub semicolon_more : (bytes : List ℕ) (at : ℕ) (old : List (Option ℕ)) (count : ℕ) (number : Option ℕ) → at < length bytes → get_or bytes at 0 ≡ 59 → count < length old → take count old ++ number ∷ [] ≡ numbers (take at bytes)
    → take (count + 1) (set old count number) ++ None ∷ [] ≡ numbers (take (at + 1) bytes)
semicolon_more bytes at old count number lt is within h =
    ap (λ (l : List (Option ℕ)). l ++ None ∷ []) (take_more_set old count number within ∙ h)
    ∙ sym (numbers_semicolon (take at bytes))
    ∙ ap numbers (ap (λ (b : ℕ). take at bytes ++ b ∷ []) (sym is) ∙ sym (take_more bytes at 0 lt))

pub digit_more : (bytes : List ℕ) (at : ℕ) (front : List (Option ℕ)) (number : Option ℕ) → at < length bytes → 48 ≤ get_or bytes at 0 → get_or bytes at 0 ≤ 57 → front ++ number ∷ [] ≡ numbers (take at bytes)
    → front ++ Some (min 65535 (10 * unwrap_or number 0 + (get_or bytes at 0 - 48))) ∷ [] ≡ numbers (take (at + 1) bytes)
digit_more bytes at front number lt low high h =
    let d : ℕ = get_or bytes at 0 in
    let r : LastLonger (take at bytes) d = last_longer (take at bytes) d (not_semicolon d high) in
    let same = same_from_push front r.front number r.last (h ∙ r.whole) in
    ap (λ (ys : List (Option ℕ)). ys ++ Some (min 65535 (10 * unwrap_or number 0 + (d - 48))) ∷ []) same.0
    ∙ ap (λ (y : Option ℕ). r.front ++ Some (min 65535 (10 * unwrap_or y 0 + (d - 48))) ∷ []) same.1
    ∙ sym r.longer ∙ ap numbers (sym (take_more bytes at 0 lt))
  where
    not_semicolon : (d : ℕ) → d ≤ 57 → (d == 59) ≡ false
    not_semicolon d h = grind (arith, nat_tests)

pub numeral_more : (bytes : List ℕ) (at : ℕ) → at < length bytes → (get_or bytes at 0 ≡ 59) ⊎ ((48 ≤ get_or bytes at 0) × (get_or bytes at 0 ≤ 57)) → list_all is_numeral (take at bytes) ≡ true → list_all is_numeral (take (at + 1) bytes) ≡ true
numeral_more bytes at lt o h = ap (list_all is_numeral) (take_more bytes at 0 lt) ∙ list_all_push (take at bytes) (get_or bytes at 0) true (numeral (get_or bytes at 0) o) h
  where
    numeral : (b : ℕ) → (b ≡ 59) ⊎ ((48 ≤ b) × (b ≤ 57)) → is_numeral b ≡ true
    numeral b (inl e) = grind (arith, nat_tests)
    numeral b (inr (l, u)) = grind (arith, nat_tests)
