-- A text that begins with tokens.
use Rattle.std.proofs.Common.{◌≡◌, ℕ, suc, ◌+◌, ◌-◌, ◌<◌, ◌≤◌, List, [], ◌∷◌, ◌++◌, length, take, drop, refl, sym, ap, subst, ◌∙◌, arith, get_or, inl, inr, Option, Some, None, length-append, length-drop, length-take}
use Rattle.std.proofs.Math.Seq.{take-append-add}
use Rattle.std.proofs.lemmas.List.{append-nil, drop-drop, drop_all, drop_more, get_or-drop, take-append-drop, take_all, take_more}
use Rattle.vt_term.specs.Text.{Cuts, IsOpen, IsWhole, IsCutBy, IsToken, Splits, IsSplit, IsStuck, IsUnfinished}
use Rattle.vt_term.specs.Function.{function_of, Ignored}
use Rattle.vt_term.specs.Scanned.{Begins, IsTokenAt, IsEndedBy, IsRead, IsTextFault, HasFault, HasFaultFrom, token_by}
use Rattle.vt_term.specs.declared.scanners.TextFault.{TextFault}
use Rattle.vt_term.specs.declared.scanners.TextFaultKind.{TextFaultKind}
use Rattle.vt_term.specs.declared.scanners.TextFaultKind.TheVariants.{Unfinished, Stuck}
use Rattle.vt_term.proofs.Drops.{open_ignored}
use Rattle.vt_term.proofs.Sequences.{empty_open, token_not_open, token_before}
use Rattle.vt_term.proofs.Splits.{SameFirst, same_first}

-- one more token
pub begins_more : (text : List ℕ) (ts : List (List ℕ)) (behind token after : List ℕ) → Begins text ts behind → behind ≡ token ++ after → IsToken token after → Begins text (ts ++ token ∷ []) after
begins_more text [] behind token after b e h = (after, b ∙ e, h, refl)
begins_more text (t ∷ ts) behind token after b e h = (b.0, b.1, b.2, begins_more b.0 ts behind token after b.3 e h)

-- tokens and then nothing, or something open, are a split of the text
pub begins_whole : (text : List ℕ) (ts : List (List ℕ)) (behind : List ℕ) → Begins text ts behind → IsOpen behind → Splits text ts behind
begins_whole text [] behind b o = (b, o)
begins_whole text (t ∷ ts) behind b o = (b.0, b.1, b.2, begins_whole b.0 ts behind b.3 o)

-- a token and bytes that split are split together
split_front : (t front more : List ℕ) → IsToken t (front ++ more) → IsSplit front → IsSplit (t ++ front)
split_front t [] more h s = elim h [
  | inl w ↦ record { tokens = t ∷ []; rest = []; splits = ([], refl, inl w, (refl, empty_open)) }
  | inr d ↦ record { tokens = []; rest = t; splits = (append-nil t, d.fits) }
]
split_front t (b ∷ front) more h s = record { tokens = t ∷ s.tokens; rest = s.rest; splits = (b ∷ front, refl, token_before t b front more h, s.splits) }

-- the bytes after a token split if both together do
split_behind : (t : List ℕ) (us : List (List ℕ)) (after rest : List ℕ) → IsToken t after → Splits (t ++ after) us rest → IsSplit after
split_behind t [] after rest h s = absurd (token_not_open t after h (subst IsOpen (sym s.0) s.1))
split_behind t (u ∷ us) after rest h s =
    let same : SameFirst t after u s.0 = same_first t after u s.0 h s.2 s.1 in
    record { tokens = us; rest = rest; splits = subst (λ (l : List ℕ). Splits l us rest) same.rest s.3 }

split_rest : (t after : List ℕ) (k : ℕ) → k < length after → IsToken t after → IsSplit (t ++ take (k + 1) after) → IsSplit (take (k + 1) after)
split_rest t [] k lt h s = absurd (omega arith)
split_rest t (b ∷ after) k lt h s =
    let e : k + 1 ≡ suc k = omega arith in
    let one : take (k + 1) (b ∷ after) ≡ b ∷ take k after = ap (λ (n : ℕ). take n (b ∷ after)) e in
    let cut : IsToken t (b ∷ take k after) = token_before t b (take k after) (drop k after) (subst (λ (l : List ℕ). IsToken t (b ∷ l)) (sym (take-append-drop k after)) h) in
    split_behind t s.tokens (take (k + 1) (b ∷ after)) s.rest (subst (IsToken t) (sym one) cut) s.splits

-- a fault after a token, at its place in the joined text
fault_behind : (t after : List ℕ) (k : ℕ) (kind : TextFaultKind) → IsToken t after → IsTextFault after k kind → IsTextFault (t ++ after) (length t + k) kind
fault_behind t after k Unfinished h f = record {
  tokens = t ∷ f.tokens;
  rest = f.rest;
  splits = (after, refl, h, f.splits);
  some = f.some;
  place = omega (arith, f.place, length-append t after);
}
fault_behind t after k Stuck h f = record {
  within = omega (arith, f.within, length-append t after);
  before = subst IsSplit (sym (take-append-add t after k)) (split_front t (take k after) (drop k after) (subst (IsToken t) (sym (take-append-drop k after)) h) f.before);
  fits_nothing = λ s. f.fits_nothing (split_rest t after k f.within h (subst IsSplit (ap (λ (n : ℕ). take n (t ++ after)) (let e : length t + k + 1 ≡ length t + (k + 1) = omega arith in e) ∙ take-append-add t after (k + 1)) s));
}

abbrev total : List (List ℕ) → ℕ
total [] = 0
total (t ∷ ts) = length t + total ts

begins_length : (text : List ℕ) (ts : List (List ℕ)) (behind : List ℕ) → Begins text ts behind → length text ≡ total ts + length behind
begins_length text [] behind b = omega (arith, ap length b)
begins_length text (t ∷ ts) behind b = omega (arith, ap length b.1, length-append t b.0, begins_length b.0 ts behind b.3)

begins_fault : (text : List ℕ) (ts : List (List ℕ)) (behind : List ℕ) (k : ℕ) (kind : TextFaultKind) → Begins text ts behind → IsTextFault behind k kind → IsTextFault text (total ts + k) kind
begins_fault text [] behind k kind b f = subst (λ (n : ℕ). IsTextFault text n kind) (let e : k ≡ 0 + k = omega arith in e) (subst (λ (l : List ℕ). IsTextFault l k kind) (sym b) f)
begins_fault text (t ∷ ts) behind k kind b f =
    subst (λ (l : List ℕ). IsTextFault l (length t + total ts + k) kind) (sym b.1)
    (subst (λ (n : ℕ). IsTextFault (t ++ b.0) n kind) (let e : length t + (total ts + k) ≡ length t + total ts + k = omega arith in e)
    (fault_behind t b.0 (total ts + k) kind b.2 (begins_fault b.0 ts behind k kind b.3 f)))

-- the fault of the remaining bytes is the text's fault
pub first_fault : (text : List ℕ) (ts : List (List ℕ)) (from : ℕ) (e : TextFault) → from ≤ length text → Begins text ts (drop from text) → HasFaultFrom text from e → HasFault text e
first_fault text ts from e h b f =
    subst (λ (n : ℕ). IsTextFault text n e.kind) (omega (arith, begins_length text ts (drop from text) b, length-drop from text, h, f.behind))
    (begins_fault text ts (drop from text) (e.at - from) e.kind b f.is)

-- one more byte of the text from a place on
pub slice_more : (xs : List ℕ) (start at : ℕ) → start ≤ at → at < length xs → take (at + 1 - start) (drop start xs) ≡ take (at - start) (drop start xs) ++ get_or xs at 0 ∷ []
slice_more xs start at h lt =
    ap (λ (n : ℕ). take n (drop start xs)) (let e : at + 1 - start ≡ (at - start) + 1 = omega arith in e)
    ∙ take_more (drop start xs) (at - start) 0 (omega (arith, length-drop start xs))
    ∙ ap (λ (b : ℕ). take (at - start) (drop start xs) ++ b ∷ []) (get_or-drop start xs (at - start) 0 ∙ ap (λ (n : ℕ). get_or xs n 0) (let e : start + (at - start) ≡ at = omega arith in e))

-- a sequence that was cut off asks for nothing
pub cut_ignored : (bytes begun : List ℕ) (last : Option ℕ) → last ≡ None → IsEndedBy begun last → bytes ≡ token_by begun last → function_of bytes ≡ Ignored
cut_ignored bytes begun None h o e = ap function_of e ∙ open_ignored begun o
cut_ignored bytes begun (Some b) h o e = cc

cut_here : (text : List ℕ) (at : ℕ) → at < length text → Cuts (get_or text at 0) → IsCutBy (drop at text)
cut_here text at lt h = subst IsCutBy (sym (drop_more text at 0 lt)) h

-- the byte at this place ends a token
pub read_ended : (text begun : List ℕ) (from at : ℕ) → from ≤ at → at < length text → begun ≡ take (at - from) (drop from text) → IsWhole (begun ++ get_or text at 0 ∷ []) → IsRead text from (at + 1) (Some (get_or text at 0)) begun
read_ended text begun from at h lt e w = record {
  token = record {
    some = omega (arith, h);
    within = omega (arith, lt);
    bytes = ap (λ (l : List ℕ). l ++ get_or text at 0 ∷ []) e ∙ sym (slice_more text from at h lt);
    fits = inl w;
  };
  ended = w;
}

-- the byte at this place cuts a sequence off
pub read_cut : (text begun : List ℕ) (from at : ℕ) → from ≤ at → at < length text → begun ≡ take (at - from) (drop from text) → IsOpen begun → 0 < length begun → Cuts (get_or text at 0) → IsRead text from at None begun
read_cut text begun from at h lt e o some c = record {
  token = record {
    some = omega (arith, h, some, ap length e, length-take (at - from) (drop from text));
    within = omega (arith, lt);
    bytes = e;
    fits = inr (record { some = some; fits = o; cut = cut_here text at lt c });
  };
  ended = o;
}

-- the byte at this place fits nothing
pub read_stuck : (text begun : List ℕ) (from at : ℕ) → from ≤ at → at < length text → begun ≡ take (at - from) (drop from text) → IsOpen begun → (IsSplit (begun ++ get_or text at 0 ∷ []) → ⊥) → IsStuck (drop from text) (at - from)
read_stuck text begun from at h lt e o none = record {
  within = omega (arith, h, lt, length-drop from text);
  before = record { tokens = []; rest = begun; splits = (sym e, o) };
  fits_nothing = λ s. none (subst IsSplit (ap (λ (n : ℕ). take n (drop from text)) (let n : at - from + 1 ≡ at + 1 - from = omega (arith, h) in n) ∙ slice_more text from at h lt ∙ ap (λ (l : List ℕ). l ++ get_or text at 0 ∷ []) (sym e)) s);
}

-- the text ends in an open sequence
pub read_unfinished : (text begun : List ℕ) (from at : ℕ) → from < length text → at ≡ length text → begun ≡ take (at - from) (drop from text) → IsOpen begun → IsUnfinished (drop from text) (from - from)
read_unfinished text begun from at lt all e o = record {
  tokens = [];
  rest = begun;
  splits = (sym (e ∙ take_all (at - from) (drop from text) (omega (arith, all, length-drop from text))), o);
  some = omega (arith, ap length e, length-take (at - from) (drop from text), length-drop from text, all, lt);
  place = omega (arith, ap length e, length-take (at - from) (drop from text), length-drop from text, all, lt);
}

pub begun_nothing : (text : List ℕ) (from : ℕ) → [] ≡ take (from - from) (drop from text)
begun_nothing text from = ap (λ (n : ℕ). take n (drop from text)) (let e : 0 ≡ from - from = omega arith in e)

-- the token at a place comes after those before it
pub begins_at : (text : List ℕ) (ts : List (List ℕ)) (from end : ℕ) (token : List ℕ) → Begins text ts (drop from text) → IsTokenAt text from end token → Begins text (ts ++ token ∷ []) (drop end text)
begins_at text ts from end token b t =
    begins_more text ts (drop from text) token (drop end text) b (sym (take-append-drop (end - from) (drop from text)) ∙ ap (λ (l : List ℕ). l ++ drop (end - from) (drop from text)) (sym t.bytes)
    ∙ ap (λ (l : List ℕ). token ++ l) (drop-drop (end - from) from text ∙ ap (λ (n : ℕ). drop n text) (let e : from + (end - from) ≡ end = omega (arith, t.some) in e))) t.fits

-- at the end of the text its tokens are all read
pub begins_all : (text : List ℕ) (ts : List (List ℕ)) (from : ℕ) → Begins text ts (drop from text) → from ≡ length text → Splits text ts []
begins_all text ts from b e = subst (Splits text ts) (drop_all from text (omega (arith, e))) (begins_whole text ts (drop from text) b (subst IsOpen (sym (drop_all from text (omega (arith, e)))) empty_open))

-- the bytes from one place to the other are one more token
pub begins_push : (text : List ℕ) (ts us : List (List ℕ)) (from end : ℕ) (token : List ℕ) → Begins text ts (drop from text) → IsTokenAt text from end token → us ≡ ts ++ take (end - from) (drop from text) ∷ [] → Begins text us (drop end text)
begins_push text ts us from end token b t e = subst (λ (l : List (List ℕ)). Begins text l (drop end text)) (ap (λ (l : List ℕ). ts ++ l ∷ []) t.bytes ∙ sym e) (begins_at text ts from end token b t)
