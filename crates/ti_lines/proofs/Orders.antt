-- Words in their order make the effect whose words they are, and no other.
use Rattle.std.proofs.Common.{append_assoc, append-nil, add-one, ◌≡◌, ℕ, ◌+◌, ◌<◌, ◌≤◌, zero, suc, Bool, true, false, List, [], ◌∷◌, ◌++◌, length, Option, Some, None, refl, sym, ap, ◌∙◌, subst, arith}
use Rattle.std.specs.Prelude.{nat_le}
use Rattle.std.specs.Option.{option_and_then}
use Rattle.std.specs.List.{list_all}
use Rattle.std.proofs.lemmas.Bool.{and_parts, cond-true}
use Rattle.std.proofs.lemmas.Bool.Decides.{nat_tests}
use Rattle.std.proofs.lemmas.Option.{cond_some, option_and_then_some, same_Some}
use Rattle.vt_term.specs.Color.{Black, Red, Green, Yellow, Blue, Magenta, Cyan, White}
use Rattle.vt_effects.specs.declared.effects.Move.{Move}
use Rattle.vt_effects.specs.declared.effects.Move.TheVariants as moves
use Rattle.vt_effects.specs.declared.effects.Erasure.{Erasure}
use Rattle.vt_effects.specs.declared.effects.Erasure.TheVariants as erasures
use Rattle.vt_effects.specs.declared.effects.Scroll.{Scroll}
use Rattle.vt_effects.specs.declared.effects.Scroll.TheVariants as scrolls
use Rattle.vt_effects.specs.declared.effects.Switch.{Switch}
use Rattle.vt_effects.specs.declared.effects.Switch.TheVariants as switches
use Rattle.vt_effects.specs.declared.effects.Ink.{Ink}
use Rattle.vt_effects.specs.declared.effects.Ink.TheVariants as inks
use Rattle.vt_effects.specs.declared.effects.Rendering.{Rendering}
use Rattle.vt_effects.specs.declared.effects.Sets.{Sets}
use Rattle.vt_effects.specs.declared.effects.Region.{Region}
use Rattle.vt_effects.specs.declared.effects.Effect.{Effect}
use Rattle.vt_effects.specs.Effect.{unchanged}
use Rattle.ti_lines.specs.declared.words.Word.{Word}
use Rattle.ti_lines.specs.declared.words.Word.TheVariants.{Row, Col, EndsPending, Erases, Scrolls, Looks, Inks, Chooses, Rows, Shows}
use Rattle.ti_lines.specs.declared.words.Marks.{Marks}
use Rattle.ti_lines.specs.declared.words.Found.{Found}
use Rattle.ti_lines.specs.EffectText.{row_name, col_name, ink_name, look_name, set_name, is_dot, switch_letter, ink_letter, move_text, pending_text, erasure_text, scroll_text, look_text, ink_text, set_text, rows_text, visible_text, lettered, texts, nonempty, words, IsPlainMove, IsPlainErasure, IsPlainRegion, IsPlain}
use Rattle.ti_lines.specs.EffectReader.{rank, with_marks, put, put_next, with_word, with_words, word_at}
use Rattle.ti_lines.proofs.Glyphs.{mark_letters, set_letters}
use Rattle.ti_lines.proofs.Forms.{word_text, IsPlainWord, IsWord, word_written, IsRead, fixed_read, row_to, row_back, row_forward, col_to, col_back, col_forward, next_read, region_read, look_read, ink_read, set_read}

-- another text in one place
abbrev replaced : ℕ → List ℕ → List (List ℕ) → List (List ℕ)
replaced i t [] = []
replaced zero t (u ∷ ts) = t ∷ ts
replaced (suc i) t (u ∷ ts) = u ∷ replaced i t ts

put_texts : (x : Word) (e : Effect) → texts (put x e) ≡ replaced (rank x) (word_text x) (texts e)
put_texts (Row m) e = refl
put_texts (Col m) e = refl
put_texts EndsPending e = refl
put_texts (Erases x) e = refl
put_texts (Scrolls s) e = refl
put_texts (Looks m) e = refl
put_texts (Inks f b) e = refl
put_texts (Chooses s) e = refl
put_texts (Rows r) e = refl
put_texts (Shows s) e = refl

put_plain : (x : Word) (e : Effect) → IsPlainWord x → IsPlain e → IsPlain (put x e)
put_plain (Row m) e h p = record { row = h; col = p.col; erasure = p.erasure; margins = p.margins }
put_plain (Col m) e h p = record { row = p.row; col = h; erasure = p.erasure; margins = p.margins }
put_plain EndsPending e h p = record { row = p.row; col = p.col; erasure = p.erasure; margins = p.margins }
put_plain (Erases x) e h p = record { row = p.row; col = p.col; erasure = h; margins = p.margins }
put_plain (Scrolls s) e h p = record { row = p.row; col = p.col; erasure = p.erasure; margins = p.margins }
put_plain (Looks m) e h p = record { row = p.row; col = p.col; erasure = p.erasure; margins = p.margins }
put_plain (Inks f b) e h p = record { row = p.row; col = p.col; erasure = p.erasure; margins = p.margins }
put_plain (Chooses s) e h p = record { row = p.row; col = p.col; erasure = p.erasure; margins = p.margins }
put_plain (Rows r) e h p = record { row = p.row; col = p.col; erasure = p.erasure; margins = h }
put_plain (Shows s) e h p = record { row = p.row; col = p.col; erasure = p.erasure; margins = p.margins }

rank_small : (x : Word) → rank x < 10
rank_small (Row m) = omega arith
rank_small (Col m) = omega arith
rank_small EndsPending = omega arith
rank_small (Erases x) = omega arith
rank_small (Scrolls s) = omega arith
rank_small (Looks m) = omega arith
rank_small (Inks f b) = omega arith
rank_small (Chooses s) = omega arith
rank_small (Rows r) = omega arith
rank_small (Shows s) = omega arith

-- each text from the place `k` on is empty
abbrev pub Empties : ℕ → List (List ℕ) → Type 0
Empties k [] = Unit {0}
Empties zero (t ∷ ts) = (t ≡ []) × Empties zero ts
Empties (suc k) (t ∷ ts) = Empties k ts

all_empty : (ts : List (List ℕ)) → Empties zero ts → nonempty ts ≡ []
all_empty [] h = refl
all_empty ([] ∷ ts) h = all_empty ts h.1
all_empty ((b ∷ bs) ∷ ts) h = let e = h.0 in absurd (cc)

added : (k i : ℕ) (ts : List (List ℕ)) (b : ℕ) (bs : List ℕ) → k ≤ i → i < length ts → Empties k ts → nonempty (replaced i (b ∷ bs) ts) ≡ nonempty ts ++ (b ∷ bs) ∷ []
added k i [] b bs le lt h = absurd (omega (arith, lt))
added zero zero ([] ∷ ts) b bs le lt h = ap (λ (l : List (List ℕ)). (b ∷ bs) ∷ l) (all_empty ts h.1) ∙ ap (λ (l : List (List ℕ)). l ++ (b ∷ bs) ∷ []) (sym (all_empty ts h.1))
added zero zero ((c ∷ cs) ∷ ts) b bs le lt h = let e = h.0 in absurd (cc)
added zero (suc i) ([] ∷ ts) b bs le lt h = added zero i ts b bs (omega arith) (omega (arith, lt)) h.1
added zero (suc i) ((c ∷ cs) ∷ ts) b bs le lt h = let e = h.0 in absurd (cc)
added (suc k) zero (t ∷ ts) b bs le lt h = absurd (omega (arith, le))
added (suc k) (suc i) ([] ∷ ts) b bs le lt h = added k i ts b bs (omega (arith, le)) (omega (arith, lt)) h
added (suc k) (suc i) ((c ∷ cs) ∷ ts) b bs le lt h = ap (λ (l : List (List ℕ)). (c ∷ cs) ∷ l) (added k i ts b bs (omega (arith, le)) (omega (arith, lt)) h)

added_word : (k i : ℕ) (ts : List (List ℕ)) (w : List ℕ) → 0 < length w → k ≤ i → i < length ts → Empties k ts → nonempty (replaced i w ts) ≡ nonempty ts ++ w ∷ []
added_word k i ts [] some le lt h = absurd (omega (arith, some))
added_word k i ts (b ∷ bs) some le lt h = added k i ts b bs le lt h

still_empty : (k i : ℕ) (t : List ℕ) (ts : List (List ℕ)) → k ≤ i → Empties k ts → Empties (suc i) (replaced i t ts)
still_empty k i t [] le h = tt
still_empty zero zero t (u ∷ ts) le h = h.1
still_empty (suc k) zero t (u ∷ ts) le h = absurd (omega (arith, le))
still_empty zero (suc i) t (u ∷ ts) le h = still_empty zero i t ts (omega arith) h.1
still_empty (suc k) (suc i) t (u ∷ ts) le h = still_empty k i t ts (omega (arith, le)) h

-- one more step of reading adds these words
record Adds (before : Found) (ws : List (List ℕ)) (after : Found) : Type 0 where
  words : words after.effect ≡ words before.effect ++ ws
  plain : IsPlain after.effect
  empty : Empties after.next (texts after.effect)

word_put : (found : Found) (w : List ℕ) (x : Word) → found.next ≤ rank x → IsWord w x → IsPlain found.effect → Empties found.next (texts found.effect)
    → Adds found (w ∷ []) (record { effect = put x found.effect; next = rank x + 1 })
word_put found w x le is p h =
    let e : texts (put x found.effect) ≡ replaced (rank x) w (texts found.effect) = put_texts x found.effect ∙ ap (λ (t : List ℕ). replaced (rank x) t (texts found.effect)) (sym is.text) in
    record {
      words = ap nonempty e ∙ added_word found.next (rank x) (texts found.effect) w is.some le (rank_small x) h;
      plain = put_plain x found.effect is.plain p;
      empty = subst (λ (n : ℕ). Empties n (texts (put x found.effect))) (sym (add-one (rank x)))
          (subst (Empties (suc (rank x))) (sym e) (still_empty found.next (rank x) w (texts found.effect) le h));
    }

word_adds : (found f : Found) (w : List ℕ) → with_word found w ≡ Some f → IsPlain found.effect → Empties found.next (texts found.effect) → Adds found (w ∷ []) f
unfolding with_word
word_adds found f w h p m =
    option_and_then_some (put_next found) (word_at w) f h (λ x e g.
    let c = cond_some (nat_le found.next (rank x)) (record { effect = put x found.effect; next = rank x + 1 }) f g in
    let t = c.0 in
    let le : found.next ≤ rank x = grind (arith, nat_tests) in
    subst (Adds found (w ∷ [])) c.1 (word_put found w x le (word_written w x e) p m))

pub words_add : (ws : List (List ℕ)) (found f : Found) → with_words found ws ≡ Some f → IsPlain found.effect → Empties found.next (texts found.effect) → (words f.effect ≡ words found.effect ++ ws) × IsPlain f.effect
words_add [] found f h p m =
    let e : found ≡ f = same_Some found f h in
    (ap (λ (g : Found). words g.effect) (sym e) ∙ sym (append-nil (words found.effect)), subst (λ (g : Found). IsPlain g.effect) e p)
words_add (w ∷ ws) found f h p m =
    option_and_then_some (λ g. with_words g ws) (with_word found w) f h (λ g e k.
    let a = word_adds found g w e p m in
    let r = words_add ws g f k a.plain a.empty in
    (r.0 ∙ ap (λ (l : List (List ℕ)). l ++ ws) a.words ∙ append_assoc (words found.effect) (w ∷ []) ws, r.1))

-- these words, from a place on, make `final` of `e`
pub record Leads (place : ℕ) (e : Effect) (ws : List (List ℕ)) (final : Effect) : Type 0 where
  pub next : ℕ
  pub read : with_words (record { effect = e; next = place }) ws ≡ Some (record { effect = final; next = next })

lower_word : (place : ℕ) (e : Effect) (w : List ℕ) (f : Found) → with_word (record { effect = e; next = place + 1 }) w ≡ Some f → with_word (record { effect = e; next = place }) w ≡ Some f
unfolding with_word
lower_word place e w f h =
    option_and_then_some (put_next (record { effect = e; next = place + 1 })) (word_at w) f h (λ x a b.
    let c = cond_some (nat_le (place + 1) (rank x)) (record { effect = put x e; next = rank x + 1 }) f b in
    let t = c.0 in
    let u : nat_le place (rank x) ≡ true = grind (arith, nat_tests) in
    ap (option_and_then (put_next (record { effect = e; next = place }))) a
    ∙ (cond-true (nat_le place (rank x)) (Some (record { effect = put x e; next = rank x + 1 })) None u ∙ ap (λ (g : Found). Some g) c.1))

lower : (place : ℕ) (e : Effect) (ws : List (List ℕ)) (final : Effect) → Leads (place + 1) e ws final → Leads place e ws final
lower place e [] final l =
    let same : e ≡ final = ap (λ (f : Found). f.effect) (same_Some (record { effect = e; next = place + 1 }) (record { effect = final; next = l.next }) l.read) in
    record { next = place; read = ap (λ (x : Effect). Some (record { effect = x; next = place })) same }
lower place e (w ∷ ws) final l = record {
  next = l.next;
  read = option_and_then_some (λ f. with_words f ws) (with_word (record { effect = e; next = place + 1 }) w) (record { effect = final; next = l.next }) l.read
      (λ f h k. ap (option_and_then (λ f. with_words f ws)) (lower_word place e w f h) ∙ k);
}

-- the text `t` at its place changes `e` to `f`: it is empty, or one word
data Says (place : ℕ) (t : List ℕ) (e f : Effect) : Type 0 where
  Silent : t ≡ [] → f ≡ e → Says place t e f
  Spoken : (x : Word) → IsRead t x → rank x ≡ place → put x e ≡ f → Says place t e f

front_word : (t : List ℕ) (ts : List (List ℕ)) → 0 < length t → nonempty (t ∷ ts) ≡ t ∷ nonempty ts
front_word [] ts h = absurd (omega (arith, h))
front_word (b ∷ bs) ts h = refl

spoken : (place : ℕ) (e f : Effect) (t : List ℕ) (x : Word) → IsRead t x → rank x ≡ place → put x e ≡ f → with_word (record { effect = e; next = place }) t ≡ Some (record { effect = f; next = place + 1 })
unfolding with_word
spoken place e f t x is r p =
    let u : nat_le place (rank x) ≡ true = grind (arith, nat_tests) in
    ap (option_and_then (put_next (record { effect = e; next = place }))) is.read
    ∙ (cond-true (nat_le place (rank x)) (Some (record { effect = put x e; next = rank x + 1 })) None u
    ∙ (ap (λ (n : ℕ). Some (record { effect = put x e; next = n + 1 })) r ∙ ap (λ (y : Effect). Some (record { effect = y; next = place + 1 })) p))

step : (place : ℕ) (e f : Effect) (t : List ℕ) (ts : List (List ℕ)) (final : Effect) → Says place t e f → Leads (place + 1) f (nonempty ts) final → Leads place e (nonempty (t ∷ ts)) final
step place e f t ts final (Silent a b) l =
    subst (λ (u : List ℕ). Leads place e (nonempty (u ∷ ts)) final) (sym a) (lower place e (nonempty ts) final (subst (λ (y : Effect). Leads (place + 1) y (nonempty ts) final) b l))
step place e f t ts final (Spoken x is r p) l =
    subst (λ (ws : List (List ℕ)). Leads place e ws final) (sym (front_word t ts is.some)) (record {
      next = l.next;
      read = ap (option_and_then (λ f. with_words f (nonempty ts))) (spoken place e f t x is r p) ∙ l.read;
    })

-- each kind of word
row_says : (m : Move) (e : Effect) → e.row ≡ moves.Kept → IsPlainMove m → Says 0 (move_text row_name m) e (record e { row = m })
row_says moves.Kept e k p = Silent refl (ap (λ (m : Move). record e { row = m }) (sym k))
row_says (moves.To n) e k p = Spoken (Row (moves.To n)) (row_to n p) refl refl
row_says (moves.Back n) e k p = Spoken (Row (moves.Back n)) (row_back n p.0 p.1) refl refl
row_says (moves.Forward n) e k p = Spoken (Row (moves.Forward n)) (row_forward n p.0 p.1) refl refl

col_says : (m : Move) (e : Effect) → e.col ≡ moves.Kept → IsPlainMove m → Says 1 (move_text col_name m) e (record e { col = m })
col_says moves.Kept e k p = Silent refl (ap (λ (m : Move). record e { col = m }) (sym k))
col_says (moves.To n) e k p = Spoken (Col (moves.To n)) (col_to n p) refl refl
col_says (moves.Back n) e k p = Spoken (Col (moves.Back n)) (col_back n p.0 p.1) refl refl
col_says (moves.Forward n) e k p = Spoken (Col (moves.Forward n)) (col_forward n p.0 p.1) refl refl

pending_says : (b : Bool) (e : Effect) → e.ends_pending ≡ false → Says 2 (pending_text b) e (record e { ends_pending = b })
pending_says false e k = Silent refl (ap (λ (b : Bool). record e { ends_pending = b }) (sym k))
pending_says true e k = Spoken EndsPending (fixed_read _ EndsPending refl (omega arith)) refl refl

erasure_says : (x : Erasure) (e : Effect) → e.erasure ≡ erasures.Nothing → IsPlainErasure x → Says 3 (erasure_text x) e (record e { erasure = x })
erasure_says erasures.Nothing e k p = Silent refl (ap (λ (x : Erasure). record e { erasure = x }) (sym k))
erasure_says erasures.Screen e k p = Spoken (Erases erasures.Screen) (fixed_read _ _ refl (omega arith)) refl refl
erasure_says erasures.Tail e k p = Spoken (Erases erasures.Tail) (fixed_read _ _ refl (omega arith)) refl refl
erasure_says erasures.Head e k p = Spoken (Erases erasures.Head) (fixed_read _ _ refl (omega arith)) refl refl
erasure_says erasures.Rest e k p = Spoken (Erases erasures.Rest) (fixed_read _ _ refl (omega arith)) refl refl
erasure_says (erasures.Next n) e k p = Spoken (Erases (erasures.Next n)) (next_read n p.0 p.1) refl refl

scroll_says : (s : Scroll) (e : Effect) → e.scroll ≡ scrolls.Still → Says 4 (scroll_text s) e (record e { scroll = s })
scroll_says scrolls.Still e k = Silent refl (ap (λ (s : Scroll). record e { scroll = s }) (sym k))
scroll_says scrolls.Up e k = Spoken (Scrolls scrolls.Up) (fixed_read _ _ refl (omega arith)) refl refl
scroll_says scrolls.Down e k = Spoken (Scrolls scrolls.Down) (fixed_read _ _ refl (omega arith)) refl refl

-- a dot is the letter of a switch that is kept, and of no other
switch_kept : (on off : ℕ) (s : Switch) → is_dot on ≡ false → is_dot off ≡ false → is_dot (switch_letter on off s) ≡ true → s ≡ switches.Kept
switch_kept on off switches.Kept h k d = refl
switch_kept on off switches.On h k d = absurd (cc)
switch_kept on off switches.Off h k d = absurd (cc)

ink_kept : (i : Ink) → is_dot (ink_letter i) ≡ true → i ≡ inks.Kept
ink_kept inks.Kept d = refl
ink_kept inks.Default d = absurd (cc)
ink_kept (inks.Color Black) d = absurd (cc)
ink_kept (inks.Color Red) d = absurd (cc)
ink_kept (inks.Color Green) d = absurd (cc)
ink_kept (inks.Color Yellow) d = absurd (cc)
ink_kept (inks.Color Blue) d = absurd (cc)
ink_kept (inks.Color Magenta) d = absurd (cc)
ink_kept (inks.Color Cyan) d = absurd (cc)
ink_kept (inks.Color White) d = absurd (cc)

abbrev none_marked : Marks
none_marked = record { bold = switches.Kept; faint = switches.Kept; underline = switches.Kept; blink = switches.Kept; negative = switches.Kept; concealed = switches.Kept }

marks_kept : (m : Marks) → list_all is_dot (mark_letters m) ≡ true → m ≡ none_marked
marks_kept m h =
    let a = and_parts (is_dot (switch_letter 49 48 m.bold)) _ h in
    let b = and_parts (is_dot (switch_letter 49 48 m.faint)) _ a.1 in
    let c = and_parts (is_dot (switch_letter 49 48 m.underline)) _ b.1 in
    let d = and_parts (is_dot (switch_letter 49 48 m.blink)) _ c.1 in
    let e = and_parts (is_dot (switch_letter 49 48 m.negative)) _ d.1 in
    let f = and_parts (is_dot (switch_letter 49 48 m.concealed)) _ e.1 in
    ap (λ (s : Switch). record m { bold = s }) (switch_kept 49 48 m.bold refl refl a.0)
    ∙ ap (λ (s : Switch). record m { bold = switches.Kept; faint = s }) (switch_kept 49 48 m.faint refl refl b.0)
    ∙ ap (λ (s : Switch). record m { bold = switches.Kept; faint = switches.Kept; underline = s }) (switch_kept 49 48 m.underline refl refl c.0)
    ∙ ap (λ (s : Switch). record none_marked { blink = s; negative = m.negative; concealed = m.concealed }) (switch_kept 49 48 m.blink refl refl d.0)
    ∙ ap (λ (s : Switch). record none_marked { negative = s; concealed = m.concealed }) (switch_kept 49 48 m.negative refl refl e.0)
    ∙ ap (λ (s : Switch). record none_marked { concealed = s }) (switch_kept 49 48 m.concealed refl refl f.0)

look_says : (m : Marks) (e : Effect) → with_marks none_marked e.rendition ≡ e.rendition → Says 5 (lettered look_name (mark_letters m)) e (record e { rendition = with_marks m e.rendition })
look_says m e k = by_dots (list_all is_dot (mark_letters m)) refl
  where
    by_dots : (t : Bool) → list_all is_dot (mark_letters m) ≡ t → Says 5 (lettered look_name (mark_letters m)) e (record e { rendition = with_marks m e.rendition })
    by_dots true h = Silent (cond-true (list_all is_dot (mark_letters m)) [] (look_name ++ mark_letters m) h)
        (ap (λ (x : Marks). record e { rendition = with_marks x e.rendition }) (marks_kept m h) ∙ ap (λ (r : Rendering). record e { rendition = r }) k)
    by_dots false h = Spoken (Looks m) (look_read m h) refl refl

ink_says : (f b : Ink) (e : Effect) → e.rendition.foreground ≡ inks.Kept → e.rendition.background ≡ inks.Kept
    → Says 6 (lettered ink_name (ink_letter f ∷ ink_letter b ∷ [])) e (record e { rendition = record e.rendition { foreground = f; background = b } })
ink_says f b e k l = by_dots (list_all is_dot (ink_letter f ∷ ink_letter b ∷ [])) refl
  where
    by_dots : (t : Bool) → list_all is_dot (ink_letter f ∷ ink_letter b ∷ []) ≡ t → Says 6 (lettered ink_name (ink_letter f ∷ ink_letter b ∷ [])) e (record e { rendition = record e.rendition { foreground = f; background = b } })
    by_dots true h =
        let a = and_parts (is_dot (ink_letter f)) _ h in
        let c = and_parts (is_dot (ink_letter b)) _ a.1 in
        Silent (cond-true (list_all is_dot (ink_letter f ∷ ink_letter b ∷ [])) [] (ink_name ++ ink_letter f ∷ ink_letter b ∷ []) h)
        (ap (λ (i : Ink). record e { rendition = record e.rendition { foreground = i; background = b } }) (ink_kept f a.0 ∙ sym k)
        ∙ ap (λ (i : Ink). record e { rendition = record e.rendition { background = i } }) (ink_kept b c.0 ∙ sym l))
    by_dots false h = Spoken (Inks f b) (ink_read f b h) refl refl

abbrev none_chosen : Sets
none_chosen = record { g0_graphic = switches.Kept; g1_graphic = switches.Kept; shifted_out = switches.Kept }

sets_kept : (s : Sets) → list_all is_dot (set_letters s) ≡ true → s ≡ none_chosen
sets_kept s h =
    let a = and_parts (is_dot (switch_letter 48 66 s.g0_graphic)) _ h in
    let b = and_parts (is_dot (switch_letter 48 66 s.g1_graphic)) _ a.1 in
    let c = and_parts (is_dot (switch_letter 79 73 s.shifted_out)) _ b.1 in
    ap (λ (x : Switch). record s { g0_graphic = x }) (switch_kept 48 66 s.g0_graphic refl refl a.0)
    ∙ ap (λ (x : Switch). record none_chosen { g1_graphic = x; shifted_out = s.shifted_out }) (switch_kept 48 66 s.g1_graphic refl refl b.0)
    ∙ ap (λ (x : Switch). record none_chosen { shifted_out = x }) (switch_kept 79 73 s.shifted_out refl refl c.0)

set_says : (s : Sets) (e : Effect) → e.charset ≡ none_chosen → Says 7 (set_text s) e (record e { charset = s })
set_says s e k = by_dots (list_all is_dot (set_letters s)) refl
  where
    by_dots : (t : Bool) → list_all is_dot (set_letters s) ≡ t → Says 7 (set_text s) e (record e { charset = s })
    by_dots true h = Silent (cond-true (list_all is_dot (set_letters s)) [] (set_name ++ set_letters s) h)
        (ap (λ (x : Sets). record e { charset = x }) (sets_kept s h ∙ sym k))
    by_dots false h = Spoken (Chooses s) (set_read s h) refl refl

rows_say : (r : Option Region) (e : Effect) → e.margins ≡ None → IsPlainRegion r → Says 8 (rows_text r) e (record e { margins = r })
rows_say None e k p = Silent refl (ap (λ (r : Option Region). record e { margins = r }) (sym k))
rows_say (Some r) e k p = Spoken (Rows r) (region_read r p) refl refl

visible_says : (s : Switch) (e : Effect) → e.visible ≡ switches.Kept → Says 9 (visible_text s) e (record e { visible = s })
visible_says switches.Kept e k = Silent refl (ap (λ (s : Switch). record e { visible = s }) (sym k))
visible_says switches.On e k = Spoken (Shows switches.On) (fixed_read _ _ refl (omega arith)) refl refl
visible_says switches.Off e k = Spoken (Shows switches.Off) (fixed_read _ _ refl (omega arith)) refl refl

-- the first words of an effect
abbrev moved_row : Effect → Effect
moved_row e = record unchanged { row = e.row }

abbrev moved : Effect → Effect
moved e = record (moved_row e) { col = e.col }

abbrev unpended : Effect → Effect
unpended e = record (moved e) { ends_pending = e.ends_pending }

abbrev erased : Effect → Effect
erased e = record (unpended e) { erasure = e.erasure }

abbrev scrolled : Effect → Effect
scrolled e = record (erased e) { scroll = e.scroll }

abbrev marks : Effect → Marks
marks e = record { bold = e.rendition.bold; faint = e.rendition.faint; underline = e.rendition.underline; blink = e.rendition.blink; negative = e.rendition.negative; concealed = e.rendition.concealed }

abbrev looked : Effect → Effect
looked e = record (scrolled e) { rendition = with_marks (marks e) unchanged.rendition }

abbrev inked : Effect → Effect
inked e = record (scrolled e) { rendition = e.rendition }

abbrev chosen : Effect → Effect
chosen e = record (inked e) { charset = e.charset }

abbrev framed : Effect → Effect
framed e = record (chosen e) { margins = e.margins }

pub leads : (e : Effect) → IsPlain e → Leads 0 unchanged (words e) e
leads e p =
    step 0 unchanged (moved_row e) (move_text row_name e.row) _ e (row_says e.row unchanged refl p.row)
    (step 1 (moved_row e) (moved e) (move_text col_name e.col) _ e (col_says e.col (moved_row e) refl p.col)
    (step 2 (moved e) (unpended e) (pending_text e.ends_pending) _ e (pending_says e.ends_pending (moved e) refl)
    (step 3 (unpended e) (erased e) (erasure_text e.erasure) _ e (erasure_says e.erasure (unpended e) refl p.erasure)
    (step 4 (erased e) (scrolled e) (scroll_text e.scroll) _ e (scroll_says e.scroll (erased e) refl)
    (step 5 (scrolled e) (looked e) (look_text e.rendition) _ e (look_says (marks e) (scrolled e) refl)
    (step 6 (looked e) (inked e) (ink_text e.rendition) _ e (ink_says e.rendition.foreground e.rendition.background (looked e) refl refl)
    (step 7 (inked e) (chosen e) (set_text e.charset) _ e (set_says e.charset (inked e) refl)
    (step 8 (chosen e) (framed e) (rows_text e.margins) _ e (rows_say e.margins (chosen e) refl p.margins)
    (step 9 (framed e) e (visible_text e.visible) [] e (visible_says e.visible (framed e) refl)
    (record { next = 10; read = refl }))))))))))
