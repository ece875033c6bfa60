-- Texts and effects: each plain effect has its text, and each text that is read has its effect.
use Rattle.std.proofs.Common.{◌≡◌, ℕ, ◌<◌, Bool, true, false, List, [], ◌∷◌, length, Some, refl, sym, ap, ◌∙◌, subst, arith}
use Rattle.std.specs.Prelude.{if◌then◌else◌}
use Rattle.std.specs.Option.{option_map}
use Rattle.std.specs.List.{join_with_byte}
use Rattle.std.proofs.lemmas.Option.{same_Some}
use Rattle.vt_effects.specs.declared.effects.Effect.{Effect}
use Rattle.vt_effects.specs.Effect.{unchanged}
use Rattle.ti_lines.specs.declared.words.Found.{Found}
use Rattle.ti_lines.specs.EffectText.{words, joined, spelled, IsPlain}
use Rattle.ti_lines.specs.EffectLaws.{OneText}
use Rattle.ti_lines.specs.EffectReader.{is_all, word_at, with_word, with_words, parts_of, words_of, read_behind, effect_in}
use Rattle.ti_lines.proofs.TextCuts.{parts_joined, some_part, AllLack, split_joined}
use Rattle.ti_lines.proofs.Glyphs.{branch, mapped}
use Rattle.ti_lines.proofs.Forms.{all_written}
use Rattle.ti_lines.proofs.Orders.{words_add, Leads, leads}
use Rattle.ti_lines.proofs.Lacking.{words_lack}

abbrev none_yet : Found
none_yet = record { effect = unchanged; next = 0 }

some_parts : (text : List ℕ) (parts : List (List ℕ)) → 0 < length parts → join_with_byte 32 parts ≡ text → joined parts ≡ text
some_parts text [] h e = absurd (omega (arith, h))
some_parts text (w ∷ ws) h e = e

joined_words : (text : List ℕ) → joined (words_of text) ≡ text
joined_words text = some_parts text (parts_of 32 text) (some_part 32 text) (parts_joined 32 text)

record IsText (text : List ℕ) (e : Effect) : Type 0 where
  whole : spelled e ≡ text
  plain : IsPlain e

nothing_said : IsText (45 ∷ []) unchanged
unfolding spelled
nothing_said = record { whole = refl; plain = record { row = tt; col = tt; erasure = tt; margins = tt } }

found_said : (text : List ℕ) (f : Found) → read_behind none_yet text ≡ Some f → IsText text f.effect
unfolding spelled read_behind
found_said text f h =
    let r = words_add (words_of text) none_yet f h (record { row = tt; col = tt; erasure = tt; margins = tt }) (refl, (refl, (refl, (refl, (refl, (refl, (refl, (refl, (refl, (refl, tt)))))))))) in
    record { whole = ap joined r.0 ∙ joined_words text; plain = r.1 }

read_said : (text : List ℕ) (e : Effect) → effect_in text ≡ Some e → IsText text e
unfolding effect_in
read_said text e h =
    branch (IsText text e) (is_all (45 ∷ []) text) (Some unchanged) (option_map (λ f. f.effect) (read_behind none_yet text)) e
    (λ t k. subst (IsText text) (same_Some unchanged e k) (subst (λ (l : List ℕ). IsText l unchanged) (sym (all_written (45 ∷ []) text t)) nothing_said))
    (λ k. mapped (IsText text e) (λ f. f.effect) (read_behind none_yet text) e (λ f a b. subst (IsText text) b (found_said text f a)) k) h

pub reads_spelled : (text : List ℕ) (e : Effect) → effect_in text ≡ Some e → spelled e ≡ text
reads_spelled text e h = (read_said text e h).whole

pub reads_plain : (text : List ℕ) (e : Effect) → effect_in text ≡ Some e → IsPlain e
reads_plain text e h = (read_said text e h).plain

-- a dash is no word
no_dash : (f : Found) → with_words none_yet ((45 ∷ []) ∷ []) ≡ Some f → ⊥
unfolding with_word word_at
no_dash f h = cc

dash_alone : words_of (45 ∷ []) ≡ (45 ∷ []) ∷ []
unfolding parts_of
dash_alone = refl

said_again : (e : Effect) (ws : List (List ℕ)) → AllLack 32 ws → Leads 0 unchanged ws e → effect_in (joined ws) ≡ Some e
unfolding effect_in read_behind
said_again e [] spaces l = ap (λ (f : Found). Some f.effect) (same_Some none_yet (record { effect = e; next = l.next }) l.read)
said_again e (w ∷ ws) spaces l = by_dash (is_all (45 ∷ []) (joined (w ∷ ws))) refl
  where
    same : words_of (joined (w ∷ ws)) ≡ w ∷ ws
    same = split_joined 32 w ws spaces

    by_dash : (t : Bool) → is_all (45 ∷ []) (joined (w ∷ ws)) ≡ t → (if t then Some unchanged else option_map (λ f. f.effect) (with_words none_yet (words_of (joined (w ∷ ws))))) ≡ Some e
    by_dash true t =
        let one : w ∷ ws ≡ (45 ∷ []) ∷ [] = sym same ∙ ap words_of (all_written (45 ∷ []) (joined (w ∷ ws)) t) ∙ dash_alone in
        absurd (no_dash _ (ap (with_words none_yet) (sym one) ∙ l.read))
    by_dash false t = ap (λ (l : List (List ℕ)). option_map (λ f. f.effect) (with_words none_yet l)) same ∙ ap (option_map (λ f. f.effect)) l.read

pub spelled_reads : (e : Effect) (text : List ℕ) → IsPlain e → spelled e ≡ text → effect_in text ≡ Some e
unfolding spelled
spelled_reads e text p h = ap effect_in (sym h) ∙ said_again e (words e) (words_lack 32 e (omega arith) p) (leads e p)

pub one_text : OneText
one_text d e p q h = same_Some d e (sym (spelled_reads d (spelled e) p h) ∙ spelled_reads e (spelled e) q refl)
