-- Facts known of lines stay true when one more line is known.
use Rattle.std.proofs.Common.{◌≡◌, ◌⊎◌, ◌<◌, nat_lt, ℕ, Bool, true, false, if◌then◌else◌, List, [], ◌∷◌, ◌++◌, Some, inl, inr, refl, sym, ap, ◌∙◌, subst}
use Rattle.std.specs.Prelude.{◌==◌, not, length, replicate}
use Rattle.std.proofs.lemmas.Bool.{true≢false}
use Rattle.vt_term.specs.Text.{Splits}
use Rattle.vt_effects.specs.declared.effects.Effect.{Effect}
use Rattle.vt_effects.specs.declared.effects.Sets.{Sets}
use Rattle.vt_effects.specs.Record.{record_of}
use Rattle.ti_conforms.specs.Charsets.{IsAmong, reach_of, joined}
use Rattle.ti_conforms.specs.declared.reach.Reach.{Reach}
use Rattle.ti_conforms.proofs.Reaches.{reach_of-append}
use Rattle.ti_rows.specs.declared.rows.Looks.{Looks}
use Rattle.ti_rows.specs.declared.rows.Marks.{Marks}
use Rattle.ti_rows.specs.declared.rows.Row.{Row}
use Rattle.ti_rows.specs.declared.rows.Row.TheVariants.{Sgr, Smul, Rev, Blink, Dim, Bold, Invis, Smso}
use Rattle.ti_rows.specs.declared.rows.Attributes.{Attributes}
use Rattle.ti_rows.specs.Bits.{number_of}
use Rattle.ti_rows.specs.Names.{order, capabilities}
use Rattle.ti_rows.specs.Lists.{rank}
use Rattle.ti_rows.specs.Looks.{learned, shown}
use Rattle.ti_rows.specs.Asked.{start_of, asked, rendering, just, ink_of, defaults_both_inks, with_marks_on}
use Rattle.ti_rows.proofs.Answers.{earlier_kept}
use Rattle.ti_conforms.specs.Table.{settles}
use Rattle.ti_cert.specs.Strings.{Strings, group_at, row_string, has_group, Adds}
use Rattle.ti_cert.specs.Known.{Known, looks_with, HasRecord, IsKept, IsChange, IsFrom, IsTold, Holds, with_change}
use Rattle.ti_cert.specs.Certificates.{rival}
use Rattle.ti_conforms.specs.Looks.{LooksAlone, no_looks}
use Rattle.ti_cert.proofs.Elements.{among_front, among_behind, among_either}
use Rattle.ti_cert.proofs.Ranges.{less}
use Rattle.ti_cert.proofs.Singles.{looks_more}
use Rattle.ti_cert.proofs.GroupFacts.{there_some, none_at_first}

-- the effect that is asked for depends on the looks only for rows of `sgr` and for `smso`
pub asked_by : (l m : Looks) (r : Row) (f : Effect) → ((a : Attributes) → r ≡ Sgr a → shown l a ≡ shown m a) → (r ≡ Smso → l.standout ≡ m.standout) → asked l r f ≡ asked m r f
asked_by l m (Sgr a) f s t = ap (λ (x : Marks). rendering (just x (ink_of (defaults_both_inks f.rendition))) f) (s a refl)
asked_by l m Smso f s t = ap (λ (x : Marks). rendering (with_marks_on x) f) (t refl)
asked_by l m row f s t = refl

lower : (rows cols : ℕ) (r : Row) (a b : Attributes) → r ≡ Sgr b → (order r ≡ order (Sgr a) → nat_lt (rank rows cols r) (rank rows cols (Sgr a)) ≡ true) → number_of b < number_of a
lower rows cols r a b e later = let h : nat_lt (number_of b) (number_of a) ≡ true = ap (λ (x : Row). nat_lt (rank rows cols x) (number_of a)) (sym e) ∙ later (ap order e) in less (number_of b) (number_of a) h

not_itself : (rows cols : ℕ) (r : Row) {A : Type 0} → r ≡ Smso → (order r ≡ 39 → nat_lt (rank rows cols r) 0 ≡ true) → A
not_itself rows cols r e later = let h : nat_lt 0 0 ≡ true = ap (λ (x : Row). nat_lt (rank rows cols x) 0) (sym e) ∙ later (ap order e) in cc

-- a line that was judged before is judged as before with the looks that one more line teaches
pub learned_keeps : (rows cols : ℕ) (l : Looks) (row : Row) (e : Effect) (r : Row) (f : Effect) → (order r ≡ order (rival row) → ⊥)
    → (order r ≡ order row → nat_lt (rank rows cols r) (rank rows cols row) ≡ true) → asked l r f ≡ asked (learned row e l) r f
learned_keeps rows cols l (Sgr a) e r f never later = asked_by l (learned (Sgr a) e l) r f (λ b is. sym (earlier_kept l a b e (lower rows cols r a b is later))) (λ is. absurd (never (ap order is)))
learned_keeps rows cols l Smul e r f never later = asked_by l (learned Smul e l) r f (λ b is. absurd (never (ap order is))) (λ is. refl)
learned_keeps rows cols l Rev e r f never later = asked_by l (learned Rev e l) r f (λ b is. absurd (never (ap order is))) (λ is. refl)
learned_keeps rows cols l Blink e r f never later = asked_by l (learned Blink e l) r f (λ b is. absurd (never (ap order is))) (λ is. refl)
learned_keeps rows cols l Dim e r f never later = asked_by l (learned Dim e l) r f (λ b is. absurd (never (ap order is))) (λ is. refl)
learned_keeps rows cols l Bold e r f never later = asked_by l (learned Bold e l) r f (λ b is. absurd (never (ap order is))) (λ is. refl)
learned_keeps rows cols l Invis e r f never later = asked_by l (learned Invis e l) r f (λ b is. absurd (never (ap order is))) (λ is. refl)
learned_keeps rows cols l Smso e r f never later = asked_by l (learned Smso e l) r f (λ b is. absurd (never (ap order is))) (λ is. not_itself rows cols r is later)
learned_keeps rows cols l row e r f never later = refl

either_keeps : (k : Known) (row : Row) (e : Effect) (r : Row) (f : Effect) (b : Bool) → has_group k.strings (rival row) ≡ b → has_group k.strings r ≡ true
    → (order r ≡ order row → nat_lt (rank k.strings.rows k.strings.cols r) (rank k.strings.rows k.strings.cols row) ≡ true)
    → asked k.looks r f ≡ asked (if b then k.looks else learned row e k.looks) r f
either_keeps k row e r f true is there later = refl
either_keeps k row e r f false is there later = learned_keeps k.strings.rows k.strings.cols k.looks row e r f
    (λ same. true≢false (sym there ∙ (ap (λ (n : ℕ). not (length (group_at k.strings n) == 0)) same ∙ is))) later

pub kept_among : (b : Bool) (changes : List Sets) (change x : Sets) → IsAmong changes x → IsAmong (with_change b changes change) x
kept_among true changes change x a = among_front changes (change ∷ []) x a
kept_among false changes change x a = a

pub new_among : (b : Bool) (changes : List Sets) (change : Sets) → b ≡ true → IsAmong (with_change b changes change) change
new_among true changes change h = among_behind changes (change ∷ []) change (inl refl)
new_among false changes change h = cc

which_among : (b : Bool) (changes : List Sets) (change x : Sets) → IsAmong (with_change b changes change) x → IsAmong changes x ⊎ (x ≡ change)
which_among true changes change x a = tail_is (among_either changes (change ∷ []) x a)
  where
    tail_is : IsAmong changes x ⊎ IsAmong (change ∷ []) x → IsAmong changes x ⊎ (x ≡ change)
    tail_is (inl b) = inl b
    tail_is (inr (inl e)) = inr e
    tail_is (inr (inr b)) = absurd b
which_among false changes change x a = inl a

which_told : (b : Bool) (changes : List Sets) (change x : Sets) → IsAmong (with_change b changes change) x → IsAmong changes x ⊎ ((b ≡ true) × (x ≡ change))
which_told true changes change x a = onto (which_among true changes change x a)
  where
    onto : IsAmong changes x ⊎ (x ≡ change) → IsAmong changes x ⊎ ((true ≡ true) × (x ≡ change))
    onto (inl b) = inl b
    onto (inr e) = inr (refl, e)
which_told false changes change x a = inl a

pub holds_more : (k : Known) (strings : Strings) (row : Row) (bytes : List ℕ) (tokens : List (List ℕ)) (effect : Effect) (looks : Looks) (reach : Reach) (changes : List Sets)
    → Holds k → Adds k.strings strings row bytes → Splits bytes tokens [] → looks ≡ looks_with k row effect → HasRecord k.strings.rows k.strings.cols looks row tokens effect
    → reach ≡ joined k.reach (reach_of tokens) → changes ≡ with_change (settles row) k.changes effect.charset
    → Holds (record { strings = strings; looks = looks; reach = reach; changes = changes })
holds_more k strings row bytes tokens effect looks reach changes h a whole looks_are has reach_so changes_so = record {
  all = h.all ++ tokens;
  reach_is = reach_so ∙ (ap (λ (r : Reach). joined r (reach_of tokens)) h.reach_is ∙ sym (reach_of-append h.all tokens));
  lines = λ r b there. line r b (a.only r b there);
  changes = λ x among. change x (which_among (settles row) k.changes effect.charset x (subst (λ (xs : List Sets). IsAmong xs x) changes_so among));
  from_lines = λ token among. from_either token (among_either h.all tokens token among);
  told = λ x among. told_either x (which_told (settles row) k.changes effect.charset x (subst (λ (xs : List Sets). IsAmong xs x) changes_so among));
  looks = subst (λ (l : Looks). LooksAlone (λ r. has_group strings r) l) (sym looks_are) (looks_more k strings row bytes effect a h.looks);
}
  where
    new : Known
    new = record { strings = strings; looks = looks; reach = reach; changes = changes }

    sized : (l : Looks) (r : Row) (ts : List (List ℕ)) (e : Effect) → HasRecord k.strings.rows k.strings.cols l r ts e → HasRecord strings.rows strings.cols l r ts e
    sized l r ts e p = subst (λ (n : ℕ). HasRecord n strings.cols l r ts e) (sym a.rows_kept) (subst (λ (n : ℕ). HasRecord k.strings.rows n l r ts e) (sym a.cols_kept) p)

    same_asked : (r : Row) (b : List ℕ) (f : Effect) → row_string k.strings r ≡ Some b → asked k.looks r f ≡ asked looks r f
    same_asked r b f there = either_keeps k row effect r f (has_group k.strings (rival row)) refl (there_some k.strings r b there) (a.later r b there) ∙ ap (λ (l : Looks). asked l r f) (sym looks_are)

    old_line : (r : Row) (b : List ℕ) → row_string k.strings r ≡ Some b → IsKept k h.all r b → IsKept new (h.all ++ tokens) r b
    old_line r b there p = record {
      tokens = p.tokens;
      whole = p.whole;
      effect = p.effect;
      has = sized looks r p.tokens p.effect (record { recorded = p.has.recorded; asked_for = p.has.asked_for ∙ same_asked r b p.effect there });
      reached = λ t among. among_front h.all tokens t (p.reached t among);
      settled = λ q. subst (λ (xs : List Sets). IsAmong xs p.effect.charset) (sym changes_so) (kept_among (settles row) k.changes effect.charset p.effect.charset (p.settled q));
    }

    new_line : IsKept new (h.all ++ tokens) row bytes
    new_line = record {
      tokens = tokens;
      whole = whole;
      effect = effect;
      has = sized looks row tokens effect has;
      reached = λ t among. among_behind h.all tokens t among;
      settled = λ q. subst (λ (xs : List Sets). IsAmong xs effect.charset) (sym changes_so) (new_among (settles row) k.changes effect.charset q);
    }

    line : (r : Row) (b : List ℕ) → (row_string k.strings r ≡ Some b) ⊎ ((r ≡ row) × (b ≡ bytes)) → IsKept new (h.all ++ tokens) r b
    line r b (inl there) = old_line r b there (h.lines r b there)
    line r b (inr e) = subst (λ (x : Row). IsKept new (h.all ++ tokens) x b) (sym e.0) (subst (λ (y : List ℕ). IsKept new (h.all ++ tokens) row y) (sym e.1) new_line)

    from_either : (token : List ℕ) → IsAmong h.all token ⊎ IsAmong tokens token → IsFrom new token
    from_either token (inl among) = let f : IsFrom k token = h.from_lines token among in record { row = f.row; bytes = f.bytes; there = a.kept f.row f.bytes f.there; tokens = f.tokens; whole = f.whole; among = f.among }
    from_either token (inr among) = record { row = row; bytes = bytes; there = a.there; tokens = tokens; whole = whole; among = among }

    same_record : (r : Row) (ts : List (List ℕ)) (e : Effect) → record_of k.strings.rows k.strings.cols (start_of k.strings.rows k.strings.cols r) ts ≡ Some e → record_of strings.rows strings.cols (start_of strings.rows strings.cols r) ts ≡ Some e
    same_record r ts e p = subst (λ (n : ℕ). record_of n strings.cols (start_of n strings.cols r) ts ≡ Some e) (sym a.rows_kept) (subst (λ (n : ℕ). record_of k.strings.rows n (start_of k.strings.rows n r) ts ≡ Some e) (sym a.cols_kept) p)

    told_either : (x : Sets) → IsAmong k.changes x ⊎ ((settles row ≡ true) × (x ≡ effect.charset)) → IsTold new x
    told_either x (inl among) = let f : IsTold k x = h.told x among in
        record { row = f.row; bytes = f.bytes; there = a.kept f.row f.bytes f.there; keeps = f.keeps; tokens = f.tokens; whole = f.whole; effect = f.effect; recorded = same_record f.row f.tokens f.effect f.recorded; is = f.is }
    told_either x (inr e) = record { row = row; bytes = bytes; there = a.there; keeps = e.0; tokens = tokens; whole = whole; effect = effect; recorded = same_record row tokens effect has.recorded; is = e.1 }

    change : (x : Sets) → IsAmong k.changes x ⊎ (x ≡ effect.charset) → IsChange (h.all ++ tokens) x
    change x (inl among) =
        let p : IsChange h.all x = h.changes x among in
        record { rows = p.rows; cols = p.cols; row = p.row; tokens = p.tokens; effect = p.effect; recorded = p.recorded; is = p.is; reached = λ t u. among_front h.all tokens t (p.reached t u) }
    change x (inr e) = record { rows = k.strings.rows; cols = k.strings.cols; row = row; tokens = tokens; effect = effect; recorded = has.recorded; is = e; reached = λ t u. among_behind h.all tokens t u }

pub holds_to : (k : Known) (s : Strings) (l : Looks) (q : Reach) (x : List Sets) → record { strings = s; looks = l; reach = q; changes = x } ≡ k
    → (strings : Strings) (row : Row) (bytes : List ℕ) (tokens : List (List ℕ)) (effect : Effect) (looks : Looks) (reach : Reach) (changes : List Sets)
    → Holds k → Adds s strings row bytes → Splits bytes tokens [] → looks ≡ looks_with k row effect → HasRecord k.strings.rows k.strings.cols looks row tokens effect
    → reach ≡ joined q (reach_of tokens) → changes ≡ with_change (settles row) x effect.charset
    → Holds (record { strings = strings; looks = looks; reach = reach; changes = changes })
holds_to k s l q x is strings row bytes tokens effect looks reach changes h a w lo has re ch = holds_more k strings row bytes tokens effect looks reach changes h
    (subst (λ (y : Known). Adds y.strings strings row bytes) is a) w lo has
    (re ∙ ap (λ (y : Known). joined y.reach (reach_of tokens)) is) (ch ∙ ap (λ (y : Known). with_change (settles row) y.changes effect.charset) is)

looks_at_first : (rows cols : ℕ) → LooksAlone (λ row. has_group (record { rows = rows; cols = cols; groups = replicate capabilities [] }) row) no_looks
looks_at_first rows cols off = record { underline = refl; reverse = refl; blink = refl; dim = refl; bold = refl; invisible = refl; standout = λ none. refl }

pub holds_at_first : (strings : Strings) (reach : Reach) (changes : List Sets) (rows cols : ℕ) → strings ≡ record { rows = rows; cols = cols; groups = replicate capabilities [] } → reach ≡ reach_of [] → changes ≡ []
    → Holds (record { strings = strings; looks = no_looks; reach = reach; changes = changes })
holds_at_first strings reach changes rows cols s r c = record {
  all = [];
  reach_is = r;
  lines = λ row bytes there. absurd (none_at_first rows cols row bytes (subst (λ (x : Strings). row_string x row ≡ Some bytes) s there));
  changes = λ x among. absurd (subst (λ (xs : List Sets). IsAmong xs x) c among);
  from_lines = λ token among. absurd among;
  told = λ x among. absurd (subst (λ (xs : List Sets). IsAmong xs x) c among);
  looks = subst (λ (x : Strings). LooksAlone (λ row. has_group x row) no_looks) (sym s) (looks_at_first rows cols);
}
