-- Parameters, word by word.
use Rattle.std.proofs.Common.{◌≡◌, ◌<◌, ◌+◌, ℕ, suc, List, [], ◌∷◌, ◌++◌, length, get_or, take, drop, drop-cons, subst, sym, ap, ◌∙◌}
use Rattle.std.proofs.lemmas.List.{map-append, take-append-drop, take_more}
use Rattle.ti_parm.specs.Value.{Value, value_of, values_of}
use Rattle.ti_parm.specs.declared.param.Param.{Param}
use Rattle.ti_files.specs.Words.{GivesParam, GiveParams, texts_of}
use denote.Ref.{Bor}

pub give_more : (words : List (List ℕ)) (values : List Value) (word : List ℕ) (value : Value) → GiveParams words values → GivesParam word value → GiveParams (words ++ word ∷ []) (values ++ value ∷ [])
give_more [] [] word value g h = (h, tt)
give_more [] (v ∷ values) word value g h = absurd g
give_more (w ∷ words) [] word value g h = absurd g
give_more (w ∷ words) (v ∷ values) word value g h = (g.0, give_more words values word value g.1 h)

-- the words before one, the word, and those after it
pub texts_around : (words : List (Bor (List ℕ))) (i : ℕ) (d : Bor (List ℕ)) → i < length words → texts_of words ≡ texts_of (take i words) ++ (get_or words i d).now ∷ texts_of (drop (suc i) words)
texts_around words i d lt =
    ap texts_of (sym (take-append-drop i words))
    ∙ map-append (λ (w : Bor (List ℕ)). w.now) (take i words) (drop i words)
    ∙ ap (λ (l : List (Bor (List ℕ))). texts_of (take i words) ++ texts_of l) (drop-cons words i d lt)

-- one more word that gives a value
pub params_more : (words : List (Bor (List ℕ))) (i : ℕ) (d : Bor (List ℕ)) (before after : List Param) (param : Param) → i < length words → GiveParams (texts_of (take i words)) (values_of before) → after ≡ before ++ param ∷ [] → GivesParam (get_or words i d).now (value_of param) → GiveParams (texts_of (take (i + 1) words)) (values_of after)
params_more words i d before after param lt g e h =
    let texts : texts_of (take (i + 1) words) ≡ texts_of (take i words) ++ (get_or words i d).now ∷ [] = ap texts_of (take_more words i d lt) ∙ map-append (λ (w : Bor (List ℕ)). w.now) (take i words) (get_or words i d ∷ []) in
    let values : values_of after ≡ values_of before ++ value_of param ∷ [] = ap values_of e ∙ map-append value_of before (param ∷ []) in
    let more = give_more (texts_of (take i words)) (values_of before) (get_or words i d).now (value_of param) g h in
    subst (λ (l : List (List ℕ)). GiveParams l (values_of after)) (sym texts) (subst (λ (l : List Value). GiveParams (texts_of (take i words) ++ (get_or words i d).now ∷ []) l) (sym values) more)
