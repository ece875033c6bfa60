-- `into_loose` gives the pointer up, and with it what is owned there.
use Rattle.std.proofs.Common.{List, [], ◌∷◌, ◌++◌, ◌≡◌, refl, sym, ap, ◌∙◌, subst}
use Rattle.std.proofs.raw_atomic.Walks.{proved_at, leaves}
use Rattle.std.specs.Prelude.{Option, Some, is_some, true}
use mir.Raw.{raw as bare}
use mir.Syntax.{impl, tnil, dnil}
use mir.Val.{Val, vptr}
use base.Logic.{SProp, ent, emp, id⊢, never, fst∗}
use base.Fml.{ftrue}
use prog.Wp.{WpFn}
use contract.Monad.{fact, fact_i}
use contract.Running.{tables}
use types.Logic.{sem}
use types.Kit.{‵, ◌⊛◌, raw, ◌$◌, ◌∵◌, !, qed, by, keep, move, split, fsplit, fjoin, rewrite, suffices, use0}
use types.Run.{enter, of_opd, stop, fld, no_more, and_then, returns}
use types.ByLocal.{alloc_all, pass_all, free_all, look_at, get, get_in, sets}
use types.Part.{agg, sub, whole}
use denote.Exit.{yes}
use denote.RattleType.{owns}
use denote.Memory.{lone}
use denote.RawPtr.{Ptr, block_ptr, null_ptr, in_a_block}
use denote.Signature.{plain, types_at}
use denote.Steps.{nothing, heard}
use denote.Triple.Walked.{Stays, stay_dropped, Goes-dropped, walk_of}
use Rattle.core.proofs.alloc.Calls.{Al, handle_tells}
use Rattle.std.specs.Box.Ownership.{box_owns}
use Rattle.std.specs.contracts.alloc.Global as heap
use Rattle.std.proofs.alloc.Global.TheLaws as heap_laws
use Rattle.std.specs.contracts.impls.GlobalAllocator.TheImpl.{ghosts}
use Rattle.terminfo_c.specs.Handles.{held_at, chunk}
use Rattle.terminfo_c.proofs.Looses.{two, two_typed, loose_in}
use Rattle.terminfo_c.proofs.Slots.{word, slot_out, held_of}
use Rattle.terminfo_c.specs.contracts.held.Held as held
use Rattle.terminfo_c.specs.contracts.handles.Slot as slot
use Rattle.terminfo_c.specs.contracts.handles.Slot.into_loose as f
use Rattle.terminfo_c.proofs.handles.Slot.into_loose.Statement.{statement}
use Rattle.terminfo_c.proofs.handles.Slot.into_loose.Code as code

abbrev stayed : Stays f.ended.signature.params f.ended.kept
stayed = (stay_dropped _ yes, (stay_dropped _ yes, tt))

abbrev al : Al
al = record { row = heap.the_row; laws = heap_laws.the_row_laws; g = ghosts; d = impl [] tnil dnil; drops = impl [] tnil dnil }

pub into_loose_spec : {M : Type 1} → statement M
into_loose_spec 𝓤 𝓛 𝓜 𝓡 wired =
    let c = f.clauses 𝓛 𝓜.mem 𝓡.returns in let 𝓣 = tables 𝓤 𝓛.H 𝓜 𝓡 𝓡.env in
    proved_at 𝓛 f.ended stayed c 𝓜 𝓡
    (Goes-dropped 𝓛 0 (plain (λ _. slot.the_row)) yes (λ κs x w. refl), (Goes-dropped 𝓛 0 (plain (λ _. heap.the_row)) yes (λ κs x w. refl), tt))
    f.Key.name code.function (code.unfolded 𝓤 𝓛.H 𝓜 𝓡 wired) (λ y are.
    let κs = y.0.0 in let given = y.0.3.0 in let handle = y.0.3.1.0 in let Post : Val → SProp 𝓤 = (walk_of 𝓛 f.ended stayed c).post y in
    let Run : List Val → SProp 𝓤 = λ ws. WpFn 𝓤 𝓛.H 𝓣.C 𝓣.Λ code.function ws Post in
    qed 𝓛 ((‵ ftrue ⊛ ‵ (owns (types_at f.ended.signature.params κs) y.0.3 y.0.4)) ∷ raw (fact 𝓤 (is_some given.held ≡ true)) ∷ []) ∵
    split ! $ move ! (1 ∷ []) $ fsplit ! $ slot_out ! given y.0.4.0 (λ ws. move ! (3 ∷ []) $ heard ! _ (λ some.
    let is = held_of given.held some in
    rewrite ! 0 (λ (h : Option (held.the_row).Denot). ‵ (held_at held.the_row given.at h)) is.1 refl $
    in_a_block ! given.at (λ (p : Ptr). box_owns chunk held.the_row p is.0) (fst∗ 𝓤 (never 𝓤) (sem 𝓛 (chunk (bare (lone (held.the_row).mir)) null_ptr))) (λ b o lies.
    move ! (1 ∷ []) $ fsplit ! $ handle_tells al ! handle y.0.4.1.0 (λ h hs fits.
    let typed = two_typed held.the_row heap.the_row heap_laws.the_row_laws ghosts b o h fits in
    let w : Val = word (block_ptr b o) in let at : y.0.4.0 ≡ w ∷ [] = ws ∙ ap (λ (p : Ptr). word p ∷ []) lies in
    suffices ! (Run (w ∷ h ∷ [])) (subst (λ (us : List Val). ent 𝓤 (Run (w ∷ h ∷ [])) (Run us)) (sym (λ i. at i ++ (hs i ++ []))) (id⊢ 𝓤 (Run (w ∷ h ∷ [])))) $
    enter ! 𝓣.C 𝓣.Λ code.function (w ∷ h ∷ []) Post $ alloc_all ! (λ l. pass_all ! refl ((tt, (tt, tt)), (fits, tt)) $
    sets ! (of_opd ! (get_in ! (fld ! refl (stop !)) (sub ! 0 refl (whole !)))) refl (tt, tt) $
    sets ! (of_opd ! (get ! refl)) refl (tt, tt) $
    sets ! (agg ! (and_then ! (get ! refl) (and_then ! (get ! refl) (no_more !)))) refl typed $
    returns ! (look_at ! 0 refl) $ free_all ! refl $
    move ! (2 ∷ 0 ∷ []) $ loose_in held.the_row heap.the_row heap_laws.the_row_laws ghosts ! b o h handle is.0 $
    use0 𝓛 (raw (fact 𝓤 (Some is.0 ≡ given.held))) (fact_i 𝓤 (Some is.0 ≡ given.held) (emp 𝓤) (sym is.1)) $
    nothing ! $ nothing ! $ fjoin ! $ nothing ! $ fjoin ! $ keep ! (4 ∷ 0 ∷ 2 ∷ 1 ∷ []) $
    by ! (leaves 𝓛 f.ended stayed c y (two (vptr b o) h) (record { at = block_ptr b o; alloc = handle; value = is.0 }) (tt, (tt, tt)) (tt, (tt, tt)))))))))
