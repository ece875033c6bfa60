-- From the bytes that a call puts on the wire to their effect on the terminal.
use Rattle.std.proofs.Common.{◌≡◌, ℕ, ◌+◌, ◌*◌, ◌<◌, ◌≤◌, ◌^◌, Bool, true, false, List, [], ◌∷◌, ◌++◌, length, Option, Some, refl, sym, ap, subst, ◌∙◌, arith}
use Rattle.std.proofs.Math.Nat.{le_refl}
use Rattle.vt_term.specs.Screen.{State}
use Rattle.vt_term.specs.Size.{IsSize}
use Rattle.vt_term.specs.Text.{IsOpen}
use Rattle.vt_term.proofs.Runs.{runs_nothing}
use Rattle.cur_screens.specs.VirtualScreen.{Screen}
use Rattle.cur_steps.specs.Wire.{IsWire}
use Rattle.vt_term.specs.Ends.{Ends}
use Rattle.ti_rows.specs.declared.rows.Row.TheVariants.{Bel}
use Rattle.ti_conforms.specs.Certified.{Table, IsChecked, IsLost, IsSmall, cell_limit}
use Rattle.cur_steps.specs.Beliefs.{Agrees}
use Rattle.cur_steps.proofs.Actions.{agrees_lost}
use Rattle.cur_steps.specs.declared.beliefs.Belief.{Belief}
use Rattle.cur_steps.specs.declared.beliefs.Mode.{Mode}
use Rattle.cur_steps.specs.declared.beliefs.Place.{Place}
use Rattle.cur_steps.specs.declared.inks.Ink.{Ink}
use Rattle.cur_paint.specs.Finish.{finish_text}
use Rattle.cur_paint.specs.Limits.{IsCursor, paint_limit, fresh_limit}
use Rattle.cur_paint.specs.Rests.{rested}
use Rattle.cur_paint.specs.Update.{Fits, Meets, refresh_limit}
use Rattle.cur_paint.specs.declared.updates.Cursor.{Cursor}
use Rattle.cur_paint.specs.declared.updates.Knowledge.{Knowledge}
use Rattle.cur_paint.specs.declared.updates.Status.{Status}
use Rattle.cur_paint.specs.declared.updates.Status.TheVariants.{Fresh, Known, Lost}
use Rattle.cur_update.specs.Differ.{in_lines}
use Rattle.cur_update.specs.Inks.{ink_at}
use Rattle.cur_update.specs.Painters.{Painted, place_of, wanted_of}
use Rattle.cur_play.proofs.Fewness.{finish_few, front_few, line_few, refresh_few}
use Rattle.cur_play.specs.Log.{is_shown, last_after, mode_after, most}
use Rattle.cur_play.specs.Deliveries.{FitsIn, IsLast, IsSettled, Carries}
use Rattle.cur_play.specs.Outputs.{IsQuiet, Showed, ShowedShort, Puts}
use Rattle.cur_play.specs.declared.answers.Answer.{Answer}
use Rattle.cur_play.specs.declared.answers.Answer.TheVariants.{Done, Was, Refused, WireFailed}
use Rattle.cur_play.specs.declared.sends.Emission.{Emission}
use Rattle.cur_play.specs.declared.sends.Emission.TheVariants.{Nothing, Update, Bell, End}

-- the laws of the bound, for virtual screens
pub record IsBound : Type 0 where
  pub most : (t : Table) (partners : ℕ → Option ℕ) (v w : Screen) (b : Belief) (cursor : Option Place) (mode : Mode) → v.rows ≡ w.rows → v.cols ≡ w.cols
      → paint_limit t (ink_at t partners v) (ink_at t partners w) b cursor mode ≤ (in_lines v w t.cols t.rows + 1) * cell_limit t
  pub none : (t : Table) (partners : ℕ → Option ℕ) (v w : Screen) (b : Belief) (cursor : Option Place) (mode : Mode) → v.rows ≡ w.rows → v.cols ≡ w.cols
      → in_lines v w t.cols t.rows ≡ 0 → b.mode ≡ Some mode → (s : State) → Agrees t (ink_at t partners v) b s → IsCursor cursor s.screen.row s.screen.col → paint_limit t (ink_at t partners v) (ink_at t partners w) b cursor mode ≡ 0

fits_open : (t : Table) (g : ℕ → ℕ → Ink) (status : Status) (c : Cursor) (s : State) → Fits t g status c s → IsOpen s.rest
fits_open t g Fresh c s f = f.lost.sized.state.rest
fits_open t g Known c s f = f.ready.sized.state.rest
fits_open t g Lost c s f = f.sized.state.rest

pub fits_lost : (t : Table) → IsChecked t → (g : ℕ → ℕ → Ink) (status : Status) (c : Cursor) (s : State) → Fits t g status c s → IsLost t s
fits_lost t checked g Fresh c s f = f.lost
fits_lost t checked g Known c s f = agrees_lost t checked g (rested c) s f
fits_lost t checked g Lost c s f = f

only_nothing : (front back : List ℕ) → [] ≡ front ++ back → front ≡ []
only_nothing [] back e = refl
only_nothing (x ∷ front) back e = absurd (cc)

-- the only prefix of no bytes is no bytes
cut_nothing : {C : Type 0} (t : Table) → IsChecked t → (partners : ℕ → Option ℕ) (before : Painted C) (front back : List ℕ) → [] ≡ front ++ back → (s : State) → FitsIn t partners before s → Ends s front (IsLost t)
cut_nothing t checked partners before front back e s f =
    let g = ink_at t partners before.shown in
    subst (λ (l : List ℕ). Ends s l (IsLost t)) (sym (only_nothing front back e))
    (record { after = s; runs = runs_nothing s (fits_open t g before.session.status before.session.cursor s f); there = fits_lost t checked g before.session.status before.session.cursor s f })

-- nothing went out
stays : {C : Type 0} (t : Table) (partners : ℕ → Option ℕ) (before after : Painted C) → after.session ≡ before.session → after.shown ≡ before.shown → (s : State) → FitsIn t partners before s → Ends s [] (FitsIn t partners after)
stays t partners before after e f s p =
    let P : Knowledge → Type 0 = λ x. Fits t (ink_at t partners after.shown) x.status x.cursor s in
    let Q : Screen → Type 0 = λ d. Fits t (ink_at t partners d) before.session.status before.session.cursor s in
    record { after = s; runs = runs_nothing s (fits_open t (ink_at t partners before.shown) before.session.status before.session.cursor s p); there = subst P (sym e) (subst Q (sym f) p) }

-- nothing was shown: the screen shown last stays
keeps_last : {C : Type 0} (t : Table) (partners : ℕ → Option ℕ) (before after : Painted C) (last : Screen) → (after.session.status ≡ Known → before.session.status ≡ Known) → after.shown ≡ before.shown
    → IsLast t partners before last → IsLast t partners after last
keeps_last t partners before after last known same_screen h e = ap (ink_at t partners) same_screen ∙ h (known e)

-- the mode shown last changes only with the screen shown last
mode_kept : (o : Emission) (answer : Answer) (last m : Mode) → is_shown o answer ≡ false → mode_after o answer last m ≡ last
mode_kept Update Done last m e = absurd (cc)
mode_kept Update (Was n) last m e = refl
mode_kept Update (Refused r) last m e = refl
mode_kept Update WireFailed last m e = refl
mode_kept Nothing answer last m e = refl
mode_kept Bell answer last m e = refl
mode_kept End answer last m e = refl

settled_on : {C : Type 0} (before after : Painted C) (o : Emission) (answer : Answer) (last_mode : Mode) → is_shown o answer ≡ false
    → (after.session.status ≡ Known → after.session ≡ before.session) → IsSettled before last_mode → IsSettled after (mode_after o answer last_mode before.mode)
settled_on before after o answer last_mode none kept h known =
    let P : Knowledge → Type 0 = λ x. x.status ≡ Known → x.cursor.mode ≡ Some last_mode in
    let R : Mode → Type 0 = λ x. after.session.cursor.mode ≡ Some x in
    let here : P after.session = subst P (sym (kept known)) h in
    subst R (sym (mode_kept o answer last_mode before.mode none)) (here known)

fresh_unknown : (s : Status) → s ≡ Fresh → s ≡ Known → ⊥
fresh_unknown s e f = cc

lost_unknown : (s : Status) → s ≡ Lost → s ≡ Known → ⊥
lost_unknown s e f = cc

most_of : (laws : IsBound) (t : Table) (partners : ℕ → Option ℕ) (shown : ℕ → ℕ → Ink) (v : Screen) (status : Status) (b : Belief) (mode : Mode) (clear : Bool) (last : Screen) → last.rows ≡ v.rows → last.cols ≡ v.cols
    → (status ≡ Known → shown ≡ ink_at t partners last)
    → refresh_limit t shown (ink_at t partners v) status b (record { cursor = place_of v.cursor; mode = mode; clear = clear }) ≤ most t status clear last v
most_of laws t partners shown v Fresh b mode clear last rows cols h = le_refl (fresh_limit t)
most_of laws t partners shown v Lost b mode clear last rows cols h = le_refl (fresh_limit t)
most_of laws t partners shown v Known b mode true last rows cols h = le_refl (fresh_limit t)
most_of laws t partners shown v Known b mode false last rows cols h =
    let P : (ℕ → ℕ → Ink) → Type 0 = λ g. paint_limit t g (ink_at t partners v) b (place_of v.cursor) mode ≤ (in_lines last v t.cols t.rows + 1) * cell_limit t in
    subst P (sym (h refl)) (laws.most t partners last v b (place_of v.cursor) mode rows cols)

none_of : (laws : IsBound) (t : Table) (partners : ℕ → Option ℕ) (shown : ℕ → ℕ → Ink) (v : Screen) (status : Status) (b : Belief) (mode : Mode) (clear : Bool) (last : Screen) → last.rows ≡ v.rows → last.cols ≡ v.cols
    → (status ≡ Known → shown ≡ ink_at t partners last) → status ≡ Known → in_lines last v t.cols t.rows ≡ 0 → b.mode ≡ Some mode → clear ≡ false → (s : State) → Meets t shown status b s → IsCursor (place_of v.cursor) s.screen.row s.screen.col
    → refresh_limit t shown (ink_at t partners v) status b (record { cursor = place_of v.cursor; mode = mode; clear = clear }) ≡ 0
none_of laws t partners shown v Fresh b mode clear last rows cols h k n m c s f p = absurd (cc)
none_of laws t partners shown v Lost b mode clear last rows cols h k n m c s f p = absurd (cc)
none_of laws t partners shown v Known b mode true last rows cols h k n m c s f p = absurd (cc)
none_of laws t partners shown v Known b mode false last rows cols h k n m c s f p =
    let P : (ℕ → ℕ → Ink) → Type 0 = λ g. paint_limit t g (ink_at t partners v) b (place_of v.cursor) mode ≡ 0 in
    let Q : (ℕ → ℕ → Ink) → Type 0 = λ g. Agrees t g b s in
    subst P (sym (h refl)) (laws.none t partners last v b (place_of v.cursor) mode rows cols n m s (subst Q (h refl) f) p)

-- the bytes by another name
puts_as : {W C : Type 0} (went : W → W → List ℕ → Type 0) (failures : W → ℕ) (old new : W) (t : Table) (partners : ℕ → Option ℕ) (v : Screen) (o : Emission) (answer : Answer) (x y : List ℕ) (before after : Painted C)
    → x ≡ y → Puts went failures old new t partners v o answer x before after → Puts went failures old new t partners v o answer y before after
puts_as {W} {C} went failures old new t partners v o answer x y before after e p = let P : List ℕ → Type 0 = λ b. Puts went failures old new t partners v o answer b before after in subst P e p

quietly : {W C : Type 0} (went : W → W → List ℕ → Type 0) (failures : W → ℕ) → IsWire went failures → (old new : W) (t : Table) → IsChecked t → (partners : ℕ → Option ℕ) (v : Screen) (o : Emission) (answer : Answer) (bytes : List ℕ) (before after : Painted C)
    → is_shown o answer ≡ false → ((last : Screen) → last_after o answer last v ≡ last) → IsQuiet old new bytes before after → Puts went failures old new t partners v o answer bytes before after
    → Carries went failures old new t partners v o answer before after
quietly {W} went failures laws old new t checked partners v o answer bytes before after none same q puts = record {
  bytes = [];
  sent = (let P : W → Type 0 = λ w. went old w [] in subst P (sym q.wire) (laws.nothing old));
  puts = puts_as went failures old new t partners v o answer bytes [] before after q.none puts;
  fits = stays t partners before after q.session q.shown;
  cut = cut_nothing t checked partners before;
  shows = λ e. absurd (cc);
  last = λ last h. (let P : Screen → Type 0 = λ x. IsLast t partners after x in
      subst P (sym (same last)) (keeps_last t partners before after last (λ k. ap (λ (x : Knowledge). x.status) (sym q.session) ∙ k) q.shown h));
  settled = λ m h. settled_on before after o answer m none (λ k. q.session) h;
  bound = λ e last rows cols h. omega arith;
  idle = λ e last rows cols h s k. refl;
  quiet = λ e. refl;
  few = omega arith;
}

-- all bytes or a prefix of them went out, without showing the screen
otherwise : {W C : Type 0} (went : W → W → List ℕ → Type 0) (failures : W → ℕ) (old new : W) (t : Table) (partners : ℕ → Option ℕ) (v : Screen) (o : Emission) (answer : Answer) (before after : Painted C) (bytes : List ℕ)
    → is_shown o answer ≡ false → ((last : Screen) → last_after o answer last v ≡ last) → (o ≡ Update → ⊥) → (o ≡ Nothing → ⊥)
    → went old new bytes → ((s : State) → FitsIn t partners before s → Ends s bytes (FitsIn t partners after)) → ((front back : List ℕ) → bytes ≡ front ++ back → (s : State) → FitsIn t partners before s → Ends s front (IsLost t)) → (after.session.status ≡ Known → after.session ≡ before.session) → after.shown ≡ before.shown → length bytes < 2 ^ 60
    → Puts went failures old new t partners v o answer bytes before after → Carries went failures old new t partners v o answer before after
otherwise went failures old new t partners v o answer before after bytes none same other some sent fits cut kept same_screen few puts = record {
  bytes = bytes;
  sent = sent;
  puts = puts;
  fits = fits;
  cut = cut;
  shows = λ e. absurd (cc);
  last = λ last h. (let P : Screen → Type 0 = λ x. IsLast t partners after x in subst P (sym (same last)) (keeps_last t partners before after last (λ k. ap (λ (x : Knowledge). x.status) (sym (kept k)) ∙ k) same_screen h));
  settled = λ m h. settled_on before after o answer m none kept h;
  bound = λ e last rows cols h. absurd (other e);
  idle = λ e last rows cols h s k. absurd (other e);
  quiet = λ e. absurd (some e);
  few = few;
}

-- a state that fits a session of this status, with these cells
refit : (t : Table) (g h : ℕ → ℕ → Ink) (a b : Status) (k : Cursor) (bytes : List ℕ) (s : State) → h ≡ g → b ≡ a → Ends s bytes (Fits t g a k) → Ends s bytes (Fits t h b k)
refit t g h a b k bytes s e f x =
    let P : (ℕ → ℕ → Ink) → Type 0 = λ y. Fits t y b k x.after in
    let Q : Status → Type 0 = λ y. Fits t g y k x.after in
    record { after = x.after; runs = x.runs; there = subst P (sym e) (subst Q (sym f) x.there) }

showed : {W C : Type 0} (went : W → W → List ℕ → Type 0) (failures : W → ℕ) (old new : W) (t : Table) (partners : ℕ → Option ℕ) (v : Screen) (bytes : List ℕ) (before after : Painted C) → IsBound → IsSize t.rows t.cols → IsSmall t → v.rows ≡ t.rows → v.cols ≡ t.cols
    → Showed went old new t partners v bytes before after → Carries went failures old new t partners v Update Done before after
showed went failures old new t partners v bytes before after laws size small high wide p =
    let r = p.refreshed in
    let limit : ℕ = refresh_limit t (ink_at t partners before.shown) (ink_at t partners v) before.session.status (rested before.session.cursor) (wanted_of v before.mode) in
    let le : length r.bytes ≤ limit = r.bound in
    record {
      bytes = r.bytes;
      sent = r.sent;
      puts = puts_as went failures old new t partners v Update Done bytes r.bytes before after p.all p;
      fits = λ s f. refit t (ink_at t partners v) (ink_at t partners after.shown) Known after.session.status after.session.cursor r.bytes s (ap (ink_at t partners) p.shown) r.known (r.fits s f);
      cut = r.cut;
      shows = λ e s f. r.lawful.shows s f;
      last = λ last h k. ap (ink_at t partners) p.shown;
      settled = λ m h k. r.mode;
      bound = λ e last rows cols h. (let m = most_of laws t partners (ink_at t partners before.shown) v before.session.status (rested before.session.cursor) before.mode v.clearok last (rows ∙ sym high) (cols ∙ sym wide) h in omega (arith, le, m));
      idle = λ e last rows cols h s k. (let z = none_of laws t partners (ink_at t partners before.shown) v before.session.status (rested before.session.cursor) before.mode v.clearok last (rows ∙ sym high) (cols ∙ sym wide) h k.known k.same k.mode k.clear s k.fits k.cursor in omega (arith, le, z));
      quiet = λ e. absurd (cc);
      few = (let f = refresh_few t (ink_at t partners before.shown) (ink_at t partners v) before.session.status (rested before.session.cursor) (wanted_of v before.mode) size small in omega (arith, le, f));
    }

showed_short : {W C : Type 0} (went : W → W → List ℕ → Type 0) (failures : W → ℕ) (old new : W) (t : Table) (partners : ℕ → Option ℕ) (v : Screen) (bytes : List ℕ) (before after : Painted C) → IsBound → IsSize t.rows t.cols → IsSmall t → v.rows ≡ t.rows → v.cols ≡ t.cols
    → ShowedShort went failures old new t partners v bytes before after → Carries went failures old new t partners v Update WireFailed before after
showed_short went failures old new t partners v bytes before after laws size small high wide p =
    let r = p.cut in
    let limit : ℕ = refresh_limit t (ink_at t partners before.shown) (ink_at t partners v) before.session.status (rested before.session.cursor) (wanted_of v before.mode) in
    let le : length r.front ≤ limit = r.bound in
    record {
      bytes = r.front;
      sent = r.sent;
      puts = puts_as went failures old new t partners v Update WireFailed bytes r.front before after p.all p;
      fits = λ s f. refit t (ink_at t partners after.shown) (ink_at t partners after.shown) Lost after.session.status after.session.cursor r.front s refl r.lost (r.fits s f);
      cut = r.cut;
      shows = λ e. absurd (cc);
      last = λ last h k. absurd (lost_unknown after.session.status r.lost k);
      settled = λ m h k. absurd (lost_unknown after.session.status r.lost k);
      bound = λ e last rows cols h. (let m = most_of laws t partners (ink_at t partners before.shown) v before.session.status (rested before.session.cursor) before.mode v.clearok last (rows ∙ sym high) (cols ∙ sym wide) h in omega (arith, le, m));
      idle = λ e last rows cols h s k. (let z = none_of laws t partners (ink_at t partners before.shown) v before.session.status (rested before.session.cursor) before.mode v.clearok last (rows ∙ sym high) (cols ∙ sym wide) h k.known k.same k.mode k.clear s k.fits k.cursor in omega (arith, le, z));
      quiet = λ e. absurd (cc);
      few = (let f = refresh_few t (ink_at t partners before.shown) (ink_at t partners v) before.session.status (rested before.session.cursor) (wanted_of v before.mode) size small in omega (arith, le, f));
    }

to_lost : {C : Type 0} (t : Table) (partners : ℕ → Option ℕ) (after : Painted C) (bytes : List ℕ) (s : State) → after.session.status ≡ Lost → Ends s bytes (IsLost t) → Ends s bytes (FitsIn t partners after)
to_lost t partners after bytes s e x = refit t (ink_at t partners after.shown) (ink_at t partners after.shown) Lost after.session.status after.session.cursor bytes s refl e x

-- the session is the same
same_session : {C : Type 0} (t : Table) (partners : ℕ → Option ℕ) (before after : Painted C) (bytes : List ℕ) (s : State) → after.session ≡ before.session → after.shown ≡ before.shown → Ends s bytes (FitsIn t partners before) → Ends s bytes (FitsIn t partners after)
same_session t partners before after bytes s e f x =
    let P : Knowledge → Type 0 = λ y. Fits t (ink_at t partners after.shown) y.status y.cursor x.after in
    let Q : Screen → Type 0 = λ d. Fits t (ink_at t partners d) before.session.status before.session.cursor x.after in
    record { after = x.after; runs = x.runs; there = subst P (sym e) (subst Q (sym f) x.there) }

pub carries : {W C : Type 0} (went : W → W → List ℕ → Type 0) (failures : W → ℕ) → IsWire went failures → IsBound → (old new : W) (t : Table) (partners : ℕ → Option ℕ) (v : Screen) (o : Emission) (answer : Answer) (bytes : List ℕ) (before after : Painted C) → IsChecked t → v.rows ≡ t.rows → v.cols ≡ t.cols
    → Puts went failures old new t partners v o answer bytes before after → Carries went failures old new t partners v o answer before after
carries went failures wire laws old new t partners v Nothing answer bytes before after checked high wide p = quietly went failures wire old new t checked partners v Nothing answer bytes before after refl (λ l. refl) p p
carries went failures wire laws old new t partners v Update Done bytes before after checked high wide p = showed went failures old new t partners v bytes before after laws checked.size checked.small high wide p
carries went failures wire laws old new t partners v Update WireFailed bytes before after checked high wide p = showed_short went failures old new t partners v bytes before after laws checked.size checked.small high wide p
carries went failures wire laws old new t partners v Update (Was n) bytes before after checked high wide p = quietly went failures wire old new t checked partners v Update (Was n) bytes before after refl (λ l. refl) p p
carries went failures wire laws old new t partners v Update (Refused r) bytes before after checked high wide p = quietly went failures wire old new t checked partners v Update (Refused r) bytes before after refl (λ l. refl) p p
carries went failures wire laws old new t partners v Bell (Was n) bytes before after checked high wide p = quietly went failures wire old new t checked partners v Bell (Was n) bytes before after refl (λ l. refl) p p
carries went failures wire laws old new t partners v Bell (Refused r) bytes before after checked high wide p = quietly went failures wire old new t checked partners v Bell (Refused r) bytes before after refl (λ l. refl) p p
carries went failures wire laws old new t partners v End (Was n) bytes before after checked high wide p = quietly went failures wire old new t checked partners v End (Was n) bytes before after refl (λ l. refl) p p
carries went failures wire laws old new t partners v End (Refused r) bytes before after checked high wide p = quietly went failures wire old new t checked partners v End (Refused r) bytes before after refl (λ l. refl) p p
carries went failures wire laws old new t partners v Bell Done bytes before after checked high wide p =
    let r = p.sends in
    otherwise went failures old new t partners v Bell Done before after r.line refl (λ l. refl) (λ e. cc) (λ e. cc) r.sent
    (λ s f. same_session t partners before after r.line s r.same p.shown (r.fits (ink_at t partners before.shown) s f)) (λ x y e. r.cut x y e (ink_at t partners before.shown)) (λ k. r.same) p.shown (line_few t Bel r.line r.is checked.small)
    (puts_as went failures old new t partners v Bell Done bytes r.line before after p.all p)
carries went failures wire laws old new t partners v Bell WireFailed bytes before after checked high wide p =
    let r = p.sends in
    otherwise went failures old new t partners v Bell WireFailed before after r.front refl (λ l. refl) (λ e. cc) (λ e. cc) r.sent
    (λ s f. to_lost t partners after r.front s r.lost (r.fits (ink_at t partners before.shown) s f)) (λ x y e. r.cut x y e (ink_at t partners before.shown)) (λ k. absurd (lost_unknown after.session.status r.lost k)) p.shown (front_few r.line r.front r.back r.parts (line_few t Bel r.line r.is checked.small))
    (puts_as went failures old new t partners v Bell WireFailed bytes r.front before after p.all p)
carries went failures wire laws old new t partners v End Done bytes before after checked high wide p =
    let r = p.sends in
    otherwise went failures old new t partners v End Done before after (finish_text t before.session.status) refl (λ l. refl) (λ e. cc) (λ e. cc) r.sent
    (λ s f. refit t (ink_at t partners after.shown) (ink_at t partners after.shown) Fresh after.session.status after.session.cursor _ s refl r.fresh (r.fits (ink_at t partners before.shown) s f)) (λ x y e. r.cut x y e (ink_at t partners before.shown)) (λ k. absurd (fresh_unknown after.session.status r.fresh k)) p.shown (finish_few t before.session.status checked.small)
    (puts_as went failures old new t partners v End Done bytes (finish_text t before.session.status) before after p.all p)
carries went failures wire laws old new t partners v End WireFailed bytes before after checked high wide p =
    let r = p.sends in
    otherwise went failures old new t partners v End WireFailed before after r.front refl (λ l. refl) (λ e. cc) (λ e. cc) r.sent
    (λ s f. to_lost t partners after r.front s r.lost (r.fits (ink_at t partners before.shown) s f)) (λ x y e. r.cut x y e (ink_at t partners before.shown)) (λ k. absurd (lost_unknown after.session.status r.lost k)) p.shown (front_few (finish_text t before.session.status) r.front r.back r.parts (finish_few t before.session.status checked.small))
    (puts_as went failures old new t partners v End WireFailed bytes r.front before after p.all p)
