-- A clash that was found is one by the terminal's own tokens; if none was found, there is none by these tokens.
use Rattle.std.proofs.Common.{◌≡◌, ◌&&◌, ℕ, Bool, true, false, not, List, [], ◌++◌, Option, Some, None, refl, sym, ap, subst, ◌∙◌}
use Rattle.std.specs.Prelude.{is_some, IfNone, IfSome}
use Rattle.std.proofs.lemmas.Bool.{true≢false, and_right}
use Rattle.std.proofs.lemmas.Option.{same_Some, none-some}
use Rattle.vt_term.specs.Screen.{Charset, is_graphic}
use Rattle.vt_term.proofs.Splits.{one_splitting}
use Rattle.vt_effects.specs.declared.effects.Sets.{Sets}
use Rattle.vt_effects.specs.Effect.{designated}
use Rattle.ti_conforms.specs.declared.reach.Reach.{Reach}
use Rattle.ti_conforms.specs.declared.closures.Charsets.{Charsets}
use Rattle.ti_conforms.specs.Charsets.{can_have, IsAmong, Reached, AtReset, AfterToken}
use Rattle.ti_conforms.specs.Closures.{Settled, First, After, SomeLeads, Leaves, designated_all, kept, or_kept}
use Rattle.ti_conforms.specs.Closures as closing
use Rattle.ti_conforms.proofs.Reaches.{reached_can, can_reached}
use Rattle.ti_rows.specs.declared.rows.Row.{Row}
use Rattle.ti_rows.specs.declared.rows.Row.TheVariants.{Clear, Smcup, Enacs, Sgr0, Smacs, Rmacs}
use Rattle.ti_conforms.specs.Table.{Table, or_nothing, text_of, widening, resync, resync_front, resync_of, Activates}
use Rattle.ti_conforms.specs.Sets.{CanHave, LeadsBy, CanSettle, AfterResync, AfterLine, Occurs, has_sets}
use Rattle.ti_conforms.specs.Sets as sets
use Rattle.ti_conforms.proofs.Holds.{Leads, leads_joined, leads_nothing, led, designated_twice}
use Rattle.ti_cert.specs.Clashes.{Misswitches, SwitchesRight, StaysGraphic, ResyncsPlain, IsClash, GoesTogether, OfSwitch, AreClashes, first_by, first_of}
use Rattle.ti_cert.specs.Seen.{LeadsAs, IsOfLine, IsLineSeen, AreSeen, ChangesBy, NoLine, ByLine, KeepsSets, IsFound, parts_of, Misleads, AreSettled, ClashesAs, NoneClashes, OfChange, AreFound}
use Rattle.ti_cert.specs.Seen as seen
use Rattle.ti_cert.specs.declared.clashes.AllClashes.{AllClashes}
use Rattle.ti_cert.specs.declared.clashes.Clash.{Clash}
use Rattle.ti_cert.specs.declared.clashes.Clash.TheVariants as clashes
use Rattle.ti_cert.specs.declared.clashes.Resync.{Resync}

-- ---- the bytes that lead out of an unknown state

-- a string leads charsets as its change says
of_change : (t : Table) (row : Row) (o : Option Sets) → ChangesBy t row o → Leads (text_of t row) (λ c. designated (or_kept o) c)
of_change t row _ (NoLine none) = subst (λ (b : List ℕ). Leads b (λ c. c)) (sym (ap (λ (o : Option (List ℕ)). or_nothing o) none)) leads_nothing
of_change t row _ (ByLine bytes there change l) = subst (λ (b : List ℕ). Leads b (λ c. designated change c)) (sym (ap (λ (o : Option (List ℕ)). or_nothing o) there))
    (record { tokens = l.tokens; whole = l.whole; leads = l.leads })

-- `csr` and `clear` leave the charsets as they are
keeps : (t : Table) (row : Row) (o : Option (List ℕ)) → t.line_of row ≡ o → KeepsSets t row → Leads (or_nothing o) (λ c. c)
keeps t row None e k = leads_nothing
keeps t row (Some bytes) e k = let l : LeadsAs bytes kept = k bytes e in record { tokens = l.tokens; whole = l.whole; leads = l.leads }

resync_leads : (t : Table) (reach : Reach) (changes : List Sets) (r : Resync) (smacs : Option Sets) (escapes : Bool) → IsFound t reach changes r smacs escapes → Leads (resync t) (λ c. designated_all (parts_of r) c)
unfolding resync_of
resync_leads t reach changes r smacs escapes p =
    leads_joined (resync_front t) (text_of t (widening t) ++ text_of t Clear) (λ c. designated_all (parts_of r) c) (λ c. c)
    (leads_joined (text_of t Smcup ++ text_of t Enacs) (text_of t Sgr0 ++ text_of t Rmacs)
    (λ c. designated (or_kept r.enacs) (designated (or_kept r.smcup) c)) (λ c. designated (or_kept r.rmacs) (designated (or_kept r.sgr0) c))
    (leads_joined (text_of t Smcup) (text_of t Enacs) (λ c. designated (or_kept r.smcup) c) (λ c. designated (or_kept r.enacs) c) (of_change t Smcup r.smcup p.smcup_is) (of_change t Enacs r.enacs p.enacs_is))
    (leads_joined (text_of t Sgr0) (text_of t Rmacs) (λ c. designated (or_kept r.sgr0) c) (λ c. designated (or_kept r.rmacs) c) (of_change t Sgr0 r.sgr0 p.sgr0_is) (of_change t Rmacs r.rmacs p.rmacs_is)))
    (leads_joined (text_of t (widening t)) (text_of t Clear) (λ c. c) (λ c. c) (keeps t (widening t) (t.line_of (widening t)) refl p.widens) (keeps t Clear (t.line_of Clear) refl p.clears))

by_line : (bytes : List ℕ) (change : Sets) → LeadsAs bytes change → (c : Charset) → LeadsBy bytes c (designated change c)
by_line bytes change l c = record { tokens = l.tokens; whole = l.whole; is = sym (l.leads c) }

line_led : (bytes : List ℕ) (change : Sets) (c d : Charset) → LeadsAs bytes change → LeadsBy bytes c d → d ≡ designated change c
line_led bytes change c d p l = led bytes (λ x. designated change x) c d (record { tokens = p.tokens; whole = p.whole; leads = p.leads }) l

-- ---- charsets that can be reached and settled

had : (t : Table) (tokens : List (List ℕ)) → ((token : List ℕ) → IsAmong tokens token → Occurs t token) → (c : Charset) → Reached tokens c → CanHave t c
had t tokens occurs c (AtReset _ e) = sets.AtReset c e
had t tokens occurs d (AfterToken c _ token r among e) = sets.AfterToken c d token (had t tokens occurs c r) (occurs token among) e

pub can_be : (t : Table) (reach : Reach) (changes : List Sets) → AreSeen t reach changes → (c : Charset) → can_have reach c ≡ true → CanHave t c
can_be t reach changes s c e = had t s.tokens s.occurs c (can_reached s.tokens c (ap (λ (x : Reach). can_have x c) (sym s.reach_is) ∙ e))

token_reached : (t : Table) (reach : Reach) (changes : List Sets) (s : AreSeen t reach changes) (c : Charset) → CanHave t c → Reached s.tokens c
token_reached t reach changes s c (sets.AtReset _ e) = AtReset c e
token_reached t reach changes s d (sets.AfterToken c _ token r o e) =
    let l : IsLineSeen s.tokens changes o.row o.bytes = s.lines o.row o.bytes o.there in
    let same = one_splitting o.bytes o.tokens l.leads.tokens [] [] o.whole l.leads.whole in
    AfterToken c d token (token_reached t reach changes s c r) (l.reached token (subst (λ (ts : List (List ℕ)). IsAmong ts token) (sym same.0) o.among)) e

-- all facts known once the charsets are computed
record Settles (t : Table) (reach : Reach) (changes : List Sets) (r : Resync) (smacs : Option Sets) (escapes : Bool) (settled : Charsets) : Type 0 where
  found : IsFound t reach changes r smacs escapes
  all : AreSettled reach changes r settled

pub resyncs_to : (t : Table) (reach : Reach) (changes : List Sets) (r : Resync) (smacs : Option Sets) (escapes : Bool) → IsFound t reach changes r smacs escapes → (c : Charset) → LeadsBy (resync t) c (designated_all (parts_of r) c)
resyncs_to t reach changes r smacs escapes p c =
    let l : Leads (resync t) (λ x. designated_all (parts_of r) x) = resync_leads t reach changes r smacs escapes p in
    record { tokens = l.tokens; whole = l.whole; is = sym (l.leads c) }

can_settle : (t : Table) (reach : Reach) (changes : List Sets) (r : Resync) (smacs : Option Sets) (escapes : Bool) (settled : Charsets) (p : Settles t reach changes r smacs escapes settled) (c : Charset)
    → Settled (λ d. closing.has p.all.first d ≡ true) (SomeLeads changes) c → CanSettle t c
can_settle t reach changes r smacs escapes settled p c (First _ h) =
    let l : Leaves reach (parts_of r) c = p.all.first_sound c h in
    AfterResync l.before c (can_be t reach changes p.found.seen l.before l.there) (subst (λ (x : Charset). LeadsBy (resync t) l.before x) (sym l.leads) (resyncs_to t reach changes r smacs escapes p.found l.before))
can_settle t reach changes r smacs escapes settled p d (After c _ s l) =
    let f : IsOfLine t l.change = p.found.seen.told l.change l.among in
    AfterLine c d f.row f.bytes (can_settle t reach changes r smacs escapes settled p c s) f.there f.keeps (subst (λ (x : Charset). LeadsBy f.bytes c x) (sym l.leads) (by_line f.bytes l.change f.leads c))

in_settled : (t : Table) (reach : Reach) (changes : List Sets) (r : Resync) (smacs : Option Sets) (escapes : Bool) (settled : Charsets) → Settles t reach changes r smacs escapes settled → (c : Charset) → closing.has settled c ≡ true → CanSettle t c
in_settled t reach changes r smacs escapes settled p c e = can_settle t reach changes r smacs escapes settled p c (p.all.close_sound c e)

left : (t : Table) (reach : Reach) (changes : List Sets) (r : Resync) (smacs : Option Sets) (escapes : Bool) → IsFound t reach changes r smacs escapes → (c d : Charset) → CanHave t c → LeadsBy (resync t) c d → Leaves reach (parts_of r) d
left t reach changes r smacs escapes p c d h l = record {
  before = c;
  there = ap (λ (x : Reach). can_have x c) p.seen.reach_is ∙ reached_can p.seen.tokens c (token_reached t reach changes p.seen c h);
  leads = led (resync t) (λ x. designated_all (parts_of r) x) c d (resync_leads t reach changes r smacs escapes p) l;
}

is_settled : (t : Table) (reach : Reach) (changes : List Sets) (r : Resync) (smacs : Option Sets) (escapes : Bool) (settled : Charsets) → Settles t reach changes r smacs escapes settled → (c : Charset) → CanSettle t c → closing.has settled c ≡ true
is_settled t reach changes r smacs escapes settled p d (AfterResync c _ h l) = p.all.close_complete d (First d (p.all.first_complete d (left t reach changes r smacs escapes p.found c d h l)))
is_settled t reach changes r smacs escapes settled p d (AfterLine c _ row bytes s there keeps l) =
    let x : IsLineSeen p.found.seen.tokens changes row bytes = p.found.seen.lines row bytes there in
    p.all.close_complete d (After c d (p.all.close_sound c (is_settled t reach changes r smacs escapes settled p c s))
    (record { change = x.change; among = x.settled keeps; leads = line_led bytes x.change c d x.leads l }))

-- the reached and the settled charsets of the table are exactly those that can be reached and settled
pub record SetsAre (t : Table) : Type 0 where
  pub had : (c : Charset) → t.reached c ≡ true → CanHave t c
  pub reached : (c : Charset) → CanHave t c → t.reached c ≡ true
  pub can_settle : (c : Charset) → t.settled c ≡ true → CanSettle t c
  pub settled : (c : Charset) → CanSettle t c → t.settled c ≡ true

-- the charsets that were computed are exactly those too
pub sets_are : (t : Table) (reach : Reach) (changes : List Sets) (r : Resync) (smacs : Option Sets) (escapes : Bool) (settled : Charsets) → IsFound t reach changes r smacs escapes → AreSettled reach changes r settled
    → ((c : Charset) → t.reached c ≡ can_have reach c) → ((c : Charset) → t.settled c ≡ closing.has settled c) → SetsAre t
sets_are t reach changes r smacs escapes settled found all had has = record {
  had = λ c h. can_be t reach changes found.seen c (sym (had c) ∙ h);
  reached = λ c h. had c ∙ (ap (λ (x : Reach). can_have x c) found.seen.reach_is ∙ reached_can found.seen.tokens c (token_reached t reach changes found.seen c h));
  can_settle = λ c h. in_settled t reach changes r smacs escapes settled (record { found = found; all = all }) c (sym (has c) ∙ h);
  settled = λ c h. has c ∙ is_settled t reach changes r smacs escapes settled (record { found = found; all = all }) c h;
}

-- ---- the set that is active

never_both : (c : Charset) → is_graphic c ≡ true → is_graphic c ≡ false → ⊥
never_both c on off = true≢false (sym on ∙ off)

-- a string whose change activates a set does so by its tokens
switched_by : (t : Table) (settled : Charsets) (row : Row) (o : Option Sets) (graphic : Bool) → ChangesBy t row o → seen.Leads settled o graphic → (bytes : List ℕ) → t.line_of row ≡ Some bytes
    → (c d : Charset) → closing.has settled c ≡ true → LeadsBy bytes c d → is_graphic d ≡ graphic
switched_by t settled row _ graphic (NoLine none) a bytes there c d s l = absurd (none-some bytes (sym none ∙ there))
switched_by t settled row _ graphic (ByLine own is change leads) a bytes there c d s l =
    ap (λ (x : Charset). is_graphic x) (line_led own change c d leads (subst (λ (b : List ℕ). LeadsBy b c d) (same_Some bytes own (sym there ∙ is)) l)) ∙ a c s

-- a string whose change activates the other set does so by its tokens
misled_by : (t : Table) (settled : Charsets) (row : Row) (o : Option Sets) (graphic : Bool) (c : Charset) → ChangesBy t row o → Misleads settled o graphic c → CanSettle t c
    → ((d : Charset) → is_graphic d ≡ not graphic → Activates row d → ⊥) → Misswitches t row c
misled_by t settled row _ graphic c (NoLine none) m s never = absurd m
misled_by t settled row _ graphic c (ByLine bytes there change l) m s never = record {
  settles = s;
  bytes = bytes;
  there = there;
  after = designated change c;
  leads = by_line bytes change l c;
  inactive = never (designated change c) m.1;
}

member : (settled : Charsets) (o : Option Sets) (graphic : Bool) (c : Charset) → Misleads settled o graphic c → closing.has settled c ≡ true
member settled None graphic c m = absurd m
member settled (Some change) graphic c m = m.0

graphic_right : (t : Table) (reach : Reach) (changes : List Sets) (r : Resync) (smacs : Option Sets) (escapes : Bool) (settled : Charsets) → Settles t reach changes r smacs escapes settled → seen.Leads settled smacs true → SwitchesRight t Smacs
graphic_right t reach changes r smacs escapes settled p h c m =
    m.inactive (switched_by t settled Smacs smacs true p.found.smacs_is h m.bytes m.there c m.after (is_settled t reach changes r smacs escapes settled p c m.settles) m.leads)

plain_right : (t : Table) (reach : Reach) (changes : List Sets) (r : Resync) (smacs : Option Sets) (escapes : Bool) (settled : Charsets) → Settles t reach changes r smacs escapes settled → seen.Leads settled r.rmacs false → SwitchesRight t Rmacs
plain_right t reach changes r smacs escapes settled p h c m =
    m.inactive (switched_by t settled Rmacs r.rmacs false p.found.rmacs_is h m.bytes m.there c m.after (is_settled t reach changes r smacs escapes settled p c m.settles) m.leads)

change_there : (t : Table) (row : Row) (o : Option Sets) → ChangesBy t row o → is_some (t.line_of row) ≡ is_some o
change_there t row _ (NoLine none) = ap (λ (p : Option (List ℕ)). is_some p) none
change_there t row _ (ByLine bytes there change l) = ap (λ (p : Option (List ℕ)). is_some p) there

-- whether both strings that switch sets are there
sets_there : (t : Table) (smacs rmacs : Option Sets) (pairs : Bool) → ChangesBy t Smacs smacs → ChangesBy t Rmacs rmacs → (pairs && has_sets t) ≡ (pairs && (is_some smacs && is_some rmacs))
sets_there t smacs rmacs pairs s r =
    ap (λ (b : Bool). pairs && (b && is_some (t.line_of Rmacs))) (change_there t Smacs smacs s) ∙ ap (λ (b : Bool). pairs && (is_some smacs && b)) (change_there t Rmacs rmacs r)

stays_plain : (t : Table) (reach : Reach) (changes : List Sets) (r : Resync) (smacs : Option Sets) (escapes : Bool) (settled : Charsets) (pairs : Bool) → Settles t reach changes r smacs escapes settled
    → ((pairs && (is_some smacs && is_some r.rmacs)) ≡ false → seen.Leads settled (Some kept) false) → StaysGraphic pairs t → ⊥
stays_plain t reach changes r smacs escapes settled pairs p plain s =
    never_both s.charset s.graphic (plain (sym (sets_there t smacs r.rmacs pairs p.found.smacs_is p.found.rmacs_is) ∙ s.unsent) s.charset (is_settled t reach changes r smacs escapes settled p s.charset s.settles))

-- ---- the bytes that lead out of an unknown state leave the plain set active, since tokens sent twice leave what they
-- leave once

plain_if : (c : Charset) → (is_graphic c ≡ true → ⊥) → is_graphic c ≡ false
plain_if c never = by_set (is_graphic c) refl
  where
    by_set : (b : Bool) → is_graphic c ≡ b → is_graphic c ≡ false
    by_set true e = absurd (never e)
    by_set false e = e

quiet_by : (t : Table) (pairs : Bool) (o : Option Sets) (x d : Charset) → ChangesBy t Rmacs o → d ≡ designated (or_kept o) x → CanSettle t d → SwitchesRight t Rmacs → (StaysGraphic pairs t → ⊥) → is_graphic d ≡ true → ⊥
quiet_by t pairs _ x d (NoLine none) e s right never on = never (record {
  unsent = and_right pairs (has_sets t) (and_right (is_some (t.line_of Smacs)) (is_some (t.line_of Rmacs)) (ap (λ (o : Option (List ℕ)). is_some o) none));
  charset = d;
  settles = s;
  graphic = on;
})
quiet_by t pairs _ x d (ByLine bytes there change l) e s right never on =
    let again : designated change d ≡ d = ap (λ (c : Charset). designated change c) e ∙ (designated_twice change x ∙ sym e) in
    right d (record {
      settles = s;
      bytes = bytes;
      there = there;
      after = designated change d;
      leads = by_line bytes change l d;
      inactive = λ off. never_both d on (ap (λ (c : Charset). is_graphic c) (sym again) ∙ off);
    })

quiet : (t : Table) (reach : Reach) (changes : List Sets) (r : Resync) (smacs : Option Sets) (escapes pairs : Bool) → IsFound t reach changes r smacs escapes → SwitchesRight t Rmacs → (StaysGraphic pairs t → ⊥) → ResyncsPlain t
quiet t reach changes r smacs escapes pairs p right never c d h l =
    let e : d ≡ designated_all (parts_of r) c = led (resync t) (λ x. designated_all (parts_of r) x) c d (resync_leads t reach changes r smacs escapes p) l in
    plain_if d (quiet_by t pairs r.rmacs (designated (or_kept r.sgr0) (designated (or_kept r.enacs) (designated (or_kept r.smcup) c))) d p.rmacs_is e (AfterResync c d h l) right never)

-- ---- lines without a clash

pub together : (t : Table) (reach : Reach) (changes : List Sets) (r : Resync) (smacs : Option Sets) (escapes pairs : Bool) (settled : Charsets) → AreSettled reach changes r settled
    → NoneClashes settled smacs r.rmacs (pairs && (is_some smacs && is_some r.rmacs)) escapes → IsFound t reach changes r smacs escapes → GoesTogether pairs t
together t reach changes r smacs escapes pairs settled all n found =
    let p : Settles t reach changes r smacs escapes settled = record { found = found; all = all } in
    let right : SwitchesRight t Rmacs = plain_right t reach changes r smacs escapes settled p n.plain in
    let never : StaysGraphic pairs t → ⊥ = stays_plain t reach changes r smacs escapes settled pairs p n.unsent in
    record {
      graphic = graphic_right t reach changes r smacs escapes settled p n.graphic;
      plain = right;
      settles = never;
      escapes = found.begins n.escapes_is;
      quiet = quiet t reach changes r smacs escapes pairs found right never;
    }

-- ---- a clash that was found is one

not_graphic : (d : Charset) → is_graphic d ≡ not true → Activates Smacs d → ⊥
not_graphic d off on = never_both d on off

not_plain : (d : Charset) → is_graphic d ≡ not false → Activates Rmacs d → ⊥
not_plain d on off = never_both d on off

smacs_wrong : (t : Table) (reach : Reach) (changes : List Sets) (r : Resync) (smacs : Option Sets) (escapes : Bool) (settled : Charsets) (c : Charset) → Settles t reach changes r smacs escapes settled → Misleads settled smacs true c → Misswitches t Smacs c
smacs_wrong t reach changes r smacs escapes settled c p m =
    misled_by t settled Smacs smacs true c p.found.smacs_is m (in_settled t reach changes r smacs escapes settled p c (member settled smacs true c m)) not_graphic

rmacs_wrong : (t : Table) (reach : Reach) (changes : List Sets) (r : Resync) (smacs : Option Sets) (escapes : Bool) (settled : Charsets) (c : Charset) → Settles t reach changes r smacs escapes settled → Misleads settled r.rmacs false c → Misswitches t Rmacs c
rmacs_wrong t reach changes r smacs escapes settled c p m =
    misled_by t settled Rmacs r.rmacs false c p.found.rmacs_is m (in_settled t reach changes r smacs escapes settled p c (member settled r.rmacs false c m)) not_plain

stays_graphic : (t : Table) (reach : Reach) (changes : List Sets) (r : Resync) (smacs : Option Sets) (escapes : Bool) (settled : Charsets) (pairs : Bool) (c : Charset) → Settles t reach changes r smacs escapes settled
    → (pairs && (is_some smacs && is_some r.rmacs)) ≡ false → Misleads settled (Some kept) false c → StaysGraphic pairs t
stays_graphic t reach changes r smacs escapes settled pairs c p unsent m = record {
  unsent = sets_there t smacs r.rmacs pairs p.found.smacs_is p.found.rmacs_is ∙ unsent;
  charset = c;
  settles = in_settled t reach changes r smacs escapes settled p c m.0;
  graphic = m.1;
}

pub clash : (t : Table) (reach : Reach) (changes : List Sets) (r : Resync) (smacs : Option Sets) (escapes pairs : Bool) (settled : Charsets) (found : Clash) → AreSettled reach changes r settled
    → ClashesAs settled smacs r.rmacs (pairs && (is_some smacs && is_some r.rmacs)) escapes found → IsFound t reach changes r smacs escapes → IsClash pairs t found
clash t reach changes r smacs escapes pairs settled (clashes.Smacs c) all m f = smacs_wrong t reach changes r smacs escapes settled c (record { found = f; all = all }) m
clash t reach changes r smacs escapes pairs settled (clashes.Rmacs c) all m f =
    let p : Settles t reach changes r smacs escapes settled = record { found = f; all = all } in
    (graphic_right t reach changes r smacs escapes settled p m.0, rmacs_wrong t reach changes r smacs escapes settled c p m.1)
clash t reach changes r smacs escapes pairs settled clashes.Acsc all m f =
    let p : Settles t reach changes r smacs escapes settled = record { found = f; all = all } in (
      graphic_right t reach changes r smacs escapes settled p m.0,
      plain_right t reach changes r smacs escapes settled p m.1,
      stays_graphic t reach changes r smacs escapes settled pairs m.3.0 p m.2 m.3.1,
    )
clash t reach changes r smacs escapes pairs settled clashes.Clear all m f =
    let p : Settles t reach changes r smacs escapes settled = record { found = f; all = all } in
    (graphic_right t reach changes r smacs escapes settled p m.0, plain_right t reach changes r smacs escapes settled p m.1, stays_plain t reach changes r smacs escapes settled pairs p m.2, f.opens m.3)

-- ---- all clashes, and the first of them

not_true : (b : Bool) → not b ≡ true → b ≡ false
not_true true e = absurd (true≢false (sym e))
not_true false e = refl

not_false : (b : Bool) → not b ≡ false → b ≡ true
not_false true e = refl
not_false false e = absurd (true≢false e)

some_is : (a b : Clash) → Some a ≡ Some b → a ≡ b
some_is a b e = cc

none_by : (s : Charsets) (smacs rmacs : Option Sets) (sent escapes : Bool) (a b : Option Charset) (x y : Bool) → OfChange s smacs true a → OfChange s rmacs false b
    → (x ≡ false → sent ≡ false → seen.Leads s (Some kept) false) → y ≡ not escapes → first_by a b x y ≡ None → NoneClashes s smacs rmacs sent escapes
none_by s smacs rmacs sent escapes (Some c) b x y h k plain begins none = cc
none_by s smacs rmacs sent escapes None (Some c) x y h k plain begins none = cc
none_by s smacs rmacs sent escapes None None true y h k plain begins none = cc
none_by s smacs rmacs sent escapes None None false true h k plain begins none = cc
none_by s smacs rmacs sent escapes None None false false h k plain begins none = record { graphic = h; plain = k; unsent = plain refl; escapes_is = not_false escapes (sym begins) }

pub none_first : (s : Charsets) (smacs rmacs : Option Sets) (sent escapes : Bool) (all : AllClashes) → AreFound s smacs rmacs sent escapes all → first_of all ≡ None → NoneClashes s smacs rmacs sent escapes
none_first s smacs rmacs sent escapes all f none = none_by s smacs rmacs sent escapes all.smacs all.rmacs all.acsc all.clear f.of_smacs f.of_rmacs f.plain f.of_clear none

some_by : (s : Charsets) (smacs rmacs : Option Sets) (sent escapes : Bool) (a b : Option Charset) (x y : Bool) (clash : Clash) → OfChange s smacs true a → OfChange s rmacs false b
    → (x ≡ true → (sent ≡ false) × ((c : Charset) × Misleads s (Some kept) false c)) → (x ≡ false → sent ≡ false → seen.Leads s (Some kept) false) → y ≡ not escapes → first_by a b x y ≡ Some clash
    → ClashesAs s smacs rmacs sent escapes clash
some_by s smacs rmacs sent escapes (Some c) b x y clash h k graphic plain begins is =
    subst (λ (found : Clash). ClashesAs s smacs rmacs sent escapes found) (some_is (clashes.Smacs c) clash is) h
some_by s smacs rmacs sent escapes None (Some c) x y clash h k graphic plain begins is =
    subst (λ (found : Clash). ClashesAs s smacs rmacs sent escapes found) (some_is (clashes.Rmacs c) clash is) (h, k)
some_by s smacs rmacs sent escapes None None true y clash h k graphic plain begins is =
    subst (λ (found : Clash). ClashesAs s smacs rmacs sent escapes found) (some_is clashes.Acsc clash is) (h, k, (graphic refl).0, (graphic refl).1)
some_by s smacs rmacs sent escapes None None false true clash h k graphic plain begins is =
    subst (λ (found : Clash). ClashesAs s smacs rmacs sent escapes found) (some_is clashes.Clear clash is) (h, k, plain refl, not_true escapes (sym begins))
some_by s smacs rmacs sent escapes None None false false clash h k graphic plain begins is = cc

pub some_first : (s : Charsets) (smacs rmacs : Option Sets) (sent escapes : Bool) (all : AllClashes) (clash : Clash) → AreFound s smacs rmacs sent escapes all → first_of all ≡ Some clash → ClashesAs s smacs rmacs sent escapes clash
some_first s smacs rmacs sent escapes all clash f is = some_by s smacs rmacs sent escapes all.smacs all.rmacs all.acsc all.clear clash f.of_smacs f.of_rmacs f.graphic f.plain f.of_clear is

found_change : (s : Charsets) (change : Option Sets) (graphic : Bool) (found : Option Charset) → IfNone found (seen.Leads s change graphic) → IfSome found (Misleads s change graphic) → OfChange s change graphic found
found_change s change graphic None none some = none
found_change s change graphic (Some c) none some = some

pub found_by : (s : Charsets) (smacs rmacs : Option Sets) (sent escapes : Bool) (a b : Option Charset) (plain : Bool) → IfNone a (seen.Leads s smacs true) → IfSome a (Misleads s smacs true)
    → IfNone b (seen.Leads s rmacs false) → IfSome b (Misleads s rmacs false) → (plain ≡ true → sent ≡ false → seen.Leads s (Some kept) false) → (plain ≡ false → (sent ≡ false) × ((c : Charset) × Misleads s (Some kept) false c))
    → AreFound s smacs rmacs sent escapes (record { smacs = a; rmacs = b; acsc = not plain; clear = not escapes })
found_by s smacs rmacs sent escapes a b plain none some no_other other right wrong = record {
  of_smacs = found_change s smacs true a none some;
  of_rmacs = found_change s rmacs false b no_other other;
  graphic = λ on. wrong (not_true plain on);
  plain = λ off. right (not_false plain off);
  of_clear = refl;
}

smacs_of : (t : Table) (reach : Reach) (changes : List Sets) (r : Resync) (smacs : Option Sets) (escapes : Bool) (settled : Charsets) (a : Option Charset) → Settles t reach changes r smacs escapes settled → OfChange settled smacs true a → OfSwitch t Smacs a
smacs_of t reach changes r smacs escapes settled None p h = graphic_right t reach changes r smacs escapes settled p h
smacs_of t reach changes r smacs escapes settled (Some c) p h = smacs_wrong t reach changes r smacs escapes settled c p h

rmacs_of : (t : Table) (reach : Reach) (changes : List Sets) (r : Resync) (smacs : Option Sets) (escapes : Bool) (settled : Charsets) (a : Option Charset) → Settles t reach changes r smacs escapes settled → OfChange settled r.rmacs false a → OfSwitch t Rmacs a
rmacs_of t reach changes r smacs escapes settled None p h = plain_right t reach changes r smacs escapes settled p h
rmacs_of t reach changes r smacs escapes settled (Some c) p h = rmacs_wrong t reach changes r smacs escapes settled c p h

pub all_found : (t : Table) (reach : Reach) (changes : List Sets) (r : Resync) (smacs : Option Sets) (escapes pairs : Bool) (settled : Charsets) (all : AllClashes) → AreSettled reach changes r settled
    → AreFound settled smacs r.rmacs (pairs && (is_some smacs && is_some r.rmacs)) escapes all → IsFound t reach changes r smacs escapes → AreClashes pairs t all
all_found t reach changes r smacs escapes pairs settled all are f found =
    let p : Settles t reach changes r smacs escapes settled = record { found = found; all = are } in
    record {
      of_smacs = smacs_of t reach changes r smacs escapes settled all.smacs p f.of_smacs;
      of_rmacs = rmacs_of t reach changes r smacs escapes settled all.rmacs p f.of_rmacs;
      graphic = λ on. let m = f.graphic on in stays_graphic t reach changes r smacs escapes settled pairs m.1.0 p m.0 m.1.1;
      plain = λ off. stays_plain t reach changes r smacs escapes settled pairs p (f.plain off);
      opens = λ on. found.opens (not_true escapes (sym f.of_clear ∙ on));
      escapes = λ off. found.begins (not_false escapes (sym f.of_clear ∙ off));
    }
