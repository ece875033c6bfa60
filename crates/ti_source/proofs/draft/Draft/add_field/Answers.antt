use Rattle.std.proofs.Common.{Some, length, ◌<◌, sym, ap, ◌∙◌, arith}
use Rattle.ti_source.proofs.Entries.{seen_more, seen_same}
use Rattle.ti_source.proofs.draft.Draft.add_field.Goals as goal

pub invariant_of-self-in-Some : goal.invariant_of-self-in-Some
invariant_of-self-in-Some c =
    let room : c.place.result < length c.self.inside.seen = omega arith in
    rw c.in_ok-push.ensures.ok
    (seen_more c.self.inside.entry.fields c.args.field c.self.inside.seen c.place.result
    (sym c.cap_of-cap.ensures ∙ (c.in-Some.is ∙ ap Some (sym c.place.ensures.value))) room c.self.invariant)

pub invariant_of-self-in_default : goal.invariant_of-self-in_default
invariant_of-self-in_default c =
    rw c.in_ok-push.ensures.ok
    (seen_same c.self.inside.entry.fields c.args.field c.self.inside.seen (sym c.cap_of-cap.ensures ∙ c.in_default.is) c.self.invariant)
