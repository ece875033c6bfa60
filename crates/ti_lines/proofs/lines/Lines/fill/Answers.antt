use Rattle.std.proofs.Common.{◌≡◌, ◌++◌, ℕ, List, take, drop, length, length-append, length-take, ap, ◌∙◌, arith, rules}
use Rattle.std.proofs.lemmas.List.{drop-append-le}
use Rattle.ti_lines.specs.Lines.{Reading}
use Rattle.ti_lines.proofs.Gaves.{takes_same, takes_piece}
use Rattle.ti_lines.proofs.lines.Lines.fill.Goals as goal

pub returns-then-is_err-clause-takes : goal.returns-then-is_err-clause-takes
returns-then-is_err-clause-takes g c = takes_same g.R.Reader.left g.R.Reader.failures c.args.self.now _ c.args.reader.now (search rules) (omega (arith, c.requires.allowed))

pub returns-clause-takes : goal.returns-clause-takes
returns-clause-takes g c =
    let n = c.in_ok-count.count in
    let piece : List ℕ = take n c.take_front.new.into in
    let from = c.self.inside.from in
    let before : drop from c.reserve.new.self.items ≡ c.args.self.now.unread =
    ap (λ (l : List ℕ). drop from l) c.reserve.ensures.items ∙ (ap (λ (r : Reading). r.unread) c.self.view_is ∙ ap (λ (r : Reading). r.unread) c.drop_passed.ensures) in
    let all : c.extend_from_slice.new.self.items ≡ c.reserve.new.self.items ++ piece = search rules in
    let same : drop from c.extend_from_slice.new.self.items ≡ c.args.self.now.unread ++ piece = ap (λ (l : List ℕ). drop from l) all
    ∙ (drop-append-le from c.reserve.new.self.items piece (omega (arith, c.self.invariant.0, ap length c.reserve.ensures.items)) ∙ ap (λ (l : List ℕ). l ++ piece) before) in
    let asked = c.wanted-want.ensures in
    let unread : length c.unread.result.now ≡ length c.args.self.now.unread = ap length (c.unread.ensures.value ∙ ap (λ (r : Reading). r.unread) c.drop_passed.ensures) in
    takes_piece g.R.Reader.left g.R.Reader.failures c.args.self.now _ c.args.reader.now c.take_front.new.reader piece c.in_ok-count.ensures.gave same (search rules)
    (omega (arith, ap length same, length-append c.args.self.now.unread piece, length-take n c.take_front.new.into, c.in_ok-count.ensures.within, asked.within, unread))
    (omega (arith, length-take n c.take_front.new.into, c.in_ok-count.ensures.within, asked.few)) c.requires.unended
