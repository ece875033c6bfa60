-- An attribute that is off doesn't affect what is shown.
use Rattle.std.proofs.Common.{◌≡◌, ℕ, ◌<◌, ◌==◌, ◌&&◌, ◌||◌, Bool, true, false, if◌then◌else◌, refl, ap, ◌∙◌, arith}
use Rattle.std.proofs.lemmas.Bool.{eqb-true}
use Rattle.vt_effects.specs.declared.effects.Rendering.{Rendering}
use Rattle.ti_rows.specs.Rows.{Attributes, Marks, Looks}
use Rattle.ti_rows.specs.Switches.{is_on}
use Rattle.ti_rows.specs.Bits.{bit, number_of}
use Rattle.ti_rows.specs.Looks.{shown, marks_on, learned_alone, EarlierKept}

own_unused : (b x y r : Bool) → b ≡ false → ((b && x) || r) ≡ ((b && y) || r)
own_unused true x y r h = cc
own_unused false x y r h = refl

all_unused : (b p x y : Bool) → b ≡ false → (p || (b && x)) ≡ (p || (b && y))
all_unused true p x y h = cc
all_unused false p x y h = refl

off : (b : Bool) → bit b ≡ 0 → b ≡ false
off true h = absurd (omega (arith, h))
off false h = refl

either : (x : Bool) (p q l : Looks) (b : Attributes) → (x ≡ true → shown p b ≡ shown l b) → shown q b ≡ shown l b → shown (if x then p else q) b ≡ shown l b
either true p q l b h k = h refl
either false p q l b h k = k

underline_kept : (l : Looks) (b : Attributes) (x : Bool) → b.underline ≡ false → shown (record l { underline = x }) b ≡ shown l b
underline_kept l b x h = ap (λ (z : Bool). record (shown l b) { underline = z }) (own_unused b.underline x l.underline (b.standout && l.standout.underline) h)

reverse_kept : (l : Looks) (b : Attributes) (x : Bool) → b.reverse ≡ false → shown (record l { reverse = x }) b ≡ shown l b
reverse_kept l b x h = ap (λ (z : Bool). record (shown l b) { negative = z }) (own_unused b.reverse x l.reverse (b.standout && l.standout.negative) h)

blink_kept : (l : Looks) (b : Attributes) (x : Bool) → b.blink ≡ false → shown (record l { blink = x }) b ≡ shown l b
blink_kept l b x h = ap (λ (z : Bool). record (shown l b) { blink = z }) (own_unused b.blink x l.blink (b.standout && l.standout.blink) h)

dim_kept : (l : Looks) (b : Attributes) (x : Bool) → b.dim ≡ false → shown (record l { dim = x }) b ≡ shown l b
dim_kept l b x h = ap (λ (z : Bool). record (shown l b) { faint = z }) (own_unused b.dim x l.dim (b.standout && l.standout.faint) h)

bold_kept : (l : Looks) (b : Attributes) (x : Bool) → b.bold ≡ false → shown (record l { bold = x }) b ≡ shown l b
bold_kept l b x h = ap (λ (z : Bool). record (shown l b) { bold = z }) (own_unused b.bold x l.bold (b.standout && l.standout.bold) h)

invisible_kept : (l : Looks) (b : Attributes) (x : Bool) → b.invisible ≡ false → shown (record l { invisible = x }) b ≡ shown l b
invisible_kept l b x h = ap (λ (z : Bool). record (shown l b) { concealed = z }) (own_unused b.invisible x l.invisible (b.standout && l.standout.concealed) h)

standout_kept : (l : Looks) (b : Attributes) (x : Marks) → b.standout ≡ false → shown (record l { standout = x }) b ≡ shown l b
standout_kept l b x h =
    ap (λ (z : Bool). record { bold = z; faint = (b.dim && l.dim) || (b.standout && x.faint); underline = (b.underline && l.underline) || (b.standout && x.underline); blink = (b.blink && l.blink) || (b.standout && x.blink); negative = (b.reverse && l.reverse) || (b.standout && x.negative); concealed = (b.invisible && l.invisible) || (b.standout && x.concealed) }) (all_unused b.standout (b.bold && l.bold) x.bold l.standout.bold h)
    ∙ ap (λ (z : Bool). record { bold = (b.bold && l.bold) || (b.standout && l.standout.bold); faint = z; underline = (b.underline && l.underline) || (b.standout && x.underline); blink = (b.blink && l.blink) || (b.standout && x.blink); negative = (b.reverse && l.reverse) || (b.standout && x.negative); concealed = (b.invisible && l.invisible) || (b.standout && x.concealed) }) (all_unused b.standout (b.dim && l.dim) x.faint l.standout.faint h)
    ∙ ap (λ (z : Bool). record { bold = (b.bold && l.bold) || (b.standout && l.standout.bold); faint = (b.dim && l.dim) || (b.standout && l.standout.faint); underline = z; blink = (b.blink && l.blink) || (b.standout && x.blink); negative = (b.reverse && l.reverse) || (b.standout && x.negative); concealed = (b.invisible && l.invisible) || (b.standout && x.concealed) }) (all_unused b.standout (b.underline && l.underline) x.underline l.standout.underline h)
    ∙ ap (λ (z : Bool). record { bold = (b.bold && l.bold) || (b.standout && l.standout.bold); faint = (b.dim && l.dim) || (b.standout && l.standout.faint); underline = (b.underline && l.underline) || (b.standout && l.standout.underline); blink = z; negative = (b.reverse && l.reverse) || (b.standout && x.negative); concealed = (b.invisible && l.invisible) || (b.standout && x.concealed) }) (all_unused b.standout (b.blink && l.blink) x.blink l.standout.blink h)
    ∙ ap (λ (z : Bool). record { bold = (b.bold && l.bold) || (b.standout && l.standout.bold); faint = (b.dim && l.dim) || (b.standout && l.standout.faint); underline = (b.underline && l.underline) || (b.standout && l.standout.underline); blink = (b.blink && l.blink) || (b.standout && l.standout.blink); negative = z; concealed = (b.invisible && l.invisible) || (b.standout && x.concealed) }) (all_unused b.standout (b.reverse && l.reverse) x.negative l.standout.negative h)
    ∙ ap (λ (z : Bool). record { bold = (b.bold && l.bold) || (b.standout && l.standout.bold); faint = (b.dim && l.dim) || (b.standout && l.standout.faint); underline = (b.underline && l.underline) || (b.standout && l.standout.underline); blink = (b.blink && l.blink) || (b.standout && l.standout.blink); negative = (b.reverse && l.reverse) || (b.standout && l.standout.negative); concealed = z }) (all_unused b.standout (b.invisible && l.invisible) x.concealed l.standout.concealed h)

kept_alone : (l : Looks) (n : ℕ) (b : Attributes) (r : Rendering) → number_of b < n → shown (learned_alone n r l) b ≡ shown l b
kept_alone l n b r lt = (either (n == 64) _ _ l b (λ t. standout_kept l b (marks_on r) (off b.standout (omega (arith, lt, eqb-true n 64 t))))
    (either (n == 32) _ _ l b (λ t. underline_kept l b (is_on r.underline) (off b.underline (omega (arith, lt, eqb-true n 32 t))))
    (either (n == 16) _ _ l b (λ t. reverse_kept l b (is_on r.negative) (off b.reverse (omega (arith, lt, eqb-true n 16 t))))
    (either (n == 8) _ _ l b (λ t. blink_kept l b (is_on r.blink) (off b.blink (omega (arith, lt, eqb-true n 8 t))))
    (either (n == 4) _ _ l b (λ t. dim_kept l b (is_on r.faint) (off b.dim (omega (arith, lt, eqb-true n 4 t))))
    (either (n == 2) _ _ l b (λ t. bold_kept l b (is_on r.bold) (off b.bold (omega (arith, lt, eqb-true n 2 t))))
    (either (n == 1) _ _ l b (λ t. invisible_kept l b (is_on r.concealed) (off b.invisible (omega (arith, lt, eqb-true n 1 t))))
    refl)))))))

pub earlier_kept : EarlierKept
earlier_kept l a b e lt = kept_alone l (number_of a) b e.rendition lt
