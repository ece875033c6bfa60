use Rattle.std.proofs.Common.{refl}
use Rattle.ti_forms.specs.Forms.{ToPlace, ToColumn, ToLine, Left, Right, Upward, Downward, Erasing, Bounding}
use Rattle.ti_forms.proofs.forms.form_of.Goals as goal

pub returns-in-Cup-clause-has : goal.returns-in-Cup-clause-has
returns-in-Cup-clause-has c = ToPlace c.in-Cup.line c.in-Cup.column c.in-Cup.is (c.if-is_short.ensures.short refl) (c.if-is_short-2.ensures.short refl)

pub returns-in-Csr-clause-has : goal.returns-in-Csr-clause-has
returns-in-Csr-clause-has c = Bounding c.in-Csr.top c.in-Csr.bottom c.in-Csr.is (c.if-is_short-5.ensures.short refl) (c.if-is_short-6.ensures.short refl)

pub returns-in-Hpa-clause-has : goal.returns-in-Hpa-clause-has
returns-in-Hpa-clause-has c = ToColumn c.in-Hpa.column c.in-Hpa.is (c.if-is_short-3.ensures.short refl)

pub returns-in-Vpa-clause-has : goal.returns-in-Vpa-clause-has
returns-in-Vpa-clause-has c = ToLine c.in-Vpa.line c.in-Vpa.is (c.if-is_short-4.ensures.short refl)

pub returns-in-Cub-clause-has : goal.returns-in-Cub-clause-has
returns-in-Cub-clause-has c = Left c.in-Cub.count c.in-Cub.is (c.if-is_count.ensures.some refl) (c.if-is_count.ensures.short refl)

pub returns-in-Cuf-clause-has : goal.returns-in-Cuf-clause-has
returns-in-Cuf-clause-has c = Right c.in-Cuf.count c.in-Cuf.is (c.if-is_count-2.ensures.some refl) (c.if-is_count-2.ensures.short refl)

pub returns-in-Cuu-clause-has : goal.returns-in-Cuu-clause-has
returns-in-Cuu-clause-has c = Upward c.in-Cuu.count c.in-Cuu.is (c.if-is_count-3.ensures.some refl) (c.if-is_count-3.ensures.short refl)

pub returns-in-Cud-clause-has : goal.returns-in-Cud-clause-has
returns-in-Cud-clause-has c = Downward c.in-Cud.count c.in-Cud.is (c.if-is_count-4.ensures.some refl) (c.if-is_count-4.ensures.short refl)

pub returns-in-Ech-clause-has : goal.returns-in-Ech-clause-has
returns-in-Ech-clause-has c = Erasing c.in-Ech.count c.in-Ech.is (c.if-is_count-5.ensures.some refl) (c.if-is_count-5.ensures.short refl)
