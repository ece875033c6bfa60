use Rattle.std.proofs.Common.{refl}
use Rattle.ti_rows.specs.declared.rows.Row.TheVariants.{Cup, Hpa, Vpa, Cub, Cuf, Cuu, Cud, Ech, Csr}
use Rattle.ti_forms.specs.Forms.{ToPlace, ToColumn, ToLine, Left, Right, Upward, Downward, Erasing, Bounding}
use Rattle.ti_forms.proofs.LineTexts.{standard_text}
use Rattle.ti_forms.proofs.texts.line_of.Goals as goal

pub returns-in-Cup : goal.returns-in-Cup
returns-in-Cup c = record { has = ToPlace c.in-Cup.line c.in-Cup.column c.in-Cup.is (c.if-is_short.ensures.short refl) (c.if-is_short-2.ensures.short refl); text_is = standard_text c.args.row (Cup c.in-Cup.line c.in-Cup.column) _ c.in-Cup.is c.cup_line.ensures }

pub returns-in-Csr : goal.returns-in-Csr
returns-in-Csr c = record { has = Bounding c.in-Csr.top c.in-Csr.bottom c.in-Csr.is (c.if-is_short-5.ensures.short refl) (c.if-is_short-6.ensures.short refl); text_is = standard_text c.args.row (Csr c.in-Csr.top c.in-Csr.bottom) _ c.in-Csr.is c.csr_line.ensures }

pub returns-in-Hpa : goal.returns-in-Hpa
returns-in-Hpa c = record { has = ToColumn c.in-Hpa.column c.in-Hpa.is (c.if-is_short-3.ensures.short refl); text_is = standard_text c.args.row (Hpa c.in-Hpa.column) _ c.in-Hpa.is c.hpa_line.ensures }

pub returns-in-Vpa : goal.returns-in-Vpa
returns-in-Vpa c = record { has = ToLine c.in-Vpa.line c.in-Vpa.is (c.if-is_short-4.ensures.short refl); text_is = standard_text c.args.row (Vpa c.in-Vpa.line) _ c.in-Vpa.is c.vpa_line.ensures }

pub returns-in-Cub : goal.returns-in-Cub
returns-in-Cub c = record { has = Left c.in-Cub.count c.in-Cub.is (c.if-is_count.ensures.some refl) (c.if-is_count.ensures.short refl); text_is = standard_text c.args.row (Cub c.in-Cub.count) _ c.in-Cub.is c.cub_line.ensures }

pub returns-in-Cuf : goal.returns-in-Cuf
returns-in-Cuf c = record { has = Right c.in-Cuf.count c.in-Cuf.is (c.if-is_count-2.ensures.some refl) (c.if-is_count-2.ensures.short refl); text_is = standard_text c.args.row (Cuf c.in-Cuf.count) _ c.in-Cuf.is c.cuf_line.ensures }

pub returns-in-Cuu : goal.returns-in-Cuu
returns-in-Cuu c = record { has = Upward c.in-Cuu.count c.in-Cuu.is (c.if-is_count-3.ensures.some refl) (c.if-is_count-3.ensures.short refl); text_is = standard_text c.args.row (Cuu c.in-Cuu.count) _ c.in-Cuu.is c.cuu_line.ensures }

pub returns-in-Cud : goal.returns-in-Cud
returns-in-Cud c = record { has = Downward c.in-Cud.count c.in-Cud.is (c.if-is_count-4.ensures.some refl) (c.if-is_count-4.ensures.short refl); text_is = standard_text c.args.row (Cud c.in-Cud.count) _ c.in-Cud.is c.cud_line.ensures }

pub returns-in-Ech : goal.returns-in-Ech
returns-in-Ech c = record { has = Erasing c.in-Ech.count c.in-Ech.is (c.if-is_count-5.ensures.some refl) (c.if-is_count-5.ensures.short refl); text_is = standard_text c.args.row (Ech c.in-Ech.count) _ c.in-Ech.is c.ech_line.ensures }
