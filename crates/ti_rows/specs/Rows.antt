-- The checked capabilities of terminfo(5), each with its parameters.
pub use Rattle.ti_rows.specs.declared.rows.Attributes.{Attributes}
pub use Rattle.ti_rows.specs.declared.rows.Marks.{Marks}
pub use Rattle.ti_rows.specs.declared.rows.Looks.{Looks}
pub use Rattle.ti_rows.specs.declared.rows.Row.{Row}
pub use Rattle.ti_rows.specs.declared.rows.Row.TheVariants.{Clear, Cup, Home, Cr, Hpa, Vpa, Cub1, Cuf1, Cuu1, Cud1, Cub}
pub use Rattle.ti_rows.specs.declared.rows.Row.TheVariants.{Cuf, Cuu, Cud, El, El1, Ed, Ech, Sgr, Sgr0, Setaf, Setab}
pub use Rattle.ti_rows.specs.declared.rows.Row.TheVariants.{Op, Smul, Rev, Blink, Dim, Bold, Invis, Smso, Enacs, Smacs}
pub use Rattle.ti_rows.specs.declared.rows.Row.TheVariants.{Rmacs, Csr, Ind, Ri, Civis, Cnorm, Cvvis, Smcup, Rmcup, Bel}
