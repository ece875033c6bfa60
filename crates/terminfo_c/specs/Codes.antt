-- The numbers of answers (include/ticurses_terminfo.h).
use Rattle.std.specs.Prelude.{ℤ, pos}
use Rattle.ti_compiled.specs.declared.types.PackFault.{PackFault}
use Rattle.ti_compiled.specs.declared.types.PackFault.TheVariants as files
use Rattle.ti_parm.specs.declared.fault.ParmFault.{ParmFault}
use Rattle.ti_parm.specs.declared.fault.ParmFault.TheVariants as strings
use Rattle.terminfo_c.specs.declared.codes.Failure.{Failure}
use Rattle.terminfo_c.specs.declared.codes.Failure.TheVariants as failures

abbrev pub file_code : PackFault → ℤ
file_code files.Short = pos 1
file_code files.BadMagic = pos 2
file_code files.BadCount = pos 3
file_code files.BadFlag = pos 4
file_code files.BadNumber = pos 5
file_code files.BadOffset = pos 6
file_code files.NoNul = pos 7
file_code files.TooLarge = pos 8
file_code files.BadNames = pos 9
file_code files.NoMemory = pos 12

abbrev pub string_code : ParmFault → ℤ
string_code strings.Underflow = pos 10
string_code strings.BadNest = pos 11
string_code strings.NoMemory = pos 12
string_code strings.BadCode = pos 13
string_code strings.Overflow = pos 15
string_code strings.BadChar = pos 16
string_code strings.WrongKind = pos 17

abbrev pub failure_code : Failure → ℤ
failure_code failures.NoCap = pos 14
failure_code failures.Closed = pos 20
failure_code failures.NoRoom = pos 25
failure_code failures.BadParam = pos 27
failure_code failures.BadName = pos 28
