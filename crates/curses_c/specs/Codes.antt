-- The numbers of answers (include/ticurses.h).
use Rattle.std.specs.Prelude.{ℤ, pos}
use Rattle.cur_scripts.specs.declared.faults.ScriptFaultKind.{ScriptFaultKind}
use Rattle.cur_scripts.specs.declared.faults.ScriptFaultKind.TheVariants as scripts
use Rattle.cur_drawing.specs.declared.refusals.Refusal.{Refusal}
use Rattle.cur_drawing.specs.declared.refusals.Refusal.TheVariants.{NoWindow, OutOfWindow, OutOfScreen, HasChildren}
use Rattle.cur_drawing.specs.declared.refusals.Refusal.TheVariants.{IsSub, PadKind, NoScroll, BadRegion, NumberUsed}
use Rattle.cur_drawing.specs.declared.refusals.Refusal.TheVariants.{BadCell, Full, NoMemory, IsScreen, NoCap, IsLost}
use Rattle.cur_drawing.specs.declared.refusals.Refusal.TheVariants.{BadPair}
use Rattle.cur_play.specs.declared.answers.Answer.{Answer}
use Rattle.cur_play.specs.declared.answers.Answer.TheVariants.{Done, Was, Refused, WireFailed}
use Rattle.curses_c.specs.declared.codes.Failure.{Failure}
use Rattle.curses_c.specs.declared.codes.Failure.TheVariants as failures

abbrev pub refusal_code : Refusal → ℤ
refusal_code NoWindow = pos 1
refusal_code OutOfWindow = pos 2
refusal_code OutOfScreen = pos 3
refusal_code HasChildren = pos 4
refusal_code IsSub = pos 5
refusal_code PadKind = pos 6
refusal_code NoScroll = pos 7
refusal_code BadRegion = pos 8
refusal_code NumberUsed = pos 9
refusal_code BadCell = pos 10
refusal_code Full = pos 11
refusal_code NoMemory = pos 12
refusal_code IsScreen = pos 13
refusal_code NoCap = pos 14
refusal_code IsLost = pos 15
refusal_code BadPair = pos 16

abbrev pub answer_code : Answer → ℤ
answer_code Done = pos 0
answer_code (Was n) = pos 0
answer_code (Refused r) = refusal_code r
answer_code WireFailed = pos 17

abbrev pub script_code : ScriptFaultKind → ℤ
script_code scripts.BadLine = pos 18
script_code scripts.TooLong = pos 19
script_code scripts.NoMemory = pos 12

abbrev pub failure_code : Failure → ℤ
failure_code failures.NoMemory = pos 12
failure_code failures.NoCap = pos 14
failure_code failures.Closed = pos 20
failure_code failures.BadSize = pos 21
failure_code failures.BadEntry = pos 22
failure_code failures.BadCertificate = pos 23
failure_code failures.NoCertificate = pos 24
failure_code failures.NoRoom = pos 25
failure_code failures.BadCall = pos 27
failure_code failures.BadName = pos 28
