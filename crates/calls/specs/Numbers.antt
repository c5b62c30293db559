-- The numbers that stand for refusals, calls and outcomes.
use Rattle.std.specs.Prelude.{ℕ, Ok, Err, Result}
use Rattle.calls.specs.declared.Call.{Call}
use Rattle.calls.specs.declared.Call.TheVariants.{Create, Delete, ChangePriority, Hold, Release, SetFlags, TestFlags, Claim, Drop, Send, Wait}
use Rattle.calls.specs.declared.Refusal.{Refusal}
use Rattle.calls.specs.declared.Refusal.TheVariants.{NoTaskRunning, RunnerNotReady, NoSuchTask, NoSuchUnit, NoSuchPacket, NotInHands, BadPriority, PriorityTaken, TaskInUse, NoPacketFree, AlreadyHeld, NotHeld, TaskNotIdle, PacketsOut, UnitFull, NotThere, SetDisagrees, TooFewRows}

abbrev pub refusal_number : Refusal → ℕ
refusal_number NoTaskRunning = 1
refusal_number RunnerNotReady = 2
refusal_number NoSuchTask = 3
refusal_number NoSuchUnit = 4
refusal_number NoSuchPacket = 5
refusal_number NotInHands = 6
refusal_number BadPriority = 7
refusal_number PriorityTaken = 8
refusal_number TaskInUse = 9
refusal_number NoPacketFree = 10
refusal_number AlreadyHeld = 11
refusal_number NotHeld = 12
refusal_number TaskNotIdle = 13
refusal_number PacketsOut = 14
refusal_number UnitFull = 15
refusal_number NotThere = 16
refusal_number SetDisagrees = 17
refusal_number TooFewRows = 22

abbrev pub call_code : Call → ℕ
call_code (Create task priority) = 1
call_code (Delete task) = 2
call_code (ChangePriority task priority) = 3
call_code (Hold task) = 4
call_code (Release task) = 5
call_code (SetFlags task bits) = 6
call_code (TestFlags bits) = 7
call_code Claim = 8
call_code (Drop packet) = 9
call_code (Send address packet kind first second) = 10
call_code Wait = 12

-- The refusal of an outcome as a number, 0 for none.
abbrev pub refusal_of : Result ℕ Refusal → ℕ
refusal_of (Ok v) = 0
refusal_of (Err r) = refusal_number r

-- The value of an outcome, 0 where the call was refused.
abbrev pub value_of : Result ℕ Refusal → ℕ
value_of (Ok v) = v
value_of (Err r) = 0
