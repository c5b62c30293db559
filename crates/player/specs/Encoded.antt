-- The script that makes given calls, and that a script so made says those calls.
use Rattle.std.specs.Prelude.{◌≡◌, ℕ, ◌/◌, ◌%◌, ◌^◌, ◌<◌, List, [], ◌∷◌, None, FitsSigned}
use Rattle.std.specs.Int.{w32}
use Rattle.std.proofs.Common.{of_z}
use Rattle.std.specs.List.{flat_map, AllByRecursion}
use Rattle.calls.specs.declared.Call.{Call}
use Rattle.calls.specs.declared.Call.TheVariants.{Create, Delete, ChangePriority, Hold, Release, SetFlags, TestFlags, Claim, Drop, Send, Wait}
use Rattle.player.specs.Parsed.{parsed}

-- a word as four bytes, low byte first
abbrev pub word_bytes : ℕ → List ℕ
word_bytes w = w % 256 ∷ w / 256 % 256 ∷ w / 65536 % 256 ∷ w / 16777216 % 256 ∷ []

abbrev pub marked : ℕ → ℕ → List ℕ → List ℕ
marked code spare words = 0x4B ∷ 0x43 ∷ code ∷ spare ∷ flat_map word_bytes words

-- the record of a code and five words
abbrev pub record_of : ℕ → ℕ → ℕ → ℕ → ℕ → ℕ → List ℕ
record_of code a b c d e = marked code 0 (a ∷ b ∷ c ∷ d ∷ e ∷ [])

abbrev pub encoded : Call → List ℕ
encoded (Create task priority) = record_of 1 task priority 0 0 0
encoded (Delete task) = record_of 2 task 0 0 0 0
encoded (ChangePriority task priority) = record_of 3 task priority 0 0 0
encoded (Hold task) = record_of 4 task 0 0 0 0
encoded (Release task) = record_of 5 task 0 0 0 0
encoded (SetFlags task bits) = record_of 6 task bits 0 0 0
encoded (TestFlags bits) = record_of 7 bits 0 0 0 0
encoded Claim = record_of 8 0 0 0 0 0
encoded (Drop packet) = record_of 9 packet 0 0 0 0
encoded (Send address packet kind first second) = record_of 10 (of_z w32 address) packet kind first second
encoded Wait = record_of 12 0 0 0 0 0

-- the numbers of a call that a program can hold fit 32 bits
abbrev pub Fitting : Call → Type 0
Fitting (Create task priority) = (task < 2 ^ 32) × (priority < 2 ^ 32)
Fitting (Delete task) = task < 2 ^ 32
Fitting (ChangePriority task priority) = (task < 2 ^ 32) × (priority < 2 ^ 32)
Fitting (Hold task) = task < 2 ^ 32
Fitting (Release task) = task < 2 ^ 32
Fitting (SetFlags task bits) = (task < 2 ^ 32) × (bits < 2 ^ 32)
Fitting (TestFlags bits) = bits < 2 ^ 32
Fitting Claim = Unit {0}
Fitting (Drop packet) = packet < 2 ^ 32
Fitting (Send address packet kind first second) = FitsSigned w32 address × (packet < 2 ^ 32) × (kind < 2 ^ 32) × (first < 2 ^ 32) × (second < 2 ^ 32)
Fitting Wait = Unit {0}

abbrev pub ReadsBack : Type 0
ReadsBack = (calls : List Call) → AllByRecursion Fitting calls → parsed (flat_map encoded calls) ≡ (calls, None)
