-- What the first record of a script says: a call and the bytes after it, or the first question that the record fails.
use Rattle.std.specs.Prelude.{ℕ, ◌+◌, ◌*◌, cond, ◌&&◌, List, [], ◌∷◌, length, drop, Some, None, Ok, Err, Option, Result, ◌==◌, nat_lt, slice_index}
use Rattle.std.specs.Int.{w32}
use Rattle.std.proofs.Common.{to_z}
use Rattle.std.specs.Borrow.{Bor}
use Rattle.calls.specs.declared.Call.{Call}
use Rattle.calls.specs.declared.Call.TheVariants.{Create, Delete, ChangePriority, Hold, Release, SetFlags, TestFlags, Claim, Drop, Send, Wait}
use Rattle.player.specs.declared.records.BadRecord.{BadRecord}
use Rattle.player.specs.declared.records.BadRecord.TheVariants.{Short, Mark, Code, Spare}

-- the number that stands in a line for a bad record
abbrev pub fault_number : BadRecord → ℕ
fault_number Short = 18
fault_number Mark = 19
fault_number Code = 20
fault_number Spare = 21

-- the word at a place, low byte first
abbrev pub word : List ℕ → ℕ → ℕ
word bs place =
    slice_index bs (4 * place) + slice_index bs (4 * place + 1) * 256 + slice_index bs (4 * place + 2) * 65536 + slice_index bs (4 * place + 3) * 16777216

-- the five words of a record
abbrev pub words_of : List ℕ → List ℕ
words_of bs = word bs 0 ∷ word bs 1 ∷ word bs 2 ∷ word bs 3 ∷ word bs 4 ∷ []

-- the words of a send are its address, in two's complement, its packet, its type and its two arguments
abbrev pub sent : List ℕ → Call
sent words = Send (to_z w32 (word words 0)) (word words 1) (word words 2) (word words 3) (word words 4)

-- the call of a code, where the kernel has one
abbrev pub call_of : ℕ → List ℕ → Option Call
call_of code words =
    cond (code == 1) (Some (Create (word words 0) (word words 1)))
    (cond (code == 2) (Some (Delete (word words 0)))
    (cond (code == 3) (Some (ChangePriority (word words 0) (word words 1)))
    (cond (code == 4) (Some (Hold (word words 0)))
    (cond (code == 5) (Some (Release (word words 0)))
    (cond (code == 6) (Some (SetFlags (word words 0) (word words 1)))
    (cond (code == 7) (Some (TestFlags (word words 0)))
    (cond (code == 8) (Some Claim)
    (cond (code == 9) (Some (Drop (word words 0)))
    (cond (code == 10) (Some (sent words))
    (cond (code == 12) (Some Wait) None))))))))))

-- the spare byte is asked about only where the code has a call
abbrev pub with_spare : ℕ → Option Call → Result Call BadRecord
with_spare spare None = Err Code
with_spare spare (Some call) = cond (spare == 0) (Ok call) (Err Spare)

abbrev pub with_rest : List ℕ → Result Call BadRecord → Result (Call × List ℕ) BadRecord
with_rest rest (Ok call) = Ok (call, rest)
with_rest rest (Err bad) = Err bad

abbrev pub decoded : List ℕ → Result (Call × List ℕ) BadRecord
decoded bs =
    cond (nat_lt (length bs) 24) (Err Short)
    (cond (slice_index bs 0 == 0x4B && slice_index bs 1 == 0x43)
    (with_rest (drop 24 bs) (with_spare (slice_index bs 3) (call_of (slice_index bs 2) (drop 4 bs))))
    (Err Mark))

-- what a result says of the bytes that it points to
abbrev pub read : Result (Call × Bor (List ℕ)) BadRecord → Result (Call × List ℕ) BadRecord
read (Ok pair) = Ok (pair.0, pair.1.now)
read (Err bad) = Err bad
