-- What a script says: the calls before its first bad record or its end, and what that record fails.
use Rattle.std.specs.Prelude.{ℕ, zero, suc, List, [], ◌∷◌, length, Some, None, Ok, Err, Option, Result}
use Rattle.calls.specs.declared.Call.{Call}
use Rattle.player.specs.declared.records.BadRecord.{BadRecord}
use Rattle.player.specs.Decoded.{decoded}

abbrev pub Reading : Type 0
Reading = List Call × Option BadRecord

abbrev pub after_call : Call → Reading → Reading
after_call call more = (call ∷ more.0, more.1)

-- what follows from the first record, where on reads the bytes after it
abbrev pub after_record : (List ℕ → Reading) → Result (Call × List ℕ) BadRecord → Reading
after_record on (Ok pair) = after_call pair.0 (on pair.1)
after_record on (Err bad) = ([], Some bad)

-- what bytes say that hold at most n records
unfoldable pub parsed_within : ℕ → List ℕ → Reading
parsed_within zero bs = ([], None)
parsed_within (suc n) [] = ([], None)
parsed_within (suc n) (b ∷ bs) = after_record (parsed_within n) (decoded (b ∷ bs))

-- every record has a byte, so there are at most as many records as bytes
abbrev pub parsed : List ℕ → Reading
parsed bs = parsed_within (length bs) bs
