-- The numbers that stand for what the kernel answers, as the trials compare them.
use Rattle.std.specs.Prelude.{ℕ, ℤ, Ok, Err, Result}
use Rattle.packets.specs.declared.rows.Packet.{Packet}
use Rattle.packets.specs.declared.rows.Place.{Place}
use Rattle.packets.specs.declared.rows.Place.TheVariants.{Free, Hands, Queue}
use Rattle.listing.specs.declared.Listed.{Listed}
use Rattle.calls.specs.declared.Answer.{Answer}
use Rattle.calls.specs.declared.Refusal.{Refusal}
use Rattle.calls.specs.Numbers.{refusal_number, refusal_of, value_of}

-- The number that stands for the outcome of a create, 0 where it was not refused.
abbrev pub outcome_number : Result (Unit {0}) Refusal → ℕ
outcome_number (Ok u) = 0
outcome_number (Err r) = refusal_number r

-- The refusal and the value of an outcome: one of them is 0.
abbrev pub outcome_numbers : Result ℕ Refusal → ℕ × ℕ
outcome_numbers r = (refusal_of r, value_of r)

-- The refusal, the value and the running task of an answer.
abbrev pub answer_numbers : Answer → ℕ × ℕ × ℕ
answer_numbers a = (refusal_of a.outcome, value_of a.outcome, a.running)

-- The number, the priority, the state, the flags and the queue's length of a task's row.
abbrev pub row_numbers : Listed → ℕ × ℕ × ℕ × ℕ × ℕ
row_numbers r = (r.task, r.priority, r.state, r.flags, r.queued)

-- A place is free, or the hands of a task, or its queue.
abbrev pub place_numbers : Place → ℕ × ℕ
place_numbers Free = (0, 0)
place_numbers (Hands t) = (1, t)
place_numbers (Queue t) = (2, t)

-- The place, the sender, the kind and the two words of a packet.
abbrev pub packet_numbers : Packet → (ℕ × ℕ) × ℤ × ℕ × ℕ × ℕ
packet_numbers p = (place_numbers p.place, p.sender, p.kind, p.first, p.second)
