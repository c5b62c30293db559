use Rattle.std.proofs.Common.{◌≡◌, ◌≤◌, length, take, vec_items, vec_len, vec_capacity}
use Rattle.kernel.specs.View.{state}
use Rattle.history.specs.History.{replies, furnish}
use Rattle.history.proofs.make_creates.Given as goal

-- there is room for every reply, the creates so far are made and replied to, and at the end those are all
abbrev pub invariant-loop-create : goal.invariant-loop-create
invariant-loop-create l =
    (vec_len l.collected ≡ l.create-index) × (length l.creates ≤ vec_capacity l.collected) × (vec_items l.collected ≡ replies (state l.initial.room) (take l.create-index l.creates)) × (state l.room ≡ furnish (state l.initial.room) (take l.create-index l.creates)) × (length l.creates ≤ l.create-index → take l.create-index l.creates ≡ l.creates)
