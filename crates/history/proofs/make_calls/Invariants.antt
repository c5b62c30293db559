use Rattle.std.proofs.Common.{◌≡◌, ℕ, ◌≤◌, length, take, vec_items, vec_len, vec_capacity}
use Rattle.kernel.specs.View.{state}
use Rattle.history.specs.History.{answers, after}
use Rattle.history.specs.Sound.{Sound}
use Rattle.history.proofs.make_calls.Given as goal

-- there is room for every call, the calls so far are made and answered, the states so far are sound, and at the end those are all
abbrev pub invariant-loop-call : goal.invariant-loop-call
invariant-loop-call l =
    (vec_len l.gathered ≡ l.call-index) × (length l.calls ≤ vec_capacity l.gathered) × (vec_items l.gathered ≡ answers (state l.initial.kernel) (take l.call-index l.calls)) × (state l.kernel ≡ after (state l.initial.kernel) (take l.call-index l.calls)) × ((m : ℕ) → m ≤ l.call-index → Sound (after (state l.initial.kernel) (take m l.calls))) × (length l.calls ≤ l.call-index → take l.call-index l.calls ≡ l.calls)
