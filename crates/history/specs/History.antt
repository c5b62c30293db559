-- What creates and then calls, made in order, are answered, and the states that they lead to.
use Rattle.std.specs.Prelude.{◌≡◌, List, [], ◌∷◌, ◌++◌, length, Result}
use Rattle.calls.specs.declared.Answer.{Answer}
use Rattle.calls.specs.declared.Call.{Call}
use Rattle.calls.specs.declared.Refusal.{Refusal}
use Rattle.tables.specs.State.{State}
use Rattle.calls.specs.Steps.{step, create}
use Rattle.history.specs.declared.creations.Creation.{Creation}

-- ---- creates, while the kernel is furnished

-- The reply to each create.
abbrev pub replies : State → List Creation → List (Result (Unit {0}) Refusal)
replies s [] = []
replies s (c ∷ cs) = (create s c.task c.priority).1 ∷ replies (create s c.task c.priority).0 cs

-- The state after the creates.
abbrev pub furnish : State → List Creation → State
furnish s [] = s
furnish s (c ∷ cs) = furnish (create s c.task c.priority).0 cs

-- ---- calls

-- The answer to each call.
abbrev pub answers : State → List Call → List Answer
answers s [] = []
answers s (call ∷ calls) = (step s call).1 ∷ answers (step s call).0 calls

-- The state after the last call.
abbrev pub after : State → List Call → State
after s [] = s
after s (call ∷ calls) = after (step s call).0 calls

-- The states after each of the calls.
abbrev pub states : State → List Call → List State
states s [] = []
states s (call ∷ calls) = (step s call).0 ∷ states (step s call).0 calls

-- A history may be cut anywhere: its second part goes on from the state that its first part leads to.
pub record Parts : Type 0 where
  pub each : (s : State) (calls : List Call) → length (answers s calls) ≡ length calls
  pub answered : (s : State) (calls more : List Call) → answers s (calls ++ more) ≡ answers s calls ++ answers (after s calls) more
  pub moved : (s : State) (calls more : List Call) → after s (calls ++ more) ≡ after (after s calls) more
