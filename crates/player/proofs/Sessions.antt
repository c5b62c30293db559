-- The law of a session, of what its answers are defined to be.
use Rattle.std.proofs.Common.{◌≡◌, List, Result, subst}
use Rattle.tables.specs.State.{State}
use Rattle.tables.specs.Moves.{fresh}
use Rattle.calls.specs.declared.Answer.{Answer}
use Rattle.calls.specs.declared.Call.{Call}
use Rattle.calls.specs.declared.Refusal.{Refusal}
use Rattle.history.specs.History.{replies, answers}
use Rattle.history.specs.Law.{Law}
use Rattle.player.specs.Played.{creates, opening, Lawfully}

pub lawfully : (calls : List Call) (rs : List (Result (Unit {0}) Refusal)) (given : List Answer) (left : State) → rs ≡ replies fresh creates → given ≡ answers opening calls → Law creates rs calls given left → Lawfully calls left
lawfully calls rs given left replied answered law =
    subst (λ z. Law creates (replies fresh creates) calls z left) answered (subst (λ z. Law creates z calls given left) replied law)
