use Rattle.history.proofs.Turns.{length_answers, answers-append, after-append}
use Rattle.history.proofs.histories_have_parts.Goals as goal

pub returns : goal.returns
returns c = record { each = length_answers; answered = answers-append; moved = after-append }
