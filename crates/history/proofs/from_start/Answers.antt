use Rattle.std.proofs.Common.{ap, ◌∙◌}
use Rattle.calls.specs.Steps.{start}
use Rattle.kernel.proofs.States.{state_kept}
use Rattle.history.specs.History.{answers, after}
use Rattle.history.proofs.Histories.{law_of}
use Rattle.history.proofs.from_start.Goals as goal

pub returns : goal.returns
returns c =
    let calls = c.args.calls.now in
    let begun = c.start-kernel.ensures ∙ ap start c.requires.room in
    let made = c.in_ok-answers.ensures in
    record {
      replied = c.requires.replied;
      answered = made.answered ∙ ap (λ s. answers s calls) begun;
      left = made.moved ∙ ap (λ s. after s calls) begun;
      law = law_of c.args.creates.now calls _ _ _ _ _ c.requires.room (state_kept c.args.room) c.start-kernel.ensures c.requires.replied made.answered made.moved made.sound;
    }
