use Rattle.std.proofs.Common.{◌≡◌, take, sym, refl, subst, arith, take_all}
use Rattle.calls.specs.declared.Call.TheVariants.{Create}
use Rattle.kernel.specs.declared.phases.Kernel.{Kernel}
use Rattle.kernel.specs.View.{state}
use Rattle.kernel.proofs.States.{state_kept, state_greatest}
use Rattle.history.specs.Sound.{Sound}
use Rattle.history.specs.History.{after}
use Rattle.history.proofs.Turns.{answers_more, after_more, sound_more}
use Rattle.history.proofs.make_calls.Goals as goal

sound : {P : Type 0} (k : Kernel P) → Sound (state k)
sound k = record { kept = state_kept k; greatest = state_greatest k }

pub loop-call-init : goal.loop-call-init
loop-call-init c =
    let room = c.in_ok-gathered.ensures in
    let s = state c.args.kernel.now in
    (room.len, room.capacity, room.items, refl, λ m l. (let z : m ≡ 0 = omega (arith, l) in subst (λ n. Sound (after s (take n c.args.calls.now))) (sym z) (sound c.args.kernel.now)), take_all _ _)

pub loop-call-preserved : goal.loop-call-preserved
loop-call-preserved c =
    let inv = c.loop-call.invariant in
    let taken = c.loop-call-test.true in
    let called = c.call-answer.ensures in (
      omega arith,
      omega arith,
      answers_more _ _ _ (Create 0 0) _ _ _ taken inv.3 called _ _ inv.2 c.push_reserved.ensures.items,
      after_more _ _ _ (Create 0 0) _ _ _ taken inv.3 called,
      sound_more _ _ _ (Create 0 0) _ _ _ taken inv.3 called inv.4 (sound c.call-answer.new.self),
      take_all _ _,
    )
