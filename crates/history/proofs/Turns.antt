-- What one more create or call adds to a history.
use Rattle.std.proofs.Common.{◌≡◌, ℕ, suc, ◌+◌, ◌<◌, ◌≤◌, List, [], ◌∷◌, ◌++◌, length, get_or, take, Result, sym, refl, ap, ◌∙◌, subst, ⊎_elim, arith}
use Rattle.std.proofs.lemmas.List.{take_more}
use Rattle.calls.specs.declared.Answer.{Answer}
use Rattle.calls.specs.declared.Call.{Call}
use Rattle.tables.specs.State.{State}
use Rattle.calls.specs.Steps.{step, create}
use Rattle.calls.specs.declared.Refusal.{Refusal}
use Rattle.std.proofs.lemmas.Bool.{cases_eq}
use Rattle.history.specs.declared.creations.Creation.{Creation}
use Rattle.history.specs.Sound.{Sound}
use Rattle.history.specs.History.{replies, furnish, answers, after}

pub length_answers : (s : State) (calls : List Call) → length (answers s calls) ≡ length calls
length_answers s [] = refl
length_answers s (call ∷ calls) = ap suc (length_answers (step s call).0 calls)

pub answers-append : (s : State) (calls more : List Call) → answers s (calls ++ more) ≡ answers s calls ++ answers (after s calls) more
answers-append s [] more = refl
answers-append s (call ∷ calls) more = ap (λ l. (step s call).1 ∷ l) (answers-append (step s call).0 calls more)

pub after-append : (s : State) (calls more : List Call) → after s (calls ++ more) ≡ after (after s calls) more
after-append s [] more = refl
after-append s (call ∷ calls) more = after-append (step s call).0 calls more

replies-append : (s : State) (creates more : List Creation) → replies s (creates ++ more) ≡ replies s creates ++ replies (furnish s creates) more
replies-append s [] more = refl
replies-append s (c ∷ cs) more = ap (λ l. (create s c.task c.priority).1 ∷ l) (replies-append (create s c.task c.priority).0 cs more)

furnish-append : (s : State) (creates more : List Creation) → furnish s (creates ++ more) ≡ furnish (furnish s creates) more
furnish-append s [] more = refl
furnish-append s (c ∷ cs) more = furnish-append (create s c.task c.priority).0 cs more

module _ (s : State) (creates : List Creation) (n : ℕ) (d : Creation) (here next : State) (reply : Result (Unit {0}) Refusal) (h : n < length creates) (came : here ≡ furnish s (take n creates)) (e : ◌≡◌ {A = State × Result (Unit {0}) Refusal} (next, reply) (create here (get_or creates n d).task (get_or creates n d).priority)) where
  furnished : ◌≡◌ {A = State × Result (Unit {0}) Refusal} (next, reply) (create (furnish s (take n creates)) (get_or creates n d).task (get_or creates n d).priority)
  furnished = e ∙ ap (λ t. create t (get_or creates n d).task (get_or creates n d).priority) came

  pub replies_more : (hand more : List (Result (Unit {0}) Refusal)) → hand ≡ replies s (take n creates) → more ≡ hand ++ (reply ∷ []) → more ≡ replies s (take (n + 1) creates)
  replies_more hand more had pushed =
      pushed
      ∙ (λ j. had j ++ ((furnished j).1 ∷ []))
      ∙ sym (ap (replies s) (take_more creates n d h) ∙ replies-append s (take n creates) (get_or creates n d ∷ []))

  pub furnish_more : next ≡ furnish s (take (n + 1) creates)
  furnish_more =
      ap (λ t. t.0) furnished ∙ sym (ap (furnish s) (take_more creates n d h) ∙ furnish-append s (take n creates) (get_or creates n d ∷ []))

module _ (s : State) (calls : List Call) (n : ℕ) (d : Call) (here next : State) (answer : Answer) (h : n < length calls) (came : here ≡ after s (take n calls)) (e : ◌≡◌ {A = State × Answer} (next, answer) (step here (get_or calls n d))) where
  stepped : ◌≡◌ {A = State × Answer} (next, answer) (step (after s (take n calls)) (get_or calls n d))
  stepped = e ∙ ap (λ t. step t (get_or calls n d)) came

  pub answers_more : (hand more : List Answer) → hand ≡ answers s (take n calls) → more ≡ hand ++ (answer ∷ []) → more ≡ answers s (take (n + 1) calls)
  answers_more hand more had pushed =
      pushed
      ∙ (λ j. had j ++ ((stepped j).1 ∷ []))
      ∙ sym (ap (answers s) (take_more calls n d h) ∙ answers-append s (take n calls) (get_or calls n d ∷ []))

  pub after_more : next ≡ after s (take (n + 1) calls)
  after_more =
      ap (λ t. t.0) stepped ∙ sym (ap (after s) (take_more calls n d h) ∙ after-append s (take n calls) (get_or calls n d ∷ []))

  -- the states so far were sound, and this one is
  pub sound_more : ((m : ℕ) → m ≤ n → Sound (after s (take m calls))) → Sound next → (m : ℕ) → m ≤ n + 1 → Sound (after s (take m calls))
  sound_more along now m l =
      ⊎_elim (λ q. subst (λ z. Sound (after s (take z calls))) (sym q) (subst Sound after_more now)) (λ ne. along m (omega (arith, l, ne))) (cases_eq m (n + 1))
