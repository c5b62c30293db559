-- The law holds of every history.
use Rattle.std.proofs.Common.{◌≡◌, ℕ, suc, ◌≤◌, eqb, List, [], ◌∷◌, Some, None, Ok, Err, Option, Result, sym, refl, ap, ◌∙◌, subst, ⊎_elim, arith}
use Rattle.std.proofs.lemmas.Bool.{cases_eq, ne_eqb, not_from_false}
use Rattle.tables.specs.State.{State}
use Rattle.tables.specs.Running.{running}
use Rattle.tables.specs.Moves.{fresh}
use Rattle.tables.specs.Kept.{Kept}
use Rattle.calls.specs.declared.Answer.{Answer}
use Rattle.calls.specs.declared.Call.{Call}
use Rattle.calls.specs.declared.Refusal.{Refusal}
use Rattle.calls.specs.Questions.{first_no}
use Rattle.calls.specs.Steps.{decided, asks, done, step, start}
use Rattle.effects.specs.Told.{Told}
use Rattle.effects.proofs.Asked.{runner}
use Rattle.effects.proofs.Told.{calls_do_as_told}
use Rattle.history.specs.declared.creations.Creation.{Creation}
use Rattle.history.specs.Journal.{Journal, enter, enter_done, blank, opening}
use Rattle.history.specs.History.{replies, furnish, answers, after, states}
use Rattle.history.specs.Sound.{Sound, SoundAlong}
use Rattle.history.specs.Law.{Running, Agree, Lawful, last_of, accepted, Law}
use Rattle.history.proofs.Tasks.{tasks_done}
use Rattle.history.proofs.Deliveries.{deliveries_done}
use Rattle.history.proofs.Places.{says_done, places_are}
use Rattle.history.proofs.Owners.{owned_done}
use Rattle.history.proofs.Running.{running_is}
use Rattle.history.proofs.Opening.{Matches, fresh_matches, furnish_matches, start_matches}

running_row : (s : State) → Kept s → running s ≤ 32
running_row s k =
    ⊎_elim (λ z. omega (arith, z)) (λ ne. let r = runner s k (not_from_false (eqb (running s) 0) (ne_eqb (running s) 0 ne)) in omega (arith, r.0.1)) (cases_eq (running s) 0)

-- ---- one call

decided_names : (s : State) (o : Option Refusal) (done : State × ℕ) → (decided s o done).1.running ≡ running (decided s o done).0
decided_names s (Some r) done = refl
decided_names s None done = refl

step_names : (s : State) (c : Call) → (step s c).1.running ≡ running (step s c).0
step_names s c = decided_names s (first_no s (asks c)) (done s c)

module _ (s : State) (j : Journal) (sound : Sound s) (m : Matches s j) where
  pub named : Running j (running s)
  named = running_is s j sound.kept m.tasks m.says (running s) (running_row s sound.kept) sound.greatest

  pub agrees : (r : ℕ) → r ≡ running s → Agree s j r
  agrees r e =
      record {
        kept = sound.kept;
        owned = m.owned;
        places = places_are s j sound.kept m.says;
        deliveries = m.deliveries;
        tasks = m.tasks;
        running = subst (Running j) (sym e) named;
      }

  matches_told : (c : Call) (o : Result ℕ Refusal) (s' : State) → Told s c o s' → Matches s' (enter j c o)
  matches_told c (Err r) s' told = subst (λ z. Matches z j) (sym told) m
  matches_told c (Ok v) s' told =
      subst (λ r. Matches s' (enter_done j r c v)) named.reckoned
      (record {
        owned = owned_done s s' sound.kept m.owned c v told;
        tasks = tasks_done s s' j sound.kept m.tasks c v told;
        says = says_done s s' j sound.kept m.says c v told;
        deliveries = deliveries_done s s' j sound.kept m.deliveries c v told;
      })

  pub matches_step : (c : Call) → Matches (step s c).0 (enter j c (step s c).1.outcome)
  matches_step c = matches_told c (step s c).1.outcome (step s c).0 (calls_do_as_told s sound.kept c)

-- ---- any calls

pub lawful : (s : State) (j : Journal) → Matches s j → (calls : List Call) → SoundAlong s calls → Lawful s j calls (answers s calls) (states s calls)
lawful s j m [] along = tt
lawful s j m (c ∷ cs) along =
    let s' = (step s c).0 in
    let j' = enter j c (step s c).1.outcome in
    let m' = matches_step s j (along 0 (omega arith)) m c in
    let along' : SoundAlong s' cs = λ n h. along (suc n) (omega (arith, h)) in
    (refl, agrees s' j' (along' 0 (omega arith)) m' (step s c).1.running (step_names s c), lawful s' j' m' cs along')

last_is : (s : State) (calls : List Call) → last_of s (states s calls) ≡ after s calls
last_is s [] = refl
last_is s (c ∷ cs) = last_is (step s c).0 cs

-- ---- from the beginning

pub law : (creates : List Creation) (calls : List Call) → Kept (furnish fresh creates) → SoundAlong (start (furnish fresh creates)) calls → Law creates (replies fresh creates) calls (answers (start (furnish fresh creates)) calls) (after (start (furnish fresh creates)) calls)
law creates calls k along =
    let s = furnish fresh creates in
    let j = opening (accepted creates (replies fresh creates)) in
    let begun = start_matches s _ k (furnish_matches fresh blank refl fresh_matches creates).1 in
    record {
      begins = agrees (start s) j (along 0 (omega arith)) begun (running (start s)) refl;
      states = states (start s) calls;
      lawful = lawful (start s) j begun calls along;
      last = last_is (start s) calls;
    }

-- the same, of what a run has at hand
pub law_of : (creates : List Creation) (calls : List Call) (room begun left : State) (rs : List (Result (Unit {0}) Refusal)) (given : List Answer) → room ≡ furnish fresh creates → Kept room → begun ≡ start room → rs ≡ replies fresh creates → given ≡ answers begun calls → left ≡ after begun calls → SoundAlong begun calls → Law creates rs calls given left
law_of creates calls room begun left rs given furnishes k starts replied answered leaves along =
    let b = starts ∙ ap start furnishes in
    let l = law creates calls (subst Kept furnishes k) (subst (λ z. SoundAlong z calls) b along) in
    subst (λ z. Law creates z calls given left) (sym replied)
    (subst (λ z. Law creates (replies fresh creates) calls z left) (sym (answered ∙ ap (λ z. answers z calls) b))
    (subst (Law creates (replies fresh creates) calls (answers (start (furnish fresh creates)) calls)) (sym (leaves ∙ ap (λ z. after z calls) b)) l))
