-- The journal's tasks are the kernel's, whatever a call does.
use Rattle.std.proofs.Common.{◌≡◌, ℕ, true, false, ◌≢◌, pos, negsuc, Some, None, Ok, Option, sym, refl, ap, ◌∙◌, subst, ⊎_elim}
use Rattle.std.specs.Option.{option_map}
use Rattle.tasks.specs.declared.rows.Task.{Task}
use Rattle.tasks.specs.declared.rows.Condition.{Condition}
use Rattle.tasks.specs.Use.{task_at}
use Rattle.tables.specs.State.{State, task}
use Rattle.tables.specs.Running.{running}
use Rattle.tables.specs.Kept.{Kept}
use Rattle.tables.specs.Moves as moves
use Rattle.calls.specs.declared.Call.{Call}
use Rattle.calls.specs.declared.Call.TheVariants.{Create, Delete, ChangePriority, Hold, Release, SetFlags, TestFlags, Claim, Drop, Send, Wait}
use Rattle.effects.specs.Told.{TaskChanges, Told}
use Rattle.history.specs.Journal.{Journal, Noted, note_task, change_task, at_priority, in_condition, with_mark, enter_done, enter_wait}
use Rattle.history.specs.Law.{note, Tasks}
use Rattle.std.proofs.lemmas.Bool.{cases_eq}
use Rattle.history.proofs.Noting.{noted_agrees}
use Rattle.history.proofs.Waits.{WaitsOrTakes, waits, takes, waits_or_takes}

both_note : (f : Noted → Noted) (g : Task → Task) → ((x : Task) → note (g x) ≡ f (note x)) → (o : Option Task) → option_map note (option_map g o) ≡ option_map f (option_map note o)
both_note f g e None = refl
both_note f g e (Some x) = ap Some (e x)

module _ (s s' : State) (j : Journal) (agree : Tasks s j) where
  pub tasks_stay : s'.tasks ≡ s.tasks → Tasks s' j
  tasks_stay e t = ap (λ ts. option_map note (task_at ts t)) e ∙ agree t

  module _ (t : ℕ) (others : (u : ℕ) → u ≢ t → task s' u ≡ task s u) where
    pub task_noted : (x : Option Task) (y : Option Noted) → task s' t ≡ x → option_map note x ≡ y → Tasks s' (note_task j t y)
    task_noted x y here e =
        noted_agrees t y j.tasks (λ u. option_map note (task s u)) (λ u. option_map note (task s' u)) agree (ap (option_map note) here ∙ e) (λ u ne. ap (option_map note) (others u ne))

    -- f does to the entry what g does to the task
    pub task_changed : (f : Noted → Noted) (g : Task → Task) → ((x : Task) → note (g x) ≡ f (note x)) → task s' t ≡ option_map g (task s t) → Tasks s' (change_task j t f)
    task_changed f g e here = task_noted _ _ here (both_note f g e (task s t) ∙ ap (option_map f) (agree t))

    -- what g does is not noted
    pub task_kept : (g : Task → Task) → ((x : Task) → note (g x) ≡ note x) → task s' t ≡ option_map g (task s t) → Tasks s' j
    task_kept g e here u =
        ⊎_elim
        (λ q. ap (λ z. option_map note (task s' z)) q ∙ ap (option_map note) here ∙ both_note (λ x. x) g e (task s t) ∙ same (option_map note (task s t)) ∙ agree t ∙ ap j.tasks (sym q))
        (λ ne. ap (option_map note) (others u ne) ∙ agree u) (cases_eq u t)
      where
        same : (o : Option Noted) → option_map (λ x. x) o ≡ o
        same None = refl
        same (Some x) = refl

-- what is told of a call that was done
pub tasks_done : (s s' : State) (j : Journal) → Kept s → Tasks s j → (c : Call) (v : ℕ) → Told s c (Ok v) s' → Tasks s' (enter_done j (running s) c v)
tasks_done s s' j k agree (Create t p) v told =
    let b = told.1.task in task_noted s s' j agree t b.others _ _ b.becomes refl
tasks_done s s' j k agree (Delete t) v told =
    let b = told.1.task in task_noted s s' j agree t b.others _ _ b.becomes refl
tasks_done s s' j k agree (ChangePriority t p) v told =
    let b = told.1.task in task_changed s s' j agree t b.others (at_priority p) (moves.with_priority p) (λ x. refl) b.becomes
tasks_done s s' j k agree (Hold t) v told =
    let b = told.1.task in task_changed s s' j agree t b.others (with_mark true) (moves.with_held true) (λ x. refl) b.becomes
tasks_done s s' j k agree (Release t) v told =
    let b = told.1.task in task_changed s s' j agree t b.others (with_mark false) (moves.with_held false) (λ x. refl) b.becomes
tasks_done s s' j k agree (SetFlags t bits) v told =
    let b = told.1.task in task_kept s s' j agree t b.others (moves.with_flags _) (λ x. refl) b.becomes
tasks_done s s' j k agree (TestFlags bits) v told =
    let b = told.flagged.task in task_kept s s' j agree (running s) b.others (moves.with_flags _) (λ x. refl) b.becomes
tasks_done s s' j k agree Claim v told = tasks_stay s s' j agree told.tasks.0
tasks_done s s' j k agree (Drop n) v told = tasks_stay s s' j agree told.1.tasks.0
tasks_done s s' j k agree (Send (pos t) n kind x y) v told = tasks_stay s s' j agree told.1.tasks.0
tasks_done s s' j k agree (Send (negsuc u) n kind x y) v told = absurd told
tasks_done s s' j k agree Wait v told = waited (waits_or_takes s s' v k told)
  where
    in_place : (r : ℕ) (c : Condition) → TaskChanges s s' r (moves.in_condition c) → Tasks s' (change_task j r (in_condition c))
    in_place r c b = task_changed s s' j agree r b.others (in_condition c) (moves.in_condition c) (λ x. refl) b.becomes

    waited : WaitsOrTakes s s' v → Tasks s' (enter_wait j (running s) v)
    waited (waits e w) = subst (λ z. Tasks s' (enter_wait j (running s) z)) (sym e) (in_place (running s) Condition.Waiting w.task)
    waited (takes n e r w) = subst (λ z. Tasks s' (enter_wait j (running s) z)) (sym e) (in_place (running s) Condition.Ready w.task)
