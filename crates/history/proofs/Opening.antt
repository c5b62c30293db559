-- Kernel and journal agree when the kernel is started.
use Rattle.std.proofs.Common.{◌≡◌, ℕ, zero, suc, ◌-◌, ◌<◌, true, false, ◌&&◌, leb, ◌≢◌, List, [], ◌∷◌, ◌++◌, length, get_or, replicate, is_some as option_is_some, Some, None, Option, sym, refl, ap, ◌∙◌, subst, ⊎_elim, arith, length-set}
use Rattle.std.proofs.lemmas.Bool.{cases_Bool, both_ways, cond_both}
use Rattle.std.specs.Option.{option_map}
use Rattle.chain.specs.Times.{times}
use Rattle.chain.specs.Chain.{Row, first}
use Rattle.chain.proofs.Times.{times_here, times_cases}
use Rattle.packets.specs.declared.rows.Place.{Place}
use Rattle.packets.specs.Places as places
use Rattle.tasks.specs.declared.rows.Task.{Task}
use Rattle.tasks.specs.declared.rows.Condition.{Condition}
use Rattle.tasks.specs.Use as UseOf
use Rattle.tasks.proofs.Numbers.{numbers_row, numbers_none}
use Rattle.tables.specs.State.{State, task, used, packet, queue}
use Rattle.tables.specs.Moves as moves
use Rattle.tables.specs.Kept.{Kept}
use Rattle.calls.specs.declared.Refusal.{Refusal}
use Rattle.calls.specs.Questions.{first_no, create_asks}
use Rattle.calls.specs.Steps.{create_decided, start}
use Rattle.effects.proofs.Writes.{task_becomes, task_changes}
use Rattle.effects.proofs.Asked.{all_yes, in_range}
use Rattle.history.specs.declared.creations.Creation.{Creation}
use Rattle.history.specs.Journal.{Journal, rank, note_task, change_task, in_condition, new_task, greatest, blank, furnished, started}
use Rattle.history.specs.History.{replies, furnish}
use Rattle.history.specs.Law.{note, Owned, Tasks, Deliveries, with_accepted, accepted}
use Rattle.history.proofs.Tasks.{task_noted, task_changed}
use Rattle.history.proofs.Deliveries.{lists_stay}
use Rattle.history.proofs.Places.{Says, packets_stay}
use Rattle.history.proofs.Owners.{nobody, packets_owned, become_used, change_used}
use Rattle.history.proofs.Running.{best_is, rank_agree}

-- packets are with tasks in use, and kernel and journal have the same tasks, packets and deliveries
pub record Matches (s : State) (j : Journal) : Type 0 where
  pub owned : Owned s
  pub tasks : Tasks s j
  pub says : Says s j
  pub deliveries : Deliveries s j

-- ---- furnishing

all_the_same : {X : Type 0} (x : X) (m i : ℕ) → get_or (replicate m x) i x ≡ x
all_the_same x zero i = refl
all_the_same x (suc m) zero = refl
all_the_same x (suc m) (suc i) = all_the_same x m i

no_task_yet : (t : ℕ) → task moves.fresh t ≡ None
no_task_yet zero = refl
no_task_yet (suc t) = all_the_same None 32 t

free_yet : (n : ℕ) → packet moves.fresh n ≡ places.blank Place.Free
free_yet n = cond_both (leb 1 n && leb n 64) _ _ (λ z. z ≡ places.blank Place.Free) (λ _. all_the_same (places.blank Place.Free) 64 (n - 1)) (λ _. refl)

none_queued : (t : ℕ) → 0 < t → queue moves.fresh t ≡ []
none_queued zero h = absurd (omega arith)
none_queued (suc t) h = all_the_same [] 32 t

pub fresh_matches : Matches moves.fresh blank
fresh_matches =
    record {
      owned = record {
        holder = λ n t e. absurd (both_ways (places.with_task t (packet moves.fresh n).place) (ap (λ p. places.with_task t p.place) (free_yet n)) e);
        sender = λ n t h e. absurd (both_ways (places.from_task t (packet moves.fresh n).sender) (ap (λ p. places.from_task t p.sender) (free_yet n) ∙ nobody t h) e);
      };
      tasks = λ t. ap (option_map note) (no_task_yet t);
      says = record { place = λ n. ap (λ p. p.place) (free_yet n); sender = λ n. ap (λ p. p.sender) (free_yet n) };
      deliveries = none_queued;
    }

-- tasks change, and nothing else
tasks_only : (s s' : State) (j j' : Journal) → Matches s j → ((t : ℕ) → used s t ≡ true → used s' t ≡ true) → Tasks s' j' → s'.packets ≡ s.packets → s'.lists ≡ s.lists → j'.places ≡ j.places → j'.senders ≡ j.senders → j'.taken ≡ j.taken → j'.deliveries ≡ j.deliveries → Matches s' j'
tasks_only s s' j j' m still tasks ps ls a b c d =
    let says = packets_stay s s' j m.says ps in
    let delivered = lists_stay s s' j m.deliveries ls in
    record {
      owned = packets_owned s s' m.owned still ps;
      tasks = tasks;
      says = record { place = λ n. says.place n ∙ ap (λ f. f n) (sym a); sender = λ n. says.sender n ∙ ap (λ f. f n) (sym b) };
      deliveries = λ t h. ap (λ f. f t ++ queue s' t) c ∙ delivered t h ∙ ap (λ f. f t) (sym d);
    }

module _ (s : State) (j : Journal) (l : length s.tasks ≡ 32) (m : Matches s j) (t p : ℕ) (r : Row 32 t) where
  created : Matches (moves.add_task s t p) (note_task j t (Some (new_task p)))
  created =
      let s' = moves.add_task s t p in
      let b = task_becomes s s' l t (Some (moves.new_task p)) r refl in
      tasks_only s s' j (note_task j t (Some (new_task p))) m (become_used s s' t (moves.new_task p) b) (task_noted s s' j m.tasks t b.others _ _ b.becomes refl) refl refl refl refl refl refl

  still_long : length (moves.add_task s t p).tasks ≡ 32
  still_long = length-set s.tasks (t - 1) (Some (moves.new_task p)) ∙ l

abbrev Furnished : State → Journal → List Creation → Type 0
Furnished s j cs = (length (furnish s cs).tasks ≡ 32) × Matches (furnish s cs) (furnished j (accepted cs (replies s cs)))

one_create : (s : State) (j : Journal) (c : Creation) (cs : List Creation) → length s.tasks ≡ 32 → Matches s j → ((s' : State) (j' : Journal) → length s'.tasks ≡ 32 → Matches s' j' → Furnished s' j' cs) → (o : Option Refusal) → (None ≡ o → Row 32 c.task) → let z = create_decided s o (moves.add_task s c.task c.priority) in (length (furnish z.0 cs).tasks ≡ 32) × Matches (furnish z.0 cs) (furnished j (with_accepted c z.1 (accepted cs (replies z.0 cs))))
one_create s j c cs l m on (Some r) row = on s j l m
one_create s j c cs l m on None row =
    let r = row refl in
    on (moves.add_task s c.task c.priority) (note_task j c.task (Some (new_task c.priority))) (still_long s j l m c.task c.priority r) (created s j l m c.task c.priority r)

pub furnish_matches : (s : State) (j : Journal) → length s.tasks ≡ 32 → Matches s j → (cs : List Creation) → Furnished s j cs
furnish_matches s j l m [] = (l, m)
furnish_matches s j l m (c ∷ cs) =
    one_create s j c cs l m (λ s' j' l' m'. furnish_matches s' j' l' m' cs) (first_no s (create_asks c.task c.priority))
    (λ e. in_range 1 32 c.task (all_yes s (create_asks c.task c.priority) e).0)

-- ---- starting

place_of : (t : ℕ) (xs : List ℕ) → 0 < times t xs → (i : ℕ) × (i < length xs) × (get_or xs i 0 ≡ t)
place_of t [] h = absurd (omega arith)
place_of t (x ∷ xs) h =
    ⊎_elim (λ e. (0, omega arith, e)) (λ more. let p = place_of t xs more in (suc p.0, omega (arith, p.1), p.2)) (times_cases t x xs h)

some_of : (o : Option Task) → option_is_some (option_map note o) ≡ true → UseOf.in_use o ≡ 1
some_of None e = absurd (both_ways false refl e)
some_of (Some x) e = refl

none_of : (o : Option Task) → UseOf.in_use o ≡ 0 → option_is_some (option_map note o) ≡ false
none_of None e = refl
none_of (Some x) e = absurd (omega arith)

is_some : (o : Option Task) → 0 < UseOf.in_use o → option_is_some (option_map note o) ≡ true
is_some None e = absurd (omega arith)
is_some (Some x) e = refl

module _ (s : State) (j : Journal) (k : Kept s) (m : Matches s j) where
  used_row : (t : ℕ) → 0 < UseOf.in_use (task s t) → Row 32 t
  used_row t u =
      ⊎_elim (numbers_row t) (λ f. absurd (let z = ap UseOf.in_use (numbers_none s.tasks t k.task_count f) in omega (arith, z, u))) (cases_Bool (UseOf.numbers t))

  in_order : (t : ℕ) → option_is_some (j.tasks t) ≡ true → 0 < times t s.order
  in_order t e = let u = some_of (task s t) (ap option_is_some (m.tasks t) ∙ e) in let o = k.ordered t in omega (arith, u, o)

  top_is : (order : List ℕ) → s.order ≡ order → first order ≡ greatest (λ t. option_is_some (j.tasks t)) (λ t. rank (j.tasks t)) 32
  top_is [] e =
      best_is (λ t. option_is_some (j.tasks t)) (λ t. rank (j.tasks t)) 32 0
      (λ _ t. sym (ap option_is_some (m.tasks t)) ∙ none_of (task s t) (sym (k.ordered t) ∙ ap (times t) e))
      (λ ne. absurd (ne refl))
      (λ t ne some. absurd (let i = in_order t some in let z = ap (times t) e in omega (arith, i, z)))
  top_is (x ∷ xs) e =
      let here = ap (times x) e ∙ times_here x xs in
      let held = is_some (task s x) (let o = k.ordered x in omega (arith, here, o)) in
      let row = used_row x (let o = k.ordered x in omega (arith, here, o)) in
      best_is (λ t. option_is_some (j.tasks t)) (λ t. rank (j.tasks t)) 32 x
      (λ z. absurd (omega (arith, row.0, z)))
      (λ _. (sym (ap option_is_some (m.tasks x)) ∙ held, row))
      (λ t ne some. let p = place_of t (x ∷ xs) (subst (λ order. 0 < times t order) e (in_order t some)) in later t ne some p.0 p.1 p.2)
    where
      later : (t : ℕ) → t ≢ x → option_is_some (j.tasks t) ≡ true → (i : ℕ) → i < length (x ∷ xs) → get_or (x ∷ xs) i 0 ≡ t → rank (j.tasks t) < rank (j.tasks x)
      later t ne some zero h q = absurd (ne (sym q))
      later t ne some (suc i) h q =
          let f = subst (λ order. suc i < length order → UseOf.rank (task s (get_or order (suc i) 0)) < UseOf.rank (task s (get_or order 0 0))) e (λ l. k.falling 0 (suc i) (omega arith) l) h in
          let a = ap (λ z. UseOf.rank (task s z)) q in
          let b = sym (rank_agree (task s t)) ∙ ap rank (m.tasks t) in
          let c = sym (rank_agree (task s x)) ∙ ap rank (m.tasks x) in
          omega (arith, f, a, b, c)

  ready_at : (t : ℕ) → t ≡ greatest (λ u. option_is_some (j.tasks u)) (λ u. rank (j.tasks u)) 32 → (o : Option Task) → task s t ≡ o → Matches (moves.rewritten s t (moves.in_condition Condition.Ready) o) (started j)
  ready_at t e None q =
      let kept = task_noted s s j m.tasks t (λ u _. refl) None (option_map (in_condition Condition.Ready) (j.tasks t)) q (ap (option_map (in_condition Condition.Ready)) (sym (ap (option_map note) q) ∙ m.tasks t)) in
      tasks_only s s j (started j) m (λ u e. e) (subst (λ z. Tasks s (change_task j z (in_condition Condition.Ready))) e kept) refl refl refl refl refl refl
  ready_at t e (Some x) q =
      let s' = moves.rewritten s t (moves.in_condition Condition.Ready) (Some x) in
      let row = used_row t (let z = ap UseOf.in_use q in omega (arith, z)) in
      let c = task_changes s k.task_count t row (moves.in_condition Condition.Ready) x q in
      let changed = task_changed s s' j m.tasks t c.others (in_condition Condition.Ready) (moves.in_condition Condition.Ready) (λ y. refl) c.becomes in
      tasks_only s s' j (started j) m (change_used s s' t (moves.in_condition Condition.Ready) c) (subst (λ z. Tasks s' (change_task j z (in_condition Condition.Ready))) e changed) refl refl refl refl refl refl

  pub start_matches : Matches (start s) (started j)
  start_matches = ready_at (first s.order) (top_is s.order refl) (task s (first s.order)) refl
