-- Each call does what is told of it.
use Rattle.std.proofs.Common.{◌≡◌, ℕ, ◌-◌, ◌<◌, Bool, true, false, [], ◌∷◌, ◌++◌, length, pos, negsuc, is_some, Some, None, Option, sym, refl, ap, ◌∙◌, subst, arith}
use lib.Bits.{bit_and}
use Rattle.std.specs.Option.{option_map}
use Rattle.std.proofs.lemmas.Bool.{both_ways, cond-true, cond-false, not-true}
use Rattle.chain.specs.Chain.{Row, first, tail}
use Rattle.packets.specs.declared.rows.Place.{Place}
use Rattle.packets.specs.Places.{blank}
use Rattle.packets.specs.View.{filled}
use Rattle.tasks.specs.declared.rows.Condition.{Condition}
use Rattle.tasks.specs.declared.rows.Task.{Task}
use Rattle.tables.specs.State.{State, task, used, packet, free, queue}
use Rattle.tables.specs.Running.{running}
use Rattle.tables.specs.Moves.{in_hands_of, new_task, in_condition, with_held, with_flags, take_free, put_free, to_queue, take_queued, add_task, remove_task, set_condition, set_held, set_flags, set_priority}
use Rattle.tables.specs.Kept.{Kept}
use Rattle.calls.specs.declared.Call.TheVariants.{Create, Delete, ChangePriority, Hold, Release, SetFlags, TestFlags, Claim, Drop, Send, Wait}
use Rattle.calls.specs.Questions.{number_unused, packets_home, yes, create_call_asks, delete_asks, priority_asks, hold_asks, release_asks, set_flags_asks, test_flags_asks, claim_asks, drop_asks, send_asks, wait_asks, task_known, task_runs, task_idle, packet_in_hands}
use Rattle.calls.specs.Steps.{waited, flags_of, add_flags, flags_among, clear_flags}
use Rattle.effects.specs.Told.{Created, Deleted, Reranked, Held, Flagged, Tested, Claimed, Dropped, Sent, Took, Waits, Told, CallsDoAsTold}
use Rattle.effects.proofs.Writes.{packet_becomes, list_same, queues_but, split, first_packet, no_task, task_becomes, rewritten_changes, rewritten_packets, reranked_becomes, reranked_packets}
use Rattle.effects.proofs.Flags.{none_left, others_stay}
use Rattle.effects.proofs.Asked.{by_questions, in_range, no_unit, known_row, known_used, runner, home, held_by, idle}

-- ---- tasks

created : (s : State) → Kept s → (t p : ℕ) → Row 32 t → yes s (number_unused t) ≡ true → Created s (add_task s t p) t p
created s k t p r unused =
    record {
      spare = no_task (task s t) (not-true (used s t) unused);
      task = task_becomes s (add_task s t p) k.task_count t (Some (new_task p)) r refl;
      packets = (refl, refl);
    }

deleted : (s : State) → Kept s → (t : ℕ) → yes s (task_known t) ≡ true → yes s (task_idle t) ≡ true → yes s (packets_home t) ≡ true → Deleted s (remove_task s t) t
deleted s k t known rests away =
    record {
      known = known_used s t known;
      idle = idle s t rests;
      home = home s k t away;
      task = task_becomes s (remove_task s t) k.task_count t None (known_row s t known) refl;
      packets = (refl, refl);
    }

flags_with : (bits : ℕ) (o : Option Task) → is_some o ≡ true → flags_of (option_map (with_flags bits) o) ≡ bits
flags_with bits None e = absurd (both_ways false refl e)
flags_with bits (Some x) e = refl

module _ (s : State) (k : Kept s) (t : ℕ) (r : Row 32 t) (u : used s t ≡ true) where
  reranked_told : (p : ℕ) → Reranked s (set_priority s t p) t p
  reranked_told p = record { known = u; task = reranked_becomes s k.task_count t r p u; packets = reranked_packets s t p (task s t) }

  held : (h : Bool) → Held s (set_held s t h) t h
  held h = record { known = u; task = rewritten_changes s k.task_count t r (with_held h) u; packets = rewritten_packets s t (with_held h) (task s t) }

  flagged : (bits : ℕ) → Flagged s (set_flags s t bits) t bits
  flagged bits =
      record { known = u; task = rewritten_changes s k.task_count t r (with_flags bits) u; packets = rewritten_packets s t (with_flags bits) (task s t) }

  now_flags : (bits : ℕ) → flags_of (task (clear_flags s t bits) t) ≡ flags_of (task s t) - flags_among s t bits
  now_flags bits =
      let left = flags_of (task s t) - flags_among s t bits in ap flags_of (flagged left).task.becomes ∙ flags_with left (task s t) u

tested : (s : State) → Kept s → (bits : ℕ) → yes s task_runs ≡ true → Tested s (clear_flags s (running s) bits) bits (flags_among s (running s) bits)
tested s k bits runs =
    let t = running s in
    let w = runner s k runs in
    let now = now_flags s k t w.0 w.1 bits in
    record {
      among = refl;
      flagged = flagged s k t w.0 w.1 _;
      none_left = ap (λ x. bit_and x bits) now ∙ none_left (flags_of (task s t)) bits;
      others_stay = λ other e. ap (λ x. bit_and x other) now ∙ others_stay (flags_of (task s t)) bits other e;
    }

-- ---- packets

claimed : (s : State) → Kept s → used s (running s) ≡ true → filled (free s) ≡ true → Claimed s (take_free s (running s)) (first (free s))
claimed s k runs f =
    let s' = take_free s (running s) in
    let at : 0 < length s.lists = omega (arith, k.list_count) in
    record {
      runs = runs;
      first = split (free s) f ∙ ap (λ xs. first (free s) ∷ xs) (sym (list_same s s' 0 (tail (free s)) at refl));
      packet = packet_becomes s s' (first (free s)) (blank (Place.Hands (running s))) k.packet_count (first_packet s k 0 f) refl;
      queues = queues_but s s' 0 (tail (free s)) refl;
      tasks = (refl, refl);
    }

dropped : (s : State) → Kept s → (n : ℕ) → yes s (packet_in_hands n) ≡ true → Row 64 n → Dropped s (put_free s n) n
dropped s k n mine r =
    let s' = put_free s n in
    let at : 0 < length s.lists = omega (arith, k.list_count) in
    record {
      held = held_by s n mine;
      last = list_same s s' 0 (free s ++ (n ∷ [])) at refl;
      packet = packet_becomes s s' n (blank Place.Free) k.packet_count r refl;
      queues = queues_but s s' 0 (free s ++ (n ∷ [])) refl;
      tasks = (refl, refl);
    }

sent : (s : State) → Kept s → used s (running s) ≡ true → (t n kind x y : ℕ) → Row 64 n → yes s (packet_in_hands n) ≡ true → yes s (task_known t) ≡ true → Sent s (to_queue s n t (pos (running s)) kind x y) t n kind x y
sent s k runs t n kind x y r mine known =
    let rt = known_row s t known in
    let s' = to_queue s n t (pos (running s)) kind x y in
    let at : t < length s.lists = omega (arith, k.list_count, rt.1) in
    record {
      held = held_by s n mine;
      runs = runs;
      known = known_used s t known;
      last = list_same s s' t (queue s t ++ (n ∷ [])) at refl;
      packet = packet_becomes s s' n _ k.packet_count r refl;
      queues = queues_but s s' t (queue s t ++ (n ∷ [])) refl;
      tasks = (refl, refl);
    }

-- ---- waiting

module _ (s : State) (k : Kept s) (t : ℕ) (r : Row 32 t) (u : used s t ≡ true) where
  took : filled (queue s t) ≡ true → Took s (set_condition (take_queued s t) t Condition.Ready) t (first (queue s t))
  took f =
      let mid = take_queued s t in
      let s' = set_condition mid t Condition.Ready in
      let at : t < length s.lists = omega (arith, k.list_count, r.1) in
      let n = first (queue s t) in
      let stay = rewritten_packets mid t (in_condition Condition.Ready) (task s t) in
      let c = rewritten_changes mid k.task_count t r (in_condition Condition.Ready) u in
      record {
        first = split (queue s t) f ∙ ap (λ xs. n ∷ xs) (sym (list_same s s' t (tail (queue s t)) at stay.1));
        packet = packet_becomes s s' n (in_hands_of t (packet s n)) k.packet_count (first_packet s k t f) stay.0;
        queues = queues_but s s' t (tail (queue s t)) stay.1;
        known = u;
        task = record { becomes = c.becomes; others = c.others; order = c.order };
      }

  waits : Waits s (set_condition s t Condition.Waiting) t 0
  waits =
      let stay = rewritten_packets s t (in_condition Condition.Waiting) (task s t) in
      record { none = refl; packets = stay.0; lists = stay.1; known = u; task = rewritten_changes s k.task_count t r (in_condition Condition.Waiting) u }

  waited_told : (filled (queue s t) ≡ true → Took s (waited s t).0 t (waited s t).1) × (filled (queue s t) ≡ false → Waits s (waited s t).0 t (waited s t).1)
  waited_told =
      let q = filled (queue s t) in (
        λ f. subst (λ (z : State × ℕ). Took s z.0 t z.1) (sym (cond-true q _ _ f)) (took f),
        λ f. subst (λ (z : State × ℕ). Waits s z.0 t z.1) (sym (cond-false q _ _ f)) waits,
      )

-- ---- the calls

pub calls_do_as_told : CallsDoAsTold
calls_do_as_told s k (Create t p) =
    by_questions s (create_call_asks t p) (add_task s t p, 0) (Told s (Create t p)) (λ r. refl)
    (λ a. (refl, created s k t p (in_range 1 32 t a.1.1.0) a.1.1.1.0))
calls_do_as_told s k (Delete t) =
    by_questions s (delete_asks t) (remove_task s t, 0) (Told s (Delete t)) (λ r. refl)
    (λ a. (refl, deleted s k t a.1.1.0 a.1.1.1.0 a.1.1.1.1.0))
calls_do_as_told s k (ChangePriority t p) =
    by_questions s (priority_asks t p) (set_priority s t p, 0) (Told s (ChangePriority t p)) (λ r. refl)
    (λ a. (refl, reranked_told s k t (known_row s t a.1.1.0) (known_used s t a.1.1.0) p))
calls_do_as_told s k (Hold t) =
    by_questions s (hold_asks t) (set_held s t true, 0) (Told s (Hold t)) (λ r. refl)
    (λ a. (refl, held s k t (known_row s t a.1.1.0) (known_used s t a.1.1.0) true))
calls_do_as_told s k (Release t) =
    by_questions s (release_asks t) (set_held s t false, 0) (Told s (Release t)) (λ r. refl)
    (λ a. (refl, held s k t (known_row s t a.1.1.0) (known_used s t a.1.1.0) false))
calls_do_as_told s k (SetFlags t bits) =
    by_questions s (set_flags_asks t) (add_flags s t bits, 0) (Told s (SetFlags t bits)) (λ r. refl)
    (λ a. (refl, flagged s k t (known_row s t a.1.1.0) (known_used s t a.1.1.0) _))
calls_do_as_told s k (TestFlags bits) =
    by_questions s test_flags_asks (clear_flags s (running s) bits, flags_among s (running s) bits) (Told s (TestFlags bits)) (λ r. refl)
    (λ a. tested s k bits a.0)
calls_do_as_told s k Claim =
    by_questions s claim_asks (take_free s (running s), first (free s)) (Told s Claim) (λ r. refl) (λ a. claimed s k (runner s k a.0).1 a.1.1.0)
calls_do_as_told s k (Drop n) =
    by_questions s (drop_asks n) (put_free s n, 0) (Told s (Drop n)) (λ r. refl) (λ a. (refl, dropped s k n a.1.1.1.0 (in_range 1 64 n a.1.1.0)))
calls_do_as_told s k (Send (pos t) n kind x y) =
    by_questions s (send_asks (pos t) n) (to_queue s n t (pos (running s)) kind x y, 0) (Told s (Send (pos t) n kind x y)) (λ r. refl)
    (λ a. (refl, sent s k (runner s k a.0).1 t n kind x y (in_range 1 64 n a.1.1.0) a.1.1.1.0 a.1.1.1.1.0))
calls_do_as_told s k (Send (negsuc u) n kind x y) =
    by_questions s (send_asks (negsuc u) n) (to_queue s n 0 (pos (running s)) kind x y, 0) (Told s (Send (negsuc u) n kind x y)) (λ r. refl)
    (λ a. absurd (no_unit u a.1.1.1.1.0))
calls_do_as_told s k Wait =
    by_questions s wait_asks (waited s (running s)) (Told s Wait) (λ r. refl) (λ a. let w = runner s k a.0 in waited_told s k (running s) w.0 w.1)
