-- A packet, a list and a task after a write.
use Rattle.std.proofs.Common.{◌≡◌, ℕ, zero, suc, ◌-◌, ◌<◌, true, false, cond, ◌&&◌, leb, ◌≢◌, ◌⊎◌, List, [], ◌∷◌, map, length, get_or, set, is_some, Some, None, Option, sym, refl, ap, ◌∙◌, subst, inl, inr, ⊎_elim, arith, length-set}
use lib.ListN.{length-map}
use Rattle.std.specs.Option.{option_map}
use Rattle.std.proofs.lemmas.List.{get_or-set_same, get_or-set_other, get_or_past}
use Rattle.std.proofs.lemmas.Bool.{cases_Bool, cases_eq, cases_lt, both_ways, cond-false, and_parts, leb-true}
use Rattle.chain.specs.Times.{times}
use Rattle.chain.specs.Chain.{Row, first, tail}
use Rattle.chain.proofs.Times.{times_here}
use Rattle.packets.specs.declared.rows.Packet.{Packet}
use Rattle.packets.specs.declared.rows.Place.{Place}
use Rattle.packets.specs.Places.{stands, place_at, blank}
use Rattle.packets.specs.View.{filled}
use Rattle.packets.proofs.Moves.{packet_is}
use Rattle.tasks.specs.declared.rows.Task.{Task}
use Rattle.tasks.proofs.Numbers.{task_same, task_other, some_task}
use Rattle.tables.specs.State.{State, packet_part, task, used, packet, queue}
use Rattle.tables.specs.Moves.{with_priority, rewritten, remove_task, reranked, set_priority}
use Rattle.tables.specs.Kept.{Kept}
use Rattle.effects.specs.Told.{PacketBecomes, QueuesBut, PacketsStay, TaskBecomes, TaskChanges}

-- ---- packets

pub packet_same : (s s' : State) (n : ℕ) (p : Packet) → length s.packets ≡ 64 → Row 64 n → s'.packets ≡ set s.packets (n - 1) p → packet s' n ≡ p
packet_same s s' n p l r e =
    packet_is (packet_part s') n r ∙ ap (λ ps. get_or ps (n - 1) (blank Place.Free)) e ∙ get_or-set_same s.packets (n - 1) p (blank Place.Free) (omega (arith, r.0, r.1))

pub packet_other : (s s' : State) (n m : ℕ) (p : Packet) → Row 64 n → m ≢ n → s'.packets ≡ set s.packets (n - 1) p → packet s' m ≡ packet s m
packet_other s s' n m p r ne e =
    ⊎_elim
    (λ t. let q = and_parts (leb 1 m) (leb m 64) t in let a = leb-true 1 m q.0 in
    ap (λ ps. cond (leb 1 m && leb m 64) (get_or ps (m - 1) (blank Place.Free)) (blank Place.Free)) e ∙
    ap (λ x. cond (leb 1 m && leb m 64) x (blank Place.Free)) (get_or-set_other s.packets (n - 1) (m - 1) p (blank Place.Free) (omega (arith, r.0, a))))
    (λ f. cond-false (leb 1 m && leb m 64) _ (blank Place.Free) f ∙ sym (cond-false (leb 1 m && leb m 64) _ (blank Place.Free) f))
    (cases_Bool (leb 1 m && leb m 64))

pub packet_becomes : (s s' : State) (n : ℕ) (p : Packet) → length s.packets ≡ 64 → Row 64 n → s'.packets ≡ set s.packets (n - 1) p → PacketBecomes s s' n p
packet_becomes s s' n p l r e = record { becomes = packet_same s s' n p l r e; others = λ m ne. packet_other s s' n m p r ne e }

-- ---- lists

pub list_same : (s s' : State) (i : ℕ) (xs : List ℕ) → i < length s.lists → s'.lists ≡ set s.lists i xs → queue s' i ≡ xs
list_same s s' i xs h e = ap (λ ls. get_or ls i []) e ∙ get_or-set_same s.lists i xs [] h

pub queues_but : (s s' : State) (i : ℕ) (xs : List ℕ) → s'.lists ≡ set s.lists i xs → QueuesBut s s' i
queues_but s s' i xs e u ne = ap (λ ls. get_or ls u []) e ∙ get_or-set_other s.lists i u xs [] ne

-- the first of a list with a packet is a packet
pub split : (xs : List ℕ) → filled xs ≡ true → xs ≡ first xs ∷ tail xs
split [] e = absurd (both_ways false refl e)
split (x ∷ xs) e = refl

nowhere : (places : List Place) (n i : ℕ) → (n ≡ 0) ⊎ (length places < n) → stands (place_at places n) i ≡ 0
nowhere places zero i h = refl
nowhere places (suc k) i h = ap (λ p. stands p i) (get_or_past places k (Place.Hands 0) (⊎_elim (λ e. absurd (omega arith)) (λ l. omega arith) h))

pub first_packet : (s : State) → Kept s → (i : ℕ) → filled (queue s i) ≡ true → Row 64 (first (queue s i))
first_packet s k i f =
    let n = first (queue s i) in
    let here = ap (times n) (split (queue s i) f) ∙ times_here n (tail (queue s i)) in
    let on = k.placed i n in
    let l = length-map s.packets (λ p. p.place) ∙ k.packet_count in
    ⊎_elim (λ z. absurd (let w = nowhere (map (λ p. p.place) s.packets) n i (inl z) in omega (arith, here, on, w)))
    (λ nz. ⊎_elim (λ lt. (omega (arith, nz), omega (arith, lt)))
    (λ ge. absurd (let w = nowhere (map (λ p. p.place) s.packets) n i (inr (omega (arith, ge, l))) in omega (arith, here, on, w))) (cases_lt n 65)) (cases_eq n 0)

-- ---- tasks

-- a number in use has a task, and one that is not has none
pub no_task : (o : Option Task) → is_some o ≡ false → o ≡ None
no_task None e = refl
no_task (Some x) e = absurd (both_ways true e refl)

pub task_becomes : (s s' : State) → length s.tasks ≡ 32 → (t : ℕ) (x : Option Task) → Row 32 t → s'.tasks ≡ set s.tasks (t - 1) x → TaskBecomes s s' t x
task_becomes s s' l t x r e =
    record {
      becomes = ap (λ ts. get_or (None ∷ ts) t None) e ∙ task_same s.tasks t x (r.0, omega (arith, r.1, l));
      others = λ u ne. ap (λ ts. get_or (None ∷ ts) u None) e ∙ task_other s.tasks t x u r.0 ne;
    }

-- a task in use, rewritten in its place
module _ (s : State) (count : length s.tasks ≡ 32) (t : ℕ) (r : Row 32 t) (f : Task → Task) where
  pub task_changes : (x : Task) → task s t ≡ Some x → TaskChanges s (rewritten s t f (Some x)) t f
  task_changes x e =
      let b = task_becomes s (rewritten s t f (Some x)) count t (Some (f x)) r refl in
      record { becomes = b.becomes ∙ sym (ap (option_map f) e); others = b.others; order = refl }

  pub rewritten_changes : used s t ≡ true → TaskChanges s (rewritten s t f (task s t)) t f
  rewritten_changes u = let x = some_task (task s t) u in subst (λ o. TaskChanges s (rewritten s t f o) t f) (sym x.1) (task_changes x.0 x.1)

pub rewritten_packets : (s : State) (t : ℕ) (f : Task → Task) (o : Option Task) → PacketsStay s (rewritten s t f o)
rewritten_packets s t f None = (refl, refl)
rewritten_packets s t f (Some x) = (refl, refl)

-- a task in use, at another priority
module _ (s : State) (count : length s.tasks ≡ 32) (t : ℕ) (r : Row 32 t) (p : ℕ) where
  reranked_some : (x : Task) → task s t ≡ Some x → TaskBecomes s (reranked s t p (Some x)) t (option_map (with_priority p) (task s t))
  reranked_some x e =
      let gone = task_becomes s (remove_task s t) count t None r refl in
      let back = task_becomes (remove_task s t) (reranked s t p (Some x)) (length-set s.tasks (t - 1) None ∙ count) t (Some (with_priority p x)) r refl in
      record { becomes = back.becomes ∙ sym (ap (option_map (with_priority p)) e); others = λ u ne. back.others u ne ∙ gone.others u ne }

  pub reranked_becomes : used s t ≡ true → TaskBecomes s (set_priority s t p) t (option_map (with_priority p) (task s t))
  reranked_becomes u =
      let x = some_task (task s t) u in subst (λ o. TaskBecomes s (reranked s t p o) t (option_map (with_priority p) (task s t))) (sym x.1) (reranked_some x.0 x.1)

pub reranked_packets : (s : State) (t p : ℕ) (o : Option Task) → PacketsStay s (reranked s t p o)
reranked_packets s t p None = (refl, refl)
reranked_packets s t p (Some x) = (refl, refl)
