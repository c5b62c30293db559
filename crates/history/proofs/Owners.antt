-- Packets are with tasks in use, whatever a call does.
use Rattle.std.proofs.Common.{◌≡◌, ℕ, suc, ◌-◌, ◌<◌, ◌≤◌, true, false, ◌&&◌, eqb, leb, ◌≢◌, get_or, pos, negsuc, is_some, Some, None, Ok, Option, sym, refl, ap, ◌∙◌, subst, ⊎_elim, arith}
use Rattle.std.proofs.lemmas.Bool.{cases_Bool, cases_eq, both_ways, cond-false, and_parts, or_parts, eqb-true, leb-true, ne_eqb}
use Rattle.std.specs.Option.{option_map}
use Rattle.packets.specs.declared.rows.Packet.{Packet}
use Rattle.packets.specs.declared.rows.Place.{Place}
use Rattle.packets.specs.Places.{with_task, from_task, involves, blank}
use Rattle.packets.specs.View.{packet as packet_in}
use Rattle.tasks.specs.declared.rows.Task.{Task}
use Rattle.tasks.specs.Use.{task_at}
use Rattle.tables.specs.State.{State, task, used, packet}
use Rattle.tables.specs.Running.{running}
use Rattle.tables.specs.Kept.{Kept}
use Rattle.calls.specs.declared.Call.{Call}
use Rattle.calls.specs.declared.Call.TheVariants.{Create, Delete, ChangePriority, Hold, Release, SetFlags, TestFlags, Claim, Drop, Send, Wait}
use Rattle.effects.specs.Told.{PacketBecomes, TaskBecomes, TaskChanges, Deleted, Told}
use Rattle.history.specs.Law.{Owned}
use Rattle.history.proofs.Waits.{WaitsOrTakes, waits, takes, waits_or_takes}

-- a free packet is with nobody and from nobody
pub nobody : (t : ℕ) → 0 < t → from_task t (pos 0) ≡ false
nobody t h = ne_eqb 0 t (λ e. omega (arith, h, e))

-- ---- tasks that stay in use

some_still : (f : Task → Task) (o : Option Task) → is_some o ≡ true → is_some (option_map f o) ≡ true
some_still f None e = absurd (both_ways false refl e)
some_still f (Some x) e = refl

module _ (s s' : State) (t : ℕ) where
  pub become_used : (x : Task) → TaskBecomes s s' t (Some x) → (u : ℕ) → used s u ≡ true → used s' u ≡ true
  become_used x b u e =
      ⊎_elim (λ q. ap (λ z. is_some (task s' z)) q ∙ ap is_some b.becomes) (λ ne. ap is_some (b.others u ne) ∙ e) (cases_eq u t)

  still : (f : Task → Task) → task s' t ≡ option_map f (task s t) → ((u : ℕ) → u ≢ t → task s' u ≡ task s u) → (u : ℕ) → used s u ≡ true → used s' u ≡ true
  still f here others u e =
      ⊎_elim (λ q. ap (λ z. is_some (task s' z)) q ∙ ap is_some here ∙ some_still f (task s t) (ap (λ z. is_some (task s z)) (sym q) ∙ e)) (λ ne. ap is_some (others u ne) ∙ e) (cases_eq u t)

  pub change_used : (f : Task → Task) → TaskChanges s s' t f → (u : ℕ) → used s u ≡ true → used s' u ≡ true
  change_used f c = still f c.becomes c.others

-- ---- packets that stay, and one that moves

module _ (s s' : State) (owned : Owned s) (on : (u : ℕ) → used s u ≡ true → used s' u ≡ true) where
  pub packets_owned : s'.packets ≡ s.packets → Owned s'
  packets_owned e =
      let same : (n : ℕ) → packet s n ≡ packet s' n = λ n. ap (λ ps. packet_in (record { packets = ps; lists = s.lists }) n) (sym e) in
      record {
        holder = λ n t i. on t (owned.holder n t (ap (λ p. with_task t p.place) (same n) ∙ i));
        sender = λ n t h i. on t (owned.sender n t h (ap (λ p. from_task t p.sender) (same n) ∙ i));
      }

  packet_owned : (n : ℕ) (p : Packet) → PacketBecomes s s' n p → ((t : ℕ) → with_task t p.place ≡ true → used s t ≡ true) → ((t : ℕ) → 0 < t → from_task t p.sender ≡ true → used s t ≡ true) → Owned s'
  packet_owned n p b held sent =
      record {
        holder = λ m t i. on t (⊎_elim (λ q. held t (ap (λ z. with_task t z.place) (sym (ap (packet s') q ∙ b.becomes)) ∙ i))
            (λ ne. owned.holder m t (ap (λ z. with_task t z.place) (sym (b.others m ne)) ∙ i)) (cases_eq m n));
        sender = λ m t h i. on t (⊎_elim (λ q. sent t h (ap (λ z. from_task t z.sender) (sym (ap (packet s') q ∙ b.becomes)) ∙ i))
            (λ ne. owned.sender m t h (ap (λ z. from_task t z.sender) (sym (b.others m ne)) ∙ i)) (cases_eq m n));
      }

same_task : (s s' : State) → s'.tasks ≡ s.tasks → (u : ℕ) → used s u ≡ true → used s' u ≡ true
same_task s s' e u i = ap (λ ts. is_some (task_at ts u)) e ∙ i

named_task : (s : State) (r t : ℕ) → used s r ≡ true → eqb r t ≡ true → used s t ≡ true
named_task s r t u e = subst (λ z. used s z ≡ true) (eqb-true r t e) u

from_nobody : (s : State) (t : ℕ) → 0 < t → from_task t (pos 0) ≡ true → used s t ≡ true
from_nobody s t h i = absurd (both_ways (from_task t (pos 0)) (nobody t h) i)

-- a deleted task has no packet, and a number out of range shows a free one
module _ (s : State) (t : ℕ) (home : (n : ℕ) → 0 < n → n ≤ 64 → involves t (packet s n) ≡ false) (n : ℕ) where
  apart : (P : Packet → Type 0) → P (blank Place.Free) → (involves t (packet s n) ≡ false → P (packet s n)) → P (packet s n)
  apart P out within =
      ⊎_elim (λ e. let r = and_parts (leb 1 n) (leb n 64) e in within (home n (leb-true 1 n r.0) (leb-true n 64 r.1)))
      (λ f. subst P (sym (cond-false (leb 1 n && leb n 64) (get_or s.packets (n - 1) (blank Place.Free)) (blank Place.Free) f)) out) (cases_Bool (leb 1 n && leb n 64))

  not_held : with_task t (packet s n).place ≡ false
  not_held = apart (λ p. with_task t p.place ≡ false) refl (λ e. (or_parts (with_task t (packet s n).place) (from_task t (packet s n).sender) e).0)

  not_sent : 0 < t → from_task t (packet s n).sender ≡ false
  not_sent h = apart (λ p. from_task t p.sender ≡ false) (nobody t h) (λ e. (or_parts (with_task t (packet s n).place) (from_task t (packet s n).sender) e).1)

deleted_owned : (s s' : State) (t : ℕ) → Owned s → Deleted s s' t → Owned s'
deleted_owned s s' t owned d =
    let same : (n : ℕ) → packet s n ≡ packet s' n = λ n. ap (λ ps. packet_in (record { packets = ps; lists = s.lists }) n) (sym d.packets.0) in
    let still : (u : ℕ) → u ≢ t → used s u ≡ true → used s' u ≡ true = λ u ne e. ap is_some (d.task.others u ne) ∙ e in
    record {
      holder = λ n u i. let was = ap (λ p. with_task u p.place) (same n) ∙ i in
          ⊎_elim (λ q. absurd (both_ways (with_task u (packet s n).place) (ap (λ z. with_task z (packet s n).place) q ∙ not_held s t d.home n) was))
          (λ ne. still u ne (owned.holder n u was)) (cases_eq u t);
      sender = λ n u h i. let was = ap (λ p. from_task u p.sender) (same n) ∙ i in
          ⊎_elim (λ q. absurd (both_ways (from_task u (packet s n).sender) (ap (λ z. from_task z (packet s n).sender) q ∙ not_sent s t d.home n (subst (λ z. 0 < z) q h)) was))
          (λ ne. still u ne (owned.sender n u h was)) (cases_eq u t);
    }

-- ---- what is told of a call that was done

pub owned_done : (s s' : State) → Kept s → Owned s → (c : Call) (v : ℕ) → Told s c (Ok v) s' → Owned s'
owned_done s s' k owned (Create t p) v told = packets_owned s s' owned (become_used s s' t _ told.1.task) told.1.packets.0
owned_done s s' k owned (Delete t) v told = deleted_owned s s' t owned told.1
owned_done s s' k owned (ChangePriority t p) v told =
    packets_owned s s' owned (still s s' t _ told.1.task.becomes told.1.task.others) told.1.packets.0
owned_done s s' k owned (Hold t) v told = packets_owned s s' owned (change_used s s' t _ told.1.task) told.1.packets.0
owned_done s s' k owned (Release t) v told = packets_owned s s' owned (change_used s s' t _ told.1.task) told.1.packets.0
owned_done s s' k owned (SetFlags t bits) v told = packets_owned s s' owned (change_used s s' t _ told.1.task) told.1.packets.0
owned_done s s' k owned (TestFlags bits) v told =
    packets_owned s s' owned (change_used s s' (running s) _ told.flagged.task) told.flagged.packets.0
owned_done s s' k owned Claim v told =
    packet_owned s s' owned (same_task s s' told.tasks.0) v _ told.packet (λ t i. named_task s (running s) t told.runs i) (from_nobody s)
owned_done s s' k owned (Drop n) v told =
    packet_owned s s' owned (same_task s s' told.1.tasks.0) n _ told.1.packet (λ t i. absurd (both_ways false refl i)) (from_nobody s)
owned_done s s' k owned (Send (pos a) n kind x y) v told =
    packet_owned s s' owned (same_task s s' told.1.tasks.0) n _ told.1.packet (λ t i. named_task s a t told.1.known i) (λ t h i. named_task s (running s) t told.1.runs i)
owned_done s s' k owned (Send (negsuc u) n kind x y) v told = absurd told
owned_done s s' k owned Wait v told = waited (waits_or_takes s s' v k told)
  where
    waited : WaitsOrTakes s s' v → Owned s'
    waited (waits e w) = packets_owned s s' owned (change_used s s' (running s) _ w.task) w.packets
    waited (takes n e r w) =
        packet_owned s s' owned (change_used s s' (running s) _ w.task) (suc n) _ w.packet (λ t i. named_task s (running s) t w.known i) (λ t h i. owned.sender (suc n) t h i)
