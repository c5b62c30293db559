-- What was taken and what is queued remain what was delivered, whatever a call does.
use Rattle.std.proofs.Common.{◌≡◌, ℕ, suc, ◌<◌, [], ◌∷◌, ◌++◌, get_or, pos, negsuc, Ok, sym, ap, ◌∙◌, subst, ⊎_elim, arith}
use Rattle.std.proofs.lemmas.List.{append_assoc}
use Rattle.std.proofs.lemmas.Bool.{cases_eq}
use Rattle.tables.specs.State.{State, queue}
use Rattle.tables.specs.Running.{running}
use Rattle.tables.specs.Kept.{Kept}
use Rattle.calls.specs.declared.Call.{Call}
use Rattle.calls.specs.declared.Call.TheVariants.{Create, Delete, ChangePriority, Hold, Release, SetFlags, TestFlags, Claim, Drop, Send, Wait}
use Rattle.effects.specs.Told.{QueuesBut, Told}
use Rattle.history.specs.Journal.{Journal, deliver, take, enter_done, enter_wait}
use Rattle.history.specs.Law.{Deliveries}
use Rattle.history.proofs.Noting.{noted_same, noted_other}
use Rattle.history.proofs.Waits.{WaitsOrTakes, waits, takes, waits_or_takes}

module _ (s s' : State) (j : Journal) (agree : Deliveries s j) where
  -- a call that moves no queue
  pub queues_stay : QueuesBut s s' 0 → Deliveries s' j
  queues_stay same t h = ap (λ q. j.taken t ++ q) (same t (λ e. omega (arith, h, e))) ∙ agree t h

  pub lists_stay : s'.lists ≡ s.lists → Deliveries s' j
  lists_stay e = queues_stay (λ t _. ap (λ ls. get_or ls t []) e)

  module _ (t n : ℕ) (others : QueuesBut s s' t) where
    pub delivered : queue s' t ≡ queue s t ++ (n ∷ []) → Deliveries s' (deliver j t n)
    delivered last u h =
        ⊎_elim
        (λ e. subst (λ z. j.taken z ++ queue s' z ≡ (deliver j t n).deliveries z) (sym e)
        (ap (λ q. j.taken t ++ q) last ∙ sym (append_assoc (j.taken t) (queue s t) (n ∷ [])) ∙ ap (λ q. q ++ (n ∷ [])) (agree t (subst (λ z. 0 < z) e h))
        ∙ sym (noted_same t (j.deliveries t ++ (n ∷ [])) j.deliveries)))
        (λ ne. ap (λ q. j.taken u ++ q) (others u ne) ∙ agree u h ∙ sym (noted_other t (j.deliveries t ++ (n ∷ [])) j.deliveries u ne)) (cases_eq u t)

    pub took : queue s t ≡ n ∷ queue s' t → Deliveries s' (take j t n)
    took first u h =
        ⊎_elim
        (λ e. subst (λ z. (take j t n).taken z ++ queue s' z ≡ j.deliveries z) (sym e)
        (ap (λ q. q ++ queue s' t) (noted_same t (j.taken t ++ (n ∷ [])) j.taken) ∙ append_assoc (j.taken t) (n ∷ []) (queue s' t)
        ∙ ap (λ q. j.taken t ++ q) (sym first) ∙ agree t (subst (λ z. 0 < z) e h)))
        (λ ne. ap (λ q. q ++ queue s' u) (noted_other t (j.taken t ++ (n ∷ [])) j.taken u ne) ∙ ap (λ q. j.taken u ++ q) (others u ne) ∙ agree u h) (cases_eq u t)

-- what is told of a call that was done
pub deliveries_done : (s s' : State) (j : Journal) → Kept s → Deliveries s j → (c : Call) (v : ℕ) → Told s c (Ok v) s' → Deliveries s' (enter_done j (running s) c v)
deliveries_done s s' j k agree (Create t p) v told = lists_stay s s' j agree told.1.packets.1
deliveries_done s s' j k agree (Delete t) v told = lists_stay s s' j agree told.1.packets.1
deliveries_done s s' j k agree (ChangePriority t p) v told = lists_stay s s' j agree told.1.packets.1
deliveries_done s s' j k agree (Hold t) v told = lists_stay s s' j agree told.1.packets.1
deliveries_done s s' j k agree (Release t) v told = lists_stay s s' j agree told.1.packets.1
deliveries_done s s' j k agree (SetFlags t bits) v told = lists_stay s s' j agree told.1.packets.1
deliveries_done s s' j k agree (TestFlags bits) v told = lists_stay s s' j agree told.flagged.packets.1
deliveries_done s s' j k agree Claim v told = queues_stay s s' j agree told.queues
deliveries_done s s' j k agree (Drop n) v told = queues_stay s s' j agree told.1.queues
deliveries_done s s' j k agree (Send (pos t) n kind x y) v told = delivered s s' j agree t n told.1.queues told.1.last
deliveries_done s s' j k agree (Send (negsuc u) n kind x y) v told = absurd told
deliveries_done s s' j k agree Wait v told = waited (waits_or_takes s s' v k told)
  where
    waited : WaitsOrTakes s s' v → Deliveries s' (enter_wait j (running s) v)
    waited (waits e w) = subst (λ z. Deliveries s' (enter_wait j (running s) z)) (sym e) (lists_stay s s' j agree w.lists)
    waited (takes n e r w) = subst (λ z. Deliveries s' (enter_wait j (running s) z)) (sym e) (took s s' j agree (running s) (suc n) w.queues w.first)
