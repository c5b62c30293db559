-- Each packet remains where the journal has it, whatever a call does.
use Rattle.std.proofs.Common.{◌≡◌, ℕ, zero, suc, ◌-◌, map, length, get_or, ℤ, pos, negsuc, Ok, sym, refl, ap, ◌∙◌, subst, arith}
use Rattle.std.proofs.lemmas.List.{get_or-map}
use Rattle.chain.specs.Chain.{Row}
use Rattle.packets.specs.declared.rows.Packet.{Packet}
use Rattle.packets.specs.declared.rows.Place.{Place}
use Rattle.packets.specs.Places.{stands, place_at, blank}
use Rattle.packets.specs.View.{packet as packet_in}
use Rattle.packets.proofs.Moves.{packet_is}
use Rattle.tables.specs.State.{State, packet_part, packet}
use Rattle.tables.specs.Running.{running}
use Rattle.tables.specs.Kept.{Kept}
use Rattle.calls.specs.declared.Call.{Call}
use Rattle.calls.specs.declared.Call.TheVariants.{Create, Delete, ChangePriority, Hold, Release, SetFlags, TestFlags, Claim, Drop, Send, Wait}
use Rattle.effects.specs.Told.{PacketBecomes, Told}
use Rattle.history.specs.Journal.{Journal, move, enter_done, enter_wait}
use Rattle.history.specs.Law.{Places}
use Rattle.history.proofs.Noting.{noted_agrees}
use Rattle.history.proofs.Waits.{WaitsOrTakes, waits, takes, waits_or_takes}

-- what the packets say of themselves is what these have; a note that is not about packets leaves them as they are
pub record Said (s : State) (places : ℕ → Place) (senders : ℕ → ℤ) : Type 0 where
  pub place : (n : ℕ) → (packet s n).place ≡ places n
  pub sender : (n : ℕ) → (packet s n).sender ≡ senders n

abbrev pub Says : State → Journal → Type 0
Says s j = Said s j.places j.senders

module _ (s s' : State) (j : Journal) (says : Says s j) where
  pub packets_stay : s'.packets ≡ s.packets → Says s' j
  packets_stay e =
      let same : (n : ℕ) → packet s' n ≡ packet s n = λ n. ap (λ ps. packet_in (record { packets = ps; lists = s.lists }) n) e in
      record { place = λ n. ap (λ p. p.place) (same n) ∙ says.place n; sender = λ n. ap (λ p. p.sender) (same n) ∙ says.sender n }

  pub packet_moved : (n : ℕ) (p : Packet) (sender : ℤ) → PacketBecomes s s' n p → p.sender ≡ sender → Says s' (move j n p.place sender)
  packet_moved n p sender b e =
      record {
        place = noted_agrees n p.place j.places (λ m. (packet s m).place) (λ m. (packet s' m).place) says.place (ap (λ q. q.place) b.becomes) (λ m ne. ap (λ q. q.place) (b.others m ne));
        sender = noted_agrees n sender j.senders (λ m. (packet s m).sender) (λ m. (packet s' m).sender) says.sender (ap (λ q. q.sender) b.becomes ∙ e) (λ m ne. ap (λ q. q.sender) (b.others m ne));
      }

-- what is told of a call that was done
pub says_done : (s s' : State) (j : Journal) → Kept s → Says s j → (c : Call) (v : ℕ) → Told s c (Ok v) s' → Says s' (enter_done j (running s) c v)
says_done s s' j k says (Create t p) v told = packets_stay s s' j says told.1.packets.0
says_done s s' j k says (Delete t) v told = packets_stay s s' j says told.1.packets.0
says_done s s' j k says (ChangePriority t p) v told = packets_stay s s' j says told.1.packets.0
says_done s s' j k says (Hold t) v told = packets_stay s s' j says told.1.packets.0
says_done s s' j k says (Release t) v told = packets_stay s s' j says told.1.packets.0
says_done s s' j k says (SetFlags t bits) v told = packets_stay s s' j says told.1.packets.0
says_done s s' j k says (TestFlags bits) v told = packets_stay s s' j says told.flagged.packets.0
says_done s s' j k says Claim v told = packet_moved s s' j says v _ (pos 0) told.packet refl
says_done s s' j k says (Drop n) v told = packet_moved s s' j says n _ (pos 0) told.1.packet refl
says_done s s' j k says (Send (pos t) n kind x y) v told =
    packet_moved s s' j says n _ (pos (running s)) told.1.packet refl
says_done s s' j k says (Send (negsuc u) n kind x y) v told = absurd told
says_done s s' j k says Wait v told = waited (waits_or_takes s s' v k told)
  where
    waited : WaitsOrTakes s s' v → Says s' (enter_wait j (running s) v)
    waited (waits e w) = subst (λ z. Says s' (enter_wait j (running s) z)) (sym e) (packets_stay s s' j says w.packets)
    waited (takes n e r w) =
        subst (λ z. Says s' (enter_wait j (running s) z)) (sym e)
        (packet_moved s s' j says (suc n) _ (j.senders (suc n)) w.packet (says.sender (suc n)))

-- ---- and nothing else holds it

pub place_at_is : (s : State) → length s.packets ≡ 64 → (n : ℕ) → Row 64 n → place_at (map (λ p. p.place) s.packets) n ≡ (packet s n).place
place_at_is s l zero r = absurd (omega (arith, r.0))
place_at_is s l (suc k) r =
    let e : suc k - 1 ≡ k = omega arith in
    get_or-map (λ p. p.place) s.packets k (blank Place.Free) (Place.Hands 0) (omega (arith, r.1, l)) ∙
    sym (ap (λ p. p.place) (packet_is (packet_part s) (suc k) r ∙ ap (λ i. get_or s.packets i (blank Place.Free)) e))

pub places_are : (s : State) (j : Journal) → Kept s → Says s j → Places s j
places_are s j k says n a b =
    let p = place_at_is s k.packet_count n (a, b) ∙ says.place n in
    record {
      place = says.place n;
      sender_is = says.sender n;
      on_free = k.placed 0 n ∙ ap (λ q. stands q 0) p;
      on_queues = λ t. k.placed t n ∙ ap (λ q. stands q t) p;
    }
