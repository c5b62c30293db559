-- The packets are put on the free list one by one.
use Rattle.std.proofs.Common.{◌≡◌, ℕ, zero, suc, ◌+◌, ◌-◌, ◌<◌, ◌≤◌, true, List, ◌∷◌, map, get_or, replicate, sym, refl, ap, ap₂, ◌∙◌, arith}
use Rattle.std.proofs.lemmas.List.{get_or-replicate, get_or-set_other}
use Rattle.chain.specs.Chain.{chain}
use Rattle.chain.specs.Lists.{AllEnd, Stand}
use Rattle.chain.specs.Times.{times}
use Rattle.chain.proofs.Lists.{none_end, none_list}
use Rattle.packets.specs.declared.rows.Place.{Place}
use Rattle.packets.specs.declared.rows.Packet.{Packet}
use Rattle.chain.specs.declared.rows.Linked.{Linked}
use Rattle.packets.specs.Places.{stands, handed, blank}
use Rattle.packets.specs.View.{View, packet, put_last, unplaced, fresh}
use Rattle.packets.proofs.Moves.{shape, link, on, packet_is}

-- the first i packets are free, the others nowhere
abbrev pub stocked : ℕ → View
stocked zero = unplaced
stocked (suc i) = put_last (stocked i) 0 (suc i) (blank Place.Free)

abbrev first_rows : Packet → List (Linked Packet)
first_rows p = replicate 64 (record { item = p; next = 0 })

map_replicate : {X Y : Type 0} (f : X → Y) (n : ℕ) (x : X) → map f (replicate n x) ≡ replicate n (f x)
map_replicate f zero x = refl
map_replicate f (suc n) x = ap (λ z. f x ∷ z) (map_replicate f n x)

-- every list is empty
pub start : (p : Packet) → p ≡ blank (Place.Hands 0) → shape (first_rows p) (replicate 33 0) ≡ unplaced
start p e =
    let links = map link (first_rows p) in
    let make : Packet → List (List ℕ) → View = λ q z. record { packets = replicate 64 q; lists = z } in
    ap₂ make e (map_replicate (λ h. chain (h ∷ links)) 33 0 ∙ ap (replicate 33) (none_list 33 links 0))

pub start_ends : (p : Packet) → AllEnd (replicate 33 0) (map link (first_rows p))
start_ends p = none_end 33 (map link (first_rows p))

nowhere : (m n : ℕ) → get_or (replicate m (Place.Hands 0)) n (Place.Hands 0) ≡ Place.Hands 0
nowhere zero n = refl
nowhere (suc m) zero = refl
nowhere (suc m) (suc n) = nowhere m n

pub start_placed : (p : Packet) → p ≡ blank (Place.Hands 0) → Stand (replicate 33 0) (map link (first_rows p)) (on (first_rows p))
start_placed p e i n =
    ap (times n) (none_list 33 (map link (first_rows p)) i)
    ∙ sym (ap (λ q. on (first_rows q) n i) e ∙ ap (λ q. stands q i) (nowhere 65 n))

later : (i k : ℕ) → i ≤ k → k < 64 → get_or (stocked i).packets k (blank Place.Free) ≡ blank (Place.Hands 0)
later zero k l h = get_or-replicate 64 k (blank (Place.Hands 0)) (blank Place.Free) h
later (suc i) k l h = get_or-set_other (stocked i).packets (suc i - 1) k (blank Place.Free) (blank Place.Free) (omega arith) ∙ later i k (omega arith) h

pub off : (v : View) (k n : ℕ) → 0 < n → n < 65 → k ≡ n → v ≡ stocked (n - 1) → handed (packet v k).place ≡ true
off v k n h l is e =
    ap (λ p. handed p.place) (ap (packet v) is ∙ packet_is v n (h, omega arith) ∙ ap (λ z. get_or z.packets (n - 1) (blank Place.Free)) e ∙ later (n - 1) (n - 1) (omega arith) (omega arith))

pub more : (v w : View) (i k n : ℕ) (p : Packet) → 0 < n → i ≡ 0 → k ≡ n → p ≡ blank Place.Free → v ≡ stocked (n - 1) → w ≡ put_last v i k p → w ≡ stocked (n + 1 - 1)
more v w i k n p h none is free e put =
    let next : suc (n - 1) ≡ n + 1 - 1 = omega arith in
    let here : k ≡ suc (n - 1) = omega arith in
    put ∙ ap (λ z. put_last v z k p) none ∙ ap (put_last v 0 k) free ∙ ap (λ z. put_last v 0 z (blank Place.Free)) here ∙ ap (λ z. put_last z 0 (suc (n - 1)) (blank Place.Free)) e ∙ ap stocked next

pub all : (n : ℕ) → n ≡ 65 → stocked (n - 1) ≡ fresh
all n is = let last : n - 1 ≡ 64 = omega arith in ap stocked last
