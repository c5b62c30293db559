-- By the journal a task has a packet queued just if its queue has one.
use Rattle.std.proofs.Common.{◌≡◌, ℕ, zero, suc, ◌<◌, ◌≤◌, Bool, true, false, List, [], ◌∷◌, sym, refl, ap, ◌∙◌, ⊎_elim, arith}
use Rattle.std.proofs.lemmas.Bool.{cases_eq, both_ways, or_cases, or_left, or_right, eqb-true, eq-eqb}
use Rattle.chain.specs.Times.{times}
use Rattle.chain.specs.Chain.{Row, first, tail}
use Rattle.chain.proofs.Times.{times_here, hit_same, hit_other}
use Rattle.packets.specs.declared.rows.Place.{Place}
use Rattle.packets.specs.declared.rows.Place.TheVariants.{Free, Hands, Queue}
use Rattle.packets.specs.Places.{stands}
use Rattle.packets.specs.View.{filled}
use Rattle.tables.specs.State.{State, queue}
use Rattle.tables.specs.Kept.{Kept}
use Rattle.effects.proofs.Writes.{split, first_packet}
use Rattle.history.specs.Journal.{Journal, on_queue, queued_among}
use Rattle.history.proofs.Places.{Says, place_at_is}

pub same_test : (a b : Bool) → (a ≡ true → b ≡ true) → (b ≡ true → a ≡ true) → a ≡ b
same_test true b f g = sym (f refl)
same_test false true f g = g refl
same_test false false f g = refl

-- a packet stands on the queue of its place, and on no other
on_stands : (t : ℕ) (p : Place) → 0 < t → on_queue t p ≡ true → stands p t ≡ 1
on_stands zero p h e = absurd (omega arith)
on_stands (suc t) Free h e = absurd (both_ways false refl e)
on_stands (suc t) (Hands k) h e = absurd (both_ways false refl e)
on_stands (suc t) (Queue k) h e = hit_same k (suc t) (eqb-true k (suc t) e)

stands_on : (t : ℕ) (p : Place) → 0 < t → 0 < stands p t → on_queue t p ≡ true
stands_on zero p h e = absurd (omega arith)
stands_on (suc t) Free h e = absurd (omega arith)
stands_on (suc t) (Hands k) h e = absurd (omega arith)
stands_on (suc t) (Queue k) h e =
    ⊎_elim (eq-eqb k (suc t)) (λ ne. let z = hit_other k (suc t) ne in absurd (omega arith)) (cases_eq k (suc t))

some_filled : (n : ℕ) (xs : List ℕ) → 0 < times n xs → filled xs ≡ true
some_filled n [] h = absurd (omega arith)
some_filled n (x ∷ xs) h = refl

module _ (j : Journal) (t : ℕ) where
  among : (n m : ℕ) → 0 < n → n ≤ m → on_queue t (j.places n) ≡ true → queued_among j t m ≡ true
  unfolding queued_among
  among n zero a b e = absurd (omega arith)
  among n (suc m) a b e =
      ⊎_elim (λ q. or_left (on_queue t (j.places (suc m))) (queued_among j t m) (ap (λ z. on_queue t (j.places z)) (sym q) ∙ e))
      (λ ne. or_right (on_queue t (j.places (suc m))) (queued_among j t m) (among n m a (let p : n ≤ m = omega (arith, b, ne) in p) e)) (cases_eq n (suc m))

  one_of : (m : ℕ) → queued_among j t m ≡ true → (n : ℕ) × Row m n × (on_queue t (j.places n) ≡ true)
  unfolding queued_among
  one_of zero e = absurd (both_ways false refl e)
  one_of (suc m) e =
      ⊎_elim (λ here. (suc m, (omega arith, omega arith), here)) (λ more. let o = one_of m more in (o.0, (o.1.0, omega (arith, o.1.1)), o.2))
      (or_cases (on_queue t (j.places (suc m))) (queued_among j t m) e)

pub queued_is : (s : State) (j : Journal) → Kept s → Says s j → (t : ℕ) → 0 < t → queued_among j t 64 ≡ filled (queue s t)
queued_is s j k says t h =
    let on : (n : ℕ) → Row 64 n → times n (queue s t) ≡ stands (j.places n) t = λ n r. k.placed t n ∙ ap (λ p. stands p t) (place_at_is s k.packet_count n r ∙ says.place n) in
    same_test (queued_among j t 64) (filled (queue s t))
    (λ e. let o = one_of j t 64 e in some_filled o.0 (queue s t) (let a = on o.0 o.1 in let b = on_stands t (j.places o.0) h o.2 in omega (arith, a, b)))
    (λ f. let n = first (queue s t) in
    let r = first_packet s k t f in
    let here = ap (times n) (split (queue s t) f) ∙ times_here n (tail (queue s t)) in
    let a = on n r in
    among j t n 64 r.0 r.1 (stands_on t (j.places n) h (omega (arith, here, a))))
