-- Questions that were answered yes.
use Rattle.std.proofs.Common.{◌≡◌, ℕ, zero, suc, ◌-◌, ◌<◌, ◌≤◌, true, false, cond, eqb, leb, ◌⊎◌, List, [], ◌∷◌, length, get_or, Some, None, Ok, Err, Option, Result, refl, ap, ◌∙◌, inl, inr, ⊎_elim, arith}
use Rattle.std.specs.Option.{option_map}
use Rattle.std.proofs.lemmas.Bool.{cases_Bool, both_ways, and_parts, or_cases, leb-true, not-true, eqb-true, eqb-false, or_parts}
use Rattle.chain.specs.Chain.{Row}
use Rattle.packets.specs.declared.rows.Packet.{Packet}
use Rattle.packets.specs.declared.rows.Place.{Place}
use Rattle.packets.specs.declared.rows.Place.TheVariants.{Free, Hands, Queue}
use Rattle.packets.specs.Places.{blank, involves, any_involves}
use Rattle.packets.proofs.Moves.{packet_is}
use Rattle.tasks.specs.declared.rows.Condition.{Condition}
use Rattle.tasks.specs.declared.rows.Condition.TheVariants.{Dormant, Ready, Waiting}
use Rattle.tasks.specs.declared.rows.Task.{Task}
use Rattle.tasks.specs.Use.{in_use, numbers}
use Rattle.tasks.proofs.Numbers.{numbers_row, numbers_none, used_some}
use Rattle.tables.specs.State.{State, packet_part, task, used, packet}
use Rattle.tables.specs.Running.{running}
use Rattle.tables.specs.Kept.{Kept}
use Rattle.tables.proofs.Runs.{first_on, may_use}
use Rattle.calls.specs.declared.Refusal.{Refusal}
use Rattle.calls.specs.Questions.{Question, task_runs, task_known, task_idle, packet_in_hands, packets_home, is_dormant, task_dormant, hands_of, yes, no, between, first_no}
use Rattle.calls.specs.Steps.{decided}

asked : (s : State) (q : Question) (qs : List Question) → None ≡ first_no s (q ∷ qs) → (yes s q ≡ true) × (None ≡ first_no s qs)
asked s q qs e =
    elim (yes s q) as (λ b. None ≡ cond b (first_no s qs) (Some (no q)) → (b ≡ true) × (None ≡ first_no s qs)) [
      | true ↦ λ h. (refl, h)
      | false ↦ λ h. let z : ◌≡◌ {A = ℕ} 0 1 = cc in absurd (omega arith)
    ] e

abbrev pub AllYes : State → List Question → Type 0
AllYes s [] = Unit {0}
AllYes s (q ∷ qs) = (yes s q ≡ true) × AllYes s qs

pub all_yes : (s : State) (qs : List Question) → None ≡ first_no s qs → AllYes s qs
all_yes s [] e = tt
all_yes s (q ∷ qs) e = let a = asked s q qs e in (a.0, all_yes s qs a.1)

-- a call is refused and changes nothing, or all its questions were answered yes
pub by_questions : (s : State) (qs : List Question) (done : State × ℕ) (P : Result ℕ Refusal → State → Type 0) → ((r : Refusal) → P (Err r) s) → (AllYes s qs → P (Ok done.1) done.0) → P (decided s (first_no s qs) done).1.outcome (decided s (first_no s qs) done).0
by_questions s qs done P refused made = go (first_no s qs) (λ e. made (all_yes s qs e))
  where
    go : (o : Option Refusal) → (None ≡ o → P (Ok done.1) done.0) → P (decided s o done).1.outcome (decided s o done).0
    go (Some r) m = refused r
    go None m = m refl

-- ---- numbers

pub in_range : (low high n : ℕ) → between low high n ≡ true → (low ≤ n) × (n ≤ high)
in_range low high n e = let p = and_parts (leb low n) (leb n high) e in (leb-true low n p.0, leb-true n high p.1)

pub no_unit : (u : ℕ) → between 1 0 (suc u) ≡ true → ⊥
no_unit u e = let r = in_range 1 0 (suc u) e in omega (arith, r.1)

pub known_row : (s : State) (t : ℕ) → yes s (task_known t) ≡ true → Row 32 t
known_row s t e = in_range 1 32 t (and_parts (between 1 32 t) (used s t) e).0

pub known_used : (s : State) (t : ℕ) → yes s (task_known t) ≡ true → used s t ≡ true
known_used s t e = (and_parts (between 1 32 t) (used s t) e).1

-- ---- the task that runs

pub runner : (s : State) → Kept s → yes s task_runs ≡ true → Row 32 (running s) × (used s (running s) ≡ true)
runner s k runs =
    let r = running s in
    let u = may_use (task s r) _ (first_on s s.order (eqb-false r 0 (not-true (eqb r 0) runs))).0 in
    let row = ⊎_elim (numbers_row r) (λ f. absurd (let z = ap in_use (numbers_none s.tasks r k.task_count f) in omega (arith, z, u))) (cases_Bool (numbers r)) in
    (row, used_some (task s r) u)

-- ---- packets at home

none_involves : (t : ℕ) (ps : List Packet) → any_involves t ps ≡ false → (i : ℕ) (d : Packet) → i < length ps → involves t (get_or ps i d) ≡ false
none_involves t [] e i d h = absurd (omega arith)
none_involves t (p ∷ ps) e zero d h = (or_parts (involves t p) (any_involves t ps) e).0
none_involves t (p ∷ ps) e (suc i) d h = none_involves t ps (or_parts (involves t p) (any_involves t ps) e).1 i d (omega arith)

pub home : (s : State) → Kept s → (t : ℕ) → yes s (packets_home t) ≡ true → (n : ℕ) → 0 < n → n ≤ 64 → involves t (packet s n) ≡ false
home s k t e n a b =
    ap (involves t) (packet_is (packet_part s) n (a, b)) ∙
    none_involves t s.packets (not-true (any_involves t s.packets) e) (n - 1) (blank Place.Free) (omega (arith, a, b, k.packet_count))

in_hands : (t : ℕ) (p : Place) → hands_of t p ≡ true → p ≡ Place.Hands t
in_hands t Free e = absurd (both_ways false refl e)
in_hands t (Hands k) e = ap Place.Hands (eqb-true k t e)
in_hands t (Queue k) e = absurd (both_ways false refl e)

-- the packet is in the running task's hands
pub held_by : (s : State) (n : ℕ) → yes s (packet_in_hands n) ≡ true → (packet s n).place ≡ Place.Hands (running s)
held_by s n e = in_hands (running s) (packet s n).place e

dormant_is : (c : Condition) → is_dormant c ≡ true → c ≡ Condition.Dormant
dormant_is Dormant e = refl
dormant_is Ready e = absurd (both_ways false refl e)
dormant_is Waiting e = absurd (both_ways false refl e)

dormant : (o : Option Task) → task_dormant o ≡ true → option_map (λ x. x.condition) o ≡ Some Condition.Dormant
dormant None e = absurd (both_ways false refl e)
dormant (Some x) e = ap Some (dormant_is x.condition e)

-- the task runs or is dormant
pub idle : (s : State) (t : ℕ) → yes s (task_idle t) ≡ true → (t ≡ running s) ⊎ (option_map (λ x. x.condition) (task s t) ≡ Some Condition.Dormant)
idle s t e = ⊎_elim (λ a. inl (eqb-true t (running s) a)) (λ b. inr (dormant (task s t) b)) (or_cases (eqb t (running s)) (task_dormant (task s t)) e)
