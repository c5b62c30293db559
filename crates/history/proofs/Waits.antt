-- A wait: the running task waits, or takes a packet.
use Rattle.std.proofs.Common.{◌≡◌, ℕ, zero, suc, Ok, refl, ap, subst, ⊎_elim, arith}
use Rattle.std.proofs.lemmas.Bool.{cases_Bool}
use Rattle.chain.specs.Chain.{Row, first}
use Rattle.packets.specs.View.{filled}
use Rattle.tables.specs.State.{State, queue}
use Rattle.tables.specs.Running.{running}
use Rattle.tables.specs.Kept.{Kept}
use Rattle.calls.specs.declared.Call.TheVariants.{Wait}
use Rattle.effects.specs.Told.{Took, Waits, Told}
use Rattle.effects.proofs.Writes.{first_packet}

pub data WaitsOrTakes (s s' : State) (v : ℕ) : Type 0 where
  waits : v ≡ 0 → Waits s s' (running s) 0 → WaitsOrTakes s s' v
  takes : (n : ℕ) → v ≡ suc n → Row 64 (suc n) → Took s s' (running s) (suc n) → WaitsOrTakes s s' v

pub waits_or_takes : (s s' : State) (v : ℕ) → Kept s → Told s Wait (Ok v) s' → WaitsOrTakes s s' v
waits_or_takes s s' zero k told =
    ⊎_elim (λ f. let r = first_packet s k (running s) f in let e = ap first (told.0 f).first in absurd (omega (arith, r.0, e)))
    (λ f. waits refl (told.1 f)) (cases_Bool (filled (queue s (running s))))
waits_or_takes s s' (suc n) k told =
    ⊎_elim (λ f. takes n refl (subst (Row 64) (ap first (told.0 f).first) (first_packet s k (running s) f)) (told.0 f))
    (λ f. let z = (told.1 f).none in absurd (omega (arith, z))) (cases_Bool (filled (queue s (running s))))
