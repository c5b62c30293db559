-- What stands in a journal after something was noted.
use Rattle.std.proofs.Common.{◌≡◌, ℕ, eqb, ◌≢◌, sym, ap, ◌∙◌, ⊎_elim}
use Rattle.std.proofs.lemmas.Bool.{cond-true, cond-false, eq-eqb, ne_eqb, cases_eq}
use Rattle.history.specs.Journal.{noted}

pub noted_same : {X : Type 0} (n : ℕ) (x : X) (f : ℕ → X) → noted n x f n ≡ x
noted_same n x f = cond-true (eqb n n) x (f n) (eq-eqb n n (λ i. n))

pub noted_other : {X : Type 0} (n : ℕ) (x : X) (f : ℕ → X) (m : ℕ) → m ≢ n → noted n x f m ≡ f m
noted_other n x f m ne = cond-false (eqb m n) x (f m) (ne_eqb m n ne)

-- what agreed with f agrees with f as noted, if it has become x at n and stayed elsewhere
pub noted_agrees : {X : Type 0} (n : ℕ) (x : X) (f now next : ℕ → X) → ((m : ℕ) → now m ≡ f m) → next n ≡ x → ((m : ℕ) → m ≢ n → next m ≡ now m) → (m : ℕ) → next m ≡ noted n x f m
noted_agrees n x f now next agrees here other m =
    ⊎_elim (λ e. ap next e ∙ here ∙ sym (ap (noted n x f) e ∙ noted_same n x f))
    (λ ne. other m ne ∙ agrees m ∙ sym (noted_other n x f m ne)) (cases_eq m n)
