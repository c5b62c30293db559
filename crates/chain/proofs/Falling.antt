-- Chains by falling rank.
use Rattle.std.proofs.Common.{◌≡◌, ℕ, ◌<◌, true, eqb, ltb, ◌≢◌, List, [], ◌∷◌, sym, refl, ap, ◌∙◌, subst, ⊎_elim, arith}
use Rattle.std.proofs.lemmas.Bool.{cases_eq, cond_both, ltb-true, ltb-false, lt-ltb, and_parts, and_from}
use Rattle.chain.specs.Times.{times}
use Rattle.chain.specs.Chain.{rank_of, without, by_rank}
use Rattle.chain.specs.Falling.{below, falling}
use Rattle.chain.proofs.Times.{hit_other, times_here, times_cases, times-without}
use Rattle.chain.proofs.Ranks.{times-by_rank}

below_each : (ranks : List ℕ) (r : ℕ) (xs : List ℕ) → below ranks r xs ≡ true → (k : ℕ) → 0 < times k xs → rank_of ranks k < r
below_each ranks r [] e k m = absurd (omega arith)
below_each ranks r (x ∷ xs) e k m =
    let p = and_parts (ltb (rank_of ranks x) r) (below ranks r xs) e in
    ⊎_elim (λ q. subst (λ z. rank_of ranks z < r) q (ltb-true (rank_of ranks x) r p.0)) (below_each ranks r xs p.1 k) (times_cases k x xs m)

below_all : (ranks : List ℕ) (r : ℕ) (xs : List ℕ) → ((k : ℕ) → 0 < times k xs → rank_of ranks k < r) → below ranks r xs ≡ true
below_all ranks r [] h = refl
below_all ranks r (x ∷ xs) h =
    let here : 0 < times x (x ∷ xs) = let t = times_here x xs in omega arith in
    and_from (ltb (rank_of ranks x) r) (below ranks r xs) (lt-ltb (rank_of ranks x) r (h x here)) (below_all ranks r xs (λ k m. h k (omega arith)))

-- the first is above all the others
pub falling_first : (ranks : List ℕ) (x : ℕ) (xs : List ℕ) → falling ranks (x ∷ xs) ≡ true → ((k : ℕ) → 0 < times k xs → rank_of ranks k < rank_of ranks x) × (falling ranks xs ≡ true)
falling_first ranks x xs e =
    let p = and_parts (below ranks (rank_of ranks x) xs) (falling ranks xs) e in (below_each ranks (rank_of ranks x) xs p.0, p.1)

falling_from : (ranks : List ℕ) (x : ℕ) (xs : List ℕ) → ((k : ℕ) → 0 < times k xs → rank_of ranks k < rank_of ranks x) → falling ranks xs ≡ true → falling ranks (x ∷ xs) ≡ true
falling_from ranks x xs h f =
    and_from (below ranks (rank_of ranks x) xs) (falling ranks xs) (below_all ranks (rank_of ranks x) xs h) f

-- the same where the ranks of its rows are the same
pub falling_same : (ranks ranks' xs : List ℕ) → ((k : ℕ) → 0 < times k xs → rank_of ranks' k ≡ rank_of ranks k) → falling ranks xs ≡ true → falling ranks' xs ≡ true
falling_same ranks ranks' [] same e = refl
falling_same ranks ranks' (x ∷ xs) same e =
    let f = falling_first ranks x xs e in
    let here : 0 < times x (x ∷ xs) = let t = times_here x xs in omega arith in
    let sx = same x here in
    falling_from ranks' x xs (λ k m. let a = f.0 k m in let s = same k (omega arith) in omega (arith, a, s, sx)) (falling_same ranks ranks' xs (λ k m. same k (omega arith)) f.1)

-- a row of a rank of its own, put in by that
pub falling-by_rank : (ranks : List ℕ) (n : ℕ) (xs : List ℕ) → ((k : ℕ) → 0 < times k xs → rank_of ranks k ≢ rank_of ranks n) → falling ranks xs ≡ true → falling ranks (by_rank ranks n xs) ≡ true
falling-by_rank ranks n [] ne e = refl
falling-by_rank ranks n (x ∷ xs) ne e =
    let f = falling_first ranks x xs e in
    cond_both (ltb (rank_of ranks x) (rank_of ranks n)) (n ∷ (x ∷ xs)) (x ∷ by_rank ranks n xs) (λ z. falling ranks z ≡ true)
    (λ t. let lt = ltb-true (rank_of ranks x) (rank_of ranks n) t in
    falling_from ranks n (x ∷ xs) (λ k m. ⊎_elim (λ q. subst (λ z. rank_of ranks z < rank_of ranks n) q lt) (λ q. let a = f.0 k q in omega (arith, a, lt)) (times_cases k x xs m)) e)
    (λ t. let ge = ltb-false (rank_of ranks x) (rank_of ranks n) t in
    let here : 0 < times x (x ∷ xs) = let h = times_here x xs in omega arith in
    let nx = ne x here in
    let lt : rank_of ranks n < rank_of ranks x = omega (arith, ge, nx) in
    falling_from ranks x (by_rank ranks n xs)
    (λ k m. let s = times-by_rank ranks n k xs in ⊎_elim (λ q. subst (λ z. rank_of ranks z < rank_of ranks x) q lt) (λ q. let h = hit_other n k q in let p : 0 < times k xs = omega arith in f.0 k p) (cases_eq n k))
    (falling-by_rank ranks n xs (λ k m. ne k (omega arith)) f.1))

pub falling-without : (ranks : List ℕ) (n : ℕ) (xs : List ℕ) → falling ranks xs ≡ true → falling ranks (without n xs) ≡ true
falling-without ranks n [] e = refl
falling-without ranks n (x ∷ xs) e =
    let f = falling_first ranks x xs e in
    cond_both (eqb x n) xs (x ∷ without n xs) (λ z. falling ranks z ≡ true) (λ _. f.1)
    (λ _. falling_from ranks x (without n xs) (λ k m. let w = times-without k n xs in f.0 k (omega arith)) (falling-without ranks n xs f.1))

-- so no two of its rows have one rank
pub falling_once : (ranks xs : List ℕ) → falling ranks xs ≡ true → (j k : ℕ) → 0 < times j xs → 0 < times k xs → rank_of ranks j ≡ rank_of ranks k → j ≡ k
falling_once ranks [] e j k p q s = absurd (omega arith)
falling_once ranks (x ∷ xs) e j k p q s =
    let f = falling_first ranks x xs e in
    ⊎_elim
    (λ a. ⊎_elim (λ b. sym a ∙ b) (λ b. let z = f.0 k b in let w = ap (rank_of ranks) a in absurd (omega (arith, z, w, s))) (times_cases k x xs q))
    (λ a. ⊎_elim (λ b. let z = f.0 j a in let w = ap (rank_of ranks) b in absurd (omega (arith, z, w, s))) (λ b. falling_once ranks xs f.1 j k a b s) (times_cases k x xs q))
    (times_cases j x xs p)
