-- Counting in lists.
use Rattle.std.proofs.Common.{◌≡◌, ℕ, zero, suc, ◌+◌, ◌-◌, ◌<◌, ◌≤◌, true, false, cond, eqb, ◌≢◌, ◌⊎◌, List, [], ◌∷◌, ◌++◌, length, refl, ap, ◌∙◌, inl, inr, ⊎_elim, arith}
use Rattle.std.proofs.lemmas.Bool.Decides.{nat_tests}
use Rattle.std.proofs.lemmas.Bool.{cond-true, cond-false, eq-eqb, ne_eqb, cases_eq}
use Rattle.chain.specs.Times.{hit, times}
use Rattle.chain.specs.Chain.{last, without}

pub hit_same : (x n : ℕ) → x ≡ n → hit x n ≡ 1
hit_same x n e = cond-true (eqb x n) 1 0 (eq-eqb x n e)

pub hit_other : (x n : ℕ) → x ≢ n → hit x n ≡ 0
hit_other x n ne = cond-false (eqb x n) 1 0 (ne_eqb x n ne)

pub times-append : (n : ℕ) (xs ys : List ℕ) → times n (xs ++ ys) ≡ times n xs + times n ys
times-append n [] ys = omega arith
times-append n (x ∷ xs) ys = let h = times-append n xs ys in omega arith

pub times_here : (n : ℕ) (xs : List ℕ) → times n (n ∷ xs) ≡ 1 + times n xs
times_here n xs = let h = hit_same n n refl in omega arith

-- a number that stands in a list is its first or stands in the rest
pub times_cases : (n x : ℕ) (xs : List ℕ) → 0 < times n (x ∷ xs) → (x ≡ n) ⊎ (0 < times n xs)
times_cases n x xs h =
    ⊎_elim inl (λ ne. let z = hit_other x n ne in let r : 0 < times n xs = omega arith in inr r) (cases_eq x n)

-- what stands in no list is none of its numbers
pub times_apart : (n k : ℕ) (xs : List ℕ) → times n xs ≡ 0 → 0 < times k xs → k ≢ n
times_apart n k xs z h e = let q = ap (λ m. times m xs) e in omega arith

pub times-last : (x : ℕ) (xs : List ℕ) → 0 < times (last x xs) (x ∷ xs)
times-last x [] = let h = times_here x [] in omega arith
times-last x (y ∷ ys) = let h = times-last y ys in omega arith

pub times-without : (k n : ℕ) (xs : List ℕ) → times k (without n xs) ≡ times k xs - hit n k
times-without k n [] = omega arith
times-without k n (x ∷ xs) = let h = times-without k n xs in grind (arith, nat_tests, h)

-- the first n taken out, which stands behind xs
pub without_here : (n : ℕ) (xs ys : List ℕ) → times n xs ≡ 0 → without n (xs ++ (n ∷ ys)) ≡ xs ++ ys
without_here n [] ys z = cond-true (eqb n n) ys (n ∷ without n ys) (eq-eqb n n refl)
without_here n (x ∷ xs) ys z =
    let ne : x ≢ n = λ e. let h = hit_same x n e in omega arith in
    cond-false (eqb x n) (xs ++ (n ∷ ys)) (x ∷ without n (xs ++ (n ∷ ys))) (ne_eqb x n ne) ∙ ap (λ zs. x ∷ zs) (without_here n xs ys (omega arith))

length_without : (n : ℕ) (xs : List ℕ) → length xs ≤ suc (length (without n xs))
length_without n [] = omega arith
length_without n (x ∷ xs) = elim (eqb x n) as (λ b. length (x ∷ xs) ≤ suc (length (cond b xs (x ∷ without n xs)))) [
  | true ↦ omega arith
  | false ↦ let h = length_without n xs in omega arith
]

-- at most m numbers from 1 to m, none twice
pub few : (m : ℕ) (xs : List ℕ) → ((k : ℕ) → times k xs ≤ 1) → ((k : ℕ) → 0 < times k xs → (0 < k) × (k ≤ m)) → length xs ≤ m
few zero [] o r = omega arith
few zero (x ∷ xs) o r = let h = times_here x xs in let p : 0 < times x (x ∷ xs) = omega arith in let b = r x p in absurd (omega (arith, b.0, b.1))
few (suc m) xs o r =
    let ys = without (suc m) xs in
    let q : length ys ≤ m = few m ys
    (λ k. let w = times-without k (suc m) xs in let u = o k in omega arith)
    (λ k h. let w = times-without k (suc m) xs in let u = o k in let p : 0 < times k xs = omega arith in let b = r k p in
    ⊎_elim (λ e. let s = hit_same (suc m) k e in absurd (omega arith)) (λ ne. (b.0, omega (arith, b.1))) (cases_eq (suc m) k)) in
    let l = length_without (suc m) xs in omega arith
