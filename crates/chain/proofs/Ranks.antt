-- Where a row goes by its rank.
use Rattle.std.proofs.Common.{◌≡◌, ℕ, ◌+◌, ◌<◌, ◌≤◌, ltb, List, [], ◌∷◌, ◌++◌, sym, refl, ap, ◌∙◌, append_assoc, arith}
use Rattle.std.proofs.lemmas.Bool.{cond-true, cond-false, cond_both, le-ltb, lt-ltb}
use Rattle.chain.specs.Times.{hit, times}
use Rattle.chain.specs.Chain.{rank_of, by_rank}

module _ (ranks : List ℕ) (n : ℕ) where
  -- row n goes past all of front
  abbrev pub Past : List ℕ → Type 0
  Past front = (ys : List ℕ) → by_rank ranks n (front ++ ys) ≡ front ++ by_rank ranks n ys

  pub past_more : (front : List ℕ) (x : ℕ) → Past front → rank_of ranks n ≤ rank_of ranks x → Past (front ++ (x ∷ []))
  past_more front x h le ys =
      ap (by_rank ranks n) (append_assoc front (x ∷ []) ys) ∙ h (x ∷ ys) ∙
      ap (λ z. front ++ z) (cond-false (ltb (rank_of ranks x) (rank_of ranks n)) (n ∷ (x ∷ ys)) (x ∷ by_rank ranks n ys) (le-ltb (rank_of ranks x) (rank_of ranks n) le)) ∙
      sym (append_assoc front (x ∷ []) (by_rank ranks n ys))

  pub past_all : (front back : List ℕ) → Past front → back ≡ [] → by_rank ranks n (front ++ back) ≡ front ++ (n ∷ back)
  past_all front back h e = h back ∙ ap (λ z. front ++ by_rank ranks n z) e ∙ ap (λ z. front ++ (n ∷ z)) (sym e)

  pub past_here : (front back : List ℕ) (x : ℕ) (more : List ℕ) → Past front → back ≡ x ∷ more → rank_of ranks x < rank_of ranks n → by_rank ranks n (front ++ back) ≡ front ++ (n ∷ back)
  past_here front back x more h e lt =
      h back ∙ ap (λ z. front ++ by_rank ranks n z) e ∙
      ap (λ z. front ++ z) (cond-true (ltb (rank_of ranks x) (rank_of ranks n)) (n ∷ (x ∷ more)) (x ∷ by_rank ranks n more) (lt-ltb (rank_of ranks x) (rank_of ranks n) lt)) ∙
      ap (λ z. front ++ (n ∷ z)) (sym e)

-- each number stands there as often as before, and n once more
pub times-by_rank : (ranks : List ℕ) (n k : ℕ) (xs : List ℕ) → times k (by_rank ranks n xs) ≡ hit n k + times k xs
times-by_rank ranks n k [] = refl
times-by_rank ranks n k (x ∷ xs) =
    cond_both (ltb (rank_of ranks x) (rank_of ranks n)) (n ∷ (x ∷ xs)) (x ∷ by_rank ranks n xs) (λ z. times k z ≡ hit n k + (hit x k + times k xs)) (λ _. refl)
    (λ _. let h = times-by_rank ranks n k xs in omega arith)
