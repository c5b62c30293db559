-- Rows and their links.
use Rattle.std.proofs.Common.{◌≡◌, ℕ, zero, suc, ◌-◌, ◌<◌, ◌≤◌, List, ◌∷◌, map, length, get_or, set, sym, ap, ◌∙◌, arith}
use lib.ListN.{length-map}
use Rattle.std.proofs.lemmas.List.{map-set, set-get_or, get_or-map}
use Rattle.chain.specs.Chain.{next, Row}

module _ {R : Type 0} (rows : List R) (link : R → ℕ) (head : ℕ) where
  pub next_row : (n : ℕ) (x : R) → Row (length rows) n → x ≡ get_or rows (n - 1) x → link x ≡ next (head ∷ map link rows) n
  next_row zero x r e = absurd (omega (arith, r.0))
  next_row (suc k) x r e =
      let s : suc k - 1 ≡ k = omega arith in
      ap link e ∙ sym (get_or-map link rows (suc k - 1) x (suc k) (omega (arith, r.1))) ∙ ap (λ z. get_or (map link rows) z (suc k)) s

  pub links-set : (n v : ℕ) (x : R) → 0 < n → link x ≡ v → head ∷ map link (set rows (n - 1) x) ≡ set (head ∷ map link rows) n v
  links-set zero v x h e = absurd (omega arith)
  links-set (suc k) v x h e =
      let s : suc k - 1 ≡ k = omega arith in
      ap (λ z. head ∷ z) (map-set link rows (suc k - 1) x ∙ ap (λ z. set (map link rows) z (link x)) s ∙ ap (set (map link rows) k) e)

-- a row in whose place comes one that f does not tell from it
pub map_kept : {R F : Type 0} (rows : List R) (f : R → F) (i : ℕ) (x d : R) → f x ≡ f (get_or rows i d) → map f (set rows i x) ≡ map f rows
map_kept rows f i x d e =
    map-set f rows i x ∙ ap (set (map f rows) i) e ∙ sym (map-set f rows i (get_or rows i d)) ∙ ap (map f) (set-get_or rows i d)

module _ {R : Type 0} (rows : List R) (link : R → ℕ) (head : ℕ) where
  -- a place of the links is a row, or the head's
  pub place_row : (n : ℕ) → n < length (head ∷ map link rows) → n ≤ length rows
  place_row n h = let l = length-map rows link in omega arith

  pub row_place : (n : ℕ) → n ≤ length rows → n < length (head ∷ map link rows)
  row_place n h = let l = length-map rows link in omega arith
