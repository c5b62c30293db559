-- One of several chains changes.
use Rattle.std.proofs.Common.{◌≡◌, ℕ, zero, suc, ◌<◌, ◌≢◌, List, [], ◌∷◌, map, length, get_or, set, replicate, sym, refl, ap, ◌∙◌, subst, ⊎_elim, arith, length-set}
use lib.ListN.{length-map}
use Rattle.std.proofs.lemmas.List.{get_or-set_same, get_or-set_other, get_or-map, ext_get_or}
use Rattle.std.proofs.lemmas.Bool.{cases_eq}
use Rattle.chain.specs.Times.{times}
use Rattle.chain.specs.Chain.{next, chain, Ends, Path, Becomes, first, tail}
use Rattle.chain.specs.Lists.{list, lists, AllEnd, Stand}
use Rattle.chain.proofs.Paths.{other_chain, chain_none, chain_path}

pub lists_at : (heads links : List ℕ) (i : ℕ) → i < length heads → get_or (lists heads links) i [] ≡ list heads links i
lists_at heads links i h = get_or-map (λ g. chain (g ∷ links)) heads i 0 [] h

-- the links of rows say the same whatever head stands before them
pub next_row : (g h : ℕ) (links : List ℕ) (k : ℕ) → 0 < k → next (g ∷ links) k ≡ next (h ∷ links) k
next_row g h links zero p = absurd (omega arith)
next_row g h links (suc k) p = refl

-- ---- chain i becomes xs; no other chain has a row that is touched

module _ (heads links links' : List ℕ) (i h : ℕ) (xs touched : List ℕ) (len : length links' ≡ length links) (at : i < length heads) (ends : AllEnd heads links) (b : Becomes (get_or heads i 0 ∷ links) (h ∷ links') xs touched) (apart : (j k : ℕ) → j ≢ i → 0 < times k (list heads links j) → times k touched ≡ 0) where
  here : get_or (set heads i h) i 0 ≡ h
  here = get_or-set_same heads i h 0 at

  other : (j : ℕ) → j ≢ i → (list (set heads i h) links' j ≡ list heads links j) × Ends (get_or (set heads i h) j 0 ∷ links')
  other j ne =
      let g = get_or heads j 0 in
      let is : get_or (set heads i h) j 0 ≡ g = get_or-set_other heads i j h 0 ne in
      let o = other_chain (g ∷ links) (g ∷ links') touched (let l = len in omega arith) refl
      (λ k p z. next_row g h links' k p ∙ b.elsewhere k p z ∙ next_row (get_or heads i 0) g links k p) (λ k m. apart j k ne m) (ends j) in
      (ap (λ z. chain (z ∷ links')) is ∙ o.0, subst (λ z. Ends (z ∷ links')) (sym is) o.1)

  pub list_same : list (set heads i h) links' i ≡ xs
  list_same = ap (λ z. chain (z ∷ links')) here ∙ b.order

  pub changed_ends : AllEnd (set heads i h) links'
  changed_ends j =
      ⊎_elim (λ e. subst (λ z. Ends (z ∷ links')) (sym (ap (λ z. get_or (set heads i h) z 0) e ∙ here)) b.ends) (λ ne. (other j ne).1) (cases_eq j i)

  pub changed_lists : lists (set heads i h) links' ≡ set (lists heads links) i xs
  changed_lists =
      let f : ℕ → List ℕ = λ z. chain (z ∷ links') in
      let g : ℕ → List ℕ = λ z. chain (z ∷ links) in
      let l1 = length-map (set heads i h) f in
      let l2 = length-set heads i h in
      let l3 = length-set (map g heads) i xs in
      let l4 = length-map heads g in
      ext_get_or [] (map f (set heads i h)) (set (map g heads) i xs) (omega arith)
      (λ j lt. let hj : j < length heads = omega arith in
      lists_at (set heads i h) links' j (omega arith) ∙
      ⊎_elim (λ e. ap (list (set heads i h) links') e ∙ list_same ∙ sym (ap (λ z. get_or (set (map g heads) i xs) z []) e ∙ get_or-set_same (map g heads) i xs [] (omega arith)))
      (λ ne. (other j ne).0 ∙ sym (get_or-set_other (map g heads) i j xs [] ne ∙ lists_at heads links j hj)) (cases_eq j i))

  -- on chain i rows stand as they do in xs, and on the others as before
  pub changed_stand : (on' : ℕ → ℕ → ℕ) → ((n : ℕ) → times n xs ≡ on' n i) → ((j n : ℕ) → j ≢ i → times n (list heads links j) ≡ on' n j) → Stand (set heads i h) links' on'
  changed_stand on' mine others j n =
      ⊎_elim (λ e. ap (times n) (ap (list (set heads i h) links') e ∙ list_same) ∙ mine n ∙ ap (on' n) (sym e)) (λ ne. ap (times n) (other j ne).0 ∙ others j n ne) (cases_eq j i)

-- ---- no chain has a row

replicate_any : (m i : ℕ) → ◌≡◌ {A = ℕ} (get_or (replicate m 0) i 0) 0
replicate_any zero i = refl
replicate_any (suc m) zero = refl
replicate_any (suc m) (suc i) = replicate_any m i

pub none_end : (m : ℕ) (links : List ℕ) → AllEnd (replicate m 0) links
none_end m links i = (chain_none (get_or (replicate m 0) i 0 ∷ links) (replicate_any m i)).1

pub none_list : (m : ℕ) (links : List ℕ) (i : ℕ) → list (replicate m 0) links i ≡ []
none_list m links i = (chain_none (get_or (replicate m 0) i 0 ∷ links) (replicate_any m i)).0

-- ---- the first of a chain

pub path_first : (links xs : List ℕ) → Path links 0 xs 0 → next links 0 ≢ 0 → xs ≡ next links 0 ∷ tail xs
path_first links [] p ne = absurd (ne p)
path_first links (x ∷ xs) p ne = ap (λ z. z ∷ xs) (sym p.0)

pub list_empty : (heads links : List ℕ) (i : ℕ) → get_or heads i 0 ≡ 0 → list heads links i ≡ []
list_empty heads links i e = (chain_none (get_or heads i 0 ∷ links) e).0

pub first_is : (links : List ℕ) → Ends links → next links 0 ≡ first (chain links)
first_is links e =
    ⊎_elim (λ z. z ∙ sym (ap first (chain_none links z).0)) (λ ne. sym (ap first (path_first links (chain links) (chain_path links e) ne))) (cases_eq (next links 0) 0)

pub list_first : (heads links : List ℕ) (i : ℕ) → Ends (get_or heads i 0 ∷ links) → get_or heads i 0 ≢ 0 → list heads links i ≡ get_or heads i 0 ∷ tail (list heads links i)
list_first heads links i e ne = path_first (get_or heads i 0 ∷ links) (list heads links i) (chain_path (get_or heads i 0 ∷ links) e) ne
