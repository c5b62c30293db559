-- Walks along a chain: one row on, and the chain cut in two after some rows.
use Rattle.std.proofs.Common.{◌≡◌, ℕ, suc, ◌+◌, ◌<◌, ◌≤◌, ◌≢◌, Bool, true, false, not, cond, nat_eq, List, [], ◌∷◌, ◌++◌, map, length, take, drop, map-id, Option, Some, None, sym, refl, ap, ◌∙◌, subst, arith}
use lib.ListN.{length-map}
use Rattle.std.specs.Iterator.{Drains}
use Rattle.std.proofs.lemmas.Iterator.{YieldsList}
use Rattle.std.proofs.lemmas.Iterator.Consumers.{YieldsList-end}
use Rattle.std.specs.List.{last_or, prefix_len}
use Rattle.std.specs.Option.{unwrap_or}
use Rattle.std.proofs.lemmas.Bool.{eqb-true, eqb-false}
use Rattle.chain.specs.Times.{times}
use Rattle.chain.specs.Chain.{next, chain, Ends, Path, last, tail, without, Cut, Before, Becomes}
use Rattle.chain.proofs.Times.{hit_other, without_here}
use Rattle.chain.proofs.Paths.{chain_path, chain_is, chain_none, chain_room, path_moved, path_row, first_row, cut_none, took_none, becomes_at}
use Rattle.chain.proofs.Lists.{next_row, path_first}

-- The chain from row n is n, and then the chain from the row after it.
pub record Along (links : List ℕ) (n m : ℕ) : Type 0 where
  pub row : (0 < n) × (n < length (n ∷ links))
  pub is : chain (n ∷ links) ≡ n ∷ chain (m ∷ links)
  pub ends : Ends (m ∷ links)

pub along : (links : List ℕ) (n m : ℕ) → Ends (n ∷ links) → n ≢ 0 → m ≡ next (n ∷ links) n → Along links n m
along links n m e ne is =
    let p = chain_path (n ∷ links) e in
    let first = path_first (n ∷ links) (chain (n ∷ links)) p ne in
    let q : Path (n ∷ links) 0 (n ∷ tail (chain (n ∷ links))) 0 = subst (λ z. Path (n ∷ links) 0 z 0) first p in
    let on = chain_is (m ∷ links) (tail (chain (n ∷ links))) (path_moved (n ∷ links) (m ∷ links) n 0 _ 0 (omega arith) is (λ k h. next_row m n links k (path_row (n ∷ links) n _ 0 k q.2 h).0) q.2) in
    record { row = first_row (n ∷ links) e ne; is = first ∙ ap (λ z. n ∷ z) (sym on.0); ends = on.1 }

-- no more rows than there are
pub few_rows : {R : Type 0} (rows : List R) (link : R → ℕ) (head : ℕ) → Ends (head ∷ map link rows) → length (chain (head ∷ map link rows)) ≤ length rows
few_rows rows link head e = let r = chain_room (head ∷ map link rows) (omega arith) e in omega (arith, r, length-map rows link)

-- ---- a chain cut in two

path_split : (links : List ℕ) (a : ℕ) (xs ys : List ℕ) (b : ℕ) → Path links a (xs ++ ys) b → Path links a xs (next links (last a xs)) × Path links (last a xs) ys b
path_split links a [] ys b p = (refl, p)
path_split links a (x ∷ xs) ys b p = let r = path_split links x xs ys b p.2 in ((p.0, p.1, r.0), r.1)

pub cut_at : (links front back : List ℕ) → Ends links → front ++ back ≡ chain links → Cut links (last 0 front) (next links (last 0 front)) front back
cut_at links front back e is =
    let r = path_split links 0 front back 0 (subst (λ z. Path links 0 z 0) (sym is) (chain_path links e)) in
    record { front_path = r.0; back_path = r.1; before_is = refl; at_is = refl }

-- the row that the walk comes to next
pub row_at : (links front : List ℕ) (at : ℕ) (back : List ℕ) → Ends links → front ++ (at ∷ back) ≡ chain links → (0 < at) × (at < length links)
row_at links front at back e is = (path_split links 0 front (at ∷ back) 0 (subst (λ z. Path links 0 z 0) (sym is) (chain_path links e))).1.1

pub next_at : (links front : List ℕ) (at : ℕ) (back : List ℕ) → Ends links → front ++ (at ∷ back) ≡ chain links → next links (last 0 front) ≡ at
next_at links front at back e is = (path_split links 0 front (at ∷ back) 0 (subst (λ z. Path links 0 z 0) (sym is) (chain_path links e))).1.0

-- ---- the last row of a walk

pub last_is : (o : Option ℕ) (xs : List ℕ) → unwrap_or (last_or o xs) 0 ≡ last (unwrap_or o 0) xs
last_is o [] = refl
last_is o (x ∷ xs) = last_is (Some x) xs

-- ---- the rows before row n

abbrev pub before_n : ℕ → ℕ → Bool
before_n n x = not (nat_eq x n)

split_at : (n x : ℕ) (xs : List ℕ) (b : Bool) → nat_eq x n ≡ b → (0 < times n xs → let k = prefix_len (before_n n) xs in take k xs ++ (n ∷ drop (suc k) xs) ≡ xs) → 0 < times n (x ∷ xs) → let k = cond (not b) (1 + prefix_len (before_n n) xs) 0 in take k (x ∷ xs) ++ (n ∷ drop (suc k) (x ∷ xs)) ≡ x ∷ xs
split_at n x xs true e on h = ap (λ z. z ∷ xs) (sym (eqb-true x n e))
split_at n x xs false e on h =
    let k = prefix_len (before_n n) xs in
    let one : suc k ≡ 1 + k = omega arith in
    subst (λ z. take z (x ∷ xs) ++ (n ∷ drop (suc z) (x ∷ xs)) ≡ x ∷ xs) one (ap (λ z. x ∷ z) (on (let z = hit_other x n (eqb-false x n e) in omega arith)))

pub split_before : (n : ℕ) (xs : List ℕ) → 0 < times n xs → let k = prefix_len (before_n n) xs in take k xs ++ (n ∷ drop (suc k) xs) ≡ xs
split_before n [] h = absurd (omega arith)
split_before n (x ∷ xs) h = split_at n x xs (nat_eq x n) refl (split_before n xs) h

pub before_is : (links : List ℕ) (n : ℕ) → Ends links → 0 < times n (chain links) → Before links n (last 0 (take (prefix_len (before_n n) (chain links)) (chain links)))
before_is links n e h =
    let xs = chain links in
    let k = prefix_len (before_n n) xs in
    let is = split_before n xs h in
    record {
      front = take k xs;
      back = n ∷ drop (suc k) xs;
      cut = subst (λ z. Cut links (last 0 (take k xs)) z (take k xs) (n ∷ drop (suc k) xs)) (next_at links (take k xs) n (drop (suc k) xs) e is) (cut_at links (take k xs) (n ∷ drop (suc k) xs) e is);
      row = (row_at links (take k xs) n (drop (suc k) xs) e is).0;
    }

-- what a walk to its end gave is all of the list
pub all_of : {S : Type 0} {steps : S → Option ℕ → S → Type 0} {s : S} {all : List ℕ} → (xs : List ℕ) → Drains steps s xs → YieldsList steps (λ x. x) s all → xs ≡ all
all_of xs d e = sym (map-id xs) ∙ (YieldsList-end e xs d.1.0 d.1.1 None d.0 refl d.1.2).0

-- at 0 there is no row
pub no_row : (links : List ℕ) (n : ℕ) → n ≡ 0 → chain (n ∷ links) ≡ []
no_row links n e = (chain_none (n ∷ links) e).0

-- ---- the first row

pub first_before : (links : List ℕ) (head : ℕ) → Ends (head ∷ links) → 0 < head → Before (head ∷ links) head 0
first_before links head e h =
    record { front = []; back = chain (head ∷ links); cut = cut_none (head ∷ links) e; row = h }

pub without_first : (links : List ℕ) (head : ℕ) → Ends (head ∷ links) → 0 < head → without head (chain (head ∷ links)) ≡ tail (chain (head ∷ links))
without_first links head e h =
    let is = path_first (head ∷ links) (chain (head ∷ links)) (chain_path (head ∷ links) e) (λ z. omega (arith, z, h)) in
    ap (without head) is ∙ without_here head [] (tail (chain (head ∷ links))) refl

pub none_taken : (links : List ℕ) (head : ℕ) → head ≡ 0 → Becomes (head ∷ links) (0 ∷ links) (tail (chain (head ∷ links))) (chain (head ∷ links))
none_taken links head e = becomes_at (head ∷ links) (head ∷ links) _ _ _ (ap (λ h. h ∷ links) (sym e)) (took_none (head ∷ links) (omega arith) e)
