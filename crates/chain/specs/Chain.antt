-- A chain through rows, as the list of the rows' numbers. Rows are numbered from 1 and each names the next one's number, 0 at the end.
-- `links` has the chain's head at place 0 and what row n names at place n.
use Rattle.std.specs.Prelude.{◌≡◌, ℕ, zero, suc, ◌-◌, ◌<◌, ◌≤◌, cond, List, [], ◌∷◌, ◌++◌, map, length, ◌==◌, nat_lt, slice_index, slice_index_or, slice_set}
use Rattle.chain.specs.Times.{times}

-- What follows n: the head follows 0. A number that no row has is followed by itself, so a chain that comes to one does not end.
abbrev pub next : List ℕ → ℕ → ℕ
next links n = slice_index_or links n n

-- The first f rows of the chain from row n on, that one included.
abbrev pub walk : ℕ → List ℕ → ℕ → List ℕ
walk zero links n = []
walk (suc f) links zero = []
walk (suc f) links (suc k) = suc k ∷ walk f links (next links (suc k))

-- Where f steps from row n lead; at 0 one stays.
abbrev pub gone : ℕ → List ℕ → ℕ → ℕ
gone zero links n = n
gone (suc f) links zero = 0
gone (suc f) links (suc k) = gone f links (next links (suc k))

-- The chain from row n on; no chain that ends is longer than there are links.
unfoldable pub rest : List ℕ → ℕ → List ℕ
rest links n = walk (length links) links n

-- The whole chain.
abbrev pub chain : List ℕ → List ℕ
chain links = rest links (next links 0)

unfoldable pub end : List ℕ → ℕ
end links = gone (length links) links (next links 0)

-- The chain comes to 0. So it names rows that there are, and none twice.
abbrev pub Ends : List ℕ → Type 0
Ends links = end links ≡ 0

-- n is the number of one of so many rows.
abbrev pub Row : ℕ → ℕ → Type 0
Row count n = (0 < n) × (n ≤ count)

-- From row a, or from the head where a is 0, the links lead through the rows xs to b.
abbrev pub Path : List ℕ → ℕ → List ℕ → ℕ → Type 0
Path links a [] b = next links a ≡ b
Path links a (x ∷ xs) b = (next links a ≡ x) × ((0 < x) × (x < length links)) × Path links x xs b

-- The last number of the list, and a where it has none.
abbrev pub last : ℕ → List ℕ → ℕ
last a [] = a
last a (x ∷ xs) = last x xs

-- The first number of the list, or 0.
abbrev pub first : List ℕ → ℕ
first [] = 0
first (x ∷ xs) = x

-- The list without the first n in it.
abbrev pub without : ℕ → List ℕ → List ℕ
without n [] = []
without n (x ∷ xs) = cond (x == n) xs (x ∷ without n xs)

-- The list without its first number.
abbrev pub tail : List ℕ → List ℕ
tail [] = []
tail (x ∷ xs) = xs

-- The chain cut in two after the row `before`, which is 0 where the front is empty; `at` is the first row behind the cut, or 0.
pub record Cut (links : List ℕ) (before at : ℕ) (front back : List ℕ) : Type 0 where
  pub front_path : Path links 0 front at
  pub back_path : Path links before back 0
  pub before_is : before ≡ last 0 front
  pub at_is : at ≡ next links before

-- Row n stands on the chain behind the row `before`, or first where that is 0.
pub record Before (links : List ℕ) (n before : ℕ) : Type 0 where
  pub front : List ℕ
  pub back : List ℕ
  pub cut : Cut links before n front back
  pub row : 0 < n

-- Row n gets what followed row b, and follows it.
abbrev pub inserted : List ℕ → ℕ → ℕ → List ℕ
inserted links b n = slice_set (slice_set links n (next links b)) b n

-- What follows row b, row n, goes: row b gets what followed n, and n gets 0.
abbrev pub removed : List ℕ → ℕ → List ℕ
removed links b = let n = next links b in slice_set (slice_set links b (next links n)) n 0

-- Another chain through the same rows, from the head g.
abbrev pub from_head : ℕ → List ℕ → List ℕ
from_head g links = slice_set links 0 g

-- A change of links: the chain is xs now; it ends, names no row twice, and each of its rows is followed by the next; only rows of
-- `touched` have another link; and every other chain that has none of these rows is as it was.
pub record Becomes (links links' : List ℕ) (xs touched : List ℕ) : Type 0 where
  pub order : chain links' ≡ xs
  pub ends : Ends links'
  pub once : (n : ℕ) → times n xs ≤ 1
  pub path : Path links' 0 xs 0
  pub elsewhere : (n : ℕ) → 0 < n → times n touched ≡ 0 → next links' n ≡ next links n
  pub others : (g : ℕ) → Ends (from_head g links) → ((n : ℕ) → 0 < times n (chain (from_head g links)) → times n touched ≡ 0) → (chain (from_head g links') ≡ chain (from_head g links)) × Ends (from_head g links')

-- Rows are the same but for their links.
abbrev pub Kept : {R : Type 0} → (R → ℕ → R) → List R → List R → Type 0
Kept relinked rows rows' = map (λ x. relinked x 0) rows' ≡ map (λ x. relinked x 0) rows

-- The rank of row n; `ranks` has it at place n - 1.
abbrev pub rank_of : List ℕ → ℕ → ℕ
rank_of ranks n = slice_index ranks (n - 1)

-- Row n stands before the first row of a smaller rank, so behind those of its own.
abbrev pub by_rank : List ℕ → ℕ → List ℕ → List ℕ
by_rank ranks n [] = n ∷ []
by_rank ranks n (x ∷ xs) = cond (nat_lt (rank_of ranks x) (rank_of ranks n)) (n ∷ (x ∷ xs)) (x ∷ by_rank ranks n xs)

-- The chain with row n put in by its rank is front, n, back.
pub record Place (links ranks : List ℕ) (n before : ℕ) : Type 0 where
  pub front : List ℕ
  pub back : List ℕ
  pub cut : Cut links before (next links before) front back
  pub put : by_rank ranks n (front ++ back) ≡ front ++ (n ∷ back)
