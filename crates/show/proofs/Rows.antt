-- The rows of a listing that was not refused.
use Rattle.std.proofs.Common.{◌≡◌, ℕ, ◌≤◌, Bool, true, false, cond, List, ◌++◌, length, take, drop, Ok, Some, None, leb, ap, ◌∙◌, length-append, arith}
use Rattle.std.proofs.Math.Seq.{take-append_seam}
use Rattle.std.proofs.lemmas.List.{length-map}
use Rattle.tables.specs.State.{State}
use Rattle.listing.specs.declared.Listed.{Listed}
use Rattle.listing.specs.Listed.{row_of, list_rows, listed}
use Rattle.kernel.specs.Listing.{counted, list_answer}

-- They are the first n rows that were lent, and there are as many.
of_enough : (enough : Bool) (count n : ℕ) (front more rest : List Listed) → length front ≡ count → counted (cond enough (Some count) None) ≡ Ok n → (take n (cond enough (front ++ more) rest) ≡ front) × (n ≤ length (cond enough (front ++ more) rest))
of_enough false count n front more rest e o = absurd (cc)
of_enough true count n front more rest e o =
    let same : n ≡ length front = cc in
    let long = length-append front more in
    (ap (λ m. take m (front ++ more)) same ∙ take-append_seam front more, omega arith)

of_listing : (s : State) (lent : List Listed) (n : ℕ) → list_answer s lent ≡ Ok n → (take n (listed s lent) ≡ list_rows s) × (n ≤ length (listed s lent))
of_listing s lent n o =
    of_enough (leb 32 (length lent)) (length s.order) n (list_rows s) (drop (length s.order) lent) lent (length-map s.order (row_of s)) o

pub rows_are : (s : State) (lent : List Listed) (n : ℕ) → list_answer s lent ≡ Ok n → take n (listed s lent) ≡ list_rows s
rows_are s lent n o = (of_listing s lent n o).0

pub rows_fit : (s : State) (lent : List Listed) (n : ℕ) → list_answer s lent ≡ Ok n → n ≤ length (listed s lent)
rows_fit s lent n o = (of_listing s lent n o).1
