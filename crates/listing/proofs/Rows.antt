-- Rows written on a walk down the order.
use Rattle.std.proofs.Common.{◌≡◌, ℕ, ◌+◌, ◌<◌, ◌≤◌, List, [], ◌∷◌, ◌++◌, map, length, drop, set, sym, ap, ◌∙◌, ap₂, append_assoc, arith, length-append}
use lib.ListN.{length-map}
use Rattle.std.proofs.lemmas.List.{drop_more, set_at, map_push, length_push}
use Rattle.chain.proofs.Paths.{chain_room}
use Rattle.tasks.specs.View.{links}
use Rattle.tables.specs.declared.store.Tables.{Tables}
use Rattle.tables.specs.State.{State}
use Rattle.tables.specs.View.{view}
use Rattle.listing.specs.declared.Listed.{Listed}
use Rattle.listing.specs.Listed.{row_of}

-- one row more
write_row : {A : Type 0} (f : ℕ → A) (front : List ℕ) (at n : ℕ) (before : List A) → n ≡ length front → n < length before → set (map f front ++ drop n before) n (f at) ≡ map f (front ++ (at ∷ [])) ++ drop (n + 1) before
write_row f front at n before e h =
    ap (λ z. set (map f front ++ z) n (f at)) (drop_more before n (f at) h) ∙ set_at (map f front) _ (drop (n + 1) before) (f at) n (length-map front f ∙ sym e) ∙
    sym (append_assoc (map f front) (f at ∷ []) (drop (n + 1) before)) ∙ ap (λ z. z ++ drop (n + 1) before) (sym (map_push f front at))

-- no more tasks than rows
pub order_room : (tb : Tables) → length (view tb).order ≤ 32
order_room tb = let t = tb.tasks in omega (arith, chain_room (links t) (omega arith) t.ends, length-map t.rows (λ r. r.next), t.sized)

-- n rows are written, and those for the tasks `left` are still to be
pub record Written (s : State) (before rows : List Listed) (left : List ℕ) (n : ℕ) : Type 0 where
  pub front : List ℕ
  pub order : s.order ≡ front ++ left
  pub count : n ≡ length front
  pub are : rows ≡ map (row_of s) front ++ drop n before

pub none_written : (s : State) (rows : List Listed) (left : List ℕ) (n : ℕ) → left ≡ s.order → n ≡ 0 → Written s rows rows left n
none_written s rows left n all none =
    record { front = []; order = sym all; count = none; are = sym (ap (λ k. drop k rows) none) }

pub room : (s : State) (before rows : List Listed) (left : List ℕ) (n : ℕ) → Written s before rows left n → n + length left ≡ length s.order
room s before rows left n w = omega (arith, w.count, ap length w.order, length-append w.front left)

module _ (s : State) (before rows : List Listed) (left : List ℕ) (n : ℕ) (w : Written s before rows left n) (at : ℕ) (more : List ℕ) (on : left ≡ at ∷ more) where
  split : s.order ≡ w.front ++ (at ∷ more)
  split = w.order ∙ ap (λ z. w.front ++ z) on

  pub row_written : n < length before → (i m : ℕ) (row : Listed) → i ≡ n → m ≡ n + 1 → row ≡ row_of s at → Written s before (set rows i row) more m
  row_written h i m row here next is =
      record {
        front = w.front ++ (at ∷ []);
        order = split ∙ sym (append_assoc w.front (at ∷ []) more);
        count = omega (arith, next, w.count, length_push w.front at);
        are = ap (λ k. set rows k row) here ∙ ap₂ (λ xs x. set xs n x) w.are is ∙ write_row (row_of s) w.front at n before w.count h ∙ ap (λ k. map (row_of s) (w.front ++ (at ∷ [])) ++ drop k before) (sym next);
      }
