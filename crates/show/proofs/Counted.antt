-- The lines of the packets, one more each time.
use Rattle.std.proofs.Common.{◌≡◌, ℕ, zero, suc, ◌-◌, ◌<◌, List, ◌++◌, sym, ap, ◌∙◌, append_assoc, append-nil, arith}
use Rattle.tables.specs.State.{State}
use Rattle.show.specs.Shown.{packet_line, packet_lines}

pub one_more : (s : State) (bs : List ℕ) (n : ℕ) → 0 < n → (bs ++ packet_lines s (n - 1)) ++ packet_line s n ≡ bs ++ packet_lines s n
unfolding packet_lines
one_more s bs zero h = absurd (omega arith)
one_more s bs (suc n) h =
    let e : suc n - 1 ≡ n = omega arith in
    ap (λ m. (bs ++ packet_lines s m) ++ packet_line s (suc n)) e ∙ append_assoc bs (packet_lines s n) (packet_line s (suc n))

pub none_yet : (s : State) (bs : List ℕ) → bs ≡ bs ++ packet_lines s 0
unfolding packet_lines
none_yet s bs = sym (append-nil bs)
