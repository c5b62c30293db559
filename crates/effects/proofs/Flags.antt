-- Flags that are cleared.
use Rattle.std.proofs.Common.{◌≡◌, ℕ, ◌+◌, ◌-◌, ◌*◌, ◌/◌, ◌%◌, ◌≤◌, min, sym, refl, ap, ◌∙◌, ap₂, arith}
use lib.Arith.{bin_ind}
use lib.Bits.{bit_and, and_step, and_le_l}

-- no flag among the bits is left
pub none_left : (flags bits : ℕ) → bit_and (flags - bit_and flags bits) bits ≡ 0
none_left =
    bin_ind (λ (n : ℕ). (b : ℕ) → bit_and (n - bit_and n b) b ≡ 0) (λ b. refl)
    (λ n ih b.
    let rest = n - bit_and n b in
    let up = bit_and (n / 2) (b / 2) in
    let low = min (n % 2) (b % 2) in
    let s : bit_and n b ≡ up * 2 + low = and_step n b in
    let u : up ≤ n / 2 = and_le_l (n / 2) (b / 2) in
    let half : rest / 2 ≡ n / 2 - up = omega (arith, s, u) in
    let odd : min (rest % 2) (b % 2) ≡ 0 = omega (arith, s, u) in
    and_step rest b ∙ ap₂ (λ (x y : ℕ). x * 2 + y) (ap (λ (x : ℕ). bit_and x (b / 2)) half ∙ ih (b / 2)) odd)

-- and a flag that is not among them stays as it was
pub others_stay : (flags bits other : ℕ) → bit_and bits other ≡ 0 → bit_and (flags - bit_and flags bits) other ≡ bit_and flags other
others_stay =
    bin_ind (λ (n : ℕ). (b o : ℕ) → bit_and b o ≡ 0 → bit_and (n - bit_and n b) o ≡ bit_and n o) (λ b o e. refl)
    (λ n ih b o e.
    let rest = n - bit_and n b in
    let up = bit_and (n / 2) (b / 2) in
    let apart : bit_and (b / 2) (o / 2) * 2 + min (b % 2) (o % 2) ≡ 0 = sym (and_step b o) ∙ e in
    let s : bit_and n b ≡ up * 2 + min (n % 2) (b % 2) = and_step n b in
    let u : up ≤ n / 2 = and_le_l (n / 2) (b / 2) in
    let half : rest / 2 ≡ n / 2 - up = omega (arith, s, u) in
    let odd : min (rest % 2) (o % 2) ≡ min (n % 2) (o % 2) = omega (arith, s, u, apart) in
    let high : bit_and (b / 2) (o / 2) ≡ 0 = omega (arith, apart) in
    and_step rest o ∙ ap₂ (λ (x y : ℕ). x * 2 + y) (ap (λ (x : ℕ). bit_and x (o / 2)) half ∙ ih (b / 2) (o / 2) high) odd ∙ sym (and_step n o))
