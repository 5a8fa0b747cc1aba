-- Few digits of a base up to 16 make no number too large.
use Rattle.std.proofs.Common.{◌≡◌, ℕ, suc, ap, ◌+◌, ◌*◌, ◌^◌, ◌<◌, ◌≤◌, arith}
use Rattle.std.proofs.Math.Nat.{pow-suc, pow-le-pow_right}

pub room_for_digit : (value count : ℕ) → value < 16 ^ count → count < 16 → (value + 1) * 16 ≤ 2 ^ 64
room_for_digit value count small few =
    let power = pow-suc 16 count in
    let most : 16 ^ suc count ≤ 16 ^ 16 = pow-le-pow_right (omega arith) few in
    omega (arith, small, power, most)

pub next_is_small : (value more count : ℕ) → value < 16 ^ count → more < (value + 1) * 16 → more < 16 ^ (count + 1)
next_is_small value more count small next =
    let power = pow-suc 16 count in
    let one : 16 ^ (count + 1) ≡ 16 ^ suc count = ap (λ (k : ℕ). 16 ^ k) (omega arith) in
    omega (arith, small, power, next, one)
