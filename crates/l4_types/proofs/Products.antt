-- A mantissa of 10 bits by a power of two of 5 bits.
use Rattle.std.proofs.Common.{ℕ, ◌+◌, ◌*◌, ◌^◌, ◌<◌, arith}
use Rattle.std.proofs.lemmas.Nat.{pow_pos, shl_below}
use Rattle.std.proofs.Math.Nat.{mul-pos}
use Rattle.std.proofs.Math.Pow.{pow_mono}

pub product_positive : (m e : ℕ) → 0 < m → 0 < m * 2 ^ e
product_positive m e h = mul-pos h (pow_pos e)

pub product_below : (m e : ℕ) → m < 1024 → e < 32 → m * 2 ^ e < 2 ^ 42
product_below m e small low = omega (arith, shl_below m 10 e small, pow_mono {i = 10 + e} {j = 41} (omega arith))
