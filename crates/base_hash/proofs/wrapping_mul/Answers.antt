-- The product of the low halves, and the low half of the mixed products above it; what is left out
-- is a multiple of 2^64. Assumes nothing.
use Rattle.std.proofs.Common.{ℕ, ◌+◌, ◌*◌, ◌/◌, ◌%◌, ◌∙◌, ap₂, arith}
use Rattle.base_hash.proofs.Product.{K, halves_fit, product}
use Rattle.base_hash.proofs.wrapping_mul.Goals as goal

pub overflow_mul-a : goal.overflow_mul-a
overflow_mul-a c =
    omega (
      arith,
      halves_fit (c.args.a / K) c.low.result (omega arith)
          (omega (arith, c.low.ensures)),
    )

pub overflow_mul-low : goal.overflow_mul-low
overflow_mul-low c =
    omega (
      arith,
      halves_fit c.low-2.result (c.args.b / K)
          (omega (arith, c.low-2.ensures)) (omega arith),
    )

pub overflow_mul-low-2 : goal.overflow_mul-low-2
overflow_mul-low-2 c =
    omega (
      arith,
      halves_fit c.low-3.result c.low-4.result
          (omega (arith, c.low-3.ensures)) (omega (arith, c.low-4.ensures)),
    )

pub returns : goal.returns
returns c =
    let mixed = c.wrapping_add_u64-mixed.ensures.value
    ∙ ap₂ (λ (x y : ℕ).
    (c.args.a / K * x + y
    * (c.args.b / K)) %
    18446744073709551616) c.low.ensures
    c.low-2.ensures in
    let lows =
    ap₂ (λ (x y : ℕ). x * y) c.low-3.ensures
    c.low-4.ensures in
    omega (
      arith,
      c.wrapping_add_u64.ensures.value,
      lows,
      c.low-5.ensures,
      product
          c.args.a
          c.args.b
          c.wrapping_add_u64-mixed.result mixed,
    )
