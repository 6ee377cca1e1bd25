-- How large the volume of a record can be.
use Rattle.std.specs.Prelude.{◌≡◌, ℕ, ◌^◌, ◌<◌, ◌≤◌, List, length}
use Rattle.byte_order.specs.Bytes.{Bytes}
use Rattle.byte_order.specs.Volume.{volume_width}
use Rattle.std.proofs.Math.Nat.{pow-le-pow_right}
use Rattle.std.proofs.Common.{arith}

-- A volume of eight bytes at most is a number of 64 bits.
pub volume_below : (number : List ℕ → ℕ) → ((bs : List ℕ) → Bytes bs → number bs < 256 ^ length bs) → (record_len : ℕ) → record_len ≤ 16 → (field : List ℕ) → Bytes field → length field ≡ volume_width record_len → number field < 2 ^ 64
volume_below number below record_len most field bytes wide =
    let short : 256 ^ length field ≤ 256 ^ 8 = pow-le-pow_right {n = 256} (omega arith) {i = length field} {j = 8} (omega arith) in
    omega (arith, below field bytes)
