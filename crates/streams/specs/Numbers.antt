-- Where a block row stands: its first block's number, and that the row lies within its stream; and the same of all blocks of one matrix index.
-- Rests on scheme's numbers of blocks and on the bounds of an allowed set.
use Rattle.std.specs.Prelude.{◌≡◌, List, ℕ, ◌+◌, ◌*◌, ◌<◌, ◌≤◌}
use Rattle.std.proofs.Common.{sym, subst}
use Rattle.std.proofs.Math.Nat.{mul-le-mul_right}
use native.Mathlib.Omega.{arith}
use Rattle.std.proofs.Math.Arith.{digits_lt}
use Rattle.std.proofs.Math.ListN.{length}
use Rattle.ground.specs.Place.{row_fits}
use Rattle.sets.specs.declared.Set.{Set}
use Rattle.sets.specs.Sets.{public_count, key_count, public_bytes, key_bytes}
use Rattle.sets.specs.Bounds.{Bounds}
use Rattle.scheme.specs.Streams.{p11_number, p12_number, p21_number, p22_number}

-- how many blocks the public stream has, and the key
abbrev pub public_blocks : Set → ℕ
public_blocks s = s.o * (s.v * s.v) + s.o * (s.v * s.o) + s.o * (s.o * s.v)

abbrev pub key_blocks : Set → ℕ
key_blocks s = s.o * s.o * s.o

-- n is a block's number, and count blocks from it on are among the stream's blocks
pub record Starts (blocks number count n : ℕ) : Type 0 where
  pub is : n ≡ number
  pub within : n + count ≤ blocks

module _ (set : Set) {i j : ℕ} (hi : i < set.o) where
  pub p11-fits : j < set.v → p11_number set i j 0 + set.v ≤ public_blocks set
  p11-fits hj = omega (arith, row_fits set.v (digits_lt hi hj))

  pub p12-fits : j < set.v → p12_number set i j 0 + set.o ≤ public_blocks set
  p12-fits hj = omega (arith, row_fits set.o (digits_lt hi hj))

  pub p21-fits : j < set.o → p21_number set i j 0 + set.v ≤ public_blocks set
  p21-fits hj = omega (arith, row_fits set.v (digits_lt hi hj))

  pub p22-fits : j < set.o → p22_number set i j 0 + set.o ≤ key_blocks set
  p22-fits hj = omega (arith, row_fits set.o (digits_lt hi hj))

-- what was computed is the number
pub starts : {blocks number count n : ℕ} → n ≡ number → number + count ≤ blocks → Starts blocks number count n
starts e h = record { is = e; within = omega arith }

module _ {set : Set} (b : Bounds set) where
  -- blocks of a stream of the exact length stand in its bytes
  pub public-within : (public : List ℕ) {n : ℕ} → length public ≡ public_bytes set → n ≤ public_blocks set → n * (set.l * set.l) ≤ 2 * length public
  unfolding public_bytes
  public-within public long h =
      let whole : public_count set ≤ 2 * length public = omega arith in
      omega (arith, mul-le-mul_right (set.l * set.l) h, b.counts.public)

  pub key-within : (key : List ℕ) {n : ℕ} → length key ≡ key_bytes set → n ≤ key_blocks set → n * (set.l * set.l) ≤ 2 * length key
  unfolding key_bytes
  key-within key long h =
      let whole : key_count set ≤ 2 * length key = omega arith in
      omega (arith, mul-le-mul_right (set.l * set.l) h, b.counts.key)

-- ---- what the code forms on the way to a number: everything stays small

-- row j of matrix i, where each matrix has a rows of b blocks
pub record RowNumber (a b i j : ℕ) : Type 0 where
  pub matrix : i * a ≤ 400000
  pub row : i * a + j ≤ 400000
  pub block : (i * a + j) * b ≤ 400000

row_number : (b : ℕ) {a o i j : ℕ} → i < o → j < a → o * a ≤ 400000 → o * a * b ≤ 400000 → RowNumber a b i j
row_number b hi hj rows blocks =
    let row = digits_lt hi hj in
    record { matrix = omega (arith, row); row = omega (arith, row); block = omega (arith, row_fits b row) }

module _ {set : Set} (b : Bounds set) {i j : ℕ} (hi : i < set.o) where
  pub p11-row : j < set.v → RowNumber set.v set.v i j
  p11-row hj = row_number set.v hi hj (omega (arith, b.products.vo)) (omega (arith, b.products.vvo))

  pub p12-row : j < set.v → RowNumber set.v set.o i j
  p12-row hj = row_number set.o hi hj (omega (arith, b.products.vo)) (omega (arith, b.products.voo))

  pub p21-row : j < set.o → RowNumber set.o set.v i j
  p21-row hj = row_number set.v hi hj (omega (arith, b.products.oo)) (omega (arith, b.products.voo))

  pub p22-row : j < set.o → RowNumber set.o set.o i j
  p22-row hj = row_number set.o hi hj (omega (arith, b.products.oo)) (omega (arith, b.products.ooo))

-- ---- one matrix index

-- the blocks of matrix index i in a public stream of n bytes
pub record PublicPlaces (set : Set) (i n : ℕ) : Type 0 where
  pub p11 : (p11_number set i 0 0 + set.v * set.v) * (set.l * set.l) ≤ 2 * n
  pub p12 : (p12_number set i 0 0 + set.v * set.o) * (set.l * set.l) ≤ 2 * n
  pub p21 : (p21_number set i 0 0 + set.o * set.v) * (set.l * set.l) ≤ 2 * n

pub public-places : {set : Set} {i n : ℕ} → Bounds set → i < set.o → n ≡ public_bytes set → PublicPlaces set i n
unfolding public_bytes
public-places {set} {i} {n} b h e =
    let v = set.v in
    let o = set.o in
    let whole : public_count set ≤ 2 * n = omega arith in
    let vv = row_fits (v * v) h in
    let vo = row_fits (v * o) h in
    let first : p11_number set i 0 0 + v * v ≤ o * (v * v) = omega arith in
    let second : p12_number set i 0 0 + v * o ≤ o * (v * v) + o * (v * o) = omega arith in
    let third : p21_number set i 0 0 + o * v ≤ o * (v * v) + o * (v * o) + o * (v * o) = omega arith in
    record {
      p11 = omega (arith, mul-le-mul_right (set.l * set.l) first, b.counts.public);
      p12 = omega (arith, mul-le-mul_right (set.l * set.l) second, b.counts.public);
      p21 = omega (arith, mul-le-mul_right (set.l * set.l) third, b.counts.public);
    }

-- a number that was computed, in the place of its definition
pub number-within : (count size : ℕ) {number n room : ℕ} → n ≡ number → (number + count) * size ≤ room → (n + count) * size ≤ room
number-within count size {room = room} e h = subst (λ k. (k + count) * size ≤ room) (sym e) h
