-- Where a turn of a loop reads and writes: products of bounds, so that every index lies within its buffer and none wraps.
-- Rests on the kit's arithmetic and ground's places.
use Rattle.std.specs.Prelude.{◌≡◌, ℕ, ◌+◌, ◌*◌, ◌/◌, ◌%◌, ◌<◌, ◌≤◌}
use Rattle.std.proofs.Common.{mul-le-mul_right, mul-pos, le-mul_of_pos_right, div-lt_iff_lt-mul, mod-lt, arith}
use Rattle.std.proofs.Math.Arith.{digits_lt}
use Rattle.ground.specs.Place.{row_fits}
use Rattle.sets.specs.declared.Set.{Set}
use Rattle.sets.specs.Sets.{private_bytes}
use Rattle.sets.specs.Bounds.{Bounds}
use Rattle.tables.specs.Gains.{row_start, row-within-stream}

-- block first + k of the count blocks from the first on, and its row r
pub record BlockTurn (l first count k r : ℕ) : Type 0 where
  pub number : first + k + 1 ≤ (first + count) * (l * l)
  pub block : (first + k + 1) * (l * l) ≤ (first + count) * (l * l)
  pub row : row_start l (first + k) r + l ≤ (first + count) * (l * l)

pub block-turn : (l number : ℕ) {count k r : ℕ} → k < count → r < l → BlockTurn l number count k r
block-turn l number {count} {k} {r} hk hr =
    let positive : 0 < l = omega arith in
    let whole : number + k + 1 ≤ number + count = omega arith in
    let blocks = mul-le-mul_right (l * l) whole in
    record {
      number = omega (arith, le-mul_of_pos_right (number + k + 1) (mul-pos positive positive));
      block = blocks;
      row = row-within-stream l number hk hr;
    }

-- group first + k of l coefficients
pub record GroupTurn (l first count k : ℕ) : Type 0 where
  pub number : first + k + 1 ≤ (first + count) * l
  pub group : (first + k + 1) * l ≤ (first + count) * l

pub group-turn : (l first : ℕ) {count k : ℕ} → k < count → 0 < l → GroupTurn l first count k
group-turn l first {count} {k} hk hl =
    let whole : first + k + 1 ≤ first + count = omega arith in
    let group = mul-le-mul_right l whole in
    record { number = omega (arith, le-mul_of_pos_right (first + k + 1) hl); group = group }

-- row x of block p of the table of the powers of S
pub record PowerTurn (l p x : ℕ) : Type 0 where
  pub rows : p * l + x < l * l
  pub row : (p * l + x) * l + l ≤ l * l * l
  pub square : l * l ≤ l * l * l

pub power-turn : (l : ℕ) {p x : ℕ} → p < l → x < l → PowerTurn l p x
power-turn l {p} {x} hp hx =
    let positive : 0 < l = omega arith in
    let rows = digits_lt hp hx in
    record { rows = rows; row = row_fits l rows; square = le-mul_of_pos_right (l * l) positive }

-- row y of the private table, and the groups of coefficients that it is made of
pub record PrivateTurn (set : Set) (y : ℕ) : Type 0 where
  pub positive : 0 < set.l
  pub row : y * (set.o * set.l) + set.o * set.l ≤ set.v * set.l * (set.o * set.l)
  pub first : y / set.l * set.o + set.o ≤ set.v * set.o
  pub groups : (y / set.l * set.o + set.o) * set.l ≤ set.v * set.o * set.l
  pub column : y % set.l < set.l

pub private-turn : {set : Set} {y : ℕ} → Bounds set → y < set.v * set.l → PrivateTurn set y
private-turn {set} {y} b h =
    let positive : 0 < set.l = omega (arith, b.limits.l-least) in
    let first = row_fits set.o ((div-lt_iff_lt-mul positive).1 h) in
    record {
      positive = positive;
      row = row_fits (set.o * set.l) h;
      first = first;
      groups = mul-le-mul_right set.l first;
      column = mod-lt y positive;
    }

-- the private stream holds all groups
pub private-within : {set : Set} {n : ℕ} → Bounds set → n ≡ private_bytes set → set.v * set.o * set.l ≤ 2 * n
unfolding private_bytes
private-within b e = omega (arith, b.counts.private)

-- row y of the powers of S times a list of n matrices, and the matrix that it is made of
pub record ListTurn (l n y : ℕ) : Type 0 where
  pub rows : n * l ≤ n * l * (l * l)
  pub row : y * (l * l) + l * l ≤ n * l * (l * l)
  pub matrix : (y / l + 1) * (l * l) ≤ n * (l * l)
  pub column : y % l < l

pub list-turn : (l n : ℕ) {y : ℕ} → 0 < l → y < n * l → ListTurn l n y
list-turn l n {y} positive h =
    let below : y / l < n = (div-lt_iff_lt-mul positive).1 h in
    let number : y / l + 1 ≤ n = omega arith in
    record { rows = le-mul_of_pos_right (n * l) (mul-pos positive positive); row = row_fits (l * l) h; matrix = mul-le-mul_right (l * l) number; column = mod-lt y positive }
