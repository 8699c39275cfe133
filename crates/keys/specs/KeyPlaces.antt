-- Where key generation reads and writes: rows of the tables, elements of the key. Every index lies within its buffer
-- and no product wraps. Rests on sets' bounds and ground's places.
use Rattle.std.specs.Prelude.{◌≡◌, ℕ, ◌+◌, ◌*◌, ◌/◌, ◌%◌, ◌<◌, ◌≤◌}
use Rattle.std.proofs.Common.{div-lt_iff_lt-mul, mod-lt, arith}
use Rattle.std.proofs.Math.Arith.{digits_lt}
use Rattle.ground.specs.Place.{row_fits}
use Rattle.sets.specs.declared.Set.{Set}
use Rattle.sets.specs.Sets.{key_count, key_bytes}
use Rattle.sets.specs.Bounds.{Bounds}

-- ---- the tables

pub some-v : {set : Set} → Bounds set → 0 < set.v
some-v b = omega (arith, b.limits.v-least)

pub some-o : {set : Set} → Bounds set → 0 < set.o
some-o b = omega (arith, b.limits.o-least)

pub some-l : {set : Set} → Bounds set → 0 < set.l
some-l b = omega (arith, b.limits.l-least)

-- row y of the table of F21, in rows of v·l bytes
pub record RowTurn (set : Set) (y : ℕ) : Type 0 where
  pub positive : 0 < set.l
  pub row : y * (set.v * set.l) + set.v * set.l ≤ set.o * set.l * (set.v * set.l)
  pub block : y / set.l < set.o
  pub entry : y % set.l < set.l

pub row-turn : {set : Set} {y : ℕ} → Bounds set → y < set.o * set.l → RowTurn set y
row-turn {set} {y} b h =
    let positive = some-l b in
    record { positive = positive; row = row_fits (set.v * set.l) h; block = (div-lt_iff_lt-mul positive).1 h; entry = mod-lt y positive }

-- ---- the key

-- row q of the o·o·l rows of l elements that equation i has in the key, and where it stands in the table
pub record PutTurn (set : Set) (i q : ℕ) : Type 0 where
  pub positive : 0 < set.l
  pub some : 0 < set.o
  pub number : i * (set.o * set.o * set.l) + q < set.o * (set.o * set.o * set.l)
  pub from : (i * (set.o * set.o * set.l) + q) * set.l + set.l ≤ set.o * (set.o * set.o * set.l) * set.l
  pub row : q / set.l / set.o * set.l + q % set.l < set.o * set.l
  pub block : q / set.l % set.o * set.l + set.l ≤ set.o * set.l
  pub place : (q / set.l / set.o * set.l + q % set.l) * (set.o * set.l) + set.o * set.l ≤ set.o * set.l * (set.o * set.l)

pub put-turn : {set : Set} {i q : ℕ} → Bounds set → i < set.o → q < set.o * set.o * set.l → PutTurn set i q
put-turn {set} {i} {q} b hi hq =
    let positive = some-l b in
    let some = some-o b in
    let number : i * (set.o * set.o * set.l) + q < set.o * (set.o * set.o * set.l) = digits_lt hi hq in
    let block : q / set.l / set.o < set.o = (div-lt_iff_lt-mul some).1 ((div-lt_iff_lt-mul positive).1 hq) in
    let row : q / set.l / set.o * set.l + q % set.l < set.o * set.l = digits_lt block (mod-lt q positive) in
    record {
      positive = positive;
      some = some;
      number = number;
      from = row_fits set.l number;
      row = row;
      block = row_fits set.l (mod-lt (q / set.l) some);
      place = row_fits (set.o * set.l) row;
    }

-- the key holds all elements
pub key-within : {set : Set} {n : ℕ} → Bounds set → n ≡ key_bytes set → set.o * (set.o * set.o * set.l) * set.l ≤ 2 * n
unfolding key_bytes
key-within b e = omega (arith, b.counts.key)

-- a spare half stands in the key's last byte
pub spare-within : (set : Set) {n m : ℕ} → n ≡ key_count set → n % 2 ≡ 1 → m ≡ key_bytes set → n / 2 < m
unfolding key_bytes
spare-within set e odd long = omega arith
