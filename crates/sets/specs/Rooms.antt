-- Rooms: the sizes of the code's local buffers, each a product of the limits, by the names that src/rooms.rt has; and the facts that what an allowed set puts there fits.
-- Said here once, of the set alone, so that no caller multiplies bounds, and a raised limit moves no line. Rests on Bounds.
use Rattle.std.specs.Prelude.{◌≡◌, ℕ, ◌+◌, ◌*◌, ◌/◌, ◌≤◌}
use Rattle.std.proofs.Common.{mul-le-mul, arith}
use Rattle.sets.specs.declared.Set.{Set}
use Rattle.sets.specs.Sets.{most_v, most_o, least_l, most_l, most_row, variables}
use Rattle.sets.specs.Bounds.{Bounds}

-- the powers of S, or l rows of l² bytes
abbrev pub powers_room : ℕ
powers_room = most_l * (most_l * most_l)

-- T12, or F21 of one i: v·l times o·l bytes
abbrev pub private_room : ℕ
private_room = most_v * most_row

-- P22 of one i: o·l rows of o·l bytes
abbrev pub key_room : ℕ
key_room = most_o * most_row

-- v matrices, an element to a byte; also l rows of v or o blocks
abbrev pub vinegar_room : ℕ
vinegar_room = most_v * (most_l * most_l)

-- v matrices laid from place 0 or 1 on, and one block more
abbrev pub flat_room : ℕ
flat_room = vinegar_room + most_l * most_l

-- n matrices, an element to a byte
abbrev pub list_room : ℕ
list_room = vinegar_room + most_row

-- the powers of S times v matrices, and times n: rows of l² bytes; and how many rows they have
abbrev pub vinegar_powers_room : ℕ
vinegar_powers_room = vinegar_room * most_l

abbrev pub list_powers_room : ℕ
list_powers_room = list_room * most_l

abbrev pub vinegar_rows : ℕ
vinegar_rows = most_v * most_l

abbrev pub list_rows : ℕ
list_rows = vinegar_rows + most_row / least_l

-- the left or the right sums of signing's system: o·l² times o·l bytes
abbrev pub side_sums_room : ℕ
side_sums_room = most_row * (most_row / least_l)

-- the power sums of every matrix index: o·l² rows of l² bytes
abbrev pub power_sums_room : ℕ
power_sums_room = most_row * (most_l * most_l)

-- a room of k bytes, found again as n bytes
pub kept-room : {a k n : ℕ} → a ≤ k → n ≡ k → a ≤ n
kept-room h e = omega arith

module _ {set : Set} (b : Bounds set) where
  pub powers-room : set.l * set.l * set.l ≤ powers_room
  powers-room = omega (arith, b.products.lll)

  pub private-room : set.v * set.l * (set.o * set.l) ≤ private_room
  private-room = omega (arith, b.products.voll)

  pub f21-room : set.o * set.l * (set.v * set.l) ≤ private_room
  f21-room = omega (arith, private-room)

  pub key-room : set.o * set.l * (set.o * set.l) ≤ key_room
  key-room = omega (arith, b.products.ooll)

  -- l rows of v blocks, and of o blocks
  pub v-blocks-room : set.l * (set.v * set.l) ≤ vinegar_room
  v-blocks-room = omega (arith, b.products.vll)

  pub o-blocks-room : set.l * (set.o * set.l) ≤ vinegar_room
  o-blocks-room = omega (arith, b.limits.row)

  pub list-room : variables set * (set.l * set.l) ≤ list_room
  list-room = omega (arith, b.products.vll, b.limits.row)

  -- rows of l² bytes: v·l of them, and n·l

  pub vinegar-powers-room : set.v * set.l * (set.l * set.l) ≤ vinegar_powers_room
  vinegar-powers-room = omega (arith, mul-le-mul b.limits.v-most b.products.lll)

  pub list-powers-room : variables set * set.l * (set.l * set.l) ≤ list_powers_room
  list-powers-room = omega (arith, mul-le-mul list-room b.limits.l-most)

  pub vinegar-rows : set.v * set.l ≤ vinegar_rows
  vinegar-rows = b.products.vl

  pub list-rows : variables set * set.l ≤ list_rows
  list-rows = omega (arith, b.products.vl, b.products.ol)

  -- o·l² rows of o·l bytes, and o·(o·l) rows of l² bytes

  pub left-room : set.o * (set.l * set.l) * (set.o * set.l) ≤ side_sums_room
  left-room = let half : set.o * set.l ≤ most_row / least_l = omega (arith, b.products.ol) in mul-le-mul b.limits.row half

  pub right-room : set.o * (set.o * set.l) * (set.l * set.l) ≤ side_sums_room
  right-room = omega (arith, left-room)

  pub sums-room : set.o * (set.l * set.l) * (set.l * set.l) ≤ power_sums_room
  sums-room = omega (arith, b.products.ollll)
