-- Bytes copied to places at equal distances, and so the blocks of a stream, as they are laid element after element, into rows of blocks: entry (r, c) of all
-- blocks is one such column. Rests on streams' Laid and on Sums.
use Rattle.std.specs.Prelude.{◌≡◌, refl, List, ◌≢◌, ℕ, ◌+◌, ◌*◌, ◌/◌, ◌%◌, ◌<◌, ◌≤◌, length, get_or, set}
use Rattle.std.proofs.Common.{sym, ap, ◌∙◌, not-suc-le-zero, div-add-mod', div-lt_iff_lt-mul, mod-lt, arith, length-set, get_or-set_same, get_or-set_other}
use Rattle.std.proofs.Math.Decide.{dec_lt}
use Rattle.std.proofs.Math.Arith.{digits_lt, digits_div, digits_mod}
use Rattle.ground.specs.Place.{row_fits}
use Rattle.scheme.specs.Streams.{block_of}
use Rattle.tables.specs.Gains.{blocks_row}
use Rattle.tables.specs.Sums.{HasRows}
use Rattle.streams.specs.Laid.{Laid}

-- t is d with f k at place at + k·stride, for each k below count
pub record Column (d : List ℕ) (at stride count : ℕ) (f : ℕ → ℕ) (t : List ℕ) : Type 0 where
  pub long : length t ≡ length d
  pub there : (k : ℕ) → k < count → get_or t (at + k * stride) 0 ≡ f k
  pub others : (x : ℕ) → ((k : ℕ) → k < count → x ≢ at + k * stride) → get_or t x 0 ≡ get_or d x 0

-- ---- a loop that copies one byte after the other

pub record Copying (d : List ℕ) (at stride count : ℕ) (f : ℕ → ℕ) (k : ℕ) (t : List ℕ) : Type 0 where
  pub upto : k ≤ count
  pub so_far : Column d at stride k f t

pub copying-none : {d : List ℕ} {at stride count : ℕ} {f : ℕ → ℕ} → Copying d at stride count f 0 d
copying-none = record { upto = omega arith; so_far = record { long = refl; there = λ k h. absurd (not-suc-le-zero h); others = λ x h. refl } }

-- places of different numbers differ
apart : (at stride : ℕ) {j k : ℕ} → 0 < stride → j < k → at + j * stride ≢ at + k * stride
apart at stride some h = omega (arith, row_fits stride h)

pub copying-next : {d t : List ℕ} {at stride count : ℕ} {f : ℕ → ℕ} {k b : ℕ} → Copying d at stride count f k t → k < count → 0 < stride → at + k * stride < length d
    → b ≡ f k → Copying d at stride count f (k + 1) (set t (at + k * stride) b)
copying-next {d} {t} {at} {stride} {count} {f} {k} {b} p h some room e = record {
  upto = omega arith;
  so_far = record {
    long = length-set t (at + k * stride) b ∙ p.so_far.long;
    there = λ j hj.
        elim (dec_lt j k) [
          | yes l ↦ get_or-set_other t (at + k * stride) (at + j * stride) b 0 (apart at stride some l) ∙ p.so_far.there j l
          | no l ↦ let j-is : j ≡ k = omega arith in rw j-is (get_or-set_same t (at + k * stride) b 0 (omega (arith, p.so_far.long)) ∙ e)
        ];
    others = λ x away. get_or-set_other t (at + k * stride) x b 0 (away k (omega arith)) ∙ p.so_far.others x (λ j hj. away j (omega arith));
  };
}

pub copying-end : {d t : List ℕ} {at stride count : ℕ} {f : ℕ → ℕ} {k : ℕ} → Copying d at stride count f k t → count ≤ k → Column d at stride count f t
copying-end {d} {t} {at} {stride} {count} {f} {k} p h = let all : k ≡ count = omega (arith, p.upto) in rw all at p.so_far

-- ---- a loop that copies one entry of all blocks after the other

-- entry (r, c) of block k in rows of count blocks, and that no other entry stands there
module _ (l count : ℕ) where
  abbrev entry_place : (r k c : ℕ) → ℕ
  entry_place r k c = r * (count * l) + (k * l + c)

  entry-apart : {r k c r' k' c' : ℕ} → k < count → c < l → k' < count → c' < l → entry_place r k c ≡ entry_place r' k' c' → (r ≡ r') × (c ≡ c')
  entry-apart {r} {k} {c} {r'} {k'} {c'} hk hc hk' hc' e =
      let column : k * l + c ≡ k' * l + c' = sym (digits_mod r (digits_lt hk hc)) ∙ ap (λ x. x % (count * l)) e ∙ digits_mod r' (digits_lt hk' hc') in (
        sym (digits_div r (digits_lt hk hc)) ∙ ap (λ x. x / (count * l)) e ∙ digits_div r' (digits_lt hk' hc'),
        sym (digits_mod k hc) ∙ ap (λ x. x % l) column ∙ digits_mod k' hc',
      )

-- the first e entries, row by row, of each block
pub record Loading (l count : ℕ) (stream : List ℕ) (number e : ℕ) (t : List ℕ) : Type 0 where
  pub upto : e ≤ l * l
  pub so_far : (r c k : ℕ) → r < l → c < l → k < count → r * l + c < e → get_or t (entry_place l count r k c) 0 ≡ block_of l stream (number + k) r c

pub loading-none : {l count : ℕ} {stream : List ℕ} {number : ℕ} {d : List ℕ} → Loading l count stream number 0 d
loading-none = record { upto = omega arith; so_far = λ r c k hr hc hk h. absurd (not-suc-le-zero h) }

pub loading-next : {l count : ℕ} {stream : List ℕ} {number e at place : ℕ} {t u flat : List ℕ} → Loading l count stream number e t → e < l * l → 0 < l
    → Laid l count stream number place flat → at ≡ e / l * (count * l) + e % l → Column t at l count (λ k. get_or flat (place + e + k * (l * l)) 0) u
    → Loading l count stream number (e + 1) u
loading-next {l} {count} {stream} {number} {e} {at} {place} {t} {u} {flat} p h some laid at-is q = record {
  upto = omega arith;
  so_far = λ r c k hr hc hk below.
      elim (dec_lt (r * l + c) e) [
        | yes b ↦ q.others (entry_place l count r k c) (away r c k hc hk b) ∙ p.so_far r c k hr hc hk b
        | no b ↦ here r c k hr hc hk (omega arith)
      ];
}
  where
    digits : e / l * l + e % l ≡ e
    digits = div-add-mod' e l

    away : (r c k : ℕ) → c < l → k < count → r * l + c < e → (j : ℕ) → j < count → entry_place l count r k c ≢ at + j * l
    away r c k hc hk b j hj meet =
        let to : at + j * l ≡ entry_place l count (e / l) j (e % l) = omega arith in
        let same = entry-apart l count hk hc hj (mod-lt e some) (meet ∙ to) in
        let is : r * l + c ≡ e = ap (λ x. x * l + c) same.0 ∙ ap (λ x. e / l * l + x) same.1 ∙ digits in
        omega arith

    here : (r c k : ℕ) → r < l → c < l → k < count → e ≡ r * l + c → get_or u (entry_place l count r k c) 0 ≡ block_of l stream (number + k) r c
    here r c k hr hc hk is =
        let row : e / l ≡ r = ap (λ x. x / l) is ∙ digits_div r hc in
        let column : e % l ≡ c = ap (λ x. x % l) is ∙ digits_mod r hc in
        let start : at ≡ r * (count * l) + c = at-is ∙ ap (λ x. x * (count * l) + e % l) row ∙ ap (λ x. r * (count * l) + x) column in
        let to : entry_place l count r k c ≡ at + k * l = omega arith in
        let from : place + e + k * (l * l) ≡ place + r * l + c + k * (l * l) = omega arith in
        ap (λ x. get_or u x 0) to ∙ q.there k hk ∙ ap (λ x. get_or flat x 0) from ∙ laid.entry k r c hk hr hc

pub loading-end : {l count : ℕ} {stream : List ℕ} {number e : ℕ} {t : List ℕ} → Loading l count stream number e t → l * l ≤ e → 0 < l
    → HasRows l (count * l) (blocks_row l stream number) t
unfolding blocks_row
loading-end {l} {count} {stream} {number} {e} {t} p h some = record {
  at = λ r z hr hz.
      let is : z / l * l + z % l ≡ z = div-add-mod' z l in
      ap (λ x. get_or t (r * (count * l) + x) 0) (sym is)
      ∙ p.so_far r (z % l) (z / l) hr (mod-lt z some) ((div-lt_iff_lt-mul some).1 hz) (omega (arith, digits_lt hr (mod-lt z some)));
}

-- ---- where a turn reads and writes

pub record EntryTurn (l count e : ℕ) : Type 0 where
  pub row : e / l * (count * l) + count * l ≤ l * (count * l)
  pub column : e % l < l
  pub write : (k : ℕ) → k < count → e / l * (count * l) + e % l + k * l < l * (count * l)
  pub read : (k : ℕ) → k < count → e + k * (l * l) < count * (l * l)

pub entry-turn : (l count : ℕ) {e : ℕ} → 0 < l → e < l * l → EntryTurn l count e
entry-turn l count {e} some h =
    let row : e / l < l = (div-lt_iff_lt-mul some).1 h in
    let column = mod-lt e some in
    record {
      row = row_fits (count * l) row;
      column = column;
      write = λ k hk. omega (arith, digits_lt row (digits_lt hk column));
      read = λ k hk. omega (arith, digits_lt hk h);
    }
