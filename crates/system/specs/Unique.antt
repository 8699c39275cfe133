-- No second outcome meets a contract of this crate: every lent buffer is fixed by what went in. Of what a term's own buffers hold (`fill_sides`)
-- the part that the contract speaks of is fixed, and nothing else of them is read. Rests on rows' PlusRows, Filled and Equation.
use Rattle.std.specs.Prelude.{◌≡◌, List, ℕ, ◌+◌, ◌*◌, ◌<◌, get_or}
use Rattle.std.proofs.Common.{sym, ◌∙◌, arith}
use Rattle.ground.specs.Outcome.{unique-equation}
use Rattle.rows.specs.PlusRows.{PlusRows, rows-unique}
use Rattle.sets.specs.declared.Set.{Set}
use Rattle.sets.specs.Bounds.{Bounds}
use Rattle.matrix.specs.Matrix.{Matrix}
use Rattle.matrix.specs.Block.{block, block_bytes, stride}
use Rattle.matrix.specs.RingElements.{coefficient}
use Rattle.scheme.specs.Streams.{group_of}
use Rattle.partial_sums.specs.SumPlaces.{table-sizes}
use Rattle.partial_sums.specs.Unique.{table-unique}
use Rattle.system.specs.Sides.{Sides, combined_from, outer_row, row_gain}
use Rattle.system.specs.Equation.{Built}

module _ {set : Set} (bounds : Bounds set) where
  pub unique-build : (abq target left right sums sp : List ℕ) {before g g' : List ℕ}
      → Built set abq target left right sums sp before g → Built set abq target left right sums sp before g' → g ≡ g'
  unique-build abq target left right sums sp p q =
      table-unique {m = set.o} (table-sizes bounds).square (omega arith) (p.long ∙ sym q.long)
      (λ i e z hi he hz. p.row i e z hi he hz ∙ sym (q.row i e z hi he hz)) (λ k h. p.beyond k h ∙ sym (q.beyond k h))

-- ---- rows that gain

pub unique-add-outer : (d sides m : List ℕ) (l count : ℕ) {t u : List ℕ}
    → PlusRows d 0 (count * l * l) (l * stride) (outer_row l sides m) t → PlusRows d 0 (count * l * l) (l * stride) (outer_row l sides m) u → t ≡ u
unique-add-outer d sides m l count = rows-unique

pub unique-add-rows : (d lefts rights : List ℕ) (at l count : ℕ) {t u : List ℕ}
    → PlusRows d at (l * l) (count * l * l + 1) (row_gain l count lefts rights) t → PlusRows d at (l * l) (count * l * l + 1) (row_gain l count lefts rights) u → t ≡ u
unique-add-rows d lefts rights at l count = rows-unique

-- ---- a term's own buffers

pub unique-combined : (table abq : List ℕ) (l w row column down across group : ℕ) {r r' : List ℕ}
    → r ≡ block l (combined_from l (coefficient l (group_of l abq group)) table w row column down across)
    → r' ≡ block l (combined_from l (coefficient l (group_of l abq group)) table w row column down across) → r ≡ r'
unique-combined table abq l w row column down across group = unique-equation

pub unique-fill-sides : (l count : ℕ) (M : ℕ → Matrix) {t u : List ℕ} → Sides l count M t → Sides l count M u
    → (k r c : ℕ) → k < count → r < l → c < l → get_or t (k * block_bytes + (r * stride + c)) 0 ≡ get_or u (k * block_bytes + (r * stride + c)) 0
unique-fill-sides l count M p q k r c hk hr hc = p.at k r c hk hr hc ∙ sym (q.at k r c hk hr hc)
