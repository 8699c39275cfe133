-- Blocks in a byte table: the code works in rows, page 01 speaks in l by l blocks, and here the two meet.
-- Rests on Plus and PlusRows, algebra's sums and ground's places.
use Rattle.std.specs.Prelude.{◌≡◌, refl, List, ℕ, zero, suc, ◌+◌, ◌*◌, ◌/◌, ◌%◌, ◌<◌, get_or}
use Rattle.std.proofs.Common.{sym, ap, ◌∙◌, zero-mul, suc-mul, div-add-mod', arith}
use Rattle.field.specs.Field.{add}
use Rattle.algebra.specs.Ring.{Ring}
use Rattle.algebra.specs.Sum.{sum, sum-split}
use Rattle.rows.specs.PlusRows.{PlusRows}

-- entry (r, c) of block (j, k) of a byte table with rows of n bytes, in blocks of l by l
unfoldable pub tile : (l n : ℕ) → List ℕ → ℕ → ℕ → ℕ → ℕ → ℕ
tile l n s j k r c = get_or s ((j * l + r) * n + (k * l + c)) 0

pub tile-is : (l n : ℕ) (s : List ℕ) (j k r c : ℕ) → tile l n s j k r c ≡ get_or s ((j * l + r) * n + (k * l + c)) 0
unfolding tile
tile-is l n s j k r c = refl

-- an entry of the table, by its block
pub entry-tile : (l n : ℕ) (s : List ℕ) (y z : ℕ) → get_or s (y * n + z) 0 ≡ tile l n s (y / l) (z / l) (y % l) (z % l)
unfolding tile
entry-tile l n s y z = rw (div-add-mod' y l, div-add-mod' z l)

-- one sum over a · l numbers is a double sum over their digits to the base l
pub sum-blocks : {A : Type 0} {𝟘 : A} {◌⊕◌ ◌⊗◌ : A → A → A} {tr : A → A} → Ring 𝟘 ◌⊕◌ ◌⊗◌ tr → (a l : ℕ) (f : ℕ → A)
    → sum 𝟘 ◌⊕◌ (a * l) f ≡ sum 𝟘 ◌⊕◌ a (λ j. sum 𝟘 ◌⊕◌ l (λ x. f (j * l + x)))
unfolding sum
sum-blocks R zero l f = rw (zero-mul l)
sum-blocks {◌⊕◌ = ◌⊕◌} R (suc a) l f = rw (suc-mul a l, sum-split R (a * l) l f, sum-blocks R a l f)

-- the blocks of a table whose rows gain
pub rows-tile : (l : ℕ) {n m : ℕ} {d t : List ℕ} {f : ℕ → ℕ → ℕ} → PlusRows d 0 m n f t → (j k r c : ℕ) → j * l + r < m → k * l + c < n
    → tile l n t j k r c ≡ add (tile l n d j k r c) (f (j * l + r) (k * l + c))
unfolding tile
rows-tile l {n} {d = d} {t = t} {f = f} p j k r c hr hc =
    let e : (j * l + r) * n + (k * l + c) ≡ 0 + ((j * l + r) * n + (k * l + c)) = omega arith in
    ap (λ i. get_or t i 0) e ∙ p.inside (j * l + r) (k * l + c) hr hc ∙ ap (λ i. add (get_or d i 0) (f (j * l + r) (k * l + c))) (sym e)
