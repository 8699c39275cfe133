-- No second outcome meets a contract of this crate: the answer and every lent buffer are fixed by what went in.
-- Rests on ground's `unique-equation`, and on the uniqueness of rows that gain.
use Rattle.std.specs.Prelude.{◌≡◌, List, ℕ, ◌*◌}
use Rattle.ground.specs.Outcome.{unique-equation}
use Rattle.rows.specs.PlusRows.{PlusRows, rows-unique}
use Rattle.sets.specs.declared.Set.{Set}
use Rattle.matrix.specs.Block.{block}
use Rattle.streams.specs.declared.Term.{Term}
use Rattle.terms.specs.Terms.{gathered_from, term_with, equation_from, power_gain}

pub unique-term-block : (l : ℕ) (t : Term) (sums : List ℕ) {r r' : List ℕ} → r ≡ block l (term_with l t sums) → r' ≡ block l (term_with l t sums) → r ≡ r'
unique-term-block l t sums = unique-equation

pub unique-gathered-block : (l : ℕ) (a b : ℕ → ℕ) (sums : List ℕ) (index : ℕ) {r r' : List ℕ} → r ≡ block l (gathered_from l a b sums index)
    → r' ≡ block l (gathered_from l a b sums index) → r ≡ r'
unique-gathered-block l a b sums index = unique-equation

pub unique-equation-block : (set : Set) (abq sums : List ℕ) (i : ℕ) {r r' : List ℕ} → r ≡ block set.l (equation_from set abq sums i)
    → r' ≡ block set.l (equation_from set abq sums i) → r ≡ r'
unique-equation-block set abq sums i = unique-equation

pub unique-add-power-sum : (d : List ℕ) (at l : ℕ) (w : List ℕ) (j : ℕ) (y : List ℕ) {t u : List ℕ} → PlusRows d at (l * l) (l * l) (power_gain l w j y) t
    → PlusRows d at (l * l) (l * l) (power_gain l w j y) u → t ≡ u
unique-add-power-sum d at l w j y = rows-unique
