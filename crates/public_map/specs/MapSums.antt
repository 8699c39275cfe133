-- The table of power sums of P at matrices U, from the table of the powers of S times U: for one matrix index one j after the other, and index after index.
-- What U is does not matter: the promises are of every U whose powers the table w holds. Rests on MapRows, and on terms' laws of such tables.
use Rattle.std.specs.Prelude.{◌≡◌, refl, List, ℕ, ◌+◌, ◌*◌, ◌<◌, ◌≤◌, length, get_or}
use Rattle.std.proofs.Common.{subst, ◌∙◌, arith}
use Rattle.sets.specs.declared.Set.{Set}
use Rattle.sets.specs.Sets.{variables}
use Rattle.matrix.specs.Matrix.{Matrix}
use Rattle.matrix.specs.Same.{same_refl, same-trans, same_sum, same-mul}
use Rattle.scheme.specs.Streams.{P22}
use Rattle.scheme.specs.Maps.{PWith}
use Rattle.scheme.specs.Regroup.{power_times}
use Rattle.rows.specs.PlusRows.{PlusRows}
use Rattle.tables.specs.Table.{Holds}
use Rattle.terms.specs.Terms.{power_gain}
use Rattle.terms.specs.FromSums.{HoldsSums}
use Rattle.terms.specs.Accumulate.{Accumulating, accumulating-none, accumulating-next, SumsUpTo, sums_none, sums_next}
use Rattle.public_map.specs.MapRows.{map_sum}

-- the table w holds the powers of S times the matrices U
abbrev pub PowersOf : (set : Set) (w : List ℕ) (U : ℕ → Matrix) → Type 0
PowersOf set w U = Holds set.l (set.l * set.l) (variables set) set.l w (λ k b. power_times set.l b (U k))

-- ---- one matrix index

-- the rows of matrix index i have gained the terms of the first j, and nothing else has changed
pub record IndexSums (set : Set) (public key w : List ℕ) (i : ℕ) (before : List ℕ) (j : ℕ) (after : List ℕ) : Type 0 where
  pub long : length after ≡ length before
  pub sums : (U : ℕ → Matrix) → PowersOf set w U
      → Accumulating set.l (variables set) (PWith set public (P22 set key) i) U (i * (set.l * set.l) * (set.l * set.l)) before j after

pub index-none : {set : Set} {public key w : List ℕ} {i : ℕ} {d : List ℕ} → IndexSums set public key w i d 0 d
index-none = record { long = refl; sums = λ U h. accumulating-none }

pub index-next : {set : Set} {public key w : List ℕ} {i j : ℕ} {d t u y : List ℕ} → IndexSums set public key w i d j t → j < variables set
    → Holds set.l (set.l * set.l) 1 set.l y (λ z b. map_sum set public key w i j b)
    → PlusRows t (i * (set.l * set.l) * (set.l * set.l)) (set.l * set.l) (set.l * set.l) (power_gain set.l w j y) u → IndexSums set public key w i d (j + 1) u
index-next {set} {public} {key} {w} {i} {j} {y = y} p hj right q = record {
  long = q.long ∙ p.long;
  sums = λ U h.
      accumulating-next set.l (variables set) (PWith set public (P22 set key) i) U w j y
      (λ x hx. h.same j x hj hx)
      (λ b hb. same-trans (right.same 0 b (omega arith) hb) (same_sum (variables set) (λ k hk. same-mul same_refl (h.same k b hk hb))))
      (p.sums U h) q;
}

pub index-end : {set : Set} {public key w : List ℕ} {i j n : ℕ} {d t : List ℕ} → IndexSums set public key w i d j t → j ≤ n → n ≤ j → IndexSums set public key w i d n t
index-end {set} {public} {key} {w} {i} {j} {n} {d} {t} p h k = let all : j ≡ n = omega arith in subst (λ x. IndexSums set public key w i d x t) all p

-- ---- index after index

-- the first i indices are done
pub record Summing (set : Set) (public key w : List ℕ) (i : ℕ) (t : List ℕ) : Type 0 where
  pub upto : i ≤ set.o
  pub sums : (U : ℕ → Matrix) → PowersOf set w U → SumsUpTo set.l (variables set) (PWith set public (P22 set key)) U i t

pub summing-none : {set : Set} {public key w d : List ℕ} → ((k : ℕ) → get_or d k 0 ≡ 0) → Summing set public key w 0 d
summing-none z = record { upto = omega arith; sums = λ U h. sums_none z }

pub summing-next : {set : Set} {public key w : List ℕ} {i : ℕ} {t u : List ℕ} → Summing set public key w i t → i < set.o
    → IndexSums set public key w i t (variables set) u → Summing set public key w (i + 1) u
summing-next p h q = record { upto = omega arith; sums = λ U hw. sums_next (p.sums U hw) refl (q.sums U hw) }

-- the table holds the power sums of every index
pub record SumsOf (set : Set) (public key w t : List ℕ) : Type 0 where
  pub sums : (U : ℕ → Matrix) → PowersOf set w U → HoldsSums set.l (variables set) (PWith set public (P22 set key)) U set.o t

pub summing-end : {set : Set} {public key w : List ℕ} {i : ℕ} {t : List ℕ} → Summing set public key w i t → set.o ≤ i → SumsOf set public key w t
summing-end {set} {public} {key} {w} {i} {t} p h =
    let all : i ≡ set.o = omega (arith, p.upto) in
    record { sums = λ U hw. subst (λ x. HoldsSums set.l (variables set) (PWith set public (P22 set key)) U x t) all (p.sums U hw).holds }
