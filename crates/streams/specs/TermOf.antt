-- A term of an equation as the code holds it, and the ABQ stream that it is read from.
-- Rests on scheme's A, B and coefficients, and on matrix's promise of Algorithm 2.
use Rattle.std.specs.Prelude.{◌≡◌, Result, Ok, Bool, true, List, ℕ, ◌*◌, ◌<◌, length, get_or}
use Rattle.std.proofs.Math.Path.{ap}
use Rattle.std.proofs.Common.{◌∙◌, zero-add as zero-plus, arith}
use Rattle.ground.specs.Pick.{pick}
use Rattle.ground.specs.Tests.{every-at}
use Rattle.ground.specs.Segment.{Segment}
use Rattle.rows.specs.Zero.{zeros}
use Rattle.sets.specs.declared.Set.{Set}
use Rattle.sets.specs.Sets.{all_terms, abq_bytes}
use Rattle.matrix.specs.Block.{block, stride}
use Rattle.matrix.specs.Invertible.{algorithm2, can_be_invertible}
use Rattle.matrix.specs.Promises.{Makes}
use Rattle.ground.specs.declared.Refusal.{Refusal}
use Rattle.scheme.specs.Streams.{block_of, a_number, b_number, A, B}
use Rattle.scheme.specs.Maps.{matrix_index, all_invertible}
use Rattle.scheme.specs.Regroup.{q1_of, q2_of}
use Rattle.streams.specs.declared.Term.{Term}
use Rattle.streams.specs.TermPlaces.{TermPlace, a-within, b-within}

-- an ABQ stream that is not refused: 12 and 21 do not apply
pub record AbqLent (set : Set) (abq : List ℕ) : Type 0 where
  pub long : length abq ≡ abq_bytes set
  pub invertible : all_invertible set abq ≡ true

-- the parts of term (i, alpha): the coefficients stand in the first l places, with zeros behind them
pub record TermOf (set : Set) (abq : List ℕ) (i alpha : ℕ) (t : Term) : Type 0 where
  pub a : t.a ≡ block set.l (A set abq i alpha)
  pub b : t.b ≡ block set.l (B set abq i alpha)
  pub q1 : Segment (zeros stride) 0 set.l (q1_of set abq i alpha) t.q1
  pub q2 : Segment (zeros stride) 0 set.l (q2_of set abq i alpha) t.q2
  pub index : t.index ≡ matrix_index set i alpha

-- the coefficients that an array of them holds
pub coefficient-in : {l : ℕ} {a : ℕ → ℕ} {q : List ℕ} → Segment (zeros stride) 0 l a q → (x : ℕ) → x < l → get_or q x 0 ≡ a x
coefficient-in s x h = rw (zero-plus x) at (s.inside x h)

-- ---- where no block is refused, what Algorithm 2 makes of it is there

-- block b is not refused
abbrev pub passes : (l : ℕ) (abq : List ℕ) → ℕ → Bool
passes l abq b = can_be_invertible l (block_of l abq b)

made-is : (set : Set) (abq : List ℕ) (b : ℕ) {result : List ℕ} {r : Result (List ℕ) Refusal} → all_invertible set abq ≡ true → b < 2 * all_terms set
    → Makes (pick (passes set.l abq b) 0 21) result r → r ≡ Ok result
unfolding all_invertible
made-is set abq b all h m = m.done (ap (λ b. pick b 0 21) (every-at (2 * all_terms set) (passes set.l abq) all b h))

module _ {set : Set} {i alpha : ℕ} (t : TermPlace set i alpha) (abq : List ℕ) (lent : AbqLent set abq) where
  -- the block with A's number
  pub a-is : {n : ℕ} {r : Result (List ℕ) Refusal} → n ≡ a_number set i alpha
      → Makes (pick (passes set.l abq n) 0 21) (block set.l (algorithm2 set.l (block_of set.l abq n))) r → r ≡ Ok (block set.l (A set abq i alpha))
  unfolding A
  a-is {n} e m = made-is set abq n lent.invertible (omega (arith, a-within t)) m ∙ ap (λ n. Ok (block set.l (algorithm2 set.l (block_of set.l abq n)))) e

  -- and the one with B's
  pub b-is : {n : ℕ} {r : Result (List ℕ) Refusal} → n ≡ b_number set i alpha
      → Makes (pick (passes set.l abq n) 0 21) (block set.l (algorithm2 set.l (block_of set.l abq n))) r → r ≡ Ok (block set.l (B set abq i alpha))
  unfolding B
  b-is {n} e m = made-is set abq n lent.invertible (omega (arith, b-within t)) m ∙ ap (λ n. Ok (block set.l (algorithm2 set.l (block_of set.l abq n)))) e
