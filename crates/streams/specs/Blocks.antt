-- A block of a packed stream: its bytes, and what Algorithm 2 makes of it. Elements of a stream are below 16, so 10 and 23 cannot come.
-- Rests on scheme's blocks, and on matrix's promise of Algorithm 2.
use Rattle.std.specs.Prelude.{◌≡◌, Result, Ok, true, List, ℕ, ◌+◌, ◌*◌, ◌/◌, ◌%◌, ◌<◌, ◌≤◌}
use Rattle.std.proofs.Common.{ap, ◌∙◌, arith}
use borrow.Author.Tests.{lt-ltb, le-ltb}
use Rattle.std.proofs.Math.Arith.{digits_lt}
use Rattle.ground.specs.Pick.{pick}
use Rattle.ground.specs.Answers.{first, first-met, met-none, met-more}
use Rattle.packing.specs.Packing.{element}
use Rattle.matrix.specs.Matrix.{Matrix}
use Rattle.matrix.specs.Same.{Same}
use Rattle.matrix.specs.Block.{view, block, block_same, cell, inside, holds, stride}
use Rattle.matrix.specs.Invertible.{algorithm2, can_be_invertible}
use Rattle.matrix.specs.InvertibleLaws.{can_be_invertible-same, algorithm2-same}
use Rattle.matrix.specs.Limits.{size_allowed, matrix_rules, invertible_rules}
use Rattle.matrix.specs.LimitLaws.{entries-pass, allowed-most}
use Rattle.matrix.specs.PromiseLaws.{invertible-asked}
use Rattle.matrix.specs.Promises.{Makes}
use Rattle.ground.specs.declared.Refusal.{Refusal}
use Rattle.scheme.specs.Streams.{block_of}
use Rattle.scheme.specs.Entries.{block_of-lt}

-- ---- a block's bytes

pub element-within : (l number : ℕ) {n r c : ℕ} → (number + 1) * (l * l) ≤ n → r < l → c < l → number * (l * l) + (r * l + c) < n
element-within l number h hr hc = omega (arith, digits_lt hr hc)

-- a byte whose row or column is outside l is 0, any other the element
module _ (l : ℕ) (M : Matrix) (e : ℕ) where
  pub cell_below : l ≤ e / stride → 0 ≡ cell l M e
  unfolding cell inside
  cell_below h = rw (le-ltb (e / stride) l h)

  pub cell-right : e / stride < l → l ≤ e % stride → 0 ≡ cell l M e
  unfolding cell inside
  cell-right hr h = rw (lt-ltb (e / stride) l hr, le-ltb (e % stride) l h)

  pub cell-entry : e / stride < l → e % stride < l → M (e / stride) (e % stride) ≡ cell l M e
  unfolding cell inside
  cell-entry hr hc = rw (lt-ltb (e / stride) l hr, lt-ltb (e % stride) l hc)

pub cell-element : (l : ℕ) (s : List ℕ) (number e : ℕ) → e / stride < l → e % stride < l → element s (number * (l * l) + (e / stride * l + e % stride)) ≡ cell l (block_of l s number) e
unfolding block_of
cell-element l s number e hr hc = cell-entry l (block_of l s number) e hr hc

-- ---- Algorithm 2

-- of elements nothing but 21 is refused
only-21 : {l : ℕ} {M N : Matrix} → size_allowed l ≡ true → ((r c : ℕ) → N r c < 16) → Same l M N
    → first (invertible_rules l M) ≡ pick (can_be_invertible l N) 0 21
only-21 {l} {M} {N} allowed small same =
    let elements = entries-pass l M (λ r c hr hc. rw (same.at r c hr hc) (small r c)) in
    let none : first (matrix_rules l M) ≡ 0 = first-met (met-more allowed (met-more elements met-none)) in
    invertible-asked l M none ∙ ap (λ b. pick b 0 21) (can_be_invertible-same same)

-- the promise, said of the matrix that was read
makes-of : {l : ℕ} {M N : Matrix} {r : Result (List ℕ) Refusal} → size_allowed l ≡ true → ((x y : ℕ) → N x y < 16) → Same l M N
    → Makes (first (invertible_rules l M)) (block l (algorithm2 l M)) r → Makes (pick (can_be_invertible l N) 0 21) (block l (algorithm2 l N)) r
makes-of {l} {M} {N} {r} allowed small same m =
    let number : first (invertible_rules l M) ≡ pick (can_be_invertible l N) 0 21 = only-21 allowed small same in
    record {
      number = m.number ∙ number;
      done = λ z. m.done (number ∙ z) ∙ ap Ok (block_same (algorithm2-same same));
    }

pub makes-read : (l : ℕ) (s : List ℕ) (number : ℕ) {m : List ℕ} {r : Result (List ℕ) Refusal} → size_allowed l ≡ true → m ≡ block l (block_of l s number)
    → Makes (first (invertible_rules l (view m))) (block l (algorithm2 l (view m))) r
    → Makes (pick (can_be_invertible l (block_of l s number)) 0 21) (block l (algorithm2 l (block_of l s number))) r
makes-read l s number allowed e = makes-of allowed (block_of-lt l s number) (holds (omega (arith, allowed-most l allowed)) e)
