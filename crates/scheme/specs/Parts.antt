-- What the four parts of a matrix of matrices are, and what the private change makes of a vinegar and of an oil index.
-- Rests on Maps.
use Rattle.std.specs.Prelude.{◌≡◌, false, List, ℕ, ◌+◌, ◌-◌, ◌<◌, ◌≤◌, ltb}
use Rattle.std.proofs.Common.{subst, arith}
use Rattle.std.proofs.Math.Decide.{dec_lt}
use borrow.Author.Tests.{lt-ltb, le-ltb}
use Rattle.sets.specs.declared.Set.{Set}
use Rattle.matrix.specs.Matrix.{Matrix, add_m, mul_m}
use Rattle.scheme.specs.Streams.{T12}
use Rattle.scheme.specs.Maps.{sum_m, parts, private_change}

-- v + k stands past the cut, at k
past : (v k : ℕ) → ltb (v + k) v ≡ false
past v k = le-ltb (v + k) v (omega arith)

back : (v k : ℕ) → v + k - v ≡ k
back v k = omega arith

-- an index below v + o is a vinegar index, or v and an oil index
pub vinegar-or-oil : (v o : ℕ) (P : ℕ → Type 0) → ((j : ℕ) → j < v → P j) → ((k : ℕ) → k < o → P (v + k)) → (j : ℕ) → j < v + o → P j
vinegar-or-oil v o P vinegar oil j h =
    elim (dec_lt j v) [ yes l ↦ vinegar j l | no l ↦ let at : v + (j - v) ≡ j = omega arith in subst P at (oil (j - v) (omega arith)) ]

pub by_parts : (v o : ℕ) (P : ℕ → ℕ → Type 0)
    → ((j k : ℕ) → j < v → k < v → P j k) → ((j k : ℕ) → j < v → k < o → P j (v + k))
    → ((j k : ℕ) → j < o → k < v → P (v + j) k) → ((j k : ℕ) → j < o → k < o → P (v + j) (v + k))
    → (j k : ℕ) → j < v + o → k < v + o → P j k
by_parts v o P p11 p12 p21 p22 j k hj hk =
    vinegar-or-oil v o (λ j. P j k) (λ j h. vinegar-or-oil v o (P j) (λ k. p11 j k h) (λ k. p12 j k h) k hk)
    (λ j h. vinegar-or-oil v o (P (v + j)) (λ k. p21 j k h) (λ k. p22 j k h) k hk) j hj

module _ (v : ℕ) (M11 M12 M21 M22 : ℕ → ℕ → Matrix) where
  pub parts-11 : (j k : ℕ) → j < v → k < v → parts v M11 M12 M21 M22 j k ≡ M11 j k
  unfolding parts
  parts-11 j k hj hk = rw (lt-ltb j v hj, lt-ltb k v hk)

  pub parts-12 : (j k : ℕ) → j < v → parts v M11 M12 M21 M22 j (v + k) ≡ M12 j k
  unfolding parts
  parts-12 j k hj = rw (lt-ltb j v hj, past v k, back v k)

  pub parts-21 : (j k : ℕ) → k < v → parts v M11 M12 M21 M22 (v + j) k ≡ M21 j k
  unfolding parts
  parts-21 j k hk = rw (past v j, lt-ltb k v hk, back v j)

  pub parts-22 : (j k : ℕ) → parts v M11 M12 M21 M22 (v + j) (v + k) ≡ M22 j k
  unfolding parts
  parts-22 j k = rw (past v j, past v k, back v j, back v k)

-- the four laws as one
pub record FourParts (v : ℕ) (M11 M12 M21 M22 M : ℕ → ℕ → Matrix) : Type 0 where
  pub at-11 : (j k : ℕ) → j < v → k < v → M j k ≡ M11 j k
  pub at-12 : (j k : ℕ) → j < v → M j (v + k) ≡ M12 j k
  pub at-21 : (j k : ℕ) → k < v → M (v + j) k ≡ M21 j k
  pub at-22 : (j k : ℕ) → M (v + j) (v + k) ≡ M22 j k

pub four-parts : (v : ℕ) (M11 M12 M21 M22 : ℕ → ℕ → Matrix) → FourParts v M11 M12 M21 M22 (parts v M11 M12 M21 M22)
four-parts v M11 M12 M21 M22 =
    record {
      at-11 = parts-11 v M11 M12 M21 M22;
      at-12 = parts-12 v M11 M12 M21 M22;
      at-21 = parts-21 v M11 M12 M21 M22;
      at-22 = parts-22 v M11 M12 M21 M22;
    }

module _ (set : Set) (private : List ℕ) (U : ℕ → Matrix) where
  -- Xj = Uj + the sum over k of T12(j,k)·U(v+k)
  pub change-vinegar : (j : ℕ) → j < set.v
      → private_change set private U j ≡ add_m (U j) (sum_m set.o (λ k. mul_m set.l (T12 set private j k) (U (set.v + k))))
  unfolding private_change
  change-vinegar j h = rw (lt-ltb j set.v h)

  -- oil unchanged
  pub change-oil : (k : ℕ) → private_change set private U (set.v + k) ≡ U (set.v + k)
  unfolding private_change
  change-oil k = rw (past set.v k)

  -- the same, by an index that is not a vinegar index
  pub change-past : (j : ℕ) → set.v ≤ j → private_change set private U j ≡ U j
  unfolding private_change
  change-past j h = rw (le-ltb j set.v h)
