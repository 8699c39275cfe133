-- The sixteen facts that page 01 marks P ("Pages for the course"), in its order and under a single statement, over the definitions that the contracts cite.
-- Rests on those definitions; a fact that is computed beside its definition is cited here.
use Rattle.std.specs.Prelude.{◌≡◌, refl, [], ◌∷◌, ℕ, ◌<◌}
use Rattle.std.proofs.Common.{sym, ap, ◌∙◌, arith}
use Rattle.ground.specs.Fill.{tab}
use Rattle.algebra.specs.Powers.{power, power-one}
use Rattle.field.specs.Field.{times, mul, inverse}
use Rattle.field.specs.Laws.{inverse-zero}
use Rattle.packing.specs.Packing.{packed, unpacked}
use Rattle.packing.specs.Example.{page-unpacked, page-packed}
use Rattle.sets.specs.Table.{set_of}
use Rattle.matrix.specs.Matrix.{Matrix, zero_m, mul_m}
use Rattle.matrix.specs.MatrixRing.{matrices}
use Rattle.matrix.specs.RingElements.{S, power_s, algorithm1}
use Rattle.matrix.specs.RingLaws.{S-base}
use Rattle.matrix.specs.Determinant.{det}
use Rattle.matrix.specs.Invertible.{shift, algorithm2}
use Rattle.matrix.specs.Facts as Matrices
use Rattle.matrix.specs.Facts.{entries_of, matrix_of, coefficients_of}
use Rattle.scheme.specs.Maps.{key_of}
use Rattle.scheme.specs.Errors.{page-key}

-- (9 0; 0 0)
abbrev pub nine : Matrix
nine = matrix_of 2 (9 ∷ 0 ∷ 0 ∷ 0 ∷ [])

-- The sixteen facts. Matrices are given by their entries, row by row.
pub record SixteenFacts : Type 0 where
  -- 8·8 = 12; 7·6 = 1; the inverse of 7 is 6, of 0 is 0
  pub eight-times-eight : mul 8 8 ≡ 12
  pub seven-times-six : mul 7 6 ≡ 1
  pub inverse-of-seven : inverse 7 ≡ 6
  pub inverse-of-zero : inverse 0 ≡ 0
  -- l = 2: S = (8 7; 7 6), its square (10 12; 12 1), its determinant 3
  pub s : entries_of 2 (S 2) ≡ 8 ∷ 7 ∷ 7 ∷ 6 ∷ []
  pub s-squared : entries_of 2 (mul_m 2 (S 2) (S 2)) ≡ 10 ∷ 12 ∷ 12 ∷ 1 ∷ []
  pub s-determinant : det 2 (S 2) ≡ 3
  -- l = 4: the first row of S squared is 15 6 9 1
  pub first-row : tab 4 (mul_m 4 (S 4) (S 4) 0) ≡ 15 ∷ 6 ∷ 9 ∷ 1 ∷ []
  -- Algorithm 1, l = 2: (0,0) gives (1 11; 11 4); (3,0) gives (1 5; 5 11); (15,0) gives (7 7; 7 9)
  pub zero-zero-gives : entries_of 2 (algorithm1 2 (coefficients_of (0 ∷ 0 ∷ []))) ≡ 1 ∷ 11 ∷ 11 ∷ 4 ∷ []
  pub three-zero-gives : entries_of 2 (algorithm1 2 (coefficients_of (3 ∷ 0 ∷ []))) ≡ 1 ∷ 5 ∷ 5 ∷ 11 ∷ []
  pub fifteen-zero-gives : entries_of 2 (algorithm1 2 (coefficients_of (15 ∷ 0 ∷ []))) ≡ 7 ∷ 7 ∷ 7 ∷ 9 ∷ []
  -- Algorithm 2, l = 2: the zero matrix becomes S; (9 0; 0 0) becomes (10 14; 14 12), since a = 1 fails
  pub zero-becomes : entries_of 2 (algorithm2 2 zero_m) ≡ entries_of 2 (S 2)
  pub nine-becomes : (entries_of 2 (algorithm2 2 nine) ≡ 10 ∷ 14 ∷ 14 ∷ 12 ∷ []) × (det 2 (shift 2 nine 1) ≡ 0)
  -- bytes 2A F7 hold three elements 10, 2, 7; packing these writes 2A 07
  pub bytes-hold : unpacked 3 (0x2A ∷ 0xF7 ∷ []) ≡ 10 ∷ 2 ∷ 7 ∷ []
  pub packing-writes : packed (10 ∷ 2 ∷ 7 ∷ []) ≡ 0x2A ∷ 0x07 ∷ []
  -- set (1,1,2), public stream 01 10 00 00 00 00, private stream 15: key bytes C8 3C
  pub key-bytes : key_of (set_of 1 1 2) (0x01 ∷ 0x10 ∷ 0x00 ∷ 0x00 ∷ 0x00 ∷ 0x00 ∷ []) (0x15 ∷ []) ≡ 0xC8 ∷ 0x3C ∷ []

-- S to the 2 is S·S
squared : (l : ℕ) → 0 < l → power_s l 2 ≡ mul_m l (S l) (S l)
unfolding power
squared l some = ap (mul_m l (S l)) (power-one (matrices l) (S-base l some))

products : (mul 8 8 ≡ 12) × (mul 7 6 ≡ 1)
unfolding mul times
products = (refl, refl)

inverse-7 : inverse 7 ≡ 6
unfolding inverse mul times
inverse-7 = refl

first-row-4 : tab 4 (power_s 4 2 0) ≡ 15 ∷ 6 ∷ 9 ∷ 1 ∷ []
unfolding tab
first-row-4 = let row = Matrices.square-for-4 in rw (row.0, row.1, row.2, row.3)

pub sixteen-facts : SixteenFacts
sixteen-facts = record {
  eight-times-eight = products.0;
  seven-times-six = products.1;
  inverse-of-seven = inverse-7;
  inverse-of-zero = inverse-zero;
  s = Matrices.S-for-2;
  s-squared = ap (entries_of 2) (sym (squared 2 (omega arith))) ∙ Matrices.square-for-2;
  s-determinant = Matrices.det-for-2;
  first-row = ap (λ M. tab 4 (M 0)) (sym (squared 4 (omega arith))) ∙ first-row-4;
  zero-zero-gives = Matrices.algorithm1-0-0;
  three-zero-gives = Matrices.algorithm1-3-0;
  fifteen-zero-gives = Matrices.algorithm1-15-0;
  zero-becomes = Matrices.algorithm2-zero ∙ sym Matrices.S-for-2;
  nine-becomes = (Matrices.algorithm2-9, Matrices.one-fails-for-9);
  bytes-hold = page-unpacked;
  packing-writes = page-packed;
  key-bytes = page-key;
}
