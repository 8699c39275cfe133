-- What the maps read, and what stands in the key: entries inside l are made of entries inside l only, and entries of the key and of the streams are elements.
-- So a caller that computes entries inside l computes the map. The same of the private change stands in proofs/Entries. Rests on Parts and on matrix's Same.
use Rattle.std.specs.Prelude.{◌≡◌, List, ℕ, zero, suc, ◌+◌, ◌*◌, ◌/◌, ◌%◌, ◌<◌}
use Rattle.std.proofs.Common.{sym, ap, subst, ◌∙◌, not-suc-le-zero, mul-zero, mod-lt, div-add-mod', div-lt_iff_lt-mul, arith}
use Rattle.algebra.specs.Map.{value}
use Rattle.field.specs.Laws.{add-lt}
use Rattle.packing.proofs.Laws.{element-lt}
use Rattle.sets.specs.declared.Set.{Set}
use Rattle.sets.specs.Sets.{terms, variables}
use Rattle.matrix.specs.Matrix.{Matrix, zero_m, add_m, mul_m, transpose}
use Rattle.matrix.specs.Same.{Same, same_refl, same-trans, same-equal, same-mul, same-transpose, same_sum, mul_m-lt, sum_m-lt}
use Rattle.scheme.specs.Streams.{block_of}
use Rattle.scheme.specs.Maps.{sum_m, parts, equation, matrix_index, key_p22, public_map_with, central_map}
use Rattle.scheme.specs.Parts.{four-parts, by_parts}

-- ---- which entry an element is

-- what is below a product with m says that m is not 0
factor-some : (n m : ℕ) {e : ℕ} → e < n * m → 0 < m
factor-some n zero h = absurd (not-suc-le-zero (rw mul-zero at h))
factor-some n (suc m) h = omega arith

-- an element of n blocks is an entry (r, c) of a block b
pub by-entry : (l n : ℕ) (P : ℕ → Type 0) → ((b r c : ℕ) → b < n → r < l → c < l → P (b * (l * l) + (r * l + c))) → (e : ℕ) → e < n * (l * l) → P e
by-entry l n P at e h =
    let ll : 0 < l * l = factor-some n (l * l) h in
    let some : 0 < l = factor-some l l ll in
    let x = e % (l * l) in
    let whole : e / (l * l) * (l * l) + (x / l * l + x % l) ≡ e = ap (λ y. e / (l * l) * (l * l) + y) (div-add-mod' x l) ∙ div-add-mod' e (l * l) in
    subst P whole (at (e / (l * l)) (x / l) (x % l) ((div-lt_iff_lt-mul ll).1 h) ((div-lt_iff_lt-mul some).1 (mod-lt e ll)) (mod-lt x some))

-- ---- entries inside l

-- a value reads its ingredients inside l only, and only those in range
pub value_same : {l : ℕ} (terms n : ℕ) {L L' q q' p p' B B' U U' : ℕ → Matrix} {M M' : ℕ → ℕ → ℕ → Matrix}
    → ((α : ℕ) → α < terms → Same l (L α) (L' α)) → ((α : ℕ) → α < terms → Same l (q α) (q' α))
    → ((α j k : ℕ) → α < terms → j < n → k < n → Same l (M α j k) (M' α j k))
    → ((α : ℕ) → α < terms → Same l (p α) (p' α)) → ((α : ℕ) → α < terms → Same l (B α) (B' α))
    → ((j : ℕ) → j < n → Same l (U j) (U' j))
    → Same l (value zero_m add_m (mul_m l) transpose terms n L q M p B U) (value zero_m add_m (mul_m l) transpose terms n L' q' M' p' B' U')
unfolding value
value_same terms n eL eq eM ep eB eU =
    same_sum terms (λ α h. same_sum n (λ j hj. same_sum n (λ k hk.
    same-mul (eL α h) (same-mul (same-transpose (eU j hj)) (same-mul (eq α h) (same-mul (eM α j k h hj hk) (same-mul (ep α h) (same-mul (eU k hk) (eB α h)))))))))

-- another fourth part, with the same entries inside l
parts_same : {l : ℕ} (v o : ℕ) (M11 M12 M21 : ℕ → ℕ → Matrix) {M22 N22 : ℕ → ℕ → Matrix} → ((j k : ℕ) → j < o → k < o → Same l (M22 j k) (N22 j k))
    → (j k : ℕ) → j < v + o → k < v + o → Same l (parts v M11 M12 M21 M22 j k) (parts v M11 M12 M21 N22 j k)
parts_same {l} v o M11 M12 M21 {M22} {N22} e =
    let M = four-parts v M11 M12 M21 M22 in
    let N = four-parts v M11 M12 M21 N22 in
    by_parts v o (λ j k. Same l (parts v M11 M12 M21 M22 j k) (parts v M11 M12 M21 N22 j k))
    (λ j k hj hk. same-equal (M.at-11 j k hj hk ∙ sym (N.at-11 j k hj hk)))
    (λ j k hj hk. same-equal (M.at-12 j k hj ∙ sym (N.at-12 j k hj)))
    (λ j k hj hk. same-equal (M.at-21 j k hk ∙ sym (N.at-21 j k hk)))
    (λ j k hj hk. same-trans (same-equal (M.at-22 j k)) (same-trans (e j k hj hk) (same-equal (sym (N.at-22 j k)))))

pub matrix_index-lt : (set : Set) {i : ℕ} → i < set.o → (alpha : ℕ) → matrix_index set i alpha < set.o
unfolding matrix_index
matrix_index-lt set h alpha = mod-lt _ (omega arith)

module _ (set : Set) (public abq : List ℕ) where
  -- the public map reads P22 and U inside l only, P22 below m and U below n
  pub public_map_with-same : {P22s P22s' : ℕ → ℕ → ℕ → Matrix} {U U' : ℕ → Matrix}
      → ((i j k : ℕ) → i < set.o → j < set.o → k < set.o → Same set.l (P22s i j k) (P22s' i j k))
      → ((j : ℕ) → j < variables set → Same set.l (U j) (U' j))
      → (i : ℕ) → i < set.o → Same set.l (public_map_with set public abq P22s U i) (public_map_with set public abq P22s' U' i)
  unfolding public_map_with equation
  public_map_with-same eP eU i hi =
      value_same (terms set) (variables set) (λ α h. same_refl) (λ α h. same_refl)
      (λ α j k h hj hk. parts_same set.v set.o _ _ _ (λ j k aj ak. eP (matrix_index set i α) j k (matrix_index-lt set hi α) aj ak) j k hj hk)
      (λ α h. same_refl) (λ α h. same_refl) eU

  -- the central map reads X inside l only, below n
  pub central_map-same : (private : List ℕ) {X X' : ℕ → Matrix} → ((j : ℕ) → j < variables set → Same set.l (X j) (X' j))
      → (i : ℕ) → Same set.l (central_map set public abq private X i) (central_map set public abq private X' i)
  unfolding central_map equation
  central_map-same private eX i =
      value_same (terms set) (variables set) (λ α h. same_refl) (λ α h. same_refl) (λ α j k h hj hk. same_refl) (λ α h. same_refl) (λ α h. same_refl) eX

-- ---- entries are elements

-- entries of a stream's block
pub block_of-lt : (l : ℕ) (s : List ℕ) (b r c : ℕ) → block_of l s b r c < 16
unfolding block_of
block_of-lt l s b r c = element-lt s _

pub add_m-lt : (M N : Matrix) (r c : ℕ) → M r c < 16 → N r c < 16 → add_m M N r c < 16
unfolding add_m
add_m-lt M N r c hM hN = add-lt (M r c) (N r c) hM hN

-- a sum of products, whatever the factors are
pub products_lt : (n l : ℕ) (M N : ℕ → Matrix) (r c : ℕ) → sum_m n (λ a. mul_m l (M a) (N a)) r c < 16
products_lt n l M N r c = sum_m-lt n _ r c (λ k h. mul_m-lt l _ _ r c)

module _ (set : Set) where
  pub key_p22-lt : (public private : List ℕ) (i j k r c : ℕ) → key_p22 set public private i j k r c < 16
  unfolding key_p22
  key_p22-lt public private i j k r c = add_m-lt _ _ r c (products_lt set.v set.l _ _ r c) (products_lt set.v set.l _ _ r c)
