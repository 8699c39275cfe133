-- The signature that an oil choice gives: its entries are elements, it reads the oil inside l only, and its matrices are the U that was packed.
-- Rests on scheme's private change and on packing.
use Rattle.std.specs.Prelude.{◌≡◌, true, List, ◌++◌, ℕ, ◌+◌, ◌*◌, ◌/◌, ◌<◌, get_or}
use Rattle.std.proofs.Math.Path.{sym, ap}
use Rattle.std.proofs.Common.{◌∙◌, arith}
use Rattle.std.proofs.Math.Arith.{digits_lt}
use Rattle.std.proofs.Math.ListN.{length}
use Rattle.std.proofs.Math.Seq.{take-append_seam}
use Rattle.ground.specs.Fill.{tab, length-tab, get_or-tab, tab-cong}
use Rattle.packing.specs.Packing.{element, packed, packed_bytes, in_field}
use Rattle.packing.proofs.Laws.{element-take, element-packed, length-packed, in-field-tab}
use Rattle.sets.specs.declared.Set.{Set}
use Rattle.sets.specs.Sets.{variables, signature_count}
use Rattle.matrix.specs.Matrix.{Matrix}
use Rattle.matrix.specs.Same.{Same, same-equal, same-trans}
use Rattle.scheme.specs.Streams.{block_of, vinegar_of, signature_of}
use Rattle.scheme.specs.Parts.{vinegar-or-oil}
use Rattle.scheme.specs.Entries.{by-entry, block_of-lt}
use Rattle.scheme.proofs.Entries.{private_change-lt, private_change-same}
use Rattle.scheme.specs.Oil.{entry_at, entry-number, joined, joined-vinegar, joined-oil, Oil}
use Rattle.signing.specs.Signs.{solution_of, signature_with}

-- what stands behind packed elements does not change them
element-before : (es rest : List ℕ) → in_field es ≡ true → (e : ℕ) → e < length es → element (packed es ++ rest) e ≡ get_or es e 0
unfolding packed_bytes
element-before es rest field e h =
    let inside : e / 2 < length (packed es) = omega (arith, length-packed es) in
    sym (element-take (length (packed es)) (packed es ++ rest) e inside) ∙ ap (λ s. element s e) (take-append_seam (packed es) rest) ∙ element-packed es field e

module _ (set : Set) (private vinegar : List ℕ) where
  joined-lt : {oil : ℕ → Matrix} → Oil set oil → (j : ℕ) → j < variables set → (r c : ℕ) → r < set.l → c < set.l
      → joined set (vinegar_of set vinegar) oil j r c < 16
  unfolding vinegar_of
  joined-lt {oil} a =
      vinegar-or-oil set.v set.o (λ j. (r c : ℕ) → r < set.l → c < set.l → joined set (vinegar_of set vinegar) oil j r c < 16)
      (λ j h r c hr hc. rw (joined-vinegar set (vinegar_of set vinegar) oil j h) (block_of-lt set.l vinegar j r c))
      (λ k h r c hr hc. rw (joined-oil set (vinegar_of set vinegar) oil k) (a.element k r c h hr hc))

  joined_same : {oil oil' : ℕ → Matrix} → ((k : ℕ) → k < set.o → Same set.l (oil k) (oil' k)) → (j : ℕ) → j < variables set
      → Same set.l (joined set (vinegar_of set vinegar) oil j) (joined set (vinegar_of set vinegar) oil' j)
  joined_same {oil} {oil'} s =
      vinegar-or-oil set.v set.o (λ j. Same set.l (joined set (vinegar_of set vinegar) oil j) (joined set (vinegar_of set vinegar) oil' j))
      (λ j h. same-equal (joined-vinegar set (vinegar_of set vinegar) oil j h ∙ sym (joined-vinegar set (vinegar_of set vinegar) oil' j h)))
      (λ k h.
      same-trans (same-equal (joined-oil set (vinegar_of set vinegar) oil k))
      (same-trans (s k h) (same-equal (sym (joined-oil set (vinegar_of set vinegar) oil' k)))))

  -- the entries of U are elements
  pub solution-lt : {oil : ℕ → Matrix} → Oil set oil → (e : ℕ) → e < signature_count set → entry_at set.l (solution_of set private vinegar oil) e < 16
  unfolding signature_count
  solution-lt {oil} a =
      by-entry set.l (variables set) (λ e. entry_at set.l (solution_of set private vinegar oil) e < 16)
      (λ j r c hj hr hc.
      rw (entry-number set.l j hr hc (solution_of set private vinegar oil))
      (private_change-lt set private (joined set (vinegar_of set vinegar) oil) j r c (joined-lt a j hj r c hr hc)))

  -- U reads the oil inside l only
  solution-cong : {oil oil' : ℕ → Matrix} → ((k : ℕ) → k < set.o → Same set.l (oil k) (oil' k)) → (e : ℕ) → e < signature_count set
      → entry_at set.l (solution_of set private vinegar oil) e ≡ entry_at set.l (solution_of set private vinegar oil') e
  unfolding signature_count
  solution-cong {oil} {oil'} s =
      by-entry set.l (variables set)
      (λ e. entry_at set.l (solution_of set private vinegar oil) e ≡ entry_at set.l (solution_of set private vinegar oil') e)
      (λ j r c hj hr hc.
      entry-number set.l j hr hc (solution_of set private vinegar oil)
      ∙ (private_change-same set private (joined_same s) j hj).at r c hr hc
      ∙ sym (entry-number set.l j hr hc (solution_of set private vinegar oil')))

  -- so does the signature
  pub signature-cong : (salt : List ℕ) {oil oil' : ℕ → Matrix} → ((k : ℕ) → k < set.o → Same set.l (oil k) (oil' k))
      → signature_with set private vinegar salt oil ≡ signature_with set private vinegar salt oil'
  unfolding signature_with
  signature-cong salt s = ap (λ es. packed es ++ salt) (tab-cong (signature_count set) _ _ (solution-cong s))

  -- the signature's matrices are the U that was packed
  pub signature-holds : (salt : List ℕ) {oil : ℕ → Matrix} → Oil set oil → (j : ℕ) → j < variables set
      → Same set.l (signature_of set (signature_with set private vinegar salt oil) j) (solution_of set private vinegar oil j)
  unfolding signature_of block_of signature_with signature_count
  signature-holds salt {oil} a j hj = record {
    at = λ r c hr hc.
        let U = solution_of set private vinegar oil in
        let n = variables set * (set.l * set.l) in
        let e = j * (set.l * set.l) + (r * set.l + c) in
        let inside : e < n = digits_lt hj (digits_lt hr hc) in
        let listed : e < length (tab n (entry_at set.l U)) = omega (arith, length-tab n (entry_at set.l U)) in
        element-before (tab n (entry_at set.l U)) salt (in-field-tab n (entry_at set.l U) (solution-lt a)) e listed
        ∙ get_or-tab n (entry_at set.l U) e inside
        ∙ entry-number set.l j hr hc U;
  }
