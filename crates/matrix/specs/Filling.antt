-- A block is filled byte by byte: what a loop over the 25 bytes has done so far, and that at the end the block is there.
-- Rests on Block.
use Rattle.std.specs.Prelude.{◌≡◌, List, ℕ, ◌+◌, ◌/◌, ◌%◌, ◌<◌, ◌≤◌, length, get_or, set}
use Rattle.std.proofs.Common.{sym, ap, ◌∙◌, not-suc-le-zero, arith, length-set, get_or-set_same, get_or-set_other}
use Rattle.std.proofs.Math.Decide.{dec_lt}
use Rattle.ground.specs.Pick.{pick}
use Rattle.matrix.specs.Matrix.{Matrix}
use Rattle.matrix.specs.Block.{inside, cell, cell-kept, block, block-ext, block_bytes, stride}

-- the first e bytes of out are those of the block of M
pub record Filling (l : ℕ) (M : Matrix) (out : List ℕ) (e : ℕ) : Type 0 where
  pub upto : e ≤ block_bytes
  pub long : length out ≡ block_bytes
  pub so_far : (k : ℕ) → k < e → get_or out k 0 ≡ cell l M k

pub filling-none : {l : ℕ} {M : Matrix} (out : List ℕ) → length out ≡ block_bytes → Filling l M out 0
filling-none out n = record { upto = omega arith; long = n; so_far = λ k h. absurd (not-suc-le-zero h) }

-- one byte more, the cell itself
pub filling-cell : {l : ℕ} {M : Matrix} {out : List ℕ} {e : ℕ} → Filling l M out e → e < block_bytes → {x : ℕ} → x ≡ cell l M e → Filling l M (set out e x) (e + 1)
filling-cell {l} {M} {out} {e} f h {x} is =
    record {
      upto = omega arith;
      long = length-set out e x ∙ f.long;
      so_far = λ k hk.
          elim (dec_lt k e) [
            | yes b ↦ get_or-set_other out e k x 0 (omega arith) ∙ f.so_far k b
            | no b ↦
                let here : k ≡ e = omega arith in
                let at : e < length out = omega (arith, f.long) in
                ap (λ j. get_or (set out e x) j 0) here ∙ get_or-set_same out e x 0 at ∙ is ∙ ap (cell l M) (sym here)
          ];
    }

-- one byte more: the entry at its row and column, kept where the byte stands inside l; only there it has to be the right one
pub filling-inside : {l : ℕ} {M : Matrix} {out : List ℕ} {e : ℕ} → Filling l M out e → e < block_bytes → {x y : ℕ} → x ≡ pick (inside l e) y 0
    → (e / stride < l → e % stride < l → y ≡ M (e / stride) (e % stride)) → Filling l M (set out e x) (e + 1)
filling-inside {l} {M} {out} {e} f h kept is = filling-cell f h (cell-kept l M e kept is)

pub filling-next : {l : ℕ} {M : Matrix} {out : List ℕ} {e : ℕ} → Filling l M out e → e < block_bytes → {x y : ℕ} → x ≡ pick (inside l e) y 0 → y ≡ M (e / stride) (e % stride)
    → Filling l M (set out e x) (e + 1)
filling-next f h kept is = filling-inside f h kept (λ hr hc. is)

pub filling-end : {l : ℕ} {M : Matrix} {out : List ℕ} {e : ℕ} → Filling l M out e → block_bytes ≤ e → out ≡ block l M
filling-end {l} {M} {out} f h = block-ext out l M f.long (λ k hk. f.so_far k (omega arith))
