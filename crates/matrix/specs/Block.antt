-- A block of bytes holds a matrix: `stride` rows of `stride` bytes for every l, row r from byte stride·r on; bytes outside l are 0. The two numbers stand here and, by
-- their code names, in src/blocks.rt alone. Rests on ground's tables.
use Rattle.std.specs.Prelude.{◌≡◌, refl, Bool, true, false, List, ℕ, ◌+◌, ◌*◌, ◌/◌, ◌%◌, ◌<◌, ◌≤◌, ltb, length, get_or}
use Rattle.std.proofs.Common.{sym, ◌∙◌, arith, lt-ltb, ltb-true}
use Rattle.ground.specs.Pick.{pick, both, both_left, both_right}
use Rattle.ground.specs.Fill.{tab, length-tab, get_or-tab, tab-ext}
use Rattle.matrix.specs.Matrix.{Matrix}
use Rattle.matrix.specs.Same.{Same}

-- the row stride, the largest l for which a block has room, and the bytes of a block
abbrev pub stride : ℕ
stride = 5

abbrev pub block_bytes : ℕ
block_bytes = stride * stride

-- the matrix that a block holds
unfoldable pub view : List ℕ → Matrix
view b r c = get_or b (r * stride + c) 0

-- byte e of a block stands inside l
unfoldable pub inside : ℕ → ℕ → Bool
inside l e = both (ltb (e / stride) l) (ltb (e % stride) l)

-- byte e of the block of M
unfoldable pub cell : ℕ → Matrix → ℕ → ℕ
cell l M e = pick (inside l e) (M (e / stride) (e % stride)) 0

-- the block that holds M inside l, and 0 outside
unfoldable pub block : ℕ → Matrix → List ℕ
block l M = tab block_bytes (cell l M)

pub length-block : (l : ℕ) (M : Matrix) → length (block l M) ≡ block_bytes
unfolding block
length-block l M = length-tab block_bytes (cell l M)

pub get_or-block : (l : ℕ) (M : Matrix) (e : ℕ) → e < block_bytes → get_or (block l M) e 0 ≡ cell l M e
unfolding block
get_or-block l M e h = get_or-tab block_bytes (cell l M) e h

-- a list of so many bytes is the block of M if each byte is its cell
pub block-ext : (b : List ℕ) (l : ℕ) (M : Matrix) → length b ≡ block_bytes → ((e : ℕ) → e < block_bytes → get_or b e 0 ≡ cell l M e) → b ≡ block l M
unfolding block
block-ext b l M n e = tab-ext b block_bytes (cell l M) n e

-- reading the block of M inside l gives M
pub view-block : (l : ℕ) (M : Matrix) → l ≤ stride → Same l (view (block l M)) M
unfolding view cell inside
view-block l M h =
    record {
      at = λ r c hr hc.
          let row : (r * stride + c) / stride ≡ r = omega arith in
          let column : (r * stride + c) % stride ≡ c = omega arith in
          get_or-block l M (r * stride + c) (omega arith) ∙ rw (row, column, lt-ltb r l hr, lt-ltb c l hc);
    }

-- a list that is the block of M holds M
pub holds : {l : ℕ} {M : Matrix} {b : List ℕ} → l ≤ stride → b ≡ block l M → Same l (view b) M
holds {l} {M} h e = rw e (view-block l M h)

-- a byte inside l has its row and its column below l
pub inside-row : (l e : ℕ) → inside l e ≡ true → e / stride < l
unfolding inside
inside-row l e t = ltb-true _ _ (both_left (ltb (e / stride) l) (ltb (e % stride) l) t)

pub inside-column : (l e : ℕ) → inside l e ≡ true → e % stride < l
unfolding inside
inside-column l e t = ltb-true _ _ (both_right (ltb (e / stride) l) (ltb (e % stride) l) t)

-- a cell is an entry, kept where the byte stands inside l
pub cell-kept : (l : ℕ) (M : Matrix) (e : ℕ) {x y : ℕ} → x ≡ pick (inside l e) y 0 → (e / stride < l → e % stride < l → y ≡ M (e / stride) (e % stride)) → x ≡ cell l M e
unfolding cell
cell-kept l M e {x} {y} kept is = kept ∙ by (inside l e) refl
  where
    by : (b : Bool) → inside l e ≡ b → pick (inside l e) y 0 ≡ pick (inside l e) (M (e / stride) (e % stride)) 0
    by true t = rw t (is (inside-row l e t) (inside-column l e t))
    by false t = rw t

-- the cell of row r, column c is the entry there
pub cell_at : (l : ℕ) (M : Matrix) (r c : ℕ) → l ≤ stride → r < l → c < l → cell l M (r * stride + c) ≡ M r c
unfolding view
cell_at l M r c h hr hc = sym (get_or-block l M (r * stride + c) (omega arith)) ∙ (view-block l M h).at r c hr hc

-- the same entries inside l make the same block
pub block_same : {l : ℕ} {M N : Matrix} → Same l M N → block l M ≡ block l N
unfolding cell
block_same {l} {M} {N} s =
    block-ext (block l M) l N (length-block l M) (λ e h. cell-kept l N e (get_or-block l M e h) (λ hr hc. s.at (e / stride) (e % stride) hr hc))
