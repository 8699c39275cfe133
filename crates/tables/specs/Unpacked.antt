-- A buffer that holds the first elements of a packed stream, one to a byte, and the list of matrices that such a buffer is.
-- Rests on packing's elements, scheme's blocks and rows' Plus.
use Rattle.std.specs.Prelude.{◌≡◌, List, ℕ, ◌+◌, ◌*◌, ◌<◌, ◌≤◌, length, get_or}
use Rattle.std.proofs.Common.{sym, ap, ◌∙◌, zero-add as zero-plus, mul-le-mul_right, arith, ext_get_or}
use Rattle.std.proofs.Math.Decide.{dec_lt}
use Rattle.packing.specs.Packing.{element}
use Rattle.matrix.specs.Matrix.{Matrix}
use Rattle.matrix.specs.Same.{Same}
use Rattle.scheme.specs.Streams.{block_of}
use Rattle.rows.specs.Plus.{Plus, plus-zero-start}
use Rattle.rows.specs.Zero.{zeros, length-zeros}
use Rattle.tables.specs.Table.{cleared}

-- elements 0, .. , n - 1 of the stream, and zeros behind them
pub record Unpacked (stream : List ℕ) (n : ℕ) (before after : List ℕ) : Type 0 where
  pub long : length after ≡ length before
  pub elements : (e : ℕ) → e < n → get_or after e 0 ≡ element stream e
  pub beyond : (e : ℕ) → n ≤ e → get_or after e 0 ≡ 0

pub unpacked-from : {stream : List ℕ} {n : ℕ} {before d after : List ℕ} → d ≡ zeros (length before) → Plus d 0 n (λ c. element stream (0 + c)) after
    → Unpacked stream n before after
unpacked-from {before = before} {d = d} z p =
    let zero-there : (k : ℕ) → get_or d k 0 ≡ 0 = cleared before z in
    record {
      long = p.long ∙ ap length z ∙ length-zeros (length before);
      elements = λ e h. rw (zero-plus e) at (plus-zero-start p (λ k l. zero-there (0 + k)) e h);
      beyond = λ e h. p.high e (omega arith) ∙ zero-there e;
    }

pub unpacked-unique : {stream : List ℕ} {n : ℕ} {before t u : List ℕ} → Unpacked stream n before t → Unpacked stream n before u → t ≡ u
unpacked-unique {n = n} {t = t} {u = u} p q =
    ext_get_or 0 t u (p.long ∙ sym q.long)
    (λ e h. elim (dec_lt e n) [ yes l ↦ p.elements e l ∙ sym (q.elements e l) | no l ↦ p.beyond e (omega arith) ∙ sym (q.beyond e (omega arith)) ])

-- matrix k of a list of l by l matrices, an element to a byte, each row by row
unfoldable pub list_of : (l : ℕ) (s : List ℕ) (k : ℕ) → Matrix
list_of l s k r c = get_or s (k * (l * l) + (r * l + c)) 0

-- the matrices of an unpacked stream are its blocks
pub unpacked-list : {stream : List ℕ} {n : ℕ} {before after : List ℕ} → Unpacked stream n before after → (l k : ℕ) → (k + 1) * (l * l) ≤ n
    → Same l (list_of l after k) (block_of l stream k)
unfolding list_of block_of
unpacked-list p l k fits = record {
  at = λ r c hr hc.
      let row : r + 1 ≤ l = omega arith in
      p.elements (k * (l * l) + (r * l + c)) (omega (arith, mul-le-mul_right l row));
}
