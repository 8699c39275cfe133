-- Each public function's contract leaves one outcome: two tables, words or rows that it allows are the same.
-- Rests on the records of this crate and rows' Plus.
use Rattle.std.specs.Prelude.{◌≡◌, List, ℕ, ◌+◌, ◌*◌, ◌/◌, ◌%◌, ◌<◌, get_or}
use Rattle.std.proofs.Common.{sym, ap, ◌∙◌, arith, ext_get_or}
use Rattle.std.proofs.Math.Decide.{dec_lt}
use Rattle.rows.specs.Plus.{Plus, plus-unique}
use Rattle.words.specs.Words.{nibble}
use Rattle.words.specs.Multiples.{Multiplied}
use Rattle.words.specs.Lookups.{block_lookups}

pub unique-multiply : {n count : ℕ} {src d t u : List ℕ} → Multiplied n count src d t → Multiplied n count src d u → t ≡ u
unique-multiply {count = count} {t = t} {u} p q =
    ext_get_or 0 t u (p.long ∙ sym q.long)
    (λ k h.
    elim (dec_lt k (count * 8)) [
      | yes l ↦
          let row : k / 8 < count = omega arith in
          let factor : k % 8 < 8 = omega arith in
          let at : k / 8 * 8 + k % 8 ≡ k = omega arith in
          ap (λ x. get_or t x 0) (sym at) ∙ p.words.word (k / 8) (k % 8) row factor ∙ sym (q.words.word (k / 8) (k % 8) row factor) ∙ ap (λ x. get_or u x 0) at
      | no l ↦ p.behind k (omega arith) ∙ sym (q.behind k (omega arith))
    ])

pub unique-product-word : (table scalars : List ℕ) (first l place count : ℕ) {w w' : ℕ} → w ≡ block_lookups table scalars first l place count
    → w' ≡ block_lookups table scalars first l place count → w ≡ w'
unique-product-word table scalars first l place count p q = p ∙ sym q

pub unique-add-word : (w : ℕ) {d t u : List ℕ} {at n : ℕ} → Plus d at n (nibble w) t → Plus d at n (nibble w) u → t ≡ u
unique-add-word w p q = plus-unique p q
