-- What holds of a salvage that answered a count, by its contract alone: the reader takes what was written; its k-th block is the k-th old block that is listed 0; and where
-- each block of a sound book has at most one word altered, its payload is the original's. Rests on Salvages and on books' Kept.
use Rattle.std.specs.Prelude.{◌≡◌, Ok, List, ◌++◌, ℕ, ◌+◌, ◌*◌, ◌/◌, ◌<◌, length, get_or, take, drop}
use Rattle.std.proofs.Common.{sym, ◌∙◌, arith, length-drop, take_at}
use Rattle.std.proofs.Math.Path.{ap}
use Rattle.std.proofs.Math.Decide.{ℕ_discrete}
use Rattle.std.proofs.lemmas.List.{drop-append-le, take-append-le}
use Rattle.ground.specs.Answers.{first}
use Rattle.blocks.specs.Block.{payload_of, part_of, block_at, block_of}
use Rattle.blocks.specs.Altered.{Bytes}
use Rattle.books.specs.Book.{read_number}
use Rattle.books.specs.Going.{length-written-small}
use Rattle.books.specs.Salvage.{kept_parts, salvaged, salvaged-read, Worn}
use Rattle.books.specs.Kept.{zeros, kept_small, Kth, kth-kept, kept_payload}
use Rattle.salvage.specs.Salvages.{salvage_rules, Salvages, salvage-fits}

module _ {s out list : List ℕ} {n : ℕ} {out' list' : List ℕ} (w : Salvages s out list (Ok n) out' list') where
  -- a count is answered only where nothing is refused
  not-refused : first (salvage_rules s out list) ≡ 0
  not-refused =
      elim (ℕ_discrete (first (salvage_rules s out list)) 0) [
        | yes z ↦ z
        | no z ↦ absurd (z (sym (w.refused z).0))
      ]

  count-is : n ≡ length (kept_parts s)
  count-is = let c = w.count not-refused in cc

  length-new : length (salvaged s) ≡ 512 * n
  unfolding salvaged
  length-new = length-written-small 1 (kept_small s (salvage-fits s out list not-refused).0) ∙ ap (λ k. 512 * k) (sym count-is)

  new-first : out' ≡ salvaged s ++ drop (0 + length (salvaged s)) out
  new-first = (w.written not-refused).is

  -- the reader takes the n blocks that were written
  pub salvage-then-read : read_number (take (512 * n) out') ≡ 0
  salvage-then-read =
      ap (λ x. read_number (take (512 * n) x)) new-first
      ∙ ap read_number (take_at (salvaged s) (drop (0 + length (salvaged s)) out) (512 * n) length-new)
      ∙ salvaged-read s (salvage-fits s out list not-refused).0

  -- the output's first n blocks are those of the new book
  block_new : (k : ℕ) → k < n → block_at k out' ≡ block_at k (salvaged s)
  block_new k l =
      ap (λ x. take 512 (drop (512 * k) x)) new-first
      ∙ ap (take 512) (drop-append-le (512 * k) (salvaged s) (drop (0 + length (salvaged s)) out) (omega (arith, length-new)))
      ∙ take-append-le 512 (drop (512 * k) (salvaged s)) (drop (0 + length (salvaged s)) out) (simp length-drop (omega (arith, length-new)))

  -- `old` is the k-th old block that is listed 0, and the k-th block of the output holds what it held, its check made anew
  pub record Salvaged (k : ℕ) : Type 0 where
    pub old : ℕ
    pub inside : old < length s / 512
    pub listed-0 : get_or list' old 1 ≡ 0
    pub place : zeros old list' ≡ k
    pub same : block_at k out' ≡ block_of (k + 1) (part_of (block_at old s))

  kth : (k : ℕ) → k < n → Kth s k
  kth k l = kth-kept s (salvage-fits s out list not-refused).0 k (omega (arith, count-is))

  pub salvage-kth : (k : ℕ) → k < n → Salvaged k
  salvage-kth k l =
      let r = kth k l in
      let ls = w.listed not-refused in
      record {
        old = r.old;
        inside = r.inside;
        listed-0 = ap (λ x. get_or x r.old 1) ls ∙ r.listed-0;
        place = ap (zeros r.old) ls ∙ r.place;
        same = block_new k l ∙ r.same;
      }

  -- if each block of a sound book has at most one word altered, every kept block's payload equals the original's
  pub salvage-payload : (sound : List ℕ) → Bytes sound → Bytes s → read_number sound ≡ 0 → Worn (length sound / 512) sound s → (k : ℕ) (l : k < n)
      → payload_of (block_at k out') ≡ payload_of (block_at (salvage-kth k l).old sound)
  unfolding salvage-kth
  salvage-payload sound bo bs taken worn k l =
      ap payload_of (block_new k l) ∙ kept_payload sound s bo bs taken worn k (omega (arith, count-is)) (kth k l)
