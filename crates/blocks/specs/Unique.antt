-- No second outcome meets the contracts of this crate that are not plain equations.
-- Rests on ground's Outcome and Segment.
use Rattle.std.specs.Prelude.{◌≡◌, ℕ, List, slice_index}
use Rattle.ground.specs.Outcome.{unique-equation}
use Rattle.ground.specs.Answers.{Answer, number_of}
use Rattle.ground.specs.AnswerLaws.{unique-answer}
use Rattle.ground.specs.Segment.{Segment, segment-unique}
use Rattle.blocks.specs.declared.Head.{Head}
use Rattle.blocks.specs.Block.{IsBlock, block_of}
use Rattle.blocks.specs.Made.{part_with}
use Rattle.blocks.specs.Turn.{fault_of}

pub unique-block-at : {s x y : List ℕ} {b : ℕ} → IsBlock s b x → IsBlock s b y → x ≡ y
unique-block-at a b = unique-equation a.is b.is

pub unique-put : (x : List ℕ) {s t u : List ℕ} {at n : ℕ} → Segment s at n (λ k. slice_index x k) t → Segment s at n (λ k. slice_index x k) u → t ≡ u
unique-put x a b = segment-unique a b

pub unique-fill : (place : ℕ) (h : Head) (d : List ℕ) {t u : List ℕ} → t ≡ block_of place (part_with h d) → u ≡ block_of place (part_with h d) → t ≡ u
unique-fill place h d = unique-equation

pub unique-fault-of : (place : ℕ) (before : Head) (s : List ℕ) {r r' : Answer} → number_of r ≡ fault_of place before s → number_of r' ≡ fault_of place before s → r ≡ r'
unique-fault-of place before s = unique-answer
