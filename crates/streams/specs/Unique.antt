-- No second outcome meets a contract of this crate: what is read is fixed by what went in. Of what `lay_blocks` leaves, the blocks are fixed, and nothing else is read.
-- Rests on ground's `unique-equation` and the uniqueness of segments, and on matrix's `unique-makes`.
use Rattle.std.specs.Prelude.{◌≡◌, Result, List, ℕ, ◌+◌, ◌*◌, ◌<◌, get_or}
use Rattle.std.proofs.Common.{sym, ◌∙◌}
use Rattle.ground.specs.Pick.{pick}
use Rattle.ground.specs.Outcome.{unique-equation}
use Rattle.ground.specs.Segment.{Segment, segment-unique}
use Rattle.rows.specs.Zero.{zeros}
use Rattle.sets.specs.declared.Set.{Set}
use Rattle.matrix.specs.Block.{block, stride}
use Rattle.matrix.specs.RingElements.{coefficient}
use Rattle.matrix.specs.Invertible.{algorithm2, can_be_invertible}
use Rattle.matrix.specs.Promises.{Makes}
use Rattle.matrix.specs.Unique.{unique-makes}
use Rattle.ground.specs.declared.Refusal.{Refusal}
use Rattle.scheme.specs.Streams.{block_of, group_of, a_number, b_number, q1_number, q2_number}
use Rattle.scheme.specs.Maps.{matrix_index}
use Rattle.streams.specs.declared.Term.{Term}
use Rattle.streams.specs.Numbers.{Starts}
use Rattle.streams.specs.Laid.{Laid}
use Rattle.streams.specs.TermOf.{TermOf}

pub unique-number-of-row : {blocks number count n m : ℕ} → Starts blocks number count n → Starts blocks number count m → n ≡ m
unique-number-of-row a b = a.is ∙ sym b.is

pub unique-read-block : (l : ℕ) (stream : List ℕ) (number : ℕ) {r r' : List ℕ} → r ≡ block l (block_of l stream number) → r' ≡ block l (block_of l stream number) → r ≡ r'
unique-read-block l stream number = unique-equation

-- the refusal, or the block
pub unique-invertible-at : (l : ℕ) (stream : List ℕ) (number : ℕ) {r r' : Result (List ℕ) Refusal}
    → Makes (pick (can_be_invertible l (block_of l stream number)) 0 21) (block l (algorithm2 l (block_of l stream number))) r
    → Makes (pick (can_be_invertible l (block_of l stream number)) 0 21) (block l (algorithm2 l (block_of l stream number))) r'
    → r ≡ r'
unique-invertible-at l stream number = unique-makes

pub unique-matrix-index : (set : Set) (i alpha : ℕ) {r r' : ℕ} → r ≡ matrix_index set i alpha → r' ≡ matrix_index set i alpha → r ≡ r'
unique-matrix-index set i alpha = unique-equation

pub unique-a-number : (set : Set) (i alpha : ℕ) {r r' : ℕ} → r ≡ a_number set i alpha → r' ≡ a_number set i alpha → r ≡ r'
unique-a-number set i alpha = unique-equation

pub unique-b-number : (set : Set) (i alpha : ℕ) {r r' : ℕ} → r ≡ b_number set i alpha → r' ≡ b_number set i alpha → r ≡ r'
unique-b-number set i alpha = unique-equation

pub unique-q1-number : (set : Set) (i alpha : ℕ) {r r' : ℕ} → r ≡ q1_number set i alpha → r' ≡ q1_number set i alpha → r ≡ r'
unique-q1-number set i alpha = unique-equation

pub unique-q2-number : (set : Set) (i alpha : ℕ) {r r' : ℕ} → r ≡ q2_number set i alpha → r' ≡ q2_number set i alpha → r ≡ r'
unique-q2-number set i alpha = unique-equation

pub unique-coefficient-at : (l : ℕ) (stream : List ℕ) (group p : ℕ) {r r' : ℕ} → r ≡ coefficient l (group_of l stream group) p
    → r' ≡ coefficient l (group_of l stream group) p → r ≡ r'
unique-coefficient-at l stream group p = unique-equation

pub unique-coefficients-of : (l : ℕ) (stream : List ℕ) (group : ℕ) {r r' : List ℕ} → Segment (zeros stride) 0 l (coefficient l (group_of l stream group)) r
    → Segment (zeros stride) 0 l (coefficient l (group_of l stream group)) r' → r ≡ r'
unique-coefficients-of l stream group = segment-unique

pub unique-lay-blocks : (stream : List ℕ) (l number count : ℕ) {place place' : ℕ} {flat flat' : List ℕ} → Laid l count stream number place flat
    → Laid l count stream number place' flat' → (k r c : ℕ) → k < count → r < l → c < l
    → get_or flat (place + r * l + c + k * (l * l)) 0 ≡ get_or flat' (place' + r * l + c + k * (l * l)) 0
unique-lay-blocks stream l number count p q k r c hk hr hc = p.entry k r c hk hr hc ∙ sym (q.entry k r c hk hr hc)

-- every part of a term
pub unique-read-term : (set : Set) (abq : List ℕ) (i alpha : ℕ) {t t' : Term} → TermOf set abq i alpha t → TermOf set abq i alpha t'
    → (t.a ≡ t'.a) × ((t.b ≡ t'.b) × ((t.q1 ≡ t'.q1) × ((t.q2 ≡ t'.q2) × (t.index ≡ t'.index))))
unique-read-term set abq i alpha p q = (
  p.a ∙ sym q.a,
  (p.b ∙ sym q.b, (segment-unique p.q1 q.q1, (segment-unique p.q2 q.q2, p.index ∙ sym q.index))),
)
