-- `shake::squeeze` meets its contract. Invariant: the bytes of the first parts are written, and the output goes on with byte `at` of the present state.
-- Rests on the two laws of squeezing: behind a whole block, and the bytes of a lane.
use Rattle.std.proofs.Common.{◌≡◌, refl, sym, ap, ap₂, subst, ◌∙◌, List, ℕ, ◌+◌, ◌-◌, ◌*◌, ◌/◌, ◌%◌, ◌<◌, min, length, get_or}
use native.Mathlib.Nat.{zero-add, add_assoc}
use Rattle.keccak.specs.Keccak.{keccak_f}
use Rattle.ground.specs.Segment.{Segment, fill_end}
use Rattle.shake.specs.Sponge.{lane_byte, squeezed}
use Rattle.shake.specs.Feed.{Rate}
use Rattle.shake.specs.FeedLaws.{squeezed-turn, squeezed-lane}
use Rattle.ground.specs.Pieces.{fill-then}
use native.Mathlib.Omega.{arith}
use Rattle.shake.proofs.squeeze.Goals as goal
use Rattle.shake.proofs.squeeze.Goals.{then-at-rate, else-at-rate}

-- the output goes on from byte p of a state as from byte k of the first state
abbrev Ahead : ℕ → List ℕ → List ℕ → ℕ → ℕ → Type 0
Ahead rate s lanes p k = (d : ℕ) → squeezed rate lanes (p + d) ≡ squeezed rate s (k + d)

-- a whole block is done: the next state goes on
turned : (rate : ℕ) (s lanes : List ℕ) {next : List ℕ} {p q : ℕ} (k : ℕ) → 0 < rate → Ahead rate s lanes p k → p ≡ rate → next ≡ keccak_f lanes → q ≡ 0 → Ahead rate s next q k
turned rate s lanes k some so_far full perm start d =
    ap₂ (squeezed rate) perm (ap (λ p. p + d) start ∙ zero-add d) ∙ squeezed-turn rate some lanes d
    ∙ ap (λ p. squeezed rate lanes (p + d)) (sym full) ∙ so_far d

-- the block goes on
within : (rate : ℕ) (s : List ℕ) {lanes next : List ℕ} {p q : ℕ} (k : ℕ) → Ahead rate s lanes p k → next ≡ lanes → q ≡ p → Ahead rate s next q k
within rate s k so_far same stays d = ap₂ (squeezed rate) same (ap (λ p. p + d) stays) ∙ so_far d

-- one lane more, or as many of its bytes as are asked for
more : {rate p n : ℕ} (part : ℕ) (s lanes : List ℕ) {before out t : List ℕ} → Rate rate → p < rate → p % 8 ≡ 0 → 8 * part < length before → n ≡ min (length out - 8 * part) 8
    → Segment before 0 (min (8 * part) (length before)) (squeezed rate s) out → Ahead rate s lanes p (8 * part)
    → Segment out (8 * part) n (lane_byte (get_or lanes (p / 8) 0)) t
    → Segment before 0 (min (8 * (part + 1)) (length before)) (squeezed rate s) t
more {rate} {p} {n} part s lanes {before} {out} {t} block l whole some count so_far ahead g =
    let first : min (8 * part) (length before) ≡ 8 * part = omega arith in
    let all : 8 * part + n ≡ min (8 * (part + 1)) (length before) = omega (arith, so_far.long) in
    let F : ℕ → Type 0 = λ k. Segment before 0 k (squeezed rate s) out in
    let G : ℕ → Type 0 = λ k. Segment before 0 k (squeezed rate s) t in
    subst G all (fill-then (subst F first so_far) g (λ d m. squeezed-lane rate block.lanes lanes p whole l d (omega arith) ∙ ahead d))

pub loop-part-preserved : goal.loop-part-preserved
loop-part-preserved c =
    let inside : c.if-at-rate.at < c.args.rate = elim c.if-at-rate.branch [ then-at-rate w ↦ omega arith | else-at-rate w ↦ omega arith ] in
    let whole : c.if-at-rate.at % 8 ≡ 0 = elim c.if-at-rate.branch [ then-at-rate w ↦ omega arith | else-at-rate w ↦ omega arith ] in
    let ahead : Ahead c.args.rate c.args.s c.if-at-rate.lanes c.if-at-rate.at (8 * c.loop-part.part) =
    elim c.if-at-rate.branch [
      | then-at-rate w ↦ turned _ _ _ _ c.requires.some c.loop-part.invariant.ahead w.if-at-rate.true (w.lanes-is ∙ w.permute-lanes.ensures) w.at-is
      | else-at-rate w ↦ within _ _ _ c.loop-part.invariant.ahead w.lanes-is w.at-is
    ] in
    record {
      block = omega (arith, c.requires.lanes);
      whole = omega arith;
      written = more _ c.args.s c.if-at-rate.lanes c.requires inside whole (omega arith) c.min-n.ensures c.loop-part.invariant.written ahead c.put_bytes.ensures;
      ahead = λ d. ap (squeezed c.args.rate c.if-at-rate.lanes) (add_assoc _ 8 d) ∙ ahead (8 + d) ∙ ap (squeezed c.args.rate c.args.s) (omega arith);
    }

pub returns : goal.returns
returns c = fill_end c.loop-part.invariant.written refl (omega arith)
