-- The third pass: the list of faults becomes the list of what became of each block.
-- Rests on Marking and on ground's Segment.
use Rattle.std.specs.Prelude.{◌≡◌, refl, Bool, List, ℕ, zero, suc, ◌+◌, ◌*◌, ◌/◌, ◌<◌, ◌≤◌, eqb, length, get_or, drop, set, ◌≢◌}
use Rattle.std.proofs.Common.{sym, ap, subst, ne_eqb, ◌∙◌, not-suc-le-zero, zero-add, arith, drop-drop, ext_get_or}
use Rattle.std.proofs.Math.Decide.{ℕ_discrete}
use Rattle.std.proofs.lemmas.List.{set-get_or}
use Rattle.ground.specs.Pick.{pick}
use Rattle.ground.specs.Segment.{Segment, segment-none, fill-next}
use Rattle.blocks.specs.declared.Head.{Head}
use Rattle.blocks.specs.Block.{head_of, block_at, IsBlock}
use Rattle.blocks.specs.Turn.{start}
use Rattle.books.specs.Salvage.{judged, listed, blocks_of, spoils, numbers_of}
use Rattle.books.specs.Kept.{length-numbers}
use Rattle.salvage.specs.Judging.{faults, faults_of, length-faults-of, Judged}
use Rattle.salvage.specs.Marking.{Spoilt}

listed_at : (out : ℕ → Bool) (n place : ℕ) (before : Head) (s : List ℕ) (b : ℕ) → b < n
    → get_or (listed out (judged n place before s)) b 0
    ≡ pick (eqb (get_or (faults (judged n place before s)) b 0) 0) (pick (out (head_of (block_at b s)).exercise) 44 0) (get_or (faults (judged n place before s)) b 0)
unfolding listed judged faults
listed_at out zero place before s b l = absurd (not-suc-le-zero l)
listed_at out (suc n) place before s zero l = refl
listed_at out (suc n) place before s (suc b) l =
    let at : 512 * suc b ≡ 512 + 512 * b = omega arith in
    rw (at, ← drop-drop (512 * b) 512 s) (listed_at out n (place + 1) _ (drop 512 s) b (omega arith))

-- ---- the loop: the first b places hold what they are to

pub record Listing (s l₀ : List ℕ) (n b : ℕ) (l : List ℕ) : Type 0 where
  pub upto : b ≤ n
  pub so_far : Segment l₀ 0 b (λ k. get_or (numbers_of s) k 0) l

pub listing_none : {s l : List ℕ} {n : ℕ} → Listing s l n 0 l
listing_none = record { upto = omega arith; so_far = segment-none }

pub listing-next : {s l₀ l m x : List ℕ} {n b v y : ℕ} {h : Head} → Listing s l₀ n b l → b < n → n ≡ length s / 512 → Judged s l₀ → Spoilt s m → IsBlock s b x → h ≡ head_of x
    → v ≡ get_or l b 0 → y ≡ pick (eqb v 0) (pick (eqb (get_or m h.exercise 0) 1) 44 0) v → Listing s l₀ n (b + 1) (set l b y)
unfolding numbers_of
listing-next {s} {l₀} {l} {m} {x} {n} {b} {v} {y} {h} g below en j sp i hx ev ey =
    let f-is : v ≡ get_or (faults_of s) b 0 = ev ∙ g.so_far.high b (omega arith) ∙ ap (λ z. get_or z b 0) j.holds in
    let h-is : h ≡ head_of (block_at b s) = hx ∙ ap head_of i.is in
    let y-is : y ≡ get_or (listed (spoils s) (blocks_of s)) b 0
    = ey ∙ rw (sp.at h.exercise, f-is, h-is) (sym (listed_at (spoils s) (length s / 512) 1 start s b (omega arith))) in
    record { upto = omega arith; so_far = fill-next g.so_far (omega (arith, ap length j.holds, length-faults-of s)) y y-is }

-- a good block of a spoiled exercise is listed 44, and any other keeps its number
pub listing-spoilt : {s l₀ l m x : List ℕ} {n b : ℕ} {h : Head} → Listing s l₀ n b l → b < n → n ≡ length s / 512 → Judged s l₀ → Spoilt s m → IsBlock s b x → h ≡ head_of x
    → get_or l b 0 ≡ 0 → get_or m h.exercise 0 ≡ 1 → Listing s l₀ n (b + 1) (set l b 44)
listing-spoilt g below en j sp i hx v k = listing-next g below en j sp i hx refl (sym (rw (v, k)))

pub listing-stays : {s l₀ l m x : List ℕ} {n b : ℕ} {h : Head} → Listing s l₀ n b l → b < n → n ≡ length s / 512 → Judged s l₀ → Spoilt s m → IsBlock s b x → h ≡ head_of x
    → (get_or l b 0 ≡ 0 → get_or m h.exercise 0 ≢ 1) → Listing s l₀ n (b + 1) l
listing-stays {s} {l₀} {l} {m} {n = n} {b = b} {h = h} g below en j sp i hx other =
    let same : get_or l b 0 ≡ pick (eqb (get_or l b 0) 0) (pick (eqb (get_or m h.exercise 0) 1) 44 0) (get_or l b 0)
    = elim (ℕ_discrete (get_or l b 0) 0) [
      | yes v ↦ v ∙ sym (rw (v, ne_eqb _ 1 (other v)))
      | no v ↦ sym (rw (ne_eqb _ 0 v))
    ] in
    subst (λ y. Listing s l₀ n (b + 1) y) (set-get_or l b 0) (listing-next g below en j sp i hx refl same)

pub listing-end : {s l₀ l : List ℕ} {n b : ℕ} → Listing s l₀ n b l → n ≤ b → n ≡ length s / 512 → Judged s l₀ → l ≡ numbers_of s
listing-end {s} {l₀} {l} {n} {b} g done en j =
    let long : length l ≡ length s / 512 = g.so_far.long ∙ ap length j.holds ∙ length-faults-of s in
    ext_get_or 0 l (numbers_of s) (long ∙ sym (length-numbers s)) (λ k h. ap (λ i. get_or l i 0) (sym (zero-add k)) ∙ g.so_far.inside k (omega arith))
