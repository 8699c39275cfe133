-- The laws of writing into a packed stream: what storing one byte writes, and that what is written fixes the stream.
-- Rests on Laws and on specs/Written.
use Rattle.std.specs.Prelude.{◌≡◌, refl, List, ℕ, ◌+◌, ◌-◌, ◌*◌, ◌/◌, ◌%◌, ◌<◌, length, get_or, set}
use Rattle.std.proofs.Common.{sym, ap, ◌∙◌, arith, length-set, get_or-set_same, get_or-set_other}
use Rattle.std.proofs.Math.Decide.{dec_lt, ℕ_discrete}
use Rattle.packing.specs.Packing.{half, element, Bytes}
use Rattle.packing.proofs.Laws.{half-even, half-odd, element-ext}
use Rattle.packing.specs.Written.{Put, Written}

-- ---- one element

-- a byte that is stored shows in its own two elements
element-set-same : (s : List ℕ) (j b e : ℕ) → e / 2 ≡ j → j < length s → element (set s j b) e ≡ half b e
unfolding element
element-set-same s j b e p l = ap (λ i. half (get_or (set s j b) i 0) e) p ∙ ap (λ x. half x e) (get_or-set_same s j b 0 l)

-- and in no other
element-set-other : (s : List ℕ) (j b e : ℕ) → (e / 2 ≡ j → ⊥) → element (set s j b) e ≡ element s e
unfolding element
element-set-other s j b e p = ap (λ x. half x e) (get_or-set_other s j (e / 2) b 0 p)

-- storing a byte with x in the half of element e, and the other half as before, writes x as element e
put-set : (s : List ℕ) (e x b : ℕ) → e / 2 < length s → half b e ≡ x → ((k : ℕ) → k / 2 ≡ e / 2 → (k ≡ e → ⊥) → half b k ≡ half (get_or s (e / 2) 0) k)
    → Put s e x (set s (e / 2) b)
unfolding element
put-set s e x b l same other =
    record {
      long = length-set s (e / 2) b;
      here = element-set-same s (e / 2) b e refl l ∙ same;
      others = λ k n.
          elim (ℕ_discrete (k / 2) (e / 2)) [
            | yes p ↦ element-set-same s (e / 2) b k p l ∙ other k p n ∙ ap (λ i. half (get_or s i 0) k) (sym p)
            | no p ↦ element-set-other s (e / 2) b k p
          ];
    }

-- a byte with x as its low half, or as its high half, and the other half kept
pub put_low : (s : List ℕ) (e x b : ℕ) → e % 2 ≡ 0 → e / 2 < length s → x < 16 → b ≡ x + 16 * (get_or s (e / 2) 0 / 16 % 16) → Put s e x (set s (e / 2) b)
put_low s e x b p l h is =
    put-set s e x b l (half-even b e p ∙ omega arith)
    (λ k q n.
    let odd : k % 2 ≡ 1 = omega arith in
    half-odd b k odd ∙ omega arith ∙ sym (half-odd _ k odd))

pub put-high : (s : List ℕ) (e x b : ℕ) → e % 2 ≡ 1 → e / 2 < length s → x < 16 → b ≡ get_or s (e / 2) 0 % 16 + 16 * x → Put s e x (set s (e / 2) b)
put-high s e x b p l h is =
    put-set s e x b l (half-odd b e p ∙ omega arith)
    (λ k q n.
    let even : k % 2 ≡ 0 = omega arith in
    half-even b k even ∙ omega arith ∙ sym (half-even _ k even))

-- one element written fixes the stream
pub put-unique : {s t u : List ℕ} {e x : ℕ} → Bytes t → Bytes u → Put s e x t → Put s e x u → t ≡ u
put-unique {s} {t} {u} {e} {x} bt bu a b =
    element-ext t u bt bu (a.long ∙ sym b.long)
    (λ k l.
    elim (ℕ_discrete k e) [
      | yes p ↦ ap (element t) p ∙ a.here ∙ sym (ap (element u) p ∙ b.here)
      | no p ↦ a.others k p ∙ sym (b.others k p)
    ])

-- ---- a run of elements

-- the run, its rule and the stream before fix the stream after
pub written-unique : {s t u : List ℕ} {base n : ℕ} {f : ℕ → ℕ} → Bytes t → Bytes u → Written s base n f t → Written s base n f u → t ≡ u
written-unique {s} {t} {u} {base} {n} {f} bt bu a b = element-ext t u bt bu (a.long ∙ sym b.long) place
  where
    place : (k : ℕ) → k < 2 * length t → element t k ≡ element u k
    place k h =
        elim (dec_lt k base) [
          | yes l ↦ a.low k l ∙ sym (b.low k l)
          | no l ↦
              elim (dec_lt k (base + n)) [
                | yes m ↦
                    let at : base + (k - base) ≡ k = omega arith in
                    ap (element t) (sym at) ∙ a.inside (k - base) (omega arith) ∙ sym (b.inside (k - base) (omega arith)) ∙ ap (element u) at
                | no m ↦ a.high k (omega arith) ∙ sym (b.high k (omega arith))
              ]
        ]
