-- One step of elimination, on matrices as functions: rows k and p change places, row k is scaled to 1 in column k, and column k is cleared in every other row.
-- The step keeps the vectors that are sent to zero, and brings one column more to the identity's. Rests on Dot and field's laws.
use Rattle.std.specs.Prelude.{◌≡◌, refl, ◌≢◌, ℕ, ◌+◌, ◌<◌, ◌≤◌, eqb}
use Rattle.std.proofs.Common.{sym, ap, ◌∙◌, ⊎_elim, arith, eq-eqb, ne_eqb}
use Rattle.std.proofs.Math.Decide.{ℕ_discrete}
use Rattle.ground.specs.Pick.{pick}
use Rattle.field.specs.Field.{add, mul}
use Rattle.field.specs.Laws.{add-zero, add-self, add-lt, mul-lt, mul-zero, zero-mul, mul-one, mul-zero-cases}
use Rattle.linear.specs.Dot.{dot, dot-lt, dot-same, dot-scaled, dot-gain, Zero, SameZero, same-trans}

-- every entry of n rows of n + 1 is an element of the field
pub record Small (n : ℕ) (M : ℕ → ℕ → ℕ) : Type 0 where
  pub below : (r c : ℕ) → r < n → c ≤ n → M r c < 16

-- the first k columns are the identity's
pub record Reduced (n k : ℕ) (M : ℕ → ℕ → ℕ) : Type 0 where
  pub diagonal : (c : ℕ) → c < k → M c c ≡ 1
  pub beside : (r c : ℕ) → r < n → c < k → r ≢ c → M r c ≡ 0

-- N is M with rows k and p changed, row k then being s times what row p was; p may be k
pub record Exchanged (n k p s : ℕ) (M N : ℕ → ℕ → ℕ) : Type 0 where
  pub top : (c : ℕ) → c ≤ n → N k c ≡ mul s (M p c)
  pub down : p ≢ k → (c : ℕ) → c ≤ n → N p c ≡ M k c
  pub other : (r c : ℕ) → r < n → c ≤ n → r ≢ k → r ≢ p → N r c ≡ M r c

-- what row r gains of row k to lose its entry in column k: row k itself gains nothing
unfoldable pub factor : ℕ → (ℕ → ℕ → ℕ) → ℕ → ℕ
factor k M r = pick (eqb r k) 0 (M r k)

pub factor-here : (k : ℕ) (M : ℕ → ℕ → ℕ) → factor k M k ≡ 0
unfolding factor
factor-here k M = rw (eq-eqb k k refl)

pub factor-other : (k : ℕ) (M : ℕ → ℕ → ℕ) (r : ℕ) → r ≢ k → factor k M r ≡ M r k
unfolding factor
factor-other k M r d = rw (ne_eqb r k d)

-- N is M with its factor times row k added to every row
pub record Cleared (n k : ℕ) (M N : ℕ → ℕ → ℕ) : Type 0 where
  pub gain : (r c : ℕ) → r < n → c ≤ n → N r c ≡ add (M r c) (mul (factor k M r) (M k c))

-- ---- entries stay elements

exchanged-small : {n k p s : ℕ} {M N : ℕ → ℕ → ℕ} → Exchanged n k p s M N → k < n → Small n M → Small n N
exchanged-small {n} {k} {p} {s} {M} {N} x hk m = record { below = small }
  where
    small : (r c : ℕ) → r < n → c ≤ n → N r c < 16
    small r c h l =
        elim (ℕ_discrete r k) [
          | yes e ↦ rw (e, x.top c l) (mul-lt s (M p c))
          | no d ↦
              elim (ℕ_discrete r p) [
                | yes e ↦ rw (e, x.down (λ q. d (e ∙ q)) c l) (m.below k c hk l)
                | no f ↦ rw (x.other r c h l d f) (m.below r c h l)
              ]
        ]

cleared-small : {n k : ℕ} {M N : ℕ → ℕ → ℕ} → Cleared n k M N → Small n M → Small n N
cleared-small x m = record { below = λ r c h l. rw (x.gain r c h l) (add-lt _ _ (m.below r c h l) (mul-lt _ _)) }

-- ---- the vectors that are sent to zero stay

exchanged_same : {n k p s : ℕ} {M N : ℕ → ℕ → ℕ} → Exchanged n k p s M N → k < n → p < n → s < 16 → s ≢ 0 → SameZero n M N
exchanged_same {n} {k} {p} {s} {M} {N} x hk hp hs ns = record { to = λ z. record { row = forth z }; back = λ z. record { row = back z } }
  where
    top : (y : ℕ → ℕ) → dot (n + 1) N y k ≡ mul s (dot (n + 1) M y p)
    top y = dot-scaled (n + 1) M N y k p s (λ c l. x.top c (omega arith))

    down : (y : ℕ → ℕ) → p ≢ k → dot (n + 1) N y p ≡ dot (n + 1) M y k
    down y d = dot-same (n + 1) M N y p k (λ c l. x.down d c (omega arith))

    other : (y : ℕ → ℕ) (r : ℕ) → r < n → r ≢ k → r ≢ p → dot (n + 1) N y r ≡ dot (n + 1) M y r
    other y r h d f = dot-same (n + 1) M N y r r (λ c l. x.other r c h (omega arith) d f)

    forth : {y : ℕ → ℕ} → Zero n M y → (r : ℕ) → r < n → dot (n + 1) N y r ≡ 0
    forth {y} z r h =
        elim (ℕ_discrete r k) [
          | yes e ↦ rw e (top y ∙ ap (mul s) (z.row p hp) ∙ mul-zero s)
          | no d ↦ elim (ℕ_discrete r p) [ yes e ↦ rw e (down y (λ q. d (e ∙ q)) ∙ z.row k hk) | no f ↦ other y r h d f ∙ z.row r h ]
        ]

    back : {y : ℕ → ℕ} → Zero n N y → (r : ℕ) → r < n → dot (n + 1) M y r ≡ 0
    back {y} z r h =
        elim (ℕ_discrete r p) [
          | yes e ↦ rw e (⊎_elim (λ q. absurd (ns q)) (λ q. q) (mul-zero-cases s (dot (n + 1) M y p) hs (dot-lt (n + 1) M y p) (sym (top y) ∙ z.row k hk)))
          | no f ↦ elim (ℕ_discrete r k) [ yes e ↦ rw e (sym (down y (λ q. f (e ∙ sym q))) ∙ z.row p hp) | no d ↦ sym (other y r h d f) ∙ z.row r h ]
        ]

cleared-same : {n k : ℕ} {M N : ℕ → ℕ → ℕ} → Cleared n k M N → k < n → SameZero n M N
cleared-same {n} {k} {M} {N} x hk = record { to = λ z. record { row = forth z }; back = λ z. record { row = back z } }
  where
    gain : (y : ℕ → ℕ) (r : ℕ) → r < n → dot (n + 1) N y r ≡ add (dot (n + 1) M y r) (mul (factor k M r) (dot (n + 1) M y k))
    gain y r h = dot-gain (n + 1) M N y r r k (factor k M r) (λ c l. x.gain r c h (omega arith))

    -- where row k sends y to zero, row r gained nothing
    none : (y : ℕ → ℕ) (r : ℕ) → r < n → dot (n + 1) M y k ≡ 0 → dot (n + 1) N y r ≡ dot (n + 1) M y r
    none y r h e = gain y r h ∙ rw (e, mul-zero) (add-zero _)

    forth : {y : ℕ → ℕ} → Zero n M y → (r : ℕ) → r < n → dot (n + 1) N y r ≡ 0
    forth {y} z r h = none y r h (z.row k hk) ∙ z.row r h

    back : {y : ℕ → ℕ} → Zero n N y → (r : ℕ) → r < n → dot (n + 1) M y r ≡ 0
    back {y} z r h =
        let top : dot (n + 1) M y k ≡ 0 = sym (gain y k hk ∙ rw (factor-here k M, zero-mul) (add-zero _)) ∙ z.row k hk in
        sym (none y r h top) ∙ z.row r h

-- ---- one column more is the identity's

exchanged-reduced : {n k p s : ℕ} {M N : ℕ → ℕ → ℕ} → Exchanged n k p s M N → k ≤ p → p < n → Reduced n k M → Reduced n k N
exchanged-reduced {n} {k} {p} {s} {M} {N} x kp hp m = record { diagonal = diagonal; beside = beside }
  where
    diagonal : (c : ℕ) → c < k → N c c ≡ 1
    diagonal c l = x.other c c (omega arith) (omega arith) (omega arith) (omega arith) ∙ m.diagonal c l

    beside : (r c : ℕ) → r < n → c < k → r ≢ c → N r c ≡ 0
    beside r c h l d =
        elim (ℕ_discrete r k) [
          | yes e ↦ rw e (x.top c (omega arith) ∙ ap (mul s) (m.beside p c hp l (omega arith)) ∙ mul-zero s)
          | no f ↦
              elim (ℕ_discrete r p) [
                | yes e ↦ rw e (x.down (λ q. f (e ∙ q)) c (omega arith) ∙ m.beside k c (omega arith) l (omega arith))
                | no f' ↦ x.other r c h (omega arith) f f' ∙ m.beside r c h l d
              ]
        ]

cleared-reduced : {n k : ℕ} {M N : ℕ → ℕ → ℕ} → Cleared n k M N → k < n → Small n M → Reduced n k M → M k k ≡ 1 → Reduced n (k + 1) N
cleared-reduced {n} {k} {M} {N} x hk small m one = record { diagonal = diagonal; beside = beside }
  where
    -- row k itself stays
    top : (c : ℕ) → c ≤ n → N k c ≡ M k c
    top c l = x.gain k c hk l ∙ rw (factor-here k M, zero-mul) (add-zero _)

    -- a column that is done stays
    done : (r c : ℕ) → r < n → c < k → N r c ≡ M r c
    done r c h l = x.gain r c h (omega arith) ∙ rw (m.beside k c hk l (omega arith), mul-zero) (add-zero _)

    -- column k is cleared
    cleared : (r : ℕ) → r < n → r ≢ k → N r k ≡ 0
    cleared r h d =
        x.gain r k h (omega arith)
        ∙ rw (factor-other k M r d, one) (ap (add (M r k)) (mul-one (M r k) (small.below r k h (omega arith))) ∙ add-self (M r k))

    diagonal : (c : ℕ) → c < k + 1 → N c c ≡ 1
    diagonal c l = elim (ℕ_discrete c k) [ yes e ↦ rw e (top k (omega arith) ∙ one) | no d ↦ done c c (omega arith) (omega arith) ∙ m.diagonal c (omega arith) ]

    beside : (r c : ℕ) → r < n → c < k + 1 → r ≢ c → N r c ≡ 0
    beside r c h l d =
        elim (ℕ_discrete c k) [ yes e ↦ rw e (cleared r h (λ q. d (q ∙ sym e))) | no f ↦ done r c h (omega arith) ∙ m.beside r c h (omega arith) d ]

-- ---- the step

-- what was an augmented matrix of elements, reduced in k columns, is one reduced in k + 1, and the same vectors are sent to zero
pub record Stepped (n k : ℕ) (M N : ℕ → ℕ → ℕ) : Type 0 where
  pub small : Small n N
  pub same : SameZero n M N
  pub reduced : Reduced n k N

pub stepped : {n k p s : ℕ} {L M N : ℕ → ℕ → ℕ} → Small n L → Reduced n k L → k ≤ p → p < n → s < 16 → mul s (L p k) ≡ 1
    → Exchanged n k p s L M → Cleared n k M N → Stepped n (k + 1) L N
stepped {n} {k} {p} {s} {L} {M} {N} small reduced kp hp hs unit x y =
    let hk : k < n = omega arith in
    let small' : Small n M = exchanged-small x hk small in
    record {
      small = cleared-small y small';
      same = same-trans (exchanged_same x hk hp hs nonzero) (cleared-same y hk);
      reduced = cleared-reduced y hk small' (exchanged-reduced x kp hp reduced) (x.top k (omega arith) ∙ unit);
    }
  where
    nonzero : s ≢ 0
    nonzero e = let z : ◌≡◌ {A = ℕ} 0 1 = sym (rw (e, zero-mul) refl) ∙ unit in omega arith
