-- What the reduced matrix says of the system that it came from: the one solution, or a vector that is not zero and is sent to zero.
-- Also that no two outcomes meet the promise at one area. Rests on Dot and Step.
use Rattle.std.specs.Prelude.{◌≡◌, refl, ◌≢◌, Result, Ok, Err, List, ℕ, ◌+◌, ◌<◌, ◌≤◌, eqb, ltb}
use Rattle.std.proofs.Common.{sym, ap, ap₂, ◌∙◌, arith}
use Rattle.std.proofs.Math.Decide.{dec_lt, ℕ_discrete}
use borrow.Author.Tests.{lt-ltb, le-ltb, eq-eqb, ne_eqb}
use Rattle.ground.specs.Pick.{pick}
use Rattle.field.specs.Field.{add, mul}
use Rattle.field.specs.Laws.{add-self, mul-zero, zero-mul, one-mul, mul-one}
use Rattle.field.specs.FieldRing.{field-ring}
use Rattle.algebra.specs.Ring.{add-cancel}
use Rattle.algebra.specs.Sum.{sum-two, sum_zeros}
use Rattle.linear.specs.declared.Singular.{Singular}
use Rattle.linear.specs.System.{at, apply, Area, Solution, Kernel, singular, Eliminated}
use Rattle.linear.specs.Dot.{dot, dot-last, dot-beside, beside, beside-below, beside-last, Zero}
use Rattle.linear.specs.Step.{Small, Reduced, Stepped}

-- ---- every column is the identity's: y r = s r · t, for the right-hand side s and the vector's last entry t

reduced-dot : {n : ℕ} {M : ℕ → ℕ → ℕ} → Reduced n n M → (y : ℕ → ℕ) (r : ℕ) → r < n → y r < 16
    → dot (n + 1) M y r ≡ add (y r) (mul (M r n) (y n))
unfolding dot
reduced-dot {n} {M} m y r h l =
    sum-two field-ring (n + 1) r n (λ c. mul (M r c) (y c)) (omega arith) (omega arith) (omega arith)
    (λ c b d e. ap (λ x. mul x (y c)) (m.beside r c h (omega arith) (λ q. d (sym q))) ∙ zero-mul (y c))
    ∙ ap (λ x. add x (mul (M r n) (y n))) (ap (λ x. mul x (y r)) (m.diagonal r h) ∙ one-mul (y r) l)

module _ {n : ℕ} {M : ℕ → ℕ → ℕ} (m : Reduced n n M) (y : ℕ → ℕ) (small : (c : ℕ) → c < n → y c < 16) (t : ℕ) where
  extended : (r : ℕ) → r < n → dot (n + 1) M (beside n y t) r ≡ add (y r) (mul (M r n) t)
  extended r h =
      reduced-dot m (beside n y t) r h (rw (beside-below n y t r h) (small r h))
      ∙ ap₂ (λ a b. add a (mul (M r n) b)) (beside-below n y t r h) (beside-last n y t)

  zero-of-solved : ((r : ℕ) → r < n → y r ≡ mul (M r n) t) → Zero n M (beside n y t)
  zero-of-solved e = record { row = λ r h. extended r h ∙ ap (λ x. add x (mul (M r n) t)) (e r h) ∙ add-self _ }

  solved-of-zero : Zero n M (beside n y t) → (r : ℕ) → r < n → y r ≡ mul (M r n) t
  solved-of-zero z r h = add-cancel field-ring (sym (extended r h) ∙ z.row r h)

-- ---- the same of any matrix: the rows applied to y give t times the right-hand side

module _ (n : ℕ) (M : ℕ → ℕ → ℕ) (y : ℕ → ℕ) (t : ℕ) where
  zero-of-rows : ((r : ℕ) → r < n → dot n M y r ≡ mul (M r n) t) → Zero n M (beside n y t)
  zero-of-rows e = record { row = λ r h. dot-beside n M y t r ∙ ap (λ x. add x (mul (M r n) t)) (e r h) ∙ add-self _ }

  rows-of-zero : Zero n M (beside n y t) → (r : ℕ) → r < n → dot n M y r ≡ mul (M r n) t
  rows-of-zero z r h = add-cancel field-ring (sym (dot-beside n M y t r) ∙ z.row r h)

pub solution : {g : List ℕ} {n : ℕ} {N : ℕ → ℕ → ℕ} → Area g n → Stepped n n (at g n) N → Solution g n (λ c. N c n)
unfolding apply dot
solution {g} {n} {N} a s = record { small = small; solves = solves; only = only; trivial = trivial }
  where
    small : (c : ℕ) → c < n → N c n < 16
    small c h = s.small.below c n h (omega arith)

    solves : (r : ℕ) → r < n → apply g n (λ c. N c n) r ≡ at g n r n
    solves r h =
        rows-of-zero n (at g n) (λ c. N c n) 1
        (s.same.back (zero-of-solved s.reduced (λ c. N c n) small 1 (λ q l. sym (mul-one (N q n) (small q l))))) r h
        ∙ mul-one (at g n r n) (a.small r n h (omega arith))

    only : (y : ℕ → ℕ) → ((c : ℕ) → c < n → y c < 16) → ((r : ℕ) → r < n → apply g n y r ≡ at g n r n) → (c : ℕ) → c < n → y c ≡ N c n
    only y b e c h =
        solved-of-zero s.reduced y b 1
        (s.same.to (zero-of-rows n (at g n) y 1 (λ r l. e r l ∙ sym (mul-one (at g n r n) (a.small r n l (omega arith)))))) c h
        ∙ mul-one (N c n) (small c h)

    trivial : (y : ℕ → ℕ) → ((c : ℕ) → c < n → y c < 16) → ((r : ℕ) → r < n → apply g n y r ≡ 0) → (c : ℕ) → c < n → y c ≡ 0
    trivial y b e c h =
        solved-of-zero s.reduced y b 0 (s.same.to (zero-of-rows n (at g n) y 0 (λ r l. e r l ∙ sym (mul-zero (at g n r n))))) c h
        ∙ mul-zero (N c n)

-- ---- column k has no entry from row k on: 1 at k, what stands in column k above, and zeros

unfoldable kernel_of : ℕ → (ℕ → ℕ → ℕ) → ℕ → ℕ
kernel_of k M c = pick (ltb c k) (M c k) (pick (eqb c k) 1 0)

module _ (k : ℕ) (M : ℕ → ℕ → ℕ) where
  kernel-low : (c : ℕ) → c < k → kernel_of k M c ≡ M c k
  unfolding kernel_of
  kernel-low c h = rw (lt-ltb c k h)

  kernel-here : kernel_of k M k ≡ 1
  unfolding kernel_of
  kernel-here = rw (le-ltb k k (omega arith), eq-eqb k k refl)

  kernel-high : (c : ℕ) → k < c → kernel_of k M c ≡ 0
  unfolding kernel_of
  kernel-high c h = rw (le-ltb c k (omega arith), ne_eqb c k (omega arith))

kernel-zero : {n k : ℕ} {M : ℕ → ℕ → ℕ} → Small n M → Reduced n k M → k < n → ((r : ℕ) → k ≤ r → r < n → M r k ≡ 0) → Zero n M (kernel_of k M)
unfolding dot
kernel-zero {n} {k} {M} small m hk none = record { row = λ r h. elim (dec_lt r k) [ yes l ↦ above r h l | no l ↦ sum_zeros field-ring (n + 1) (λ c b. below r h (omega arith) c) ] }
  where
    by-entry : (r c : ℕ) → M r c ≡ 0 → mul (M r c) (kernel_of k M c) ≡ 0
    by-entry r c e = rw e (zero-mul _)

    past : (r c : ℕ) → k < c → mul (M r c) (kernel_of k M c) ≡ 0
    past r c h = rw (kernel-high k M c h) (mul-zero _)

    below : (r : ℕ) → r < n → k ≤ r → (c : ℕ) → mul (M r c) (kernel_of k M c) ≡ 0
    below r h l c =
        elim (dec_lt c k) [
          | yes b ↦ by-entry r c (m.beside r c h b (omega arith))
          | no b ↦ elim (ℕ_discrete c k) [ yes e ↦ by-entry r c (rw e (none r l h)) | no d ↦ past r c (omega arith) ]
        ]

    above : (r : ℕ) → r < n → r < k → dot (n + 1) M (kernel_of k M) r ≡ 0
    above r h l =
        sum-two field-ring (n + 1) r k (λ c. mul (M r c) (kernel_of k M c)) (omega arith) (omega arith) (omega arith)
        (λ c b d e. elim (dec_lt c k) [ yes q ↦ by-entry r c (m.beside r c h q (λ z. d (sym z))) | no q ↦ past r c (omega arith) ])
        ∙ rw (m.diagonal r l, kernel-low k M r l, kernel-here k M)
        (ap₂ add (one-mul (M r k) (small.below r k h (omega arith))) (mul-one (M r k) (small.below r k h (omega arith))) ∙ add-self (M r k))

pub kernel : {g : List ℕ} {n k : ℕ} {N : ℕ → ℕ → ℕ} → Stepped n k (at g n) N → k < n → ((r : ℕ) → k ≤ r → r < n → N r k ≡ 0) → Kernel g n
unfolding apply dot
kernel {g} {n} {k} {N} s hk none =
    record { y = kernel_of k N; small = small; place = k; inside = hk; nonzero = nonzero; sent = sent }
  where
    small : (c : ℕ) → c < n → kernel_of k N c < 16
    small c h =
        elim (dec_lt c k) [
          | yes l ↦ rw (kernel-low k N c l) (s.small.below c k h (omega arith))
          | no l ↦ elim (ℕ_discrete c k) [ yes e ↦ rw (e, kernel-here k N) (omega arith) | no d ↦ rw (kernel-high k N c (omega arith)) (omega arith) ]
        ]

    nonzero : kernel_of k N k ≢ 0
    nonzero e = let z : ◌≡◌ {A = ℕ} 1 0 = sym (kernel-here k N) ∙ e in omega arith

    sent : (r : ℕ) → r < n → apply g n (kernel_of k N) r ≡ 0
    sent r h =
        let whole : add (dot n (at g n) (kernel_of k N) r) (mul (at g n r n) (kernel_of k N n)) ≡ 0 =
        sym (dot-last n (at g n) (kernel_of k N) r) ∙ (s.same.back (kernel-zero s.small s.reduced hk none)).row r h in
        add-cancel field-ring whole ∙ ap (mul (at g n r n)) (kernel-high k N n hk) ∙ mul-zero (at g n r n)

-- ---- one outcome

-- a system with one solution has no kernel
solution-no-kernel : {g : List ℕ} {n : ℕ} {s : ℕ → ℕ} → Solution g n s → Kernel g n → ⊥
solution-no-kernel a b = b.nonzero (a.trivial b.y b.small b.sent b.place b.inside)

unique-solution : {g : List ℕ} {n : ℕ} {s t : ℕ → ℕ} → Solution g n s → Solution g n t → (c : ℕ) → c < n → s c ≡ t c
unique-solution {s = s} a b c h = b.only s a.small a.solves c h

-- Err is answered exactly where some vector that is not zero is sent to zero, and Ok exactly where none is
pub singular-of-kernel : {g h : List ℕ} {n : ℕ} {r : Result Unit Singular} → Eliminated g n r h → Kernel g n → r ≡ Err singular
singular-of-kernel {r = Ok x} a b = absurd (solution-no-kernel (a.solved refl) b)
singular-of-kernel {r = Err x} a b = refl

pub solved-of-trivial : {g h : List ℕ} {n : ℕ} {r : Result Unit Singular} → Eliminated g n r h → (Kernel g n → ⊥) → r ≡ Ok tt
solved-of-trivial {r = Ok x} a b = refl
solved-of-trivial {r = Err x} a b = absurd (b (a.singular refl))

-- The answer, and after Ok the solution, are the area's alone. What Err leaves in the area is not promised: the caller wipes it.
pub unique-outcome : {g h h' : List ℕ} {n : ℕ} {r r' : Result Unit Singular} → Eliminated g n r h → Eliminated g n r' h'
    → (r ≡ r') × (r ≡ Ok tt → (c : ℕ) → c < n → at h n c n ≡ at h' n c n)
unique-outcome {r = Ok x} {r' = Ok y} a b = (refl, λ e. unique-solution (a.solved refl) (b.solved refl))
unique-outcome {r = Ok x} {r' = Err y} a b = absurd (solution-no-kernel (a.solved refl) (b.singular refl))
unique-outcome {r = Err x} {r' = Ok y} a b = absurd (solution-no-kernel (b.solved refl) (a.singular refl))
unique-outcome {r = Err x} {r' = Err y} a b = (refl, λ e. cc)
