-- Rows applied to vectors of n + 1 entries, and the set of vectors that every row sends to zero: what each step of elimination keeps.
-- Rests on field's laws and algebra's sums.
use Rattle.std.specs.Prelude.{◌≡◌, ℕ, ◌+◌, ◌<◌, ltb}
use Rattle.std.proofs.Math.Path.{sym, ap}
use Rattle.std.proofs.Common.{ap₂, ◌∙◌, le_refl, lt-ltb, le-ltb}
use Rattle.ground.specs.Pick.{pick}
use Rattle.field.specs.Field.{add, mul}
use Rattle.field.specs.Laws.{mul-lt, mul_assoc, add-mul}
use Rattle.field.specs.FieldRing.{field-ring, sum_lt}
use Rattle.algebra.specs.Sum.{sum, sum-cong, sum-add, sum_more, mul-sum}

-- the first w entries of row r of M applied to y
unfoldable pub dot : ℕ → (ℕ → ℕ → ℕ) → (ℕ → ℕ) → ℕ → ℕ
dot w M y r = sum 0 add w (λ c. mul (M r c) (y c))

pub dot-lt : (w : ℕ) (M : ℕ → ℕ → ℕ) (y : ℕ → ℕ) (r : ℕ) → dot w M y r < 16
unfolding dot
dot-lt w M y r = sum_lt w (λ c h. mul-lt _ _)

-- ---- a row that is made of other rows

module _ (w : ℕ) (M N : ℕ → ℕ → ℕ) (y : ℕ → ℕ) where
  pub dot-same : (q r : ℕ) → ((c : ℕ) → c < w → N q c ≡ M r c) → dot w N y q ≡ dot w M y r
  unfolding dot
  dot-same q r e = sum-cong field-ring w (λ c h. ap (λ x. mul x (y c)) (e c h))

  pub dot-scaled : (q r s : ℕ) → ((c : ℕ) → c < w → N q c ≡ mul s (M r c)) → dot w N y q ≡ mul s (dot w M y r)
  unfolding dot
  dot-scaled q r s e =
      sum-cong field-ring w (λ c h. ap (λ x. mul x (y c)) (e c h) ∙ mul_assoc _ _ _) ∙ sym (mul-sum field-ring s w (λ c. mul (M r c) (y c)))

  pub dot-gain : (q r k s : ℕ) → ((c : ℕ) → c < w → N q c ≡ add (M r c) (mul s (M k c))) → dot w N y q ≡ add (dot w M y r) (mul s (dot w M y k))
  unfolding dot
  dot-gain q r k s e =
      sum-cong field-ring w (λ c h. ap (λ x. mul x (y c)) (e c h) ∙ add-mul _ _ _ ∙ ap (add _) (mul_assoc _ _ _))
      ∙ sum-add field-ring w (λ c. mul (M r c) (y c)) (λ c. mul s (mul (M k c) (y c)))
      ∙ ap (add _) (sym (mul-sum field-ring s w (λ c. mul (M k c) (y c))))

-- ---- the vectors that every row sends to zero

-- every one of n rows, with its right-hand element, sends y to zero
pub record Zero (n : ℕ) (M : ℕ → ℕ → ℕ) (y : ℕ → ℕ) : Type 0 where
  pub row : (r : ℕ) → r < n → dot (n + 1) M y r ≡ 0

-- M and N send the same vectors to zero
pub record SameZero (n : ℕ) (M N : ℕ → ℕ → ℕ) : Type 0 where
  pub to : {y : ℕ → ℕ} → Zero n M y → Zero n N y
  pub back : {y : ℕ → ℕ} → Zero n N y → Zero n M y

pub same_refl : {n : ℕ} {M : ℕ → ℕ → ℕ} → SameZero n M M
same_refl = record { to = λ z. z; back = λ z. z }

pub same-trans : {n : ℕ} {L M N : ℕ → ℕ → ℕ} → SameZero n L M → SameZero n M N → SameZero n L N
same-trans a b = record { to = λ z. b.to (a.to z); back = λ z. a.back (b.back z) }

-- ---- a vector of n entries and one more

unfoldable pub beside : ℕ → (ℕ → ℕ) → ℕ → ℕ → ℕ
beside n y t c = pick (ltb c n) (y c) t

pub beside-below : (n : ℕ) (y : ℕ → ℕ) (t c : ℕ) → c < n → beside n y t c ≡ y c
unfolding beside
beside-below n y t c h = rw (lt-ltb c n h)

pub beside-last : (n : ℕ) (y : ℕ → ℕ) (t : ℕ) → beside n y t n ≡ t
unfolding beside
beside-last n y t = rw (le-ltb n n (le_refl n))

pub dot-last : (n : ℕ) (M : ℕ → ℕ → ℕ) (y : ℕ → ℕ) (r : ℕ) → dot (n + 1) M y r ≡ add (dot n M y r) (mul (M r n) (y n))
unfolding dot
dot-last n M y r = sum_more field-ring n _

pub dot-beside : (n : ℕ) (M : ℕ → ℕ → ℕ) (y : ℕ → ℕ) (t r : ℕ) → dot (n + 1) M (beside n y t) r ≡ add (dot n M y r) (mul (M r n) t)
unfolding dot
dot-beside n M y t r =
    dot-last n M (beside n y t) r
    ∙ ap₂ add (sum-cong field-ring n (λ c h. ap (mul (M r c)) (beside-below n y t c h))) (ap (mul (M r n)) (beside-last n y t))
