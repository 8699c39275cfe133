-- A text at the end of 80 bytes, zeros before it, and how it grows from the front.
-- Rests on Text of response_format, and on the kit's lists.
use Rattle.std.specs.Prelude.{◌≡◌, refl, List, [], ◌∷◌, ◌++◌, get_or, ℕ, zero, suc, ◌+◌, ◌-◌, ◌/◌, ◌%◌, ◌<◌, ◌≤◌, eqb, leb, length, set, drop, replicate}
use Rattle.std.proofs.Common.{sym, ap, ap₂, ◌∙◌, arith, drop_at, drop-cons, drop_of_length-le, add-one, length-append, eq-eqb, ne_eqb, le-leb}
use Rattle.std.proofs.Math.Decide.{ℕ_discrete}
use Rattle.std.proofs.lemmas.List.{length-replicate, set_at}
use Rattle.ground.specs.Pick.{pick}
use Rattle.response_format.specs.Text.{digits_before}
use Rattle.responses.specs.declared.Text.{Text}

unfoldable pub placed : List ℕ → Text
placed t = record { bytes = replicate (80 - length t) 0 ++ t; from = 80 - length t }

-- what is written of it is the text
pub placed-is : (t : List ℕ) → drop (placed t).from (placed t).bytes ≡ t
unfolding placed
placed-is t = drop_at (replicate (80 - length t) 0) t (80 - length t) (length-replicate (80 - length t) 0)

-- one byte before it; where there is no room, nothing
unfoldable pub put : Text → ℕ → Text
put x b = pick (eqb x.from 0) x (pick (leb x.from 80) (record { bytes = set x.bytes (x.from - 1) b; from = x.from - 1 }) x)

-- a word before it
unfoldable pub put_all : List ℕ → Text → Text
put_all [] x = x
put_all (b ∷ v) x = put (put_all v x) b

unfoldable pub put_digits : ℕ → ℕ → Text → Text
put_digits zero n x = x
put_digits (suc d) n x = pick (eqb (n / 10) 0) (put x (48 + n % 10)) (put_digits d (n / 10) (put x (48 + n % 10)))

-- one zero less in front
zero-last : (m : ℕ) (t : List ℕ) → replicate (suc m) 0 ++ t ≡ replicate m 0 ++ (0 ∷ t)
zero-last zero t = refl
zero-last (suc m) t = ap (λ x. 0 ∷ x) (zero-last m t)

put-at : (m : ℕ) (t : List ℕ) (b : ℕ) → 80 - length t ≡ suc m → set (replicate (80 - length t) 0 ++ t) (80 - length t - 1) b ≡ replicate m 0 ++ (b ∷ t)
put-at m t b e =
    let less : 80 - length t - 1 ≡ m = omega arith in
    ap₂ (λ x y. set (replicate x 0 ++ t) y b) e less ∙ ap (λ x. set x m b) (zero-last m t) ∙ set_at (replicate m 0) 0 t b m (length-replicate m 0)

pub put-placed : (t : List ℕ) (b : ℕ) → length t < 80 → put (placed t) b ≡ placed (b ∷ t)
unfolding put placed
put-placed t b h =
    rw (ne_eqb (80 - length t) 0 (λ e. omega arith), le-leb (80 - length t) 80 (omega arith))
    (ap₂ (λ x y. record { bytes = x; from = y }) (put-at (80 - suc (length t)) t b (omega arith)) (omega arith))

pub digits-placed : (d n : ℕ) (t : List ℕ) → d + length t ≤ 80 → put_digits d n (placed t) ≡ placed (digits_before d n t)
unfolding put_digits digits_before
digits-placed zero n t h = refl
digits-placed (suc d) n t h =
    let one = put-placed t (48 + n % 10) (omega arith) in
    elim (ℕ_discrete (n / 10) 0) [
      | yes z ↦ rw (eq-eqb (n / 10) 0 z) one
      | no z ↦ rw (ne_eqb (n / 10) 0 z) (ap (put_digits d (n / 10)) one ∙ digits-placed d (n / 10) ((48 + n % 10) ∷ t) (omega arith))
    ]

-- ---- for the code: a digit more, the last or not; a byte and a number before a text

last-digit : (d n : ℕ) (x : Text) → 0 < d → n / 10 ≡ 0 → put_digits d n x ≡ put x (48 + n % 10)
unfolding put_digits
last-digit zero n x h z = absurd (omega arith)
last-digit (suc d) n x h z = rw (eq-eqb (n / 10) 0 z)

next-digit : (d n : ℕ) (x : Text) → 0 < d → (n / 10 ≡ 0 → ⊥) → put_digits d n x ≡ put_digits (d - 1) (n / 10) (put x (48 + n % 10))
unfolding put_digits
next-digit zero n x h z = absurd (omega arith)
next-digit (suc d) n x h z = let same : d ≡ suc d - 1 = omega arith in rw (ne_eqb (n / 10) 0 z) (ap (λ m. put_digits m (n / 10) (put x (48 + n % 10))) same)

module _ (d n : ℕ) (x : Text) {y w : Text} (more : y ≡ put x (48 + n % 10)) (so_far : put_digits d n x ≡ w) (some : 0 < d) where
  pub digits-stop : n / 10 ≡ 0 → y ≡ w
  digits-stop z = more ∙ sym (last-digit d n x some z) ∙ so_far

  pub digits-go : (n / 10 ≡ 0 → ⊥) → put_digits (d - 1) (n / 10) y ≡ w
  digits-go z = ap (put_digits (d - 1) (n / 10)) more ∙ sym (next-digit d n x some z) ∙ so_far

pub digits-out : (d n : ℕ) (x : Text) {w : Text} → put_digits d n x ≡ w → d ≡ 0 → x ≡ w
unfolding put_digits
digits-out zero n x e z = e
digits-out (suc d) n x e z = absurd (omega arith)

-- a word is put from its last byte on
pub put-all-none : (v : List ℕ) (x : Text) (n : ℕ) → length v ≤ n → x ≡ put_all (drop n v) x
unfolding put_all
put-all-none v x n h = rw (drop_of_length-le v h)

pub put-all-next : (v : List ℕ) (x : Text) (n : ℕ) → n < length v → put (put_all (drop (n + 1) v) x) (get_or v n 0) ≡ put_all (drop n v) x
unfolding put_all
put-all-next v x n h = rw (drop-cons v n 0 h, add-one n)

pub all-placed : (v t : List ℕ) → length v + length t ≤ 80 → put_all v (placed t) ≡ placed (v ++ t)
unfolding put_all
all-placed [] t h = refl
all-placed (b ∷ v) t h = ap (λ x. put x b) (all-placed v t (omega arith)) ∙ put-placed (v ++ t) b (omega (arith, length-append v t))

pub after-word : (v t : List ℕ) {x y : Text} → x ≡ placed t → length v + length t ≤ 80 → y ≡ put_all v x → y ≡ placed (v ++ t)
after-word v t e h w = w ∙ ap (put_all v) e ∙ all-placed v t h

pub after-put : (t : List ℕ) (b : ℕ) {x y : Text} → x ≡ placed t → length t < 80 → y ≡ put x b → y ≡ placed (b ∷ t)
after-put t b e h w = w ∙ ap (λ z. put z b) e ∙ put-placed t b h

pub after-decimal : (t : List ℕ) (n : ℕ) {x y : Text} → x ≡ placed t → 20 + length t ≤ 80 → y ≡ put_digits 20 n x → y ≡ placed (digits_before 20 n t)
after-decimal t n e h w = w ∙ ap (put_digits 20 n) e ∙ digits-placed 20 n t h
