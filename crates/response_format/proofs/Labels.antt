-- Facts of the eight labels, each by one computed test, and of lines that begin with one.
-- Rests on Fields and Rules.
use Rattle.std.specs.Prelude.{◌≡◌, refl, Bool, true, false, not, List, [], ◌∷◌, ◌++◌, ℕ, ◌+◌, ◌*◌, ◌<◌, ◌≤◌, T, eqb, ltb, leb, length, get_or, drop}
use Rattle.std.proofs.Common.{sym, ap, ap₂, subst, not-suc-le-zero, arith, eqb→eq, leb→le, T_not, eq-eqb, ne_eqb, eqb-true, lt-ltb}
use Rattle.std.proofs.Math.Decide.{dec_lt}
use Rattle.ground.specs.Tests.{every, every-at, below, below2}
use Rattle.ground.specs.Pick.{pick, both_left, both_right}
use Rattle.response_format.specs.Fields.{label}
use Rattle.response_format.specs.Rules.{begins, separated}

-- after the last field no label is due
pub label-past : (k : ℕ) → 8 ≤ k → label k ≡ []
unfolding label
label-past k h =
    rw (
      ne_eqb k 0 (λ e. omega arith),
      ne_eqb k 1 (λ e. omega arith),
      ne_eqb k 2 (λ e. omega arith),
      ne_eqb k 3 (λ e. omega arith),
      ne_eqb k 4 (λ e. omega arith),
      ne_eqb k 5 (λ e. omega arith),
      ne_eqb k 6 (λ e. omega arith),
      ne_eqb k 7 (λ e. omega arith),
    )

pub label-due : (k i : ℕ) → i < length (label k) → k < 8
label-due k i h = elim (dec_lt k 8) [ yes l ↦ l | no l ↦ absurd (not-suc-le-zero (subst (λ s. i < length s) (label-past k (omega arith)) h)) ]

abbrev pub lengths : List ℕ
lengths = 8 ∷ 7 ∷ 7 ∷ 6 ∷ 5 ∷ 5 ∷ 8 ∷ 5 ∷ []

lengths-test : T (every 8 (λ k. eqb (get_or lengths k 0) (length (label k))))
unfolding label
lengths-test = tt

pub label-length : (k : ℕ) → k < 8 → get_or lengths k 0 ≡ length (label k)
label-length k h = eqb→eq _ _ (below 8 (λ k. eqb (get_or lengths k 0) (length (label k))) lengths-test k h)

short-test : T (every 8 (λ k. leb (length (label k)) 8))
unfolding label
short-test = tt

pub label-short : (k : ℕ) → length (label k) ≤ 8
label-short k =
    elim (dec_lt k 8) [
      | yes l ↦ leb→le _ _ (below 8 (λ k. leb (length (label k)) 8) short-test k l)
      | no l ↦ let e : length (label k) ≡ 0 = ap length (label-past k (omega arith)) in omega arith
    ]

long-test : T (every 8 (λ k. leb 5 (length (label k))))
unfolding label
long-test = tt

pub label-long : (k : ℕ) → k < 8 → 5 ≤ length (label k)
label-long k l = leb→le _ _ (below 8 (λ k. leb 5 (length (label k))) long-test k l)

-- the labels, each in eight bytes
abbrev pub labels : List ℕ
labels =
    99 ∷ 111 ∷ 117 ∷ 110 ∷ 116 ∷ 32 ∷ 61 ∷ 32
    ∷ 115 ∷ 101 ∷ 101 ∷ 100 ∷ 32 ∷ 61 ∷ 32 ∷ 32
    ∷ 109 ∷ 108 ∷ 101 ∷ 110 ∷ 32 ∷ 61 ∷ 32 ∷ 32
    ∷ 109 ∷ 115 ∷ 103 ∷ 32 ∷ 61 ∷ 32 ∷ 32 ∷ 32
    ∷ 112 ∷ 107 ∷ 32 ∷ 61 ∷ 32 ∷ 32 ∷ 32 ∷ 32
    ∷ 115 ∷ 107 ∷ 32 ∷ 61 ∷ 32 ∷ 32 ∷ 32 ∷ 32
    ∷ 115 ∷ 109 ∷ 108 ∷ 101 ∷ 110 ∷ 32 ∷ 61 ∷ 32
    ∷ 115 ∷ 109 ∷ 32 ∷ 61 ∷ 32 ∷ 32 ∷ 32 ∷ 32
    ∷ []

abbrev labels_at : ℕ → ℕ → Bool
labels_at k i = pick (ltb i (length (label k))) (eqb (get_or labels (k * 8 + i) 0) (get_or (label k) i 0)) true

labels-test : T (every 8 (λ k. every 8 (labels_at k)))
unfolding label
labels-test = tt

pub label-byte : (k i : ℕ) → i < length (label k) → get_or labels (k * 8 + i) 0 ≡ get_or (label k) i 0
label-byte k i h =
    let due = label-due k i h in
    let short = label-short k in
    eqb→eq _ _ (rw (lt-ltb _ _ h) at (below2 8 labels_at labels-test k i due (omega arith)))

first-test : T (every 8 (λ k. not (eqb (get_or (label k) 0 35) 35)))
unfolding label
first-test = tt

-- no label starts a comment
pub label-first : (k : ℕ) → k < 8 → get_or (label k) 0 35 ≡ 35 → ⊥
label-first k h e = T_not (eqb (get_or (label k) 0 35) 35) (below 8 (λ k. not (eqb (get_or (label k) 0 35) 35)) first-test k h) (subst T (sym (eq-eqb _ _ e)) tt)

-- ---- lines that begin with a text

pub begins-all : (p v : List ℕ) → begins p (p ++ v) ≡ true
unfolding begins
begins-all [] v = refl
begins-all (a ∷ p) v = rw (eq-eqb a a refl) (begins-all p v)

pub begins-split : (p l : List ℕ) → begins p l ≡ true → l ≡ p ++ drop (length p) l
unfolding begins
begins-split [] l t = refl
begins-split (a ∷ p) [] t = let z : ◌≡◌ {A = ℕ} 0 1 = cc in absurd (omega arith)
begins-split (a ∷ p) (b ∷ l) t =
    let first : b ≡ a = eqb-true b a (both_left (eqb b a) (begins p l) t) in
    ap₂ (λ x y. x ∷ y) first (begins-split p l (both_right (eqb b a) (begins p l) t))

-- more bytes change nothing of it
begins-more : (p l v : List ℕ) → begins p l ≡ true → begins p (l ++ v) ≡ true
unfolding begins
begins-more [] l v t = refl
begins-more (a ∷ p) [] v t = let z : ◌≡◌ {A = ℕ} 0 1 = cc in absurd (omega arith)
begins-more (a ∷ p) (b ∷ l) v t = rw (both_left (eqb b a) (begins p l) t) (begins-more p l v (both_right (eqb b a) (begins p l) t))

separated_more : (l v : List ℕ) → separated l ≡ true → separated (l ++ v) ≡ true
unfolding separated
separated_more [] v t = let z : ◌≡◌ {A = ℕ} 0 1 = cc in absurd (omega arith)
separated_more (b ∷ l) v t = by (begins (32 ∷ 61 ∷ 32 ∷ []) (b ∷ l)) refl (separated_more l v)
  where
    tested : (s : Bool) → separated (l ++ v) ≡ true → pick s true (separated (l ++ v)) ≡ true
    tested true h = refl
    tested false h = h

    by : (s : Bool) → begins (32 ∷ 61 ∷ 32 ∷ []) (b ∷ l) ≡ s → (separated l ≡ true → separated (l ++ v) ≡ true)
        → pick (begins (32 ∷ 61 ∷ 32 ∷ []) (b ∷ (l ++ v))) true (separated (l ++ v)) ≡ true
    by true e h = rw (begins-more (32 ∷ 61 ∷ 32 ∷ []) (b ∷ l) v e)
    by false e h = tested (begins (32 ∷ 61 ∷ 32 ∷ []) (b ∷ (l ++ v))) (h (rw e at t))

separated-test : every 8 (λ k. separated (label k)) ≡ true
unfolding label separated begins
separated-test = refl

pub label-separated : (k : ℕ) → k < 8 → (v : List ℕ) → separated (label k ++ v) ≡ true
label-separated k due v = separated_more (label k) v (every-at 8 (λ k. separated (label k)) separated-test k due)
