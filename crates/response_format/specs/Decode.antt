-- Laws of decoding a whole hexadecimal value, place by place: what the code that decodes rests on.
-- Rests on Lent, and on Fill of the crate ground.
use Rattle.std.specs.Prelude.{◌≡◌, refl, true, false, List, [], ◌∷◌, ℕ, zero, suc, ◌+◌, ◌*◌, ◌/◌, ◌%◌, ◌<◌, ◌≤◌, eqb, ltb, length, get_or, drop}
use Rattle.std.proofs.Common.{sym, ap, ap₂, ◌∙◌, not-suc-le-zero, arith, drop-cons, add-one, ltb-true, eqb-true, lt-ltb, le-ltb}
use Rattle.ground.specs.Pick.{both, both_left, both_right}
use Rattle.ground.specs.Answers.{first}
use Rattle.ground.specs.First.{first_passes}
use Rattle.ground.specs.declared.Refusal.TheVariants.{NotADigit, OddDigits, OutputLength}
use Rattle.ground.specs.Fill.{tab, tab-ext}
use Rattle.response_format.specs.Fields.{digit_of}
use Rattle.response_format.specs.Rules.{all_digits, paired}
use Rattle.response_format.specs.Tells.{decoded}
use Rattle.response_format.specs.Lent.{decode_rules}

pub paired-even : (v : List ℕ) → paired v ≡ eqb (length v % 2) 0
unfolding paired
paired-even [] = refl
paired-even (a ∷ []) = refl
paired-even (a ∷ b ∷ v) = let same : length v % 2 ≡ suc (suc (length v)) % 2 = omega arith in paired-even v ∙ ap (λ x. eqb x 0) same

pub digit_at : (n : ℕ) (s : List ℕ) (i : ℕ) → all_digits n s ≡ true → i < length s → digit_of (get_or s i 0) < n
unfolding all_digits
digit_at n [] i t h = absurd (not-suc-le-zero h)
digit_at n (b ∷ s) zero t h = ltb-true _ _ (both_left (ltb (digit_of b) n) (all_digits n s) t)
digit_at n (b ∷ s) (suc i) t h = digit_at n s i (both_right (ltb (digit_of b) n) (all_digits n s) t) (omega arith)

pub digits-next : (s : List ℕ) (i : ℕ) → i < length s → digit_of (get_or s i 0) < 16 → all_digits 16 (drop i s) ≡ all_digits 16 (drop (i + 1) s)
unfolding all_digits
digits-next s i h d = rw (drop-cons s i 0 h, lt-ltb _ _ d, add-one i)

pub digits-stop : (s : List ℕ) (i : ℕ) → i < length s → 16 ≤ digit_of (get_or s i 0) → all_digits 16 (drop i s) ≡ false
unfolding all_digits
digits-stop s i h d = rw (drop-cons s i 0 h, le-ltb _ _ d)

abbrev pub pair_at : List ℕ → ℕ → ℕ
pair_at s i = digit_of (get_or s (i * 2) 0) % 16 * 16 + digit_of (get_or s (i * 2 + 1) 0) % 16

-- a pair of digits, and those after it
pair-first : (a b : ℕ) (v : List ℕ) → all_digits 16 (a ∷ b ∷ v) ≡ true → decoded (a ∷ b ∷ v) ≡ (digit_of a * 16 + digit_of b) ∷ decoded v
unfolding decoded all_digits
pair-first a b v t =
    let q = both_right (ltb (digit_of a) 16) (both (ltb (digit_of b) 16) (all_digits 16 v)) t in
    rw (both_left (ltb (digit_of a) 16) (both (ltb (digit_of b) 16) (all_digits 16 v)) t, both_left (ltb (digit_of b) 16) (all_digits 16 v) q)

pair-rest : (a b : ℕ) (v : List ℕ) → all_digits 16 (a ∷ b ∷ v) ≡ true → all_digits 16 v ≡ true
unfolding all_digits
pair-rest a b v t = both_right (ltb (digit_of b) 16) (all_digits 16 v) (both_right (ltb (digit_of a) 16) (both (ltb (digit_of b) 16) (all_digits 16 v)) t)

decoded-length : (s : List ℕ) (n : ℕ) → length s ≡ n * 2 → all_digits 16 s ≡ true → length (decoded s) ≡ n
unfolding decoded
decoded-length [] n e t = omega arith
decoded-length (a ∷ []) n e t = absurd (omega arith)
decoded-length (a ∷ b ∷ s) zero e t = absurd (omega arith)
decoded-length (a ∷ b ∷ s) (suc n) e t = ap length (pair-first a b s t) ∙ ap suc (decoded-length s n (omega arith) (pair-rest a b s t))

decoded-at : (s : List ℕ) (n i : ℕ) → length s ≡ n * 2 → i < n → all_digits 16 s ≡ true → get_or (decoded s) i 0 ≡ pair_at s i
decoded-at [] n i e h t = absurd (omega arith)
decoded-at (a ∷ []) n i e h t = absurd (omega arith)
decoded-at (a ∷ b ∷ s) n zero e h t =
    let p : digit_of a < 16 = digit_at 16 (a ∷ b ∷ s) 0 t (omega arith) in
    let q : digit_of b < 16 = digit_at 16 (a ∷ b ∷ s) 1 t (omega arith) in
    let same : digit_of a * 16 + digit_of b ≡ digit_of a % 16 * 16 + digit_of b % 16 = omega arith in
    ap (λ x. get_or x 0 0) (pair-first a b s t) ∙ same
decoded-at (a ∷ b ∷ s) zero (suc i) e h t = absurd (not-suc-le-zero h)
decoded-at (a ∷ b ∷ s) (suc n) (suc i) e h t =
    let two : suc i * 2 ≡ suc (suc (i * 2)) = omega arith in
    let three : suc i * 2 + 1 ≡ suc (suc (i * 2 + 1)) = omega arith in
    ap (λ x. get_or x (suc i) 0) (pair-first a b s t)
    ∙ decoded-at s n i (omega arith) (omega arith) (pair-rest a b s t)
    ∙ sym (ap₂ (λ x y. digit_of (get_or (a ∷ b ∷ s) x 0) % 16 * 16 + digit_of (get_or (a ∷ b ∷ s) y 0) % 16) two three)

pub decoded-tab : (s : List ℕ) (n : ℕ) → length s ≡ n * 2 → all_digits 16 s ≡ true → decoded s ≡ tab n (pair_at s)
decoded-tab s n e t = tab-ext (decoded s) n (pair_at s) (decoded-length s n e t) (λ i h. decoded-at s n i e h t)

pub record Allowed (digits out : List ℕ) : Type 0 where
  pub all : all_digits 16 digits ≡ true
  pub fits : length digits ≡ length out * 2

pub decode-allowed : (digits out : List ℕ) → first (decode_rules digits out) ≡ 0 → Allowed digits out
unfolding decode_rules
decode-allowed digits out z =
    let (a, p) = first_passes NotADigit (all_digits 16 digits) _ z in
    let (b, q) = first_passes OddDigits (paired digits) _ p in
    let (c, r) = first_passes OutputLength (eqb (length out) (length digits / 2)) _ q in
    let even : length digits % 2 ≡ 0 = eqb-true _ _ (sym (paired-even digits) ∙ b) in
    let half : length out ≡ length digits / 2 = eqb-true _ _ c in
    record { all = a; fits = omega arith }
