-- Lanes stay below 2 ^ 64: through each of the five steps, a round, any number of rounds and the whole permutation.
-- Rests on Keccak and the kit's laws of bits.
use Rattle.std.specs.Prelude.{◌≡◌, List, ℕ, zero, suc, ◌+◌, ◌-◌, ◌*◌, ◌/◌, ◌%◌, ◌^◌, ◌<◌, ◌≤◌, get_or, set, length}
use Rattle.std.proofs.Common.{sym, subst, ◌∙◌, mod-lt, lt_of_le_of_lt, arith, lit<, length-set, get_or-set_same, get_or-set_other}
use Rattle.std.proofs.Math.Decide.{dec_lt, ℕ_discrete}
use Rattle.std.proofs.lemmas.Nat.{xor_lt, or_lt, shr_le}
use Rattle.std.specs.Int.Bits.{and_lt}
use Rattle.std.proofs.Math.Pow.{ones_sub-lt}
use Rattle.std.proofs.Math.ListN.{get_or-eq_default}
use Rattle.ground.specs.Fill.{tab, length-tab, get_or-tab}
use Rattle.keccak.specs.Keccak.{xor, and, not, rotl, lane, state, column, theta, offsets, rho, pi, chi, iota, register, rc, constant_bits, round_constant, keccak_round, rounds, keccak_f}

-- every lane fits a word
pub record Words (a : List ℕ) : Type 0 where
  pub word : (k : ℕ) → get_or a k 0 < 2 ^ 64

pub column-lt : (a : List ℕ) → Words a → (x : ℕ) → column a x < 2 ^ 64
unfolding column lane xor
column-lt a w x =
    xor_lt 64 _ _ (xor_lt 64 _ _ (xor_lt 64 _ _ (xor_lt 64 _ _ (w.word _) (w.word _)) (w.word _)) (w.word _)) (w.word _)

pub lane-lt : (a : List ℕ) → Words a → (x y : ℕ) → lane a x y < 2 ^ 64
unfolding lane
lane-lt a w x y = w.word _

-- ---- the steps

words-state : (f : ℕ → ℕ → ℕ) → ((x y : ℕ) → f x y < 2 ^ 64) → Words (state f)
unfolding state
words-state f h =
    record {
      word = λ k.
          elim (dec_lt k 25) [
            | yes l ↦ let is : get_or (tab 25 (λ k. f (k % 5) (k / 5))) k 0 ≡ f (k % 5) (k / 5) = get_or-tab 25 _ k l in rw is (h (k % 5) (k / 5))
            | no l ↦
                let long : length (tab 25 (λ k. f (k % 5) (k / 5))) ≤ k = omega (arith, length-tab 25 (λ k. f (k % 5) (k / 5))) in
                let past : get_or (tab 25 (λ k. f (k % 5) (k / 5))) k 0 ≡ 0 = get_or-eq_default (tab 25 (λ k. f (k % 5) (k / 5))) 0 long in
                rw past (lit< tt)
          ];
    }

rotl-lt : (a k : ℕ) → a < 2 ^ 64 → rotl a k < 2 ^ 64
unfolding rotl
rotl-lt a zero h = h
rotl-lt a (suc k) h = or_lt 64 _ _ (mod-lt (a * 2 ^ suc k) (lit< tt)) (lt_of_le_of_lt (shr_le a (63 - k)) h)

pub words-theta : {a : List ℕ} → Words a → Words (theta a)
unfolding theta xor
words-theta {a} w =
    words-state _ (λ x y. xor_lt 64 _ _ (lane-lt a w x y) (xor_lt 64 _ _ (column-lt a w (x + 4)) (rotl-lt (column a (x + 1)) 1 (column-lt a w (x + 1)))))

pub words-rho : {a : List ℕ} → Words a → Words (rho a)
unfolding rho
words-rho {a} w = words-state _ (λ x y. rotl-lt (lane a x y) (lane offsets x y) (lane-lt a w x y))

pub words-pi : {a : List ℕ} → Words a → Words (pi a)
unfolding pi
words-pi {a} w = words-state _ (λ x y. lane-lt a w (x + 3 * y) x)

pub words-chi : {a : List ℕ} → Words a → Words (chi a)
unfolding chi xor and not
words-chi {a} w = words-state _ (λ x y. xor_lt 64 _ _ (lane-lt a w x y) (and_lt 64 _ _ (ones_sub-lt 64 (lane a (x + 1) y)) (lane-lt a w (x + 2) y)))

-- rc is a bit
pub rc-lt : (t : ℕ) → rc t < 2
unfolding rc
rc-lt t = mod-lt (register (t % 255)) (lit< tt)

pub round-constant-lt : (i : ℕ) → round_constant i < 2 ^ 64
unfolding round_constant constant_bits
round-constant-lt i =
    omega (arith, rc-lt (0 + 7 * i), rc-lt (1 + 7 * i), rc-lt (2 + 7 * i), rc-lt (3 + 7 * i), rc-lt (4 + 7 * i), rc-lt (5 + 7 * i), rc-lt (6 + 7 * i))

pub words-set : {a : List ℕ} → Words a → (p x : ℕ) → x < 2 ^ 64 → Words (set a p x)
words-set {a} w p x h = record { word = λ k. elim (ℕ_discrete k p) [ yes e ↦ subst (λ q. get_or (set a p x) q 0 < 2 ^ 64) (sym e) here | no e ↦ rw (get_or-set_other a p k x 0 e) (w.word k) ] }
  where
    here : get_or (set a p x) p 0 < 2 ^ 64
    here =
        elim (dec_lt p (length a)) [
          | yes l ↦ rw (get_or-set_same a p x 0 l) h
          | no l ↦
              let past : get_or (set a p x) p 0 ≡ 0 = get_or-eq_default (set a p x) 0 (omega (arith, length-set a p x)) in
              rw past (lit< tt)
        ]

pub words-iota : {a : List ℕ} → Words a → (c : ℕ) → c < 2 ^ 64 → Words (iota c a)
unfolding iota xor
words-iota {a} w c h = words-set w 0 _ (xor_lt 64 _ _ (lane-lt a w 0 0) h)

-- ---- rounds

pub words-round : {a : List ℕ} → Words a → (i : ℕ) → Words (keccak_round i a)
unfolding keccak_round
words-round w i = words-iota (words-chi (words-pi (words-rho (words-theta w)))) (round_constant i) (round-constant-lt i)

pub words-rounds : {a : List ℕ} → Words a → (n : ℕ) → Words (rounds n a)
unfolding rounds
words-rounds w zero = w
words-rounds w (suc n) = words-round (words-rounds w n) n

-- the whole permutation
pub words-keccak_f : {a : List ℕ} → Words a → Words (keccak_f a)
unfolding keccak_f
words-keccak_f w = words-rounds w 24

-- ---- and there are 25 of them

pub length-state : (f : ℕ → ℕ → ℕ) → length (state f) ≡ 25
unfolding state
length-state f = length-tab 25 (λ k. f (k % 5) (k / 5))

length-iota : (c : ℕ) (a : List ℕ) → length (iota c a) ≡ length a
unfolding iota
length-iota c a = length-set a 0 (xor (lane a 0 0) c)

length-chi : (a : List ℕ) → length (chi a) ≡ 25
unfolding chi
length-chi a = length-state (λ x y. xor (lane a x y) (and (not (lane a (x + 1) y)) (lane a (x + 2) y)))

length-round : (i : ℕ) (a : List ℕ) → length (keccak_round i a) ≡ 25
unfolding keccak_round
length-round i a = length-iota (round_constant i) (chi (pi (rho (theta a)))) ∙ length-chi (pi (rho (theta a)))

pub length-keccak_f : (a : List ℕ) → length (keccak_f a) ≡ 25
unfolding keccak_f rounds
length-keccak_f a = length-round 23 (rounds 23 a)
