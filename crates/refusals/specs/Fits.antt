-- Where nothing is refused the set is allowed and every length is the exact one, for each operation; for the verdict also the other way round.
-- Rests on Rules and on ground's Lowest. The lengths lent are p public, a ABQ, t private, x vinegar, y target, h salt, w work area, k key, g signature, r output.
use Rattle.std.specs.Prelude.{◌≡◌, true, ℕ}
use borrow.Author.Tests.{eqb-true, eq-eqb}
use Rattle.ground.specs.Answers.{first, Met, met-none, met-more, first-met}
use Rattle.sets.specs.declared.Set.{Set}
use Rattle.sets.specs.Sets.{
  allowed_set,
  public_bytes,
  abq_bytes,
  private_bytes,
  vinegar_bytes,
  target_bytes,
  key_bytes,
  signature_bytes,
  work_bytes,
  salt_bytes,
}
use Rattle.ground.specs.First.{met-of-first}
use Rattle.refusals.specs.Rules.{keygen_rules, sign_rules, verdict_rules, salt_rules}

-- key generation

pub record KeygenFits (s : Set) (p t r : ℕ) : Type 0 where
  pub allowed : allowed_set s ≡ true
  pub public : p ≡ public_bytes s
  pub private : t ≡ private_bytes s
  pub output : r ≡ key_bytes s

module _ (s : Set) (p t r : ℕ) where
  keygen-met : first (keygen_rules s p t r) ≡ 0 → Met (keygen_rules s p t r)
  unfolding keygen_rules
  keygen-met = met-of-first 0 (keygen_rules s p t r) tt

  pub keygen-fits : first (keygen_rules s p t r) ≡ 0 → KeygenFits s p t r
  unfolding keygen_rules
  keygen-fits e = by (keygen-met e)
    where
      by : Met (keygen_rules s p t r) → KeygenFits s p t r
      by (met-more s-is (met-more p-is (met-more t-is (met-more r-is met-none)))) =
          record { allowed = s-is; public = eqb-true _ _ p-is; private = eqb-true _ _ t-is; output = eqb-true _ _ r-is }

-- signing

pub record SignFits (s : Set) (p a t x y h w r : ℕ) : Type 0 where
  pub allowed : allowed_set s ≡ true
  pub public : p ≡ public_bytes s
  pub abq : a ≡ abq_bytes s
  pub private : t ≡ private_bytes s
  pub vinegar : x ≡ vinegar_bytes s
  pub target : y ≡ target_bytes s
  pub salt : h ≡ salt_bytes
  pub work : w ≡ work_bytes s
  pub output : r ≡ signature_bytes s

module _ (s : Set) (p a t x y h w r : ℕ) where
  pub sign-met : first (sign_rules s p a t x y h w r) ≡ 0 → Met (sign_rules s p a t x y h w r)
  unfolding sign_rules
  sign-met = met-of-first 0 (sign_rules s p a t x y h w r) tt

  pub sign_fits : first (sign_rules s p a t x y h w r) ≡ 0 → SignFits s p a t x y h w r
  unfolding sign_rules
  sign_fits e = by (sign-met e)
    where
      by : Met (sign_rules s p a t x y h w r) → SignFits s p a t x y h w r
      by (met-more s-is (met-more p-is (met-more a-is (met-more t-is (met-more x-is (met-more y-is (met-more h-is (met-more w-is (met-more r-is met-none))))))))) =
          record {
            allowed = s-is;
            public = eqb-true _ _ p-is;
            abq = eqb-true _ _ a-is;
            private = eqb-true _ _ t-is;
            vinegar = eqb-true _ _ x-is;
            target = eqb-true _ _ y-is;
            salt = eqb-true _ _ h-is;
            work = eqb-true _ _ w-is;
            output = eqb-true _ _ r-is;
          }

-- the verdict

pub record VerdictFits (s : Set) (p a y k g : ℕ) : Type 0 where
  pub allowed : allowed_set s ≡ true
  pub public : p ≡ public_bytes s
  pub abq : a ≡ abq_bytes s
  pub target : y ≡ target_bytes s
  pub key : k ≡ key_bytes s
  pub signature : g ≡ signature_bytes s

module _ (s : Set) (p a y k g : ℕ) where
  pub verdict-met : first (verdict_rules s p a y k g) ≡ 0 → Met (verdict_rules s p a y k g)
  unfolding verdict_rules
  verdict-met = met-of-first 0 (verdict_rules s p a y k g) tt

  pub verdict-fits : first (verdict_rules s p a y k g) ≡ 0 → VerdictFits s p a y k g
  unfolding verdict_rules
  verdict-fits e = by (verdict-met e)
    where
      by : Met (verdict_rules s p a y k g) → VerdictFits s p a y k g
      by (met-more s-is (met-more p-is (met-more a-is (met-more y-is (met-more k-is (met-more g-is met-none)))))) =
          record {
            allowed = s-is;
            public = eqb-true _ _ p-is;
            abq = eqb-true _ _ a-is;
            target = eqb-true _ _ y-is;
            key = eqb-true _ _ k-is;
            signature = eqb-true _ _ g-is;
          }

  pub verdict-exact : VerdictFits s p a y k g → first (verdict_rules s p a y k g) ≡ 0
  unfolding verdict_rules
  verdict-exact f =
      first-met
      (met-more f.allowed
      (met-more (eq-eqb _ _ f.public)
      (met-more (eq-eqb _ _ f.abq)
      (met-more (eq-eqb _ _ f.target)
      (met-more (eq-eqb _ _ f.key)
      (met-more (eq-eqb _ _ f.signature) met-none))))))

-- the salt

pub record SaltFits (s : Set) (g : ℕ) : Type 0 where
  pub allowed : allowed_set s ≡ true
  pub signature : g ≡ signature_bytes s

module _ (s : Set) (g : ℕ) where
  salt-met : first (salt_rules s g) ≡ 0 → Met (salt_rules s g)
  unfolding salt_rules
  salt-met = met-of-first 0 (salt_rules s g) tt

  pub salt-fits : first (salt_rules s g) ≡ 0 → SaltFits s g
  unfolding salt_rules
  salt-fits e = by (salt-met e)
    where
      by : Met (salt_rules s g) → SaltFits s g
      by (met-more s-is (met-more g-is met-none)) = record { allowed = s-is; signature = eqb-true _ _ g-is }
