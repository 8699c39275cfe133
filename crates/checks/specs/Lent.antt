-- What the buffers of an operation are where nothing is refused: the set is allowed, every length is the exact one, and every A and B can be made invertible.
-- Callers' proofs read these facts by their names. Rests on scheme's Refusals, refusals' Fits and streams' AbqLent.
use Rattle.std.specs.Prelude.{◌≡◌, true, List, [], ◌∷◌, ℕ, length}
use Rattle.std.proofs.Common.{◌∙◌}
use Rattle.ground.specs.Answers.{first, first-append, met-none, met-more, first-met}
use Rattle.ground.specs.First.{first-parts, first_passes}
use Rattle.ground.specs.declared.Refusal.TheVariants.{NotInvertible}
use Rattle.sets.specs.declared.Set.{Set}
use Rattle.sets.specs.Sets.{allowed_set, public_bytes, private_bytes, vinegar_bytes, target_bytes, key_bytes, signature_bytes, work_bytes, salt_bytes}
use Rattle.sets.specs.Bounds.{Bounds}
use Rattle.sets.proofs.Bounds.{bounds}
use Rattle.refusals.specs.Rules.{sign_rules, verdict_rules}
use Rattle.refusals.specs.Fits.{sign_fits, verdict-fits, verdict-met, verdict-exact}
use Rattle.scheme.specs.Maps.{all_invertible}
use Rattle.scheme.specs.Refusals.{invertible_rule, sign_refusals, verdict_refusals}
use Rattle.streams.specs.TermOf.{AbqLent}

-- of one rule
only-met : (set : Set) (abq : List ℕ) → first (invertible_rule set abq ∷ []) ≡ 0 → all_invertible set abq ≡ true
only-met set abq e = (first_passes NotInvertible (all_invertible set abq) [] e).0

-- ---- signing

pub record SignLent (set : Set) (public abq private vinegar target salt work output : List ℕ) : Type 0 where
  pub bounds : Bounds set
  pub public-long : length public ≡ public_bytes set
  pub abq-lent : AbqLent set abq
  pub private-long : length private ≡ private_bytes set
  pub vinegar-long : length vinegar ≡ vinegar_bytes set
  pub target-long : length target ≡ target_bytes set
  pub salt-long : length salt ≡ salt_bytes
  pub work-long : length work ≡ work_bytes set
  pub output-long : length output ≡ signature_bytes set

module _ (set : Set) (public abq private vinegar target salt work output : List ℕ) where
  pub sign-lent : first (sign_refusals set public abq private vinegar target salt work output) ≡ 0
      → SignLent set public abq private vinegar target salt work output
  unfolding sign_refusals sign_rules
  sign-lent e =
      let parts = first-parts (sign_rules set (length public) (length abq) (length private) (length vinegar) (length target) (length salt) (length work) (length output))
      (invertible_rule set abq ∷ []) tt e in
      let fits = sign_fits set (length public) (length abq) (length private) (length vinegar) (length target) (length salt) (length work) (length output) parts.0 in
      record {
        bounds = bounds set fits.allowed;
        public-long = fits.public;
        abq-lent = record { long = fits.abq; invertible = only-met set abq parts.1 };
        private-long = fits.private;
        vinegar-long = fits.vinegar;
        target-long = fits.target;
        salt-long = fits.salt;
        work-long = fits.work;
        output-long = fits.output;
      }

-- ---- the verdict

pub record VerdictLent (set : Set) (public abq target key signature : List ℕ) : Type 0 where
  pub allowed : allowed_set set ≡ true
  pub public-long : length public ≡ public_bytes set
  pub abq-lent : AbqLent set abq
  pub target-long : length target ≡ target_bytes set
  pub key-long : length key ≡ key_bytes set
  pub signature-long : length signature ≡ signature_bytes set

module _ (set : Set) (public abq target key signature : List ℕ) where
  pub verdict-lent : first (verdict_refusals set public abq target key signature) ≡ 0 → VerdictLent set public abq target key signature
  unfolding verdict_refusals verdict_rules
  verdict-lent e =
      let parts = first-parts (verdict_rules set (length public) (length abq) (length target) (length key) (length signature)) (invertible_rule set abq ∷ []) tt e in
      let fits = verdict-fits set (length public) (length abq) (length target) (length key) (length signature) parts.0 in
      record {
        allowed = fits.allowed;
        public-long = fits.public;
        abq-lent = record { long = fits.abq; invertible = only-met set abq parts.1 };
        target-long = fits.target;
        key-long = fits.key;
        signature-long = fits.signature;
      }

  -- and the other way round
  pub verdict-not-refused : VerdictLent set public abq target key signature → first (verdict_refusals set public abq target key signature) ≡ 0
  unfolding verdict_refusals
  verdict-not-refused f =
      let exact = verdict-exact set (length public) (length abq) (length target) (length key) (length signature) (record {
        allowed = f.allowed;
        public = f.public-long;
        abq = f.abq-lent.long;
        target = f.target-long;
        key = f.key-long;
        signature = f.signature-long;
      }) in
      first-append (invertible_rule set abq ∷ []) (verdict-met set _ _ _ _ _ exact) ∙ first-met (met-more f.abq-lent.invertible met-none)
