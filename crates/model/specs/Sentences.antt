-- The user's three sentences, as theorems of what the public functions promise: Generates, Signs, Verifies, SaltStatus, Packs, Unpacks, and the three of matrix.
-- A call's answer is r; a name with a dash is the buffer after the call. Rests on Answered and Accepted, which prove them.
use Rattle.std.specs.Prelude.{◌≡◌, Result, Ok, refl, ◌↔◌, ◌⊎◌, List, [], ◌∷◌, ◌++◌, ℕ, ◌-◌, ◌<◌, ◌≤◌, length}
use Rattle.std.proofs.Common.{sym, ap, ap₂, subst, ◌∙◌, mod-eq_of_lt, arith}
use Rattle.std.proofs.Math.Decide.{ℕ_discrete}
use Rattle.std.specs.Int.Bits.{bit_xor}
use Rattle.ground.specs.Answers.{Answer, Gives, Met, first, number_of}
use Rattle.ground.specs.declared.Refusal.{Refusal}
use Rattle.ground.specs.First.{First, none-exactly}
use Rattle.ground.specs.Applies.{Lowest, lowest-exactly}
use Rattle.ground.specs.Fill.{tab}
use Rattle.field.specs.Field.{add, mul, inverse, power}
use Rattle.field.specs.Laws.{mul-inverse, inverse-zero}
use Rattle.field.specs.Checked.{powers-of-2}
use Rattle.packing.specs.Packing.{packed, unpacked, pack_rules, unpack_rules, Packs, Unpacks}
use Rattle.packing.proofs.RoundTrip.{pack-then-unpack}
use Rattle.sets.specs.declared.Set.{Set}
use Rattle.sets.specs.Sets.{variables}
use Rattle.refusals.specs.Rules.{keygen_rules, sign_rules, verdict_rules, salt_rules}
use Rattle.matrix.specs.Matrix.{Matrix}
use Rattle.matrix.specs.Same.{Same, same-trans, same-equal}
use Rattle.matrix.specs.RingElements.{S, algorithm1}
use Rattle.matrix.specs.Determinant.{det}
use Rattle.matrix.specs.Invertible.{algorithm2}
use Rattle.matrix.specs.Block.{view, block}
use Rattle.matrix.specs.Limits.{coefficient_rules, matrix_rules, invertible_rules}
use Rattle.matrix.specs.Promises.{coefficients, Makes, RingElement, MadeInvertible, DeterminantOf}
use Rattle.scheme.specs.Streams.{P22, target_of, vinegar_of, signature_of}
use Rattle.scheme.specs.Maps.{key_p22, key_of, public_map, central_map, private_change}
use Rattle.scheme.proofs.Composition.{private-change-own-inverse}
use Rattle.scheme.proofs.Entries.{private_change-same}
use Rattle.scheme.proofs.KeyLaws.{key-composition, key_of-holds}
use Rattle.scheme.specs.Oil.{Redo, joined, joined-vinegar}
use Rattle.scheme.specs.Refusals.{keygen_refusals, verdict_refusals}
use Rattle.scheme.proofs.Verdict.{accepted-exactly}
use Rattle.scheme.specs.Verdict.{accepted as accepted_test}
use Rattle.rows.specs.Zero.{zeros}
use Rattle.keys.specs.Generates.{Generates}
use Rattle.verdict.specs.declared.Verdict.{Verdict}
use Rattle.verdict.specs.declared.Verdict.TheVariants as Verdicts
use Rattle.verdict.specs.Promise.{number_of as verdict_number}
use Rattle.signing.specs.declared.Signing.{Signing}
use Rattle.signing.specs.declared.Signing.TheVariants as Signings
use Rattle.scheme.specs.Refusals.{sign_refusals}
use Rattle.signing.specs.Signs.{Emitted, signature_with, Signs}
use Rattle.signing.specs.Signs.{number_of as sign_number}
use Rattle.signing.specs.Unique.{redo-exactly}
use Rattle.verdict.specs.Promise.{Verifies}
use Rattle.salt.specs.Salt.{salt_refusal, salt_of, SaltStatus, salt-empty}
use Rattle.model.specs.Answered.{Answered, writes-answered, status-answered, verdict-answered, sign-answered, sign-wiped, sign_kept, sign-done, sign-redo}
use Rattle.model.specs.Accepted.{answer-zero, written-zero, verdict-zero, emitted-verdict}

-- 1. Every call is answered by one of the page's numbers. A refusal is given exactly where it is the first in the operation's order that applies, and leaves every
-- buffer as it was: `Answered` says so. After 0 and 2 of signing the work area is all zero, and 2 leaves the output as it was. 0 leaves the whole output written.
pub record Sentence1 : Type 0 where
  pub generate : (set : Set) (public private key : List ℕ) (r : Answer) (key' : List ℕ) → Generates set public private key r key'
      → Answered (0 ∷ 10 ∷ 11 ∷ 13 ∷ 20 ∷ []) (keygen_refusals set public private key) (number_of r) (key ∷ []) (key' ∷ [])
  pub sign : (set : Set) (public abq private vinegar target salt work output : List ℕ) (r : Result Signing Refusal) (work' output' : List ℕ)
      → Signs set public abq private vinegar target salt work output r work' output'
      → Answered (0 ∷ 2 ∷ 10 ∷ 11 ∷ 12 ∷ 13 ∷ 14 ∷ 15 ∷ 17 ∷ 19 ∷ 20 ∷ 21 ∷ []) (sign_refusals set public abq private vinegar target salt work output)
      (sign_number r) (work ∷ output ∷ []) (work' ∷ output' ∷ [])
  pub wiped : (set : Set) (public abq private vinegar target salt work output : List ℕ) (r : Result Signing Refusal) (work' output' : List ℕ)
      → Signs set public abq private vinegar target salt work output r work' output' → (sign_number r ≡ 0) ⊎ (sign_number r ≡ 2)
      → work' ≡ zeros (length work)
  pub redo-kept : (set : Set) (public abq private vinegar target salt work output : List ℕ) (r : Result Signing Refusal) (work' output' : List ℕ)
      → Signs set public abq private vinegar target salt work output r work' output' → sign_number r ≡ 2 → output' ≡ output
  pub verify : (set : Set) (public abq target key signature : List ℕ) (r : Result Verdict Refusal) → Verifies set public abq target key signature r
      → Answered (0 ∷ 1 ∷ 10 ∷ 11 ∷ 12 ∷ 15 ∷ 16 ∷ 18 ∷ 21 ∷ []) (verdict_refusals set public abq target key signature) (verdict_number r) [] []
  pub salt-status : (set : Set) (signature : List ℕ) (r : Answer) → SaltStatus set signature r
      → Answered (0 ∷ 10 ∷ 18 ∷ []) (salt_rules set (length signature)) (number_of r) [] []
  -- the part handed back as the salt is empty where set or length is refused
  pub salt-part : (set : Set) (signature : List ℕ) (r : Answer) → SaltStatus set signature r → 10 ≤ number_of r → salt_of set signature ≡ []
  -- the helpers of matrix: a size outside the limits, an entry above 15, a matrix that cannot be made invertible
  pub ring-element : (l : ℕ) (a : List ℕ) (r : Result (List ℕ) Refusal) → RingElement l a r
      → Answered (0 ∷ 10 ∷ 23 ∷ []) (coefficient_rules l (coefficients a)) (number_of r) [] []
  pub make-invertible : (l : ℕ) (m : List ℕ) (r : Result (List ℕ) Refusal) → MadeInvertible l m r
      → Answered (0 ∷ 10 ∷ 23 ∷ 21 ∷ []) (invertible_rules l (view m)) (number_of r) [] []
  pub determinant : (l : ℕ) (m : List ℕ) (r : Result ℕ Refusal) → DeterminantOf l m r → Answered (0 ∷ 10 ∷ 23 ∷ []) (matrix_rules l (view m)) (number_of r) [] []
  pub pack : (elements bytes : List ℕ) (r : Answer) (bytes' : List ℕ) → Packs elements bytes r bytes'
      → Answered (0 ∷ 22 ∷ 23 ∷ []) (pack_rules elements bytes) (number_of r) (bytes ∷ []) (bytes' ∷ [])
  pub unpack : (bytes elements : List ℕ) (r : Answer) (elements' : List ℕ) → Unpacks bytes elements r elements'
      → Answered (0 ∷ 22 ∷ []) (unpack_rules bytes elements) (number_of r) (elements ∷ []) (elements' ∷ [])
  -- 0 leaves the whole output written
  pub key-written : (set : Set) (public private key : List ℕ) (r : Answer) (key' : List ℕ) → Generates set public private key r key' → number_of r ≡ 0
      → key' ≡ key_of set public private
  pub signature-written : (set : Set) (public abq private vinegar target salt work output : List ℕ) (r : Result Signing Refusal) (work' output' : List ℕ)
      → Signs set public abq private vinegar target salt work output r work' output' → sign_number r ≡ 0 → Emitted set public abq private vinegar target salt output'
  pub pack-written : (elements bytes : List ℕ) (r : Answer) (bytes' : List ℕ) → Packs elements bytes r bytes' → number_of r ≡ 0 → bytes' ≡ packed elements
  pub unpack-written : (bytes elements : List ℕ) (r : Answer) (elements' : List ℕ) → Unpacks bytes elements r elements' → number_of r ≡ 0
      → elements' ≡ unpacked (length elements) bytes

-- every entry of every equation of the public map equals the target's element
pub record EveryEntryEqual (set : Set) (public abq target key signature : List ℕ) : Type 0 where
  pub equal : (i r c : ℕ) → i < set.o → r < set.l → c < set.l
      → public_map set public abq key (signature_of set signature) i r c ≡ target_of set target i r c

-- In page 01's operations the numbers rise, so the first refusal that applies is the lowest: "The lowest number that applies is given".
pub record LowestGiven : Type 0 where
  pub generate : (set : Set) (public private key : List ℕ) (k : ℕ) → First k (keygen_refusals set public private key) ↔ Lowest k (keygen_refusals set public private key)
  pub sign : (set : Set) (public abq private vinegar target salt work output : List ℕ) (k : ℕ)
      → First k (sign_refusals set public abq private vinegar target salt work output) ↔ Lowest k (sign_refusals set public abq private vinegar target salt work output)
  pub verify : (set : Set) (public abq target key signature : List ℕ) (k : ℕ)
      → First k (verdict_refusals set public abq target key signature) ↔ Lowest k (verdict_refusals set public abq target key signature)
  pub salt-status : (set : Set) (n k : ℕ) → First k (salt_rules set n) ↔ Lowest k (salt_rules set n)
  pub pack : (elements bytes : List ℕ) (k : ℕ) → First k (pack_rules elements bytes) ↔ Lowest k (pack_rules elements bytes)
  pub unpack : (bytes elements : List ℕ) (k : ℕ) → First k (unpack_rules bytes elements) ↔ Lowest k (unpack_rules bytes elements)

-- What a signature holds: some X whose first v matrices are the vinegar and at which the central map equals the target, the U whose image is X, then the salt.
pub record SignatureHolds (set : Set) (public abq private vinegar target salt signature : List ℕ) : Type 0 where
  pub X : ℕ → Matrix
  pub first-v : (j : ℕ) → j < set.v → X j ≡ vinegar_of set vinegar j
  pub equal : (i r c : ℕ) → i < set.o → r < set.l → c < set.l → central_map set public abq private X i r c ≡ target_of set target i r c
  pub image : (j : ℕ) → j < variables set → Same set.l (private_change set private (signature_of set signature) j) (X j)
  pub elements : List ℕ
  pub bytes : signature ≡ packed elements ++ salt

-- 2. Field and matrices are those of the document. The key that is written with 0 holds P22 = T12ᵗ·F12 + P21·T12. The verdict is 0 exactly where nothing is refused and
-- every entry of every equation equals the target. What was packed is unpacked to the same elements.
pub record Sentence2 : Type 0 where
  -- GF(16): sums are exclusive or, the powers of 2 are the page's, an inverse is one; the inverse of 0 is 0
  pub field-sum : (a b : ℕ) → add a b ≡ bit_xor a b
  pub field-powers : tab 15 (power 2) ≡ 1 ∷ 2 ∷ 4 ∷ 8 ∷ 3 ∷ 6 ∷ 12 ∷ 11 ∷ 5 ∷ 10 ∷ 7 ∷ 14 ∷ 15 ∷ 13 ∷ 9 ∷ []
  pub field-inverse : (a : ℕ) → a < 16 → (a ≡ 0 → ⊥) → mul a (inverse a) ≡ 1
  pub field-zero : inverse 0 ≡ 0
  -- S, Algorithm 1, the determinant and Algorithm 2, as the three functions give them with 0
  pub S-is : (l r c : ℕ) → r < l → c < l → S l r c ≡ 8 - r - c
  pub ring-element : (l : ℕ) (a : List ℕ) (r : Result (List ℕ) Refusal) → RingElement l a r → number_of r ≡ 0 → r ≡ Ok (block l (algorithm1 l (coefficients a)))
  pub determinant : (l : ℕ) (m : List ℕ) (r : Result ℕ Refusal) → DeterminantOf l m r → number_of r ≡ 0 → r ≡ Ok (det l (view m))
  pub made-invertible : (l : ℕ) (m : List ℕ) (r : Result (List ℕ) Refusal) → MadeInvertible l m r → number_of r ≡ 0 → r ≡ Ok (block l (algorithm2 l (view m)))
  -- the key's bytes, and each of its entries
  pub key-bytes : (set : Set) (public private key : List ℕ) (r : Answer) (key' : List ℕ) → Generates set public private key r key' → number_of r ≡ 0
      → key' ≡ key_of set public private
  -- signing
  pub signed : (set : Set) (public abq private vinegar target salt work output : List ℕ) (r : Result Signing Refusal) (work' output' : List ℕ)
      → Signs set public abq private vinegar target salt work output r work' output' → sign_number r ≡ 0
      → SignatureHolds set public abq private vinegar target salt output'
  pub key : (set : Set) (public private key : List ℕ) (r : Answer) (key' : List ℕ) → Generates set public private key r key' → number_of r ≡ 0
      → (i j k : ℕ) → i < set.o → j < set.o → k < set.o → Same set.l (P22 set key' i j k) (key_p22 set public private i j k)
  pub accepted : (set : Set) (public abq target key signature : List ℕ) (r : Result Verdict Refusal) → Verifies set public abq target key signature r
      → (verdict_number r ≡ 0) ↔ (Met (verdict_refusals set public abq target key signature) × EveryEntryEqual set public abq target key signature)
  pub unpacked : (elements bytes : List ℕ) (r : Answer) (bytes' : List ℕ) → Packs elements bytes r bytes' → number_of r ≡ 0
      → (room : List ℕ) (r' : Answer) (room' : List ℕ) → Unpacks bytes' room r' room' → length room ≡ length elements → (number_of r' ≡ 0) × (room' ≡ elements)

-- 3. For every list U of matrices the public map of the generated key at U is the central map at the private change of U. What signing emits with 0 is accepted by
-- the verdict, given the generated key, the same streams and the same target. Where nothing is refused, signing answers 2 exactly when some oil choice, not all
-- zero, is sent to zero by the linear part.
pub record Sentence3 : Type 0 where
  pub composition : (set : Set) (public private key : List ℕ) (r : Answer) (key' : List ℕ) → Generates set public private key r key' → number_of r ≡ 0
      → (abq : List ℕ) (U : ℕ → Matrix) (i : ℕ) → i < set.o
      → Same set.l (public_map set public abq key' U i) (central_map set public abq private (private_change set private U) i)
  pub accepted : (set : Set) (public abq private vinegar target salt work key output work' key' signature : List ℕ) (r : Result Verdict Refusal)
      → Generates set public private key (Ok tt) key' → Signs set public abq private vinegar target salt work output (Ok Signings.Done) work' signature
      → Verifies set public abq target key' signature r → r ≡ Ok Verdicts.Accepted
  pub redo : (set : Set) (public abq private vinegar target salt work output : List ℕ) (r : Result Signing Refusal) (work' output' : List ℕ)
      → Signs set public abq private vinegar target salt work output r work' output'
      → Met (sign_refusals set public abq private vinegar target salt work output)
      → (sign_number r ≡ 2) ↔ Redo set public abq private (vinegar_of set vinegar)

-- ---- and they hold

pub sentence-1 : Sentence1
unfolding keygen_refusals keygen_rules sign_refusals sign_rules verdict_refusals verdict_rules salt_refusal salt_rules pack_rules unpack_rules
sentence-1 = record {
  generate = λ set public private key r key' g. writes-answered (keygen_refusals set public private key) tt g;
  sign = λ set public abq private vinegar target salt work output r work' output' s. sign-answered s tt;
  wiped = λ set public abq private vinegar target salt work output r work' output' s w. sign-wiped s tt w;
  redo-kept = λ set public abq private vinegar target salt work output r work' output' s e. sign_kept s tt e;
  verify = λ set public abq target key signature r v.
      verdict-answered (verdict_refusals set public abq target key signature) tt (accepted_test set public abq key signature target) v;
  salt-status = λ set signature r e. status-answered (salt_rules set (length signature)) tt e;
  salt-part = λ set signature r e high.
      salt-empty set signature (λ z. omega (arith, e, z, high));
  ring-element = λ l a r m. status-answered (coefficient_rules l (coefficients a)) tt m.number;
  make-invertible = λ l a r m. status-answered (invertible_rules l (view a)) tt m.number;
  determinant = λ l m r d. status-answered (matrix_rules l (view m)) tt d.number;
  pack = λ elements bytes r bytes' p. writes-answered (pack_rules elements bytes) tt p;
  unpack = λ bytes elements r elements' u. writes-answered (unpack_rules bytes elements) tt u;
  key-written = λ set public private key r key' g e. written-zero g e;
  signature-written = λ set public abq private vinegar target salt work output r work' output' s e. s.done (sign-done s e);
  pack-written = λ elements bytes r bytes' p e. written-zero p e;
  unpack-written = λ bytes elements r elements' u e. written-zero u e;
}

pub lowest-given : LowestGiven
unfolding keygen_refusals keygen_rules sign_refusals sign_rules verdict_refusals verdict_rules salt_rules pack_rules unpack_rules
lowest-given = record {
  generate = λ set public private key k. lowest-exactly 9 (keygen_refusals set public private key) tt k;
  sign = λ set public abq private vinegar target salt work output k. lowest-exactly 9 (sign_refusals set public abq private vinegar target salt work output) tt k;
  verify = λ set public abq target key signature k. lowest-exactly 9 (verdict_refusals set public abq target key signature) tt k;
  salt-status = λ set n k. lowest-exactly 9 (salt_rules set n) tt k;
  pack = λ elements bytes k. lowest-exactly 9 (pack_rules elements bytes) tt k;
  unpack = λ bytes elements k. lowest-exactly 9 (unpack_rules bytes elements) tt k;
}

-- what was emitted, in the sentence's words
holds_of : (set : Set) (public abq private vinegar target salt signature : List ℕ) → Emitted set public abq private vinegar target salt signature
    → SignatureHolds set public abq private vinegar target salt signature
unfolding signature_with
holds_of set public abq private vinegar target salt signature e = record {
  X = joined set (vinegar_of set vinegar) e.oil;
  first-v = joined-vinegar set (vinegar_of set vinegar) e.oil;
  equal = e.solves.equal;
  image = λ j h.
      same-trans (private_change-same set private e.holds j h)
      (same-equal (private-change-own-inverse set private (joined set (vinegar_of set vinegar) e.oil) j));
  elements = _;
  bytes = e.bytes;
}

-- what was made with 0
made-zero : {A : Type 0} {n : ℕ} {value : A} {r : Result A Refusal} → Gives n value r → number_of r ≡ 0 → r ≡ Ok value
made-zero m e = m.done (sym m.number ∙ e)

pub sentence-2 : Sentence2
unfolding verdict_refusals verdict_rules add S
sentence-2 = record {
  field-sum = λ a b. refl;
  field-powers = powers-of-2;
  field-inverse = mul-inverse;
  field-zero = inverse-zero;
  S-is = λ l r c hr hc. ap₂ (λ x y. 8 - x - y) (mod-eq_of_lt hr) (mod-eq_of_lt hc);
  ring-element = λ l a r m e. made-zero m e;
  determinant = λ l m r d e. made-zero d e;
  made-invertible = λ l a r m e. made-zero m e;
  key-bytes = λ set public private key r key' g e. written-zero g e;
  signed = λ set public abq private vinegar target salt work output r work' output' s e.
      holds_of set public abq private vinegar target salt output' (s.done (sign-done s e));
  key = λ set public private key r key' g e i j k hi hj hk.
      subst (λ s. Same set.l (P22 set s i j k) (key_p22 set public private i j k)) (sym (written-zero g e)) (key_of-holds set public private i j k hi hj hk);
  accepted = λ set public abq target key signature r v.
      let rules = verdict_refusals set public abq target key signature in
      let number = verdict-zero v in
      let entries = accepted-exactly set public abq key signature target in
      let none = none-exactly 9 rules tt in (
        (λ e. let z = number.0 e in (none.0 z.0, record { equal = entries.0 z.1 })),
        (λ w. number.1 (none.1 w.0, entries.1 w.1.equal)),
      );
  unpacked = λ elements bytes r bytes' p e room r' room' u same.
      let done = pack-then-unpack elements p (answer-zero p e) u same in (ap number_of done.0, done.1);
}

pub sentence-3 : Sentence3
unfolding sign_refusals sign_rules
sentence-3 = record {
  composition = λ set public private key r key' g e abq U i below.
      subst (λ k. Same set.l (public_map set public abq k U i) (central_map set public abq private (private_change set private U) i))
      (sym (written-zero g e)) (key-composition set public abq private U i below);
  accepted = λ set public abq private vinegar target salt work key output work' key' signature r g s v.
      emitted-verdict set public abq private vinegar target salt work output s (subst (λ k. Verifies set public abq target k signature r) (written-zero g refl) v);
  redo = λ set public abq private vinegar target salt work output r work' output' s none.
      let fits = (none-exactly 9 (sign_refusals set public abq private vinegar target salt work output) tt).1 none in
      let exact = redo-exactly s fits in ((λ e. exact.0 (sign-redo s fits e)), (λ again. ap sign_number (exact.1 again)));
}
