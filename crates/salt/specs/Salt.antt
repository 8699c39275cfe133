-- The salt of a signature: its last 16 bytes, of a signature whose length fits the set; else the empty part (page 01, "Keys, signing, verdict").
-- Rests on the rules of sets.
use Rattle.std.specs.Prelude.{◌≡◌, List, [], ℕ, ◌-◌, ◌≤◌, eqb, length, take, drop}
use Rattle.std.proofs.Common.{sym, arith, length-drop, take_all, eq-eqb, ne_eqb}
use Rattle.std.proofs.Math.Seq.{drop-length}
use Rattle.ground.specs.Pick.{pick}
use Rattle.ground.specs.Answers.{Answer, first, number_of}
use Rattle.sets.specs.declared.Set.{Set}
use Rattle.sets.specs.Sets.{salt_bytes, signature_bytes}
use Rattle.refusals.specs.Fits.{salt-fits}
use Rattle.refusals.specs.Rules.{salt_rules}

-- the number of the refusal, or 0
unfoldable pub salt_refusal : Set → List ℕ → ℕ
salt_refusal set signature = first (salt_rules set (length signature))

-- where the part handed back begins: 16 bytes before the end, or at the end
unfoldable pub salt_start : Set → List ℕ → ℕ
salt_start set signature = pick (eqb (salt_refusal set signature) 0) (length signature - salt_bytes) (length signature)

-- the bytes handed back
unfoldable pub salt_of : Set → List ℕ → List ℕ
salt_of set signature = drop (salt_start set signature) signature

-- What the salt's status promises: its number is that of the first refusal.
abbrev pub SaltStatus : (set : Set) (signature : List ℕ) (r : Answer) → Type 0
SaltStatus set signature r = number_of r ≡ salt_refusal set signature

-- where set or length is refused the part is empty
pub salt-empty : (set : Set) (signature : List ℕ) → (salt_refusal set signature ≡ 0 → ⊥) → salt_of set signature ≡ []
unfolding salt_of salt_start
salt-empty set signature n = rw (ne_eqb (salt_refusal set signature) 0 n) (drop-length signature)

-- a signature whose length fits has a salt
pub salt-long : (set : Set) (n : ℕ) → first (salt_rules set n) ≡ 0 → salt_bytes ≤ n
unfolding signature_bytes
salt-long set n e = let f = salt-fits set n e in omega (arith, f.signature)

-- the part from a start on is what is left there
pub part-from : (s : List ℕ) (start : ℕ) → take (length s - start) (drop start s) ≡ drop start s
part-from s start = take_all (length s - start) (drop start s) (omega (arith, length-drop start s))

pub start-done : (set : Set) (signature : List ℕ) → first (salt_rules set (length signature)) ≡ 0 → length signature - salt_bytes ≡ salt_start set signature
unfolding salt_start salt_refusal
start-done set signature e = sym (rw (eq-eqb (first (salt_rules set (length signature))) 0 e))

pub start-refused : (set : Set) (signature : List ℕ) → (first (salt_rules set (length signature)) ≡ 0 → ⊥) → length signature ≡ salt_start set signature
unfolding salt_start salt_refusal
start-refused set signature n = sym (rw (ne_eqb (first (salt_rules set (length signature))) 0 n))
