-- No second answer meets a public function's contract: each contract is an equation with a definition.
-- Rests on Sets, and on Outcome of the crate ground.
use Rattle.std.specs.Prelude.{◌≡◌, Bool, true, false, ℕ, Result, Ok, Err, IfOk, IfErr}
use Rattle.std.proofs.Common.{ap, sym, ◌∙◌, subst, true≢false}
use Rattle.std.proofs.Math.Bool.{Bool-set}
use Rattle.ground.specs.Pick.{pick}
use Rattle.ground.specs.Outcome.{unique-equation}
use Rattle.ground.specs.declared.Refusal.{Refusal}
use Rattle.ground.specs.declared.Refusal.TheVariants.{SetNotAllowed}
use Rattle.sets.specs.declared.Set.{Set}
use Rattle.sets.specs.declared.within.AllowedSet.{AllowedSet}
use Rattle.sets.specs.Numbers.{numbers}
use Rattle.sets.specs.Sets.{
  allowed_set,
  public_bytes,
  abq_bytes,
  private_bytes,
  vinegar_bytes,
  target_bytes,
  key_bytes,
  signature_bytes,
  work_bytes,
}

pub unique-allowed : (s : Set) {r r' : Bool} → r ≡ allowed_set s → r' ≡ allowed_set s → r ≡ r'
unique-allowed s = unique-equation

-- each length, 0 for a set that is not allowed

module _ (s : Set) {r r' : ℕ} where
  pub unique-public-bytes : r ≡ pick (allowed_set s) (public_bytes s) 0 → r' ≡ pick (allowed_set s) (public_bytes s) 0 → r ≡ r'
  unique-public-bytes = unique-equation

  pub unique-abq-bytes : r ≡ pick (allowed_set s) (abq_bytes s) 0 → r' ≡ pick (allowed_set s) (abq_bytes s) 0 → r ≡ r'
  unique-abq-bytes = unique-equation

  pub unique-private-bytes : r ≡ pick (allowed_set s) (private_bytes s) 0 → r' ≡ pick (allowed_set s) (private_bytes s) 0 → r ≡ r'
  unique-private-bytes = unique-equation

  pub unique-vinegar-bytes : r ≡ pick (allowed_set s) (vinegar_bytes s) 0 → r' ≡ pick (allowed_set s) (vinegar_bytes s) 0 → r ≡ r'
  unique-vinegar-bytes = unique-equation

  pub unique-target-bytes : r ≡ pick (allowed_set s) (target_bytes s) 0 → r' ≡ pick (allowed_set s) (target_bytes s) 0 → r ≡ r'
  unique-target-bytes = unique-equation

  pub unique-key-bytes : r ≡ pick (allowed_set s) (key_bytes s) 0 → r' ≡ pick (allowed_set s) (key_bytes s) 0 → r ≡ r'
  unique-key-bytes = unique-equation

  pub unique-signature-bytes : r ≡ pick (allowed_set s) (signature_bytes s) 0 → r' ≡ pick (allowed_set s) (signature_bytes s) 0 → r ≡ r'
  unique-signature-bytes = unique-equation

  pub unique-work-bytes : r ≡ pick (allowed_set s) (work_bytes s) 0 → r' ≡ pick (allowed_set s) (work_bytes s) 0 → r ≡ r'
  unique-work-bytes = unique-equation

-- an allowed set: its numbers decide it, since the fact beside them has one proof

-- an allowed set of a set
abbrev made_of : (s : Set) → allowed_set s ≡ true → AllowedSet
made_of s w = record { v = s.v; o = s.o; l = s.l; within = w }

one-proof : (s : Set) (w w' : allowed_set s ≡ true) → w ≡ w'
one-proof s w w' = Bool-set _ _ w w'

same-numbers : (a b : AllowedSet) → numbers a ≡ numbers b → a ≡ b
same-numbers a b e =
    subst (λ s. (w : allowed_set s ≡ true) → a ≡ made_of s w) e (λ w. ap (made_of (numbers a)) (one-proof (numbers a) a.within w)) b.within

pub unique-known-set : {set : Set} {r r' : AllowedSet} → numbers r ≡ set → numbers r' ≡ set → r ≡ r'
unique-known-set e e' = same-numbers _ _ (e ∙ sym e')

pub unique-allowed-set : (set : Set) {r r' : Result AllowedSet Refusal}
    → IfOk r (λ a. numbers a ≡ set) → IfErr r (λ e. (e ≡ SetNotAllowed) × (allowed_set set ≡ false))
    → IfOk r' (λ a. numbers a ≡ set) → IfErr r' (λ e. (e ≡ SetNotAllowed) × (allowed_set set ≡ false))
    → r ≡ r'
unique-allowed-set set {r = Ok a} {r' = Ok b} m _ m' _ = ap Ok (unique-known-set m m')
unique-allowed-set set {r = Ok a} {r' = Err e} m _ _ n' = absurd (true≢false (sym (rw m at a.within) ∙ n'.1))
unique-allowed-set set {r = Err e} {r' = Ok b} _ n m' _ = absurd (true≢false (sym (rw m' at b.within) ∙ n.1))
unique-allowed-set set {r = Err e} {r' = Err e'} _ n _ n' = ap Err (n.0 ∙ sym n'.0)
