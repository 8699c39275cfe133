-- The sentences as a caller of the C interface sees them: of the numbers that the functions return.
-- Rests on Sentences; what is said there of an answer's number holds of the number returned.
use Rattle.std.specs.Prelude.{◌≡◌, ◌↔◌, ◌⊎◌, List, ℕ, length}
use Rattle.std.proofs.Common.{sym, ap, subst, ◌∙◌, inl, inr, ⊎_elim}
use Rattle.rows.specs.Zero.{zeros}
use Rattle.scheme.specs.Refusals.{verdict_refusals}
use Rattle.ground.specs.Answers.{Rule, Met}
use Rattle.sets.specs.declared.Set.{Set}
use Rattle.keys.specs.Generates.{Generates}
use Rattle.scheme.specs.Streams.{vinegar_of}
use Rattle.scheme.specs.Oil.{Redo}
use Rattle.verdict.specs.Promise.{number_of as verdict_number}
use Rattle.scheme.specs.Refusals.{sign_refusals}
use Rattle.signing.specs.Signs.{Signs}
use Rattle.model.specs.Answered.{Answered, sign-done}
use Rattle.model.specs.Accepted.{answer-zero}
use Rattle.model.specs.Sentences.{EveryEntryEqual, sentence-1, sentence-2, sentence-3}
use Rattle.snova.specs.Interface.{Numbered, Keygen, Sign, Verify}

-- the first sentence: what it says of every answer's number it says of the number returned
pub returned-answered : {A : Type 0} {number : A → ℕ} {Promise : A → Type 0} {n : ℕ} {page : List ℕ} {refusals : List Rule} {before after : List (List ℕ)}
    → Numbered number Promise n → ((r : A) → Promise r → Answered page refusals (number r) before after) → Answered page refusals n before after
returned-answered {page = page} {refusals = refusals} {before = before} {after = after} c first =
    subst (λ n. Answered page refusals n before after) (sym c.is) (first c.answer c.meets)

module _ (set : Set) (public abq private vinegar target salt work output : List ℕ) {work' signature : List ℕ} {n : ℕ} where
  -- the third sentence: 0 of key generation and 0 of signing, so 0 of the verdict
  pub returned-accepted : (key : List ℕ) {key' : List ℕ} → Keygen set public private key 0 key' → Sign set public abq private vinegar target salt work output 0 work' signature
      → Verify set public abq target key' signature n → n ≡ 0
  returned-accepted key {key'} k s v =
      v.is
      ∙ ap verdict_number
      (sentence-3.accepted set public abq private vinegar target salt work key output work' key' signature v.answer
      (subst (λ r. Generates set public private key r key') (answer-zero k.meets (sym k.is)) k.meets)
      (subst (λ r. Signs set public abq private vinegar target salt work output r work' signature) (sign-done s.meets (sym s.is)) s.meets) v.meets)

  -- and 2 of signing exactly when some oil choice, not all zero, is sent to zero
  pub returned-redo : Sign set public abq private vinegar target salt work output n work' signature
      → Met (sign_refusals set public abq private vinegar target salt work output) → (n ≡ 2) ↔ Redo set public abq private (vinegar_of set vinegar)
  returned-redo s none =
      let exact = sentence-3.redo set public abq private vinegar target salt work output s.answer work' signature s.meets none in
      ((λ e. exact.0 (sym s.is ∙ e)), (λ again. s.is ∙ exact.1 again))

  -- the first sentence: after 0 and 2 the work area is all zero, and 2 leaves the output as it was
  pub returned-wiped : Sign set public abq private vinegar target salt work output n work' signature → (n ≡ 0) ⊎ (n ≡ 2) → work' ≡ zeros (length work)
  returned-wiped s w =
      sentence-1.wiped set public abq private vinegar target salt work output s.answer work' signature s.meets
      (⊎_elim (λ e. inl (sym s.is ∙ e)) (λ e. inr (sym s.is ∙ e)) w)

  pub returned-kept : Sign set public abq private vinegar target salt work output n work' signature → n ≡ 2 → signature ≡ output
  returned-kept s e = sentence-1.redo-kept set public abq private vinegar target salt work output s.answer work' signature s.meets (sym s.is ∙ e)

-- the second sentence: 0 of the verdict exactly where nothing is refused and every entry equals the target
pub returned-verdict : (set : Set) (public abq target key signature : List ℕ) {n : ℕ} → Verify set public abq target key signature n
    → (n ≡ 0) ↔ (Met (verdict_refusals set public abq target key signature) × EveryEntryEqual set public abq target key signature)
returned-verdict set public abq target key signature v =
    let exact = sentence-2.accepted set public abq target key signature v.answer v.meets in
    ((λ e. exact.0 (sym v.is ∙ e)), (λ w. v.is ∙ exact.1 w))
