-- A refusal has a number above 9 and shares it with no other, so an answer's number says which answer it is.
-- Rests on Answers.
use Rattle.std.specs.Prelude.{◌≡◌, refl, Bool, true, false, ℕ, ◌<◌, eqb, Result, Ok, Err, is_ok}
use Rattle.std.proofs.Common.{sym, ap, ◌∙◌, arith}
use Rattle.std.proofs.Math.Decide.{ℕ_discrete}
use Rattle.ground.specs.Pick.{pick}
use Rattle.ground.specs.Answers.{code, Answer, number_of, Gives}
use Rattle.ground.specs.declared.Refusal.{Refusal}
use Rattle.ground.specs.declared.Refusal.TheVariants.{
  SetNotAllowed,
  PublicLength,
  AbqLength,
  PrivateLength,
  VinegarLength,
  TargetLength,
  KeyLength,
  SaltLength,
  SignatureLength,
  WorkLength,
  OutputLength,
  NotInvertible,
  CountsDiffer,
  AboveFifteen,
  BadLine,
  OddDigits,
  NotADigit,
  FieldOutOfOrder,
  NumberTooLarge,
  BookSize,
  BlockCheck,
  BlockForm,
  BlockOutOfTurn,
  BadFields,
  TooManyBlocks,
}

-- ---- numbers

pub code-above : (r : Refusal) → 9 < code r
code-above SetNotAllowed = omega arith
code-above PublicLength = omega arith
code-above AbqLength = omega arith
code-above PrivateLength = omega arith
code-above VinegarLength = omega arith
code-above TargetLength = omega arith
code-above KeyLength = omega arith
code-above SaltLength = omega arith
code-above SignatureLength = omega arith
code-above WorkLength = omega arith
code-above OutputLength = omega arith
code-above NotInvertible = omega arith
code-above CountsDiffer = omega arith
code-above AboveFifteen = omega arith
code-above BadLine = omega arith
code-above OddDigits = omega arith
code-above NotADigit = omega arith
code-above FieldOutOfOrder = omega arith
code-above NumberTooLarge = omega arith
code-above BookSize = omega arith
code-above BlockCheck = omega arith
code-above BlockForm = omega arith
code-above BlockOutOfTurn = omega arith
code-above BadFields = omega arith
code-above TooManyBlocks = omega arith

pub code-some : (r : Refusal) → code r ≡ 0 → ⊥
code-some r e = omega (arith, code-above r)

-- the refusal with a number
abbrev with_code : ℕ → Refusal
with_code n =
    pick (eqb n 10) SetNotAllowed (pick (eqb n 11) PublicLength (pick (eqb n 12) AbqLength (pick (eqb n 13) PrivateLength (pick (eqb n 14) VinegarLength (pick (eqb n 15) TargetLength (pick (eqb n 16) KeyLength (pick (eqb n 17) SaltLength (pick (eqb n 18) SignatureLength (pick (eqb n 19) WorkLength (pick (eqb n 20) OutputLength (pick (eqb n 21) NotInvertible (pick (eqb n 22) CountsDiffer (pick (eqb n 23) AboveFifteen (pick (eqb n 30) BadLine (pick (eqb n 31) OddDigits (pick (eqb n 32) NotADigit (pick (eqb n 33) FieldOutOfOrder (pick (eqb n 34) NumberTooLarge (pick (eqb n 40) BookSize (pick (eqb n 41) BlockCheck (pick (eqb n 42) BlockForm (pick (eqb n 43) BlockOutOfTurn (pick (eqb n 45) BadFields TooManyBlocks)))))))))))))))))))))))

with-code : (r : Refusal) → with_code (code r) ≡ r
with-code SetNotAllowed = refl
with-code PublicLength = refl
with-code AbqLength = refl
with-code PrivateLength = refl
with-code VinegarLength = refl
with-code TargetLength = refl
with-code KeyLength = refl
with-code SaltLength = refl
with-code SignatureLength = refl
with-code WorkLength = refl
with-code OutputLength = refl
with-code NotInvertible = refl
with-code CountsDiffer = refl
with-code AboveFifteen = refl
with-code BadLine = refl
with-code OddDigits = refl
with-code NotADigit = refl
with-code FieldOutOfOrder = refl
with-code NumberTooLarge = refl
with-code BookSize = refl
with-code BlockCheck = refl
with-code BlockForm = refl
with-code BlockOutOfTurn = refl
with-code BadFields = refl
with-code TooManyBlocks = refl

pub same-code : (r s : Refusal) → code r ≡ code s → r ≡ s
same-code r s e = sym (with-code r) ∙ ap with_code e ∙ with-code s

-- ---- answers

-- done is the answer of 0 alone
pub answer-done : {A : Type 0} {a : Result A Refusal} {x : A} (n : ℕ) → number_of a ≡ n → a ≡ Ok x → n ≡ 0
answer-done n is done = sym is ∙ ap number_of done

pub done-answer : {a : Answer} → number_of a ≡ 0 → a ≡ Ok tt
done-answer {a = Ok x} e = refl
done-answer {a = Err r} e = absurd (code-some r e)

-- a refusal is not the answer of 0
pub answer-refused : {A : Type 0} {a : Result A Refusal} {r : Refusal} (n : ℕ) → number_of a ≡ n → a ≡ Err r → n ≡ 0 → ⊥
answer-refused {r = r} n is refused zero = code-some r (sym (ap number_of refused) ∙ is ∙ zero)

-- what stands beside done is one value
pub same-value : {A E : Type 0} {a : Result A E} {x y : A} → a ≡ Ok x → a ≡ Ok y → x ≡ y
same-value p q = cc

-- refusals with one number are one
pub same-refusal : {A : Type 0} (a b : Result A Refusal) → number_of a ≡ number_of b → (number_of a ≡ 0 → ⊥) → a ≡ b
same-refusal (Ok x) b e some = absurd (some refl)
same-refusal (Err r) (Ok y) e some = absurd (code-some r e)
same-refusal (Err r) (Err s) e some = ap Err (same-code r s e)

-- and so are answers with no data
pub same-answer : (a b : Answer) → number_of a ≡ number_of b → a ≡ b
same-answer (Ok x) b e = sym (done-answer {a = b} (sym e))
same-answer (Err r) b e = same-refusal (Err r) b e (code-some r)

-- a number that is promised says which answer it is
pub unique-answer : {n : ℕ} {a b : Answer} → number_of a ≡ n → number_of b ≡ n → a ≡ b
unique-answer {a = a} {b} p q = same-answer a b (p ∙ sym q)

-- there is one answer with a number and a value
pub unique-gives : {A : Type 0} {n : ℕ} {value : A} {a b : Result A Refusal} → Gives n value a → Gives n value b → a ≡ b
unique-gives {n = n} {a = a} {b} p q =
    elim (ℕ_discrete n 0) [
      | yes e ↦ p.done e ∙ sym (q.done e)
      | no e ↦ same-refusal a b (p.number ∙ sym q.number) (λ z. e (sym p.number ∙ z))
    ]

-- the value that was made, or a refusal handed up
pub gives-value : {A : Type 0} {n : ℕ} {value : A} → n ≡ 0 → Gives n value (Ok value)
gives-value zero = record { number = sym zero; done = λ z. refl }

pub gives-refusal : {A : Type 0} {n : ℕ} {value : A} (r : Refusal) → code r ≡ n → Gives n value (Err r)
gives-refusal r is = record { number = is; done = λ z. absurd (code-some r (is ∙ z)) }

-- what was demanded is met where the answer is done
pub demand-met : (met : Bool) (r : Refusal) {a : Answer} {x : Unit} → a ≡ pick met (Ok tt) (Err r) → a ≡ Ok x → met ≡ true
demand-met true r is done = refl
demand-met false r {x = x} is done = let bad : Err r ≡ Ok x = sym is ∙ done in cc

-- and a refusal is the one that was demanded, of what is not met
pub demand-missed : (met : Bool) (r : Refusal) {a : Answer} {s : Refusal} → a ≡ pick met (Ok tt) (Err r) → a ≡ Err s → (met ≡ false) × (s ≡ r)
demand-missed true r {s = s} is refused = let bad : Ok tt ≡ Err s = sym is ∙ refused in cc
demand-missed false r {s = s} is refused = let same : Err s ≡ Err r = sym refused ∙ is in (refl, cc)

-- the number of what was demanded
pub demand-number : (met : Bool) (r : Refusal) → number_of {A = Unit} (pick met (Ok tt) (Err r)) ≡ pick met 0 (code r)
demand-number true r = refl
demand-number false r = refl

-- the test for done, by the number
pub ok-number : {A : Type 0} (a : Result A Refusal) → is_ok a ≡ true → number_of a ≡ 0
ok-number (Ok x) t = refl
ok-number (Err r) t = cc

pub err-number : {A : Type 0} (a : Result A Refusal) → is_ok a ≡ false → number_of a ≡ 0 → ⊥
err-number (Ok x) t z = cc
err-number (Err r) t z = code-some r z

-- done is no refusal
pub ok-not-err : {A E : Type 0} {a : Result A E} {x : A} {e : E} → a ≡ Ok x → a ≡ Err e → ⊥
ok-not-err p q = cc
