-- Answers and refusals: an operation's refusals are one list of (refusal, what must be met), in order, and the first that applies is given.
-- Rests on Pick.
use Rattle.std.specs.Prelude.{◌≡◌, refl, Bool, true, false, List, [], ◌∷◌, ◌++◌, ℕ, Result, Ok, Err}
use Rattle.ground.specs.Pick.{pick}
use Rattle.ground.specs.declared.Refusal.{Refusal}
use Rattle.ground.specs.declared.Refusal.TheVariants.{
  SetNotAllowed,
  PublicLength,
  AbqLength,
  PrivateLength,
  VinegarLength,
  TargetLength,
  KeyLength,
  SaltLength,
  SignatureLength,
  WorkLength,
  OutputLength,
  NotInvertible,
  CountsDiffer,
  AboveFifteen,
  BadLine,
  OddDigits,
  NotADigit,
  FieldOutOfOrder,
  NumberTooLarge,
  BookSize,
  BlockCheck,
  BlockForm,
  BlockOutOfTurn,
  BadFields,
  TooManyBlocks,
}

-- the pages' number of a refusal
abbrev pub code : Refusal → ℕ
code SetNotAllowed = 10
code PublicLength = 11
code AbqLength = 12
code PrivateLength = 13
code VinegarLength = 14
code TargetLength = 15
code KeyLength = 16
code SaltLength = 17
code SignatureLength = 18
code WorkLength = 19
code OutputLength = 20
code NotInvertible = 21
code CountsDiffer = 22
code AboveFifteen = 23
code BadLine = 30
code OddDigits = 31
code NotADigit = 32
code FieldOutOfOrder = 33
code NumberTooLarge = 34
code BookSize = 40
code BlockCheck = 41
code BlockForm = 42
code BlockOutOfTurn = 43
code BadFields = 45
code TooManyBlocks = 46

-- an answer with no data: done, or refused
abbrev pub Answer : Type 0
Answer = Result Unit Refusal

-- a rule: the refusal, given unless the condition is met
pub record Rule : Type 0 where
  pub refusal : Refusal
  pub met : Bool

abbrev pub unless : Refusal → Bool → Rule
unless r b = record { refusal = r; met = b }

-- the number of a rule's refusal
abbrev pub number : Rule → ℕ
number r = code r.refusal

-- the number of the first rule that is not met, or 0
unfoldable pub first : List Rule → ℕ
first [] = 0
first (r ∷ rs) = pick r.met (first rs) (number r)

-- the page's number of an answer, by the number of what stands beside done
abbrev pub numbered : {A : Type 0} → (A → ℕ) → Result A Refusal → ℕ
numbered by (Ok x) = by x
numbered by (Err r) = code r

-- and whatever stands beside done: 0 is done
abbrev pub number_of : {A : Type 0} → Result A Refusal → ℕ
number_of = numbered (λ x. 0)

-- What an operation that makes a value answers: the number is the first refusal's, and with 0 the value is there.
pub record Gives {A : Type 0} (refusal : ℕ) (value : A) (r : Result A Refusal) : Type 0 where
  pub number : number_of r ≡ refusal
  pub done : refusal ≡ 0 → r ≡ Ok value

-- every rule of the list is met
pub data Met : List Rule → Type 0 where
  met-none : Met []
  met-more : {r : Rule} {rs : List Rule} → r.met ≡ true → Met rs → Met (r ∷ rs)

-- with every rule met there is no refusal
pub first-met : {rs : List Rule} → Met rs → first rs ≡ 0
unfolding first
first-met met-none = refl
first-met (met-more {r = r} {rs = rs} e m) = rw e (first-met m)

-- rules that follow others are looked at where those before are all met
pub first-append : {rs : List Rule} (rs' : List Rule) → Met rs → first (rs ++ rs') ≡ first rs'
unfolding first
first-append rs' met-none = refl
first-append rs' (met-more {r = r} {rs = rs} e m) = rw e (first-append rs' m)

-- and where one of those before is not met, its number stands, whatever follows
pub first-stands : (rs rs' : List Rule) → (first rs ≡ 0 → ⊥) → first (rs ++ rs') ≡ first rs
unfolding first
first-stands [] rs' n = absurd (n refl)
first-stands (r ∷ rs) rs' n = by r.met refl (λ z. first-stands rs rs' z)
  where
    by : (b : Bool) → r.met ≡ b → ((first rs ≡ 0 → ⊥) → first (rs ++ rs') ≡ first rs)
        → pick r.met (first (rs ++ rs')) (number r) ≡ pick r.met (first rs) (number r)
    by true e h = rw e (h (λ z. n (rw e z)))
    by false e h = rw e
