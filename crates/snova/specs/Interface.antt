-- What the functions of the C interface promise: the number returned is the page's number of an answer that meets the promise of the function behind it.
-- Rests on the contracts of the crates below; the set is given by its three numbers.
use Rattle.std.specs.Prelude.{◌≡◌, List, ℕ}
use Rattle.ground.specs.Answers.{number_of}
use Rattle.packing.specs.Packing.{Packs, Unpacks}
use Rattle.sets.specs.declared.Set.{Set}
use Rattle.keys.specs.Generates.{Generates}
use Rattle.verdict.specs.Promise.{number_of as verdict_number}
use Rattle.signing.specs.Signs.{Signs}
use Rattle.signing.specs.Signs.{number_of as sign_number}
use Rattle.verdict.specs.Promise.{Verifies}
use Rattle.salt.specs.Salt.{SaltStatus}

-- n is the number of an answer that meets the promise
pub record Numbered {A : Type 0} (number : A → ℕ) (Promise : A → Type 0) (n : ℕ) : Type 0 where
  pub answer : A
  pub meets : Promise answer
  pub is : n ≡ number answer

abbrev pub Keygen : (set : Set) (public private key : List ℕ) (n : ℕ) (key' : List ℕ) → Type 0
Keygen set public private key n key' = Numbered number_of (λ r. Generates set public private key r key') n

abbrev pub Sign : (set : Set) (public abq private vinegar target salt work output : List ℕ) (n : ℕ) (work' output' : List ℕ) → Type 0
Sign set public abq private vinegar target salt work output n work' output' =
    Numbered sign_number (λ r. Signs set public abq private vinegar target salt work output r work' output') n

abbrev pub Verify : (set : Set) (public abq target key signature : List ℕ) (n : ℕ) → Type 0
Verify set public abq target key signature n = Numbered verdict_number (λ r. Verifies set public abq target key signature r) n

abbrev pub Status : (set : Set) (signature : List ℕ) (n : ℕ) → Type 0
Status set signature n = Numbered number_of (λ r. SaltStatus set signature r) n

abbrev pub Pack : (elements bytes : List ℕ) (n : ℕ) (bytes' : List ℕ) → Type 0
Pack elements bytes n bytes' = Numbered number_of (λ r. Packs elements bytes r bytes') n

abbrev pub Unpack : (bytes elements : List ℕ) (n : ℕ) (elements' : List ℕ) → Type 0
Unpack bytes elements n elements' = Numbered number_of (λ r. Unpacks bytes elements r elements') n
