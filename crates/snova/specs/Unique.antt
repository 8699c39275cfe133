-- No second outcome meets a contract of this crate: the number and every lent buffer are fixed by what went in.
-- Rests on the uniqueness of the promises behind the C interface.
use Rattle.std.specs.Prelude.{◌≡◌, List, ℕ}
use Rattle.std.proofs.Common.{sym, ap, ◌∙◌}
use Rattle.salt.specs.Unique.{unique-salt-status}
use Rattle.verdict.specs.Unique.{unique-verify}
use Rattle.packing.specs.Unique.{unique-pack, unique-unpack}
use Rattle.sets.specs.declared.Set.{Set}
use Rattle.keys.specs.Unique.{unique-generate}
use Rattle.signing.specs.Unique.{unique-sign}
use Rattle.snova.specs.Interface.{Numbered, Keygen, Sign, Verify, Status, Pack, Unpack}

-- one answer has one number
unique-numbered : {A : Type 0} {number : A → ℕ} {P Q : A → Type 0} {n n' : ℕ} (a : Numbered number P n) (b : Numbered number Q n') → a.answer ≡ b.answer → n ≡ n'
unique-numbered {number = number} a b e = a.is ∙ ap number e ∙ sym b.is

pub unique-snova-keygen : (set : Set) (public private key : List ℕ) {n n' : ℕ} {k k' : List ℕ} → Keygen set public private key n k → Keygen set public private key n' k'
    → (n ≡ n') × (k ≡ k')
unique-snova-keygen set public private key a b = let u = unique-generate set public private a.meets b.meets in (unique-numbered a b u.0, u.1)

pub unique-snova-sign : (set : Set) (public abq private vinegar target salt work output : List ℕ) {n n' : ℕ} {w w' s s' : List ℕ}
    → Sign set public abq private vinegar target salt work output n w s → Sign set public abq private vinegar target salt work output n' w' s'
    → (n ≡ n') × ((w ≡ w') × (s ≡ s'))
unique-snova-sign set public abq private vinegar target salt work output a b =
    let u = unique-sign a.meets b.meets in (unique-numbered a b u.0, u.1)

pub unique-snova-verify : (set : Set) (public abq target key signature : List ℕ) {n n' : ℕ} → Verify set public abq target key signature n
    → Verify set public abq target key signature n' → n ≡ n'
unique-snova-verify set public abq target key signature a b = unique-numbered a b (unique-verify set public abq target key signature a.meets b.meets)

pub unique-snova-salt-status : (set : Set) (signature : List ℕ) {n n' : ℕ} → Status set signature n → Status set signature n' → n ≡ n'
unique-snova-salt-status set signature a b = unique-numbered a b (unique-salt-status set signature a.meets b.meets)

pub unique-snova-pack : (elements bytes : List ℕ) {n n' : ℕ} {s s' : List ℕ} → Pack elements bytes n s → Pack elements bytes n' s' → (n ≡ n') × (s ≡ s')
unique-snova-pack elements bytes a b = let u = unique-pack elements a.meets b.meets in (unique-numbered a b u.0, u.1)

pub unique-snova-unpack : (bytes elements : List ℕ) {n n' : ℕ} {s s' : List ℕ} → Unpack bytes elements n s → Unpack bytes elements n' s' → (n ≡ n') × (s ≡ s')
unique-snova-unpack bytes elements a b = let u = unique-unpack bytes a.meets b.meets in (unique-numbered a b u.0, u.1)
