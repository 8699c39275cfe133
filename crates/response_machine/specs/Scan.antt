-- The search for " = ": the machine's count of its bytes that stand last finds it exactly where it stands.
-- Rests on Rules and Machine.
use Rattle.std.specs.Prelude.{◌≡◌, refl, true, List, [], ◌∷◌, ◌++◌, ℕ, eqb}
use Rattle.std.proofs.Common.{sym, ap, ◌∙◌, eq-eqb, ne_eqb}
use Rattle.std.proofs.Math.Decide.{ℕ_discrete}
use Rattle.response_format.specs.Rules.{begins, separated}
use Rattle.response_machine.specs.Machine.{found}

-- the count after more bytes
unfoldable pub scan : ℕ → List ℕ → ℕ
scan j [] = j
scan j (b ∷ l) = scan (found j b) l

pub scan-more : (j b : ℕ) (l : List ℕ) → scan j (b ∷ l) ≡ scan (found j b) l
unfolding scan
scan-more j b l = refl

pub scan-append : (j : ℕ) (l m : List ℕ) → scan j (l ++ m) ≡ scan (scan j l) m
unfolding scan
scan-append j [] m = refl
scan-append j (b ∷ l) m = scan-append (found j b) l m

pub scan-found : (l : List ℕ) → scan 3 l ≡ 3
unfolding scan found
scan-found [] = refl
scan-found (b ∷ l) = scan-found l

-- after 0, 1 and 2 bytes of it
record Finds (l : List ℕ) : Type 0 where
  none : separated l ≡ eqb (scan 0 l) 3
  one : separated (32 ∷ l) ≡ eqb (scan 1 l) 3
  two : separated (32 ∷ 61 ∷ l) ≡ eqb (scan 2 l) 3

-- a byte that is no space begins nothing
skip : (b : ℕ) (l : List ℕ) → (b ≡ 32 → ⊥) → separated (b ∷ l) ≡ separated l
unfolding separated begins
skip b l n = rw (ne_eqb b 32 n)

finds-none : (b : ℕ) (l : List ℕ) → Finds l → separated (b ∷ l) ≡ eqb (scan 0 (b ∷ l)) 3
unfolding scan found
finds-none b l f =
    elim (ℕ_discrete b 32) [
      | yes e ↦ rw e f.one
      | no n ↦ skip b l n ∙ rw (ne_eqb b 32 n) (elim (ℕ_discrete b 61) [ yes e ↦ rw (eq-eqb b 61 e) f.none | no m ↦ rw (ne_eqb b 61 m) f.none ])
    ]

spaces : (l : List ℕ) → separated (32 ∷ 32 ∷ l) ≡ separated (32 ∷ l)
unfolding separated begins
spaces l = refl

-- a space that no = follows begins nothing
broken : (b : ℕ) (l : List ℕ) → (b ≡ 61 → ⊥) → separated (32 ∷ b ∷ l) ≡ separated (b ∷ l)
unfolding separated begins
broken b l m = rw (ne_eqb b 61 m)

finds-one : (b : ℕ) (l : List ℕ) → Finds l → separated (32 ∷ b ∷ l) ≡ eqb (scan 1 (b ∷ l)) 3
unfolding scan found
finds-one b l f =
    elim (ℕ_discrete b 32) [
      | yes e ↦ rw e (spaces l ∙ f.one)
      | no n ↦
          elim (ℕ_discrete b 61) [
            | yes e ↦ rw e f.two
            | no m ↦ broken b l m ∙ skip b l n ∙ rw (ne_eqb b 32 n, ne_eqb b 61 m) f.none
          ]
    ]

whole-separator : (l : List ℕ) → separated (32 ∷ 61 ∷ 32 ∷ l) ≡ true
unfolding separated begins
whole-separator l = refl

unfinished : (b : ℕ) (l : List ℕ) → (b ≡ 32 → ⊥) → separated (32 ∷ 61 ∷ b ∷ l) ≡ separated (b ∷ l)
unfolding separated begins
unfinished b l n = rw (ne_eqb b 32 n)

finds-two : (b : ℕ) (l : List ℕ) → Finds l → separated (32 ∷ 61 ∷ b ∷ l) ≡ eqb (scan 2 (b ∷ l)) 3
unfolding scan found
finds-two b l f =
    elim (ℕ_discrete b 32) [
      | yes e ↦ rw e (whole-separator l ∙ sym (ap (λ j. eqb j 3) (scan-found l)))
      | no n ↦
          unfinished b l n
          ∙ skip b l n
          ∙ rw (ne_eqb b 32 n) (elim (ℕ_discrete b 61) [ yes e ↦ rw (eq-eqb b 61 e) f.none | no m ↦ rw (ne_eqb b 61 m) f.none ])
    ]

finds : (l : List ℕ) → Finds l
unfolding scan separated begins
finds [] = record { none = refl; one = refl; two = refl }
finds (b ∷ l) = let f = finds l in record { none = finds-none b l f; one = finds-one b l f; two = finds-two b l f }

pub separated-scan : (l : List ℕ) → separated l ≡ eqb (scan 0 l) 3
separated-scan l = (finds l).none
