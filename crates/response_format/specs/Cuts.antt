-- The lines of a file: put together again, each with its line feed, they are the file, and no line feed stands within one.
-- Rests on Rules and Format.
use Rattle.std.specs.Prelude.{◌≡◌, refl, List, [], ◌∷◌, ℕ}
use Rattle.std.proofs.Common.{sym, ap, ◌∙◌, eq-eqb, ne_eqb}
use Rattle.std.proofs.Math.Decide.{ℕ_discrete}
use Rattle.response_format.specs.Rules.{Cut, begun, cut}
use Rattle.response_format.specs.Format.{Free, free-none, free_more, AllFree, all_none, all_more, join}

pub record CutOf (f : List ℕ) (c : Cut) : Type 0 where
  pub is : join c.lines c.rest ≡ f
  pub free : AllFree c.lines
  pub last : Free c.rest

cut_short : (b : ℕ) (f rest : List ℕ) → (b ≡ 10 → ⊥) → join [] rest ≡ f → Free rest → CutOf (b ∷ f) (begun b [] rest)
unfolding join begun
cut_short b f rest n e h = record { is = ap (λ x. b ∷ x) e; free = all_none; last = free_more n h }

cut-long : (b : ℕ) (f l : List ℕ) (ls : List (List ℕ)) (rest : List ℕ) → (b ≡ 10 → ⊥) → join (l ∷ ls) rest ≡ f → Free l → AllFree ls → Free rest
    → CutOf (b ∷ f) (begun b (l ∷ ls) rest)
unfolding join begun
cut-long b f l ls rest n e g gs h = record { is = ap (λ x. b ∷ x) e; free = all_more (free_more n g) gs; last = h }

cut-begun : (b : ℕ) (f : List ℕ) (c : Cut) → (b ≡ 10 → ⊥) → CutOf f c → CutOf (b ∷ f) (begun b c.lines c.rest)
cut-begun b f c n w = by c.lines c.rest w.is w.free w.last
  where
    by : (ls : List (List ℕ)) (rest : List ℕ) → join ls rest ≡ f → AllFree ls → Free rest → CutOf (b ∷ f) (begun b ls rest)
    by [] rest e g h = cut_short b f rest n e h
    by (l ∷ ls) rest e (all_more g gs) h = cut-long b f l ls rest n e g gs h

pub cut-is : (f : List ℕ) → CutOf f (cut f)
unfolding cut join
cut-is [] = record { is = refl; free = all_none; last = free-none }
cut-is (b ∷ f) =
    let w = cut-is f in
    elim (ℕ_discrete b 10) [
      | yes i ↦ rw (eq-eqb b 10 i) (record { is = ap (λ x. 10 ∷ x) w.is ∙ ap (λ x. x ∷ f) (sym i); free = all_more free-none w.free; last = w.last })
      | no n ↦ rw (ne_eqb b 10 n) (cut-begun b f (cut f) n w)
    ]
