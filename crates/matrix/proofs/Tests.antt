-- The tests of Limits in std's words.
-- Rests on Limits and on ground's tests.
use Rattle.std.specs.Prelude.{◌≡◌, refl, Bool, true, false, ◌&&◌, List, ℕ, zero, suc, ◌≤◌, length, get_or, take}
use Rattle.std.specs.List.{list_all, range_with_len}
use Rattle.std.proofs.Common.{ap, sym, ◌∙◌, add-one, arith}
use Rattle.std.proofs.lemmas.List.Folds.{list_all_more}
use Rattle.std.proofs.Common.{take_all}
use Rattle.std.proofs.lemmas.List.FromFn.{length-range_with_len, get_or-range_with_len}
use Rattle.ground.specs.Pick.{both}
use Rattle.ground.specs.Tests.{every, every-cong}

and-both : (a b : Bool) → (a && b) ≡ both b a
and-both true true = refl
and-both true false = refl
and-both false true = refl
and-both false false = refl

-- the first l elements of a list pass where each does
pub all-first : (p : ℕ → Bool) (xs : List ℕ) (l : ℕ) → l ≤ length xs → list_all p (take l xs) ≡ every l (λ k. p (get_or xs k 0))
all-first p xs zero h = refl
all-first p xs (suc n) h =
    ap (λ i. list_all p (take i xs)) (sym (add-one n)) ∙ list_all_more p xs n 0 (omega arith)
    ∙ and-both (list_all p (take n xs)) (p (get_or xs n 0)) ∙ ap (both (p (get_or xs n 0))) (all-first p xs n (omega arith))

-- the numbers below l pass where each does
pub all-below : (p : ℕ → Bool) (l : ℕ) → list_all p (range_with_len 0 l) ≡ every l p
all-below p l =
    let long : length (range_with_len 0 l) ≡ l = length-range_with_len 0 l in
    ap (list_all p) (sym (take_all l (range_with_len 0 l) (omega (arith, long))))
    ∙ all-first p (range_with_len 0 l) l (omega (arith, long)) ∙ every-cong l _ p (λ k h. ap p (get_or-range_with_len 0 l k 0 h ∙ omega arith))
