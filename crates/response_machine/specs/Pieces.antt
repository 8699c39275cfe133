-- Feeding a piece, place by place.
-- Rests on Machine.
use Rattle.std.specs.Prelude.{◌≡◌, refl, true, false, List, [], ◌∷◌, ℕ, zero, suc, ◌+◌, ◌<◌, ◌≤◌, length, get_or, drop, None}
use Rattle.std.proofs.Common.{drop-cons, not-suc-le-zero, arith}
use Rattle.std.proofs.Math.Numerals.{add-one}
use Rattle.response_machine.specs.Machine.{stepped, telling, stop, feeds}
use Rattle.response_machine.specs.declared.Reader.{Reader}
use Rattle.response_machine.specs.declared.Stepped.{Stepped}

pub drop_all : (i : ℕ) (p : List ℕ) → length p ≤ i → drop i p ≡ []
drop_all zero [] h = refl
drop_all zero (b ∷ p) h = absurd (not-suc-le-zero h)
drop_all (suc i) [] h = refl
drop_all (suc i) (b ∷ p) h = drop_all i p (omega arith)

module _ (r : Reader) (i : ℕ) (p : List ℕ) where
  pub feeds-tells : {s : Stepped} → i < length p → s ≡ stepped r (get_or p i 0) → telling s.event ≡ true
      → stop s.reader s.event (i + 1) ≡ feeds r i (drop i p)
  unfolding feeds
  feeds-tells {s} h e t = rw (drop-cons p i 0 h, ← e, t)

  pub feeds-goes : {s : Stepped} → i < length p → s ≡ stepped r (get_or p i 0) → telling s.event ≡ false
      → feeds s.reader (i + 1) (drop (i + 1) p) ≡ feeds r i (drop i p)
  unfolding feeds
  feeds-goes {s} h e t = rw (drop-cons p i 0 h, ← e, t, add-one i)

  pub feeds-end : length p ≤ i → stop r None i ≡ feeds r i (drop i p)
  unfolding feeds
  feeds-end h = rw (drop_all i p h)
