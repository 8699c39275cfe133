-- The elements of a group of a packed stream, from which its coefficients are made.
-- Rests on scheme's groups.
use Rattle.std.specs.Prelude.{◌≡◌, refl, List, ℕ, ◌+◌, ◌*◌}
use Rattle.std.proofs.Common.{sym, ap, add-zero}
use Rattle.packing.specs.Packing.{element}
use Rattle.scheme.specs.Streams.{group_of}

-- ---- a group's elements

pub group-element : (l : ℕ) (s : List ℕ) (g k : ℕ) → element s (g * l + k) ≡ group_of l s g k
unfolding group_of
group-element l s g k = refl

pub group-first : (l : ℕ) (s : List ℕ) (g : ℕ) → element s (g * l) ≡ group_of l s g 0
unfolding group_of
group-first l s g = ap (element s) (sym (add-zero (g * l)))
