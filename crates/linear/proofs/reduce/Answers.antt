-- `linear::reduce` meets its contract: what the loads, the stores and the clearing promise is one step of elimination (`step`).
use Rattle.std.proofs.Common.{◌≡◌, refl, List, ℕ, ◌<◌, length}
use Rattle.linear.specs.System.{Area}
use Rattle.linear.specs.Frame.{Within, within}
use Rattle.linear.specs.Progress.{step}
use native.Mathlib.Omega.{arith}
use Rattle.linear.proofs.reduce.Goals as goal

-- row r lies within a list as long as the area
here : {g t : List ℕ} {n r : ℕ} → Area g n → length t ≡ length g → r < n → Within t n r
here {r = r} a e h = within r a.limit (omega (arith, a.fits, e)) h

pub entry-leading-requires : goal.entry-leading-requires
entry-leading-requires c = (here c.requires.0 refl c.requires.1.1.inside, omega (arith, c.requires))

pub load-old-requires : goal.load-old-requires
load-old-requires c = here c.requires.0 refl (omega (arith, c.requires))

pub load-row-requires : goal.load-row-requires
load-row-requires c = here c.requires.0 refl c.requires.1.1.inside

pub store-requires : goal.store-requires
store-requires c = here c.requires.0 refl c.requires.1.1.inside

pub store-requires-2 : goal.store-requires-2
store-requires-2 c = here c.requires.0 c.store.auto.g (omega (arith, c.requires))

pub returns : goal.returns
returns c =
    step c.requires.0 c.requires.1.0 c.requires.1.1
    c.entry-leading.ensures
    c.inverse-scale.ensures
    c.load-old.ensures
    c.load-row.ensures
    c.store.ensures
    c.store-2.ensures
    c.clear_column.ensures
