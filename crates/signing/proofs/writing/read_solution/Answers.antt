-- `signing::read_solution` meets its contract. The invariant: the first e bytes are read (`fill-next`), and the next stands within the area.
use Rattle.std.proofs.Common.{◌+◌, ◌<◌, refl}
use lib.Arith.{digits_lt}
use Rattle.ground.specs.Segment.{segment-none, fill-next, segment-end}
use Rattle.linear.specs.System.{at}
use native.Mathlib.Omega.{arith}
use Rattle.signing.proofs.writing.read_solution.Goals as goal

pub loop-e-init : goal.loop-e-init
loop-e-init c =
    let last : c.args.n < c.args.n + 1 = omega arith in
    record { upto = omega arith; cell = λ h. digits_lt h last; read = segment-none }

pub loop-e-preserved : goal.loop-e-preserved
unfolding at
loop-e-preserved c =
    let n = c.args.n in
    let last : c.args.n < c.args.n + 1 = omega arith in
    record {
      upto = omega arith;
      cell = λ h. digits_lt h last;
      read = fill-next c.loop-e.invariant.read (omega arith) (at c.args.g.now n c.loop-e.e n) refl;
    }

pub returns : goal.returns
returns c = segment-end c.loop-e.invariant.read c.loop-e.invariant.upto c.loop-e-test.false
