-- `signing::solve` meets its contract: the built system is an area of elements, and what elimination finds of it is page 01's (`solving-from`). Rests on Building.
use Rattle.signing.specs.Emitting.{some-l, system-within}
use Rattle.signing.specs.Building.{built-area, solving-from}
use Rattle.sets.specs.Numbers.{numbers}
use Rattle.sets.proofs.Bounds.{bounds_of}
use Rattle.signing.proofs.solving.solve.Goals as goal

pub eliminate-requires : goal.eliminate-requires
eliminate-requires c =
    built-area (bounds_of c.args.set) c.unknowns-n.ensures (system-within (numbers c.args.set) c.build_system.auto.work c.requires.vinegar_len.1.1)
    c.build_system.ensures

pub returns : goal.returns
returns c =
    solving-from (some-l (bounds_of c.args.set)) c.unknowns-n.ensures c.build_system.ensures c.eliminate.ensures
