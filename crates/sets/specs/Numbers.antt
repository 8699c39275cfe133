-- An allowed set as a set: what is said of the numbers v, o and l is said of it by `numbers`. Rests on nothing.
use Rattle.sets.specs.declared.Set.{Set}
use Rattle.sets.specs.declared.within.AllowedSet.{AllowedSet}

abbrev pub numbers : AllowedSet → Set
numbers a = record { v = a.v; o = a.o; l = a.l }
