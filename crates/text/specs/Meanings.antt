-- The lent runs that the two texts over such runs were given.
use Rattle.std.specs.Prelude.{ℕ, List}
use Rattle.text.specs.declared.flat.Flat.{Flat}
use Rattle.text.specs.declared.halves.Halves.{Halves}

-- The run of a flat text.
abbrev pub flat_run : Flat → List ℕ
flat_run t = t.run.now

-- The front run of halves, and the back run.
abbrev pub halves_front : Halves → List ℕ
halves_front t = t.front.now

abbrev pub halves_back : Halves → List ℕ
halves_back t = t.back.now
