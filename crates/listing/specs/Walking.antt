-- What a walk over tokens has counted, as its fields hold it.
use Rattle.statement.specs.Depth.{depth}
use Rattle.listing.specs.Walk.{Walked, Within}
use Rattle.listing.specs.declared.walk.Walk.TheInside.{Inside}

abbrev pub walked_of : Inside → Walked
walked_of w =
    record {
      place = w.place;
      tokens = w.tokens;
      ends = w.ends;
      rule = depth w.rule;
      start = w.start;
      passed = w.passed;
      solid = w.solid;
    }

-- The numbers keep within the bytes passed.
abbrev pub Keeps : Inside → Type 0
Keeps w = Within (walked_of w)
