-- How far something reaches that a mark of its own closes.
use Rattle.std.specs.Prelude.{ℕ, ◌+◌, Bool}

-- how many bytes something takes with the mark that closes it, or all there are; and whether there is such a mark
pub record Extent : Type 0 where
  pub len : ℕ
  pub closed : Bool

-- the same with n bytes more before it
abbrev pub further : ℕ → Extent → Extent
further n e = record { len = n + e.len; closed = e.closed }
