use Rattle.std.proofs.Common.{◌-◌, take, sym, subst, rules}
use Rattle.cushallen.proofs.Kept.{Kept, kept_end, kept_full, kept_more}
use Rattle.std.specs.Io.KnownBytes.{Consumes}
use Rattle.cushallen.proofs.read_input.Goals as goal
use Rattle.cushallen.proofs.read_input.Goals.{else-loop-chunk-test, then-loop-chunk-test+in_ok-count+then-count-eq0}

pub loop-chunk-preserved : goal.loop-chunk-preserved
loop-chunk-preserved g c =
    let inv = c.loop-chunk.invariant in
    let read = c.in_ok-count.ensures in
    let old = g.R.Read.remaining c.args.reader in
    let after = g.R.Read.remaining c.read.new.self in
    let more = kept_more 65537 old (g.R.Read.remaining c.loop-chunk.reader) after c.loop-chunk.input.items c.read.new.buf c.in_ok-count.count (c.min-kept.result - 0) inv.kept (search rules) read.bound.0 read.bytes.0 (search rules) in
    record {
      whole = search rules;
      bounded = search rules;
      kept = subst (Kept 65537 old after) (sym c.in_ok-extend_from_slice.ensures.items) more;
    }

pub returns-clause-first : goal.returns-clause-first
returns-clause-first g c =
    let inv = c.loop-chunk.invariant in
    let old = g.R.Read.remaining c.args.reader in
    let now = g.R.Read.remaining c.loop-chunk.reader in
    elim c.loop-chunk-test.branch [
      | else-loop-chunk-test w ↦ kept_full 65537 old now c.loop-chunk.input.items inv.kept (search rules)
      | then-loop-chunk-test+in_ok-count+then-count-eq0 w ↦
          let read = w.in_ok-count.ensures in
          let after = g.R.Read.remaining w.read.new.self in
          let none = subst (λ n. Consumes now after (take n w.read.new.buf)) w.if-count-eq0.true read.bytes.0 in
          kept_end 65537 old now after c.loop-chunk.input.items inv.kept (search rules) none (read.bytes.1 w.if-count-eq0.true (search rules))
    ]
