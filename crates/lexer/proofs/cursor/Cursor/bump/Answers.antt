use Rattle.lexer.proofs.Moves.{moved_by, stayed}
use Rattle.lexer.proofs.Rest.{here, inside, past}
use Rattle.lexer.proofs.cursor.Cursor.bump.Goals as goal
use Rattle.lexer.specs.Cursor.{next_len, rest}
use Rattle.std.proofs.Common.{Some, sym, refl, ap, ◌∙◌, arith, rules}
use Rattle.std.specs.List.{slice_get}

pub returns-in_err-byte-clause-moved : goal.returns-in_err-byte-clause-moved
returns-in_err-byte-clause-moved g c =
    let none = ap rest (sym c.self.view_is) ∙ past (g.T.Text.bytes c.self.inside.text.now) c.self.inside.place c.in_err-byte.ensures in
    moved_by (sym (ap next_len none)) (stayed c.args.self.now)

pub overflow_add-self : goal.overflow_add-self
overflow_add-self g c =
    let within = inside (g.T.Text.bytes c.self.inside.text.now) c.self.inside.place c.in_ok-byte.byte c.in_ok-byte.ensures in
    let short = g.met.T.Text.short c.self.inside.text.now in
    search rules

pub returns-clause-value : goal.returns-clause-value
returns-clause-value g c =
    let front = ap rest (sym c.self.view_is) ∙ here (g.T.Text.bytes c.self.inside.text.now) c.self.inside.place c.in_ok-byte.byte c.in_ok-byte.ensures in
    ap Some c.from.ensures ∙ sym (ap (λ l. slice_get l 0) front)

pub returns-clause-moved : goal.returns-clause-moved
returns-clause-moved g c =
    let len = ap next_len (here (g.T.Text.bytes c.self.inside.text.now) c.self.inside.place c.in_ok-byte.byte c.in_ok-byte.ensures) in
    let ordered = c.self.invariant in
    rw (← c.self.view_is) record { text = refl; place = omega arith; eaten = omega arith }
