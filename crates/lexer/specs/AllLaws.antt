-- The laws that the call of a token promises, of every text.
use Rattle.lexer.specs.Laws.{AddsUp, ReadsCut, SameTail}
use Rattle.lexer.specs.QuoteLaws.{QuoteLaws}
use Rattle.lexer.specs.ReachLaws.{BetweenCharacters, Local, SameFront}
use Rattle.lexer.specs.TokenLaws.{TokenLaws}

pub record AllLaws : Type 0 where
  pub reads_cut : ReadsCut
  pub adds_up : AddsUp
  pub between_characters : BetweenCharacters
  pub same_tail : SameTail
  pub local : Local
  pub same_front : SameFront
  pub quotes : QuoteLaws
  pub tokens : TokenLaws
