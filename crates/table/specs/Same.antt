-- Whether two tokens are equal, in kind, fields and length: what the derived `==` of tokens says.
use Rattle.std.specs.Prelude.{Bool}
use Rattle.lexer.specs.contracts.token.TokenPartialEq.TheImpl.{ghosts}
use Rattle.lexer.specs.declared.token.Token.{Token}

unfoldable pub same : Token → Token → Bool
same a b = ghosts.eq a b
