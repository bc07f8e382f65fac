-- Every law of tokens, together.
use Rattle.lexer.proofs.Between.{between_characters}
use Rattle.lexer.proofs.Cuts.{adds_up, reads_cut, same_tail}
use Rattle.lexer.proofs.Local.{local, same_front}
use Rattle.lexer.proofs.QuoteLaws.{quote_laws}
use Rattle.lexer.proofs.TokenLaws.{token_laws}
use Rattle.lexer.specs.AllLaws.{AllLaws}

pub all_laws : AllLaws
all_laws = assumption (reads_cut, adds_up, between_characters, same_tail, local, same_front, quote_laws, token_laws)
