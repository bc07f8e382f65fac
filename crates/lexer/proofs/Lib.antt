mod AllLaws
mod Beside
mod Between
mod Bodies
pub mod Comments
pub mod Cuts
mod Decided
mod DecidedCommands
mod DecidedDollars
mod DecidedNumbers
mod DecidedParts
mod Delimiters
mod Dollars
mod Extents
mod Forms
mod Found
mod Local
pub mod LoneSemicolon
mod Marks
mod Moves
mod NumberBytes
mod NumberParts
mod NumberSays
mod Numbers
mod Openers
mod PsqlArgs
mod PsqlLens
mod PsqlWords
mod QuoteLaws
mod Quotes
pub mod Readings
mod Recognised
mod Rest
mod Runs
mod Says
mod Spans
mod Starts
mod Stopped
mod Table
mod TokenAt
mod TokenLaws
pub mod Turns
mod Within
