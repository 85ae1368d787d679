-- The liquidity identifier as an answer
use Rattle.std.specs.Prelude.{Bool, true, false}
use Rattle.book.specs.declared.answers.Identifier.{Identifier}
use Rattle.book.specs.declared.answers.Identifier.TheVariants.{Neither, Buys, Sells, Both}

-- the identifier, by whether buys and sells are on
abbrev pub identifier_of : (buys sells : Bool) → Identifier
identifier_of false false = Neither
identifier_of true false = Buys
identifier_of false true = Sells
identifier_of true true = Both
