-- What is found at a place of the text: document 01's code and size for each case. Assumes nothing: these are definitions.
use Rattle.std.specs.Prelude.{ℕ, ◌-◌, ltb}
use Rattle.base.specs.Text.{pick}
use Rattle.base.specs.Item.{Lexeme}
use Rattle.codes.specs.ItemCodes as codes
use Rattle.base.specs.declared.lexed.Lexed.{Lexed}
use Rattle.base.specs.declared.lexed.Lexed.TheVariants.{Token, Error}

-- an item as what is found: a token by its code, or an error, whose code is 64 + error
unfoldable pub lexed_of : Lexeme → Lexed
lexed_of x = pick (ltb x.code codes.errors) (Token x.code x.size) (Error (x.code - codes.errors) x.size)

-- document 01's code of what was found
abbrev pub code_of : Lexed → ℕ
code_of (Token kind size) = kind
code_of (Error fault size) = codes.error fault

abbrev pub size_of : Lexed → ℕ
size_of (Token kind size) = size
size_of (Error fault size) = size
