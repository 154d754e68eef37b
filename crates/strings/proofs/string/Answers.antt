-- `strings::string` meets its contract: a block string where `"""` stands, else a quoted string. Assumes nothing.
use mathlib.Core.Path.{sym, ap, ◌∙◌}
use Rattle.base.specs.Lexed.{lexed_of}
use Rattle.strings.proofs.Block.{quotes_long}
use Rattle.strings.proofs.Items.{quoted_at, block_at}
use Rattle.strings.proofs.string.Goals as goal

pub block_string_literal-requires : goal.block_string_literal-requires
block_string_literal-requires c = quotes_long c.args.rest.now (sym c.has_quotes.ensures ∙ c.if-has_quotes.true)

pub returns-then-has_quotes : goal.returns-then-has_quotes
returns-then-has_quotes c = c.block_string_literal.ensures ∙ ap lexed_of (block_at c.args.rest.now c.requires.rest_nonzero c.requires.rest_value (sym c.has_quotes.ensures ∙ c.if-has_quotes.true))

pub returns-else-has_quotes : goal.returns-else-has_quotes
returns-else-has_quotes c = c.string_literal.ensures ∙ ap lexed_of (quoted_at c.args.rest.now c.requires.rest_nonzero c.requires.rest_value (sym c.has_quotes.ensures ∙ c.if-has_quotes.false))
