-- The node of a value that is one token. Assumes nothing: these are definitions.
use Rattle.std.specs.Prelude.{ℕ, ◌≡◌, Option, Some, None, eqb}
use Rattle.base.specs.Text.{pick}
use Rattle.codes.specs.EventCodes as nodes
use Rattle.codes.specs.NodeNumbers.{number_of}
use Rattle.codes.specs.declared.node.Node.{Node}
use Rattle.syntax.specs.Token.{string, int, float, word_true, word_false, word_null}

-- INT_VALUE, FLOAT_VALUE, STRING_VALUE, BOOLEAN_VALUE or NULL_VALUE, by the token's kind; 0 if it is none of these
unfoldable pub scalar_node : ℕ → ℕ
scalar_node k =
    pick (eqb k int) nodes.int_value
    (pick (eqb k float) nodes.float_value
    (pick (eqb k string) nodes.string_value
    (pick (eqb k word_true) nodes.boolean_value
    (pick (eqb k word_false) nodes.boolean_value
    (pick (eqb k word_null) nodes.null_value 0)))))

-- the node of this number; none for 0
abbrev pub NodeOf : ℕ → Option Node → Type 0
NodeOf n (Some node) = number_of node ≡ n
NodeOf n None = n ≡ 0
