-- What each entry reads, as trees. Assumes nothing: these are definitions.
use Rattle.std.specs.Prelude.{ℕ, ◌≤◌, min, ◌≡◌, true, false, List, [], ◌∷◌, ◌++◌, length}
use Rattle.base.specs.Item.{Item}
use Rattle.utf8.specs.Utf8.{Utf8}
use Rattle.tape.specs.Entry.{room}
use Rattle.rules.specs.Items.{items as items_of}
use Rattle.reader.specs.Answers.{longest}
use Rattle.syntax.specs.Token.{eof, Token, token}
use Rattle.syntax.specs.Words.{tokens}
use Rattle.syntax.specs.Grammar as grammar
use Rattle.syntax.specs.Types as types
use Rattle.syntax.specs.Selections as selections
use Rattle.grammar.specs.declared.Entry.{Entry}
use Rattle.grammar.specs.declared.Entry.TheVariants.{Value, Constant, Ty, SelectionSet}
use Rattle.grammar.specs.Answers.{deepest, first_error}

abbrev pub Tree : Entry → Type 0
Tree Value = grammar.Value false
Tree Constant = grammar.Value true
Tree Ty = types.Ty
Tree SelectionSet = selections.SelectionSet

-- its tokens, events and depth
abbrev pub tree_tokens : (e : Entry) → Tree e → List Token
tree_tokens Value v = grammar.value_tokens v
tree_tokens Constant v = grammar.value_tokens v
tree_tokens Ty t = types.ty_tokens t
tree_tokens SelectionSet s = selections.set_tokens s

abbrev pub tree_events : (e : Entry) → Tree e → List Item
tree_events Value v = grammar.value_events v
tree_events Constant v = grammar.value_events v
tree_events Ty t = types.ty_events t
tree_events SelectionSet s = selections.set_events s

abbrev pub tree_depth : (e : Entry) → Tree e → ℕ
tree_depth Value v = grammar.value_depth v
tree_depth Constant v = grammar.value_depth v
tree_depth Ty t = types.ty_depth t
tree_depth SelectionSet s = selections.set_depth s

-- "a UTF-8 text within the size, limit and room that has no error item", with a depth limit that is allowed
pub record Clear (t : List ℕ) (limit depth : ℕ) (items : List ℕ) : Type 0 where
  pub utf8 : Utf8 t
  pub short : length t ≤ longest
  pub admitted : length (items_of t) ≤ min limit (room items)
  pub faultless : first_error (items_of t) ≡ length (items_of t)
  pub allowed : depth ≤ deepest

-- the significant tokens of the text t are those of the tree x, of depth at most d; Eof ends them
pub record Sentence (e : Entry) (d : ℕ) (t : List ℕ) (x : Tree e) : Type 0 where
  pub deep : tree_depth e x ≤ d
  pub spells : tokens t ≡ tree_tokens e x ++ (token eof (length t) 0 ∷ [])
