-- "hand back the part of the text that a span covers". Assumes nothing: these are definitions.
use Rattle.std.specs.Prelude.{ℕ, ◌+◌, List, [], leb, length, take, drop}
use Rattle.base.specs.Text.{pick}

-- "it gives the empty part if start plus length, as whole numbers, passes the end"
unfoldable pub part_of : List ℕ → (start size : ℕ) → List ℕ
part_of t start size = pick (leb (start + size) (length t)) (take size (drop start t)) []
