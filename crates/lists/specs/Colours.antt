-- The colours of kinds. Assumes nothing: these are definitions.
use Rattle.std.specs.Prelude.{ℕ, eqb, leb}
use Rattle.base.specs.Text.{pick}
use Rattle.codes.specs.ItemCodes as codes
use Rattle.print.specs.declared.colour.Colour.{Colour}
use Rattle.print.specs.declared.colour.Colour.TheVariants as colour

-- red for errors, dim for Eof, whitespace and comments, bold for names, green for strings, cyan for numbers, yellow for punctuators
abbrev pub colour_of : ℕ → Colour
colour_of k =
    pick (leb codes.errors k) colour.Red
    (pick (leb k codes.comment) colour.Dim
    (pick (eqb k codes.name) colour.Bold
    (pick (eqb k codes.string) colour.Green
    (pick (eqb k codes.int) colour.Cyan
    (pick (eqb k codes.float) colour.Cyan colour.Yellow)))))
