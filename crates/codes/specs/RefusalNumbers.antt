-- Refusals, by their numbers. Assumes nothing: these are definitions.
use Rattle.std.specs.Prelude.{ℕ, ◌≡◌, Result, MatchResult}
use Rattle.codes.specs.Refusals as numbers
use Rattle.codes.specs.declared.refusal.Refusal.{Refusal}
use Rattle.codes.specs.declared.refusal.Refusal.TheVariants as the
use Rattle.codes.specs.declared.UnknownNumber.{UnknownNumber}

abbrev pub number_of : Refusal → ℕ
number_of the.DepthLimit = numbers.depth_limit
number_of the.TooLong = numbers.too_long
number_of the.NotUtf8 = numbers.not_utf8
number_of the.TokenLimit = numbers.token_limit
number_of the.ItemTapeFull = numbers.item_tape_full
number_of the.ErrorItem = numbers.error_item
number_of the.TooDeep = numbers.too_deep
number_of the.DollarInConstant = numbers.dollar_in_constant
number_of the.NoSentence = numbers.no_sentence
number_of the.EventTapeShort = numbers.event_tape_short
number_of the.EntryCode = numbers.entry_code

-- what `From` gives
abbrev pub Gives : Refusal → ℕ → Type 0
Gives x n = n ≡ number_of x

-- what `TryFrom` gives: the one with this number, if there is one
abbrev pub Names : ℕ → Result Refusal UnknownNumber → Type 0
Names n r = MatchResult r (λ x. number_of x ≡ n) (λ e. (x : Refusal) → number_of x ≡ n → ⊥)
