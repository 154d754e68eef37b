-- A type and a type but for its `!` meet their contracts, together: depth falls from one to the other. Assumes nothing.
use mathlib.Core.Path.{refl, sym, ◌∙◌}
use Rattle.std.proofs.lemmas.Result.{err_from_is_err_and}
use Rattle.parser.proofs.Codes.{is_yes}
use Rattle.values.proofs.Steps.{name_kind}
use Rattle.typerefs.specs.Walk.{walked, refused}
use Rattle.typerefs.proofs.Walks.{base_name, base_other, base_deep, below_name, list_walk, list_stop, type_walk, type_stop}
use Rattle.typerefs.proofs.ty.+types.Goals as goal

pub base_type-returns-then-is_name : goal.base_type-returns-then-is_name
base_type-returns-then-is_name t c = λ at F.
    let e = sym c.is_name.ensures ∙ c.if-is_name.true in
    walked _ (rw (c.reached.ensures.next, c.reached.ensures.end) (base_name c.args.tokens.now.text.now at c.args.token F c.args.depth e)) c.named.ensures.same c.named.ensures.puts.kept (λ b. c.named.ensures)
    (below_name c.args.tokens.now.text.now at c.args.token F c.args.bangs.now c.args.depth e) (rw c.reached.ensures.next (F.inside (name_kind _ e).1))

pub base_type-returns-then-not-is_list : goal.base_type-returns-then-not-is_list
base_type-returns-then-not-is_list t c = λ at F.
    refused refl refl (rw (c.refused.ensures.refusal, c.refused.ensures.place) (base_other c.args.tokens.now.text.now at c.args.token F c.args.depth (sym c.is_name.ensures ∙ c.if-is_name.false) (sym c.is-is_list.ensures ∙ c.if-not-is_list.true)))

pub base_type-returns-then-depth-eq0 : goal.base_type-returns-then-depth-eq0
base_type-returns-then-depth-eq0 t c = λ at F.
    refused refl refl (rw (c.too_deep.ensures.refusal, c.too_deep.ensures.place) (base_deep c.args.tokens.now.text.now at c.args.token F c.args.depth c.if-depth-eq0.true (is_yes c.is-is_list.ensures c.if-not-is_list.false) c.peek.result c.peek.ensures))

pub base_type-returns-in_err-item : goal.base_type-returns-in_err-item
base_type-returns-in_err-item t c =
    let p = err_from_is_err_and c.from_residual.result c.from_residual.ensures.1 in
    rw (p.1, p.2) (λ at F.
    list_stop c.args.tokens.now.text.now at c.args.token F c.args.depth c.if-depth-eq0.false (is_yes c.is-is_list.ensures c.if-not-is_list.false) c.args.bangs.now c.walk.new.bangs
    c.open_with.ensures c.in_err-item.ensures)

pub base_type-returns : goal.base_type-returns
base_type-returns t c = λ at F.
    list_walk c.args.tokens.now.text.now at c.args.token F c.args.depth c.if-depth-eq0.false (is_yes c.is-is_list.ensures c.if-not-is_list.false) c.args.bangs.now c.walk.new.bangs
    c.open_with.ensures c.in_ok-item.ensures c.end_list.ensures

pub walk-returns-in_err-base : goal.walk-returns-in_err-base
walk-returns-in_err-base t c =
    let p = err_from_is_err_and c.from_residual.result c.from_residual.ensures.1 in
    rw (p.1, p.2) (type_stop c.args.tokens.now.text.now c.args.at c.peek-token.result c.peek-token.ensures c.args.depth c.args.bangs.now c.base_type.new.bangs c.base_type.new.bangs
    c.open_noted.ensures (c.in_err-base.ensures c.args.at c.peek-token.ensures))

pub walk-returns : goal.walk-returns
walk-returns t c =
    type_walk c.args.tokens.now.text.now c.args.at c.peek-token.result c.peek-token.ensures c.args.depth c.args.bangs.now c.base_type.new.bangs c.note.new.bangs
    c.open_noted.ensures (c.in_ok-base.ensures c.args.at c.peek-token.ensures) c.peek-next.result c.peek-next.ensures c.is.ensures c.note.ensures c.end_type.ensures
