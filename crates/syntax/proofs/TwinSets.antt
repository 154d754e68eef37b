-- A selection set's tokens may stand elsewhere, too. Assumes nothing.
use Prim.Native.Nat.{suc}
use mathlib.Core.Path.{refl, sym, ap, ap₂, ◌∙◌}
use mathlib.Core.List.{List, [], ◌∷◌, ◌++◌}
use Rattle.syntax.specs.Token.{paren_l, paren_r, dots, colon, at, brace_l, brace_r, word_on, Token}
use Rattle.syntax.specs.Grammar.{of, name_token, kind_of, fragment_kind, value_tokens, value_depth}
use Rattle.syntax.specs.Selections.{Argument, Arguments, one_argument, more_arguments, OptArguments, no_arguments, arguments, Directive, Directives, one_directive, more_directives, OptDirectives, no_directives, directives, OptAlias, no_alias, alias, OptCondition, no_condition, condition, SelectionSet, selection_set, Selections, one_selection, more_selections, Selection, field, fragment_spread, inline_fragment, OptSelectionSet, no_selection_set, some_selection_set, argument_tokens, arguments_tokens, opt_arguments_tokens, directive_tokens, directives_tokens, opt_directives_tokens, alias_tokens, condition_tokens, set_tokens, selection_tokens, selections_tokens, opt_set_tokens, argument_events, arguments_events, opt_arguments_events, directive_events, directives_events, opt_directives_events, alias_events, condition_events, set_events, selection_events, selections_events, opt_set_events, arguments_depth, opt_arguments_depth, directives_depth, opt_directives_depth, set_depth, selection_depth, selections_depth, opt_set_depth}
use Rattle.syntax.proofs.Twins.{Like, told, next, then, Twin, split, opened, lone, closed, none_left, value_twin}

-- ---- arguments

argument_twin : (a : Argument) (us : List Token) → Like us (argument_tokens a) → Twin {A = Argument} argument_tokens argument_events (λ x. value_depth x.value) a us
argument_twin a us h =
    let m = opened us (kind_of a.name.word) a.name.span (of colon a.colon_at ∷ value_tokens a.value) h in
    let c = opened m.rest colon a.colon_at (value_tokens a.value) m.like in
    let v = value_twin a.value c.rest c.like in
    record {
      to = record { name = record { word = a.name.word; span = m.span }; colon_at = c.span; value = v.to };
      tokens = rw (v.tokens, c.whole) m.whole;
      events = next refl (then (next refl (next refl (next refl (next refl v.events)))) (told refl));
      depth = v.depth;
    }

arguments_twin : (xs : Arguments) (us : List Token) → Like us (arguments_tokens xs) → Twin {A = Arguments} arguments_tokens arguments_events arguments_depth xs us
arguments_twin (one_argument a) us h =
    let t = argument_twin a us h in
    record { to = one_argument t.to; tokens = t.tokens; events = t.events; depth = t.depth }
arguments_twin (more_arguments a xs) us h =
    let p = split us (argument_tokens a) (arguments_tokens xs) h in
    let t = argument_twin a p.left p.first in
    let z = arguments_twin xs p.right p.second in
    record {
      to = more_arguments t.to z.to;
      tokens = ap₂ (λ (x y : List Token). x ++ y) t.tokens z.tokens ∙ p.whole;
      events = then t.events z.events;
      depth = rw (t.depth, z.depth);
    }

opt_arguments_twin : (xs : OptArguments) (us : List Token) → Like us (opt_arguments_tokens xs) → Twin {A = OptArguments} opt_arguments_tokens opt_arguments_events opt_arguments_depth xs us
opt_arguments_twin no_arguments us h = record { to = no_arguments; tokens = sym (none_left us h); events = told refl; depth = refl }
opt_arguments_twin (arguments l xs r) us h =
    let o = opened us paren_l l (arguments_tokens xs ++ (of paren_r r ∷ [])) h in
    let c = closed o.rest (arguments_tokens xs) paren_r r o.like in
    let t = arguments_twin xs c.left c.like in
    record {
      to = arguments o.span t.to c.span;
      tokens = rw (t.tokens, c.whole) o.whole;
      events = next refl (then (next refl (then t.events (told refl))) (told refl));
      depth = t.depth;
    }

-- ---- directives

directive_twin : (d : Directive) (us : List Token) → Like us (directive_tokens d) → Twin {A = Directive} directive_tokens directive_events (λ x. opt_arguments_depth x.args) d us
directive_twin d us h =
    let o = opened us at d.at_at (name_token d.name ∷ opt_arguments_tokens d.args) h in
    let m = opened o.rest (kind_of d.name.word) d.name.span (opt_arguments_tokens d.args) o.like in
    let t = opt_arguments_twin d.args m.rest m.like in
    record {
      to = record { at_at = o.span; name = record { word = d.name.word; span = m.span }; args = t.to };
      tokens = rw (t.tokens, m.whole) o.whole;
      events = next refl (then (next refl (next refl (next refl (next refl t.events)))) (told refl));
      depth = t.depth;
    }

directives_twin : (ds : Directives) (us : List Token) → Like us (directives_tokens ds) → Twin {A = Directives} directives_tokens directives_events directives_depth ds us
directives_twin (one_directive d) us h =
    let t = directive_twin d us h in
    record { to = one_directive t.to; tokens = t.tokens; events = t.events; depth = t.depth }
directives_twin (more_directives d ds) us h =
    let p = split us (directive_tokens d) (directives_tokens ds) h in
    let t = directive_twin d p.left p.first in
    let z = directives_twin ds p.right p.second in
    record {
      to = more_directives t.to z.to;
      tokens = ap₂ (λ (x y : List Token). x ++ y) t.tokens z.tokens ∙ p.whole;
      events = then t.events z.events;
      depth = rw (t.depth, z.depth);
    }

opt_directives_twin : (ds : OptDirectives) (us : List Token) → Like us (opt_directives_tokens ds) → Twin {A = OptDirectives} opt_directives_tokens opt_directives_events opt_directives_depth ds us
opt_directives_twin no_directives us h = record { to = no_directives; tokens = sym (none_left us h); events = told refl; depth = refl }
opt_directives_twin (directives ds) us h =
    let t = directives_twin ds us h in
    record { to = directives t.to; tokens = t.tokens; events = next refl (then t.events (told refl)); depth = t.depth }

-- ---- aliases and type conditions have no depth

alias_twin : (a : OptAlias) (us : List Token) → Like us (alias_tokens a) → Twin {A = OptAlias} alias_tokens alias_events (λ x. 0) a us
alias_twin no_alias us h = record { to = no_alias; tokens = sym (none_left us h); events = told refl; depth = refl }
alias_twin (alias n c) us h =
    let m = opened us (kind_of n.word) n.span (of colon c ∷ []) h in
    let l = lone m.rest colon c m.like in
    record { to = alias (record { word = n.word; span = m.span }) l.span; tokens = rw l.whole m.whole; events = told refl; depth = refl }

condition_twin : (c : OptCondition) (us : List Token) → Like us (condition_tokens c) → Twin {A = OptCondition} condition_tokens condition_events (λ x. 0) c us
condition_twin no_condition us h = record { to = no_condition; tokens = sym (none_left us h); events = told refl; depth = refl }
condition_twin (condition o n) us h =
    let m = opened us word_on o (name_token n ∷ []) h in
    let l = lone m.rest (kind_of n.word) n.span m.like in
    record { to = condition m.span (record { word = n.word; span = l.span }); tokens = rw l.whole m.whole; events = told refl; depth = refl }

-- ---- selection sets

mutual
  pub set_twin : (s : SelectionSet) (us : List Token) → Like us (set_tokens s) → Twin {A = SelectionSet} set_tokens set_events set_depth s us
  set_twin (selection_set l ss r) us h =
      let o = opened us brace_l l (selections_tokens ss ++ (of brace_r r ∷ [])) h in
      let c = closed o.rest (selections_tokens ss) brace_r r o.like in
      let t = selections_twin ss c.left c.like in
      record {
        to = selection_set o.span t.to c.span;
        tokens = rw (t.tokens, c.whole) o.whole;
        events = next refl (then (next refl (then t.events (told refl))) (told refl));
        depth = ap suc t.depth;
      }

  selections_twin : (ss : Selections) (us : List Token) → Like us (selections_tokens ss) → Twin {A = Selections} selections_tokens selections_events selections_depth ss us
  selections_twin (one_selection s) us h =
      let t = selection_twin s us h in
      record { to = one_selection t.to; tokens = t.tokens; events = t.events; depth = t.depth }
  selections_twin (more_selections s ss) us h =
      let p = split us (selection_tokens s) (selections_tokens ss) h in
      let t = selection_twin s p.left p.first in
      let z = selections_twin ss p.right p.second in
      record {
        to = more_selections t.to z.to;
        tokens = rw (t.tokens, z.tokens) p.whole;
        events = then t.events z.events;
        depth = rw (t.depth, z.depth);
      }

  selection_twin : (s : Selection) (us : List Token) → Like us (selection_tokens s) → Twin {A = Selection} selection_tokens selection_events selection_depth s us
  selection_twin (field a n xs ds s) us h =
      let p = split us (alias_tokens a) (name_token n ∷ (opt_arguments_tokens xs ++ (opt_directives_tokens ds ++ opt_set_tokens s))) h in
      let m = opened p.right (kind_of n.word) n.span (opt_arguments_tokens xs ++ (opt_directives_tokens ds ++ opt_set_tokens s)) p.second in
      let q = split m.rest (opt_arguments_tokens xs) (opt_directives_tokens ds ++ opt_set_tokens s) m.like in
      let r = split q.right (opt_directives_tokens ds) (opt_set_tokens s) q.second in
      let b = alias_twin a p.left p.first in
      let x = opt_arguments_twin xs q.left q.first in
      let d = opt_directives_twin ds r.left r.first in
      let t = opt_set_twin s r.right r.second in
      record {
        to = field b.to (record { word = n.word; span = m.span }) x.to d.to t.to;
        tokens = rw (b.tokens, x.tokens, d.tokens, t.tokens, r.whole, q.whole, m.whole) p.whole;
        events = next refl (then (then b.events (next refl (next refl (next refl (then x.events (then d.events t.events)))))) (told refl));
        depth = rw (x.depth, d.depth, t.depth);
      }
  selection_twin (fragment_spread e w n ds) us h =
      let o = opened us dots e (of (fragment_kind w) n ∷ opt_directives_tokens ds) h in
      let m = opened o.rest (fragment_kind w) n (opt_directives_tokens ds) o.like in
      let d = opt_directives_twin ds m.rest m.like in
      record {
        to = fragment_spread o.span w m.span d.to;
        tokens = rw (d.tokens, m.whole) o.whole;
        events = next refl (then (next refl (next refl (next refl (next refl (next refl (next refl d.events)))))) (told refl));
        depth = d.depth;
      }
  selection_twin (inline_fragment e c ds s) us h =
      let o = opened us dots e (condition_tokens c ++ (opt_directives_tokens ds ++ set_tokens s)) h in
      let p = split o.rest (condition_tokens c) (opt_directives_tokens ds ++ set_tokens s) o.like in
      let q = split p.right (opt_directives_tokens ds) (set_tokens s) p.second in
      let x = condition_twin c p.left p.first in
      let d = opt_directives_twin ds q.left q.first in
      let t = set_twin s q.right q.second in
      record {
        to = inline_fragment o.span x.to d.to t.to;
        tokens = rw (x.tokens, d.tokens, t.tokens, q.whole, p.whole) o.whole;
        events = next refl (then (next refl (then x.events (then d.events t.events))) (told refl));
        depth = rw (d.depth, t.depth);
      }

  opt_set_twin : (s : OptSelectionSet) (us : List Token) → Like us (opt_set_tokens s) → Twin {A = OptSelectionSet} opt_set_tokens opt_set_events opt_set_depth s us
  opt_set_twin no_selection_set us h = record { to = no_selection_set; tokens = sym (none_left us h); events = told refl; depth = refl }
  opt_set_twin (some_selection_set s) us h =
      let t = set_twin s us h in
      record { to = some_selection_set t.to; tokens = t.tokens; events = t.events; depth = t.depth }
