use Rattle.std.proofs.Common.{◌≡◌, ◌+◌, ◌<◌, [], ◌∷◌, ◌++◌, map, Err, refl, sym, ◌∙◌, ap, subst, arith, rules}
use Rattle.std.proofs.lemmas.Bool.{both_ways}
use Rattle.std.proofs.lemmas.List.{map_push}
use Rattle.std.proofs.lemmas.Result.{err_from_is_err_and, IfOk-weaker}
use Rattle.chyp_lex.specs.declared.token.TokenKind.TheVariants.{WordSw, LeftParenthesis, RightParenthesis, Star, Semicolon}
use Rattle.chyp_syntax.specs.declared.error.ParseError.TheVariants.{Syntax}
use Rattle.chyp_syntax.specs.Expected.{next, token, atom, tail, atoms_left, pars_left, places_left, answer, stopped, verdict}
use Rattle.chyp_syntax.specs.Beginning.{tokens_from}
use Rattle.chyp_syntax.specs.Reads.{BeginsWith, Passes}
use Rattle.chyp_syntax.specs.Sentence.{IsSwap, IsAtom, AreAtoms, IsPar, ArePars}
use Rattle.chyp_syntax.specs.Term.{TermTree, tree_of}
use Rattle.chyp_syntax.proofs.Atoms.{atom_stops, atom_past, named_there, wire_there, empty_there, swap_atom, swap_expects, deepest_stops, inner_expects, is_inner, atoms_one, atoms_more, pars_one, pars_more, is_tensor, is_chain}
use Rattle.chyp_syntax.proofs.Numbered.{terminal, tokens_from-more, tokens_from-past, begins_there, within_kind}
use Rattle.chyp_syntax.proofs.Pieces.{atom_one}
use Rattle.chyp_syntax.proofs.Separated.{so_far_more, so_far_last, again_more, again_last}
use Rattle.chyp_syntax.proofs.Trees.{tree_of-Named, tree_of-Wire, tree_of-Empty}
use Rattle.chyp_syntax.proofs.Verdicts.{name-answers, stops_here, token_passes}
use Rattle.chyp_syntax.proofs.terms.+terms.Goals as goal

-- ---- atoms

pub atom-returns-in_default-clause-stops : goal.atom-returns-in_default-clause-stops
atom-returns-in_default-clause-stops t c k is =
    let same : c.args.at ≡ k = cc in
    stops_here c.args.tokens.now c.args.at k (next (atom c.args.depth)) c.requires.within same (
    λ e. atom_past c.args.depth e (tokens_from c.args.tokens.now c.args.at) (tokens_from-past c.args.tokens.now c.args.at c.in_default.ensures.lookup.3)
    )

pub atom-swap-requires-clause-begins : goal.atom-swap-requires-clause-begins
atom-swap-requires-clause-begins t c =
    let token = c.in-Some.token.now in
    let tokens = c.args.tokens.now in
    let at = c.args.at in
    let here = tokens_from-more tokens at token c.in-Some.ensures.lookup.3.0 c.in-Some.ensures.lookup.1 in
    begins_there WordSw (tokens_from tokens at) (tokens_from tokens (at + 1)) (at, terminal token) here c.in-WordSw.is

pub atom-inner-requires : goal.atom-inner-requires
atom-inner-requires t c =
    let token = c.in-Some.token.now in
    let tokens = c.args.tokens.now in
    let at = c.args.at in
    let here = tokens_from-more tokens at token c.in-Some.ensures.lookup.3.0 c.in-Some.ensures.lookup.1 in
    let begins = begins_there LeftParenthesis (tokens_from tokens at) (tokens_from tokens (at + 1)) (at, terminal token) here c.in-LeftParenthesis.is in
    (search rules, (c.requires.few, (begins, c.in-Some.ensures.lookup.3.0)))

pub atom-returns-in-Ident-clause-read : goal.atom-returns-in-Ident-clause-read
atom-returns-in-Ident-clause-read t c =
    let token = c.in-Some.token.now in
    let tokens = c.args.tokens.now in
    let at = c.args.at in
    let here = tokens_from-more tokens at token c.in-Some.ensures.lookup.3.0 c.in-Some.ensures.lookup.1 in
    rw (tree_of-Named at) (named_there tokens at c.args.depth (at, terminal token) refl here c.in-Ident.is)

pub atom-returns-in-Ident-clause-passes : goal.atom-returns-in-Ident-clause-passes
atom-returns-in-Ident-clause-passes t c =
    let token = c.in-Some.token.now in
    let tokens = c.args.tokens.now in
    let at = c.args.at in
    let here = tokens_from-more tokens at token c.in-Some.ensures.lookup.3.0 c.in-Some.ensures.lookup.1 in
    atom_one tokens at c.args.depth (at, terminal token) here (name-answers c.args.depth (at, terminal token) c.in-Ident.is)

pub atom-returns-in-WordId-clause-read : goal.atom-returns-in-WordId-clause-read
atom-returns-in-WordId-clause-read t c =
    let token = c.in-Some.token.now in
    let tokens = c.args.tokens.now in
    let at = c.args.at in
    let here = tokens_from-more tokens at token c.in-Some.ensures.lookup.3.0 c.in-Some.ensures.lookup.1 in
    rw tree_of-Wire (wire_there (tokens_from tokens at) (tokens_from tokens (at + 1)) c.args.depth (at, terminal token) here c.in-WordId.is)

pub atom-returns-in-WordId-clause-passes : goal.atom-returns-in-WordId-clause-passes
atom-returns-in-WordId-clause-passes t c =
    let token = c.in-Some.token.now in
    let tokens = c.args.tokens.now in
    let at = c.args.at in
    let here = tokens_from-more tokens at token c.in-Some.ensures.lookup.3.0 c.in-Some.ensures.lookup.1 in
    atom_one tokens at c.args.depth (at, terminal token) here (ap (answer (atom c.args.depth)) c.in-WordId.is)

pub atom-returns-in-WordId0-clause-read : goal.atom-returns-in-WordId0-clause-read
atom-returns-in-WordId0-clause-read t c =
    let token = c.in-Some.token.now in
    let tokens = c.args.tokens.now in
    let at = c.args.at in
    let here = tokens_from-more tokens at token c.in-Some.ensures.lookup.3.0 c.in-Some.ensures.lookup.1 in
    rw tree_of-Empty (empty_there (tokens_from tokens at) (tokens_from tokens (at + 1)) c.args.depth (at, terminal token) here c.in-WordId0.is)

pub atom-returns-in-WordId0-clause-passes : goal.atom-returns-in-WordId0-clause-passes
atom-returns-in-WordId0-clause-passes t c =
    let token = c.in-Some.token.now in
    let tokens = c.args.tokens.now in
    let at = c.args.at in
    let here = tokens_from-more tokens at token c.in-Some.ensures.lookup.3.0 c.in-Some.ensures.lookup.1 in
    atom_one tokens at c.args.depth (at, terminal token) here (ap (answer (atom c.args.depth)) c.in-WordId0.is)

pub atom-returns-in-WordSw-clause-read : goal.atom-returns-in-WordSw-clause-read
atom-returns-in-WordSw-clause-read t c =
    IfOk-weaker c.swap.result (λ found. BeginsWith IsSwap (tokens_from c.args.tokens.now c.args.at) (tokens_from c.args.tokens.now found.1) (tree_of found.0))
    (λ found. BeginsWith (IsAtom c.args.depth) (tokens_from c.args.tokens.now c.args.at) (tokens_from c.args.tokens.now found.1) (tree_of found.0))
    (λ found read. swap_atom c.args.depth (tokens_from c.args.tokens.now c.args.at) (tokens_from c.args.tokens.now found.1) (tree_of found.0) read) c.swap.ensures.read

pub atom-returns-in-WordSw-clause-passes : goal.atom-returns-in-WordSw-clause-passes
atom-returns-in-WordSw-clause-passes t c =
    let token = c.in-Some.token.now in
    let tokens = c.args.tokens.now in
    let at = c.args.at in
    let here = tokens_from-more tokens at token c.in-Some.ensures.lookup.3.0 c.in-Some.ensures.lookup.1 in
    let begins = begins_there WordSw (tokens_from tokens at) (tokens_from tokens (at + 1)) (at, terminal token) here c.in-WordSw.is in
    IfOk-weaker c.swap.result (λ found. Passes (next (tail places_left)) tokens (at + 1) found.1) (λ found. Passes (next (atom c.args.depth)) tokens at found.1)
    (λ found passes e. swap_expects tokens at c.args.depth e begins ∙ passes e) c.swap.ensures.passes

pub atom-returns-in-WordSw-clause-stops : goal.atom-returns-in-WordSw-clause-stops
atom-returns-in-WordSw-clause-stops t c k is =
    let token = c.in-Some.token.now in
    let tokens = c.args.tokens.now in
    let at = c.args.at in
    let here = tokens_from-more tokens at token c.in-Some.ensures.lookup.3.0 c.in-Some.ensures.lookup.1 in
    let begins = begins_there WordSw (tokens_from tokens at) (tokens_from tokens (at + 1)) (at, terminal token) here c.in-WordSw.is in
    let stops = c.swap.ensures.stops k is in
    (stops.0, λ e. swap_expects tokens at c.args.depth e begins ∙ stops.1 e)

pub atom-returns-in_default-kind : goal.atom-returns-in_default-kind
atom-returns-in_default-kind t c =
    let token = c.in-Some.token.now in
    let tokens = c.args.tokens.now in
    let at = c.args.at in
    let here = tokens_from-more tokens at token c.in-Some.ensures.lookup.3.0 c.in-Some.ensures.lookup.1 in
    record {
      read = tt;
      passes = tt;
      within = tt;
      stops = λ k is. let same : at ≡ k = cc in
          stops_here tokens at k (next (atom c.args.depth)) c.requires.within same (
          λ e. atom_stops c.args.depth e (tokens_from tokens at) (tokens_from tokens (at + 1)) (at, terminal token) here
          c.in_default-kind.not-Ident c.in_default-kind.not-Dotted c.in_default-kind.not-WordId c.in_default-kind.not-WordId0 c.in_default-kind.not-WordSw c.in_default-kind.not-LeftParenthesis
          );
    }

-- ---- parentheses

pub inner-returns-then-depth-eq0-clause-stops : goal.inner-returns-then-depth-eq0-clause-stops
inner-returns-then-depth-eq0-clause-stops t c k is =
    let same : c.args.at ≡ k = cc in
    let tokens = c.args.tokens.now in
    let at = c.args.at in
    let zero_left : c.args.depth ≡ 0 = c.if-depth-eq0.true in
    stops_here tokens at k (next (atom c.args.depth)) (omega arith) same (
    λ e. subst (λ d. verdict (next (atom d) e) (tokens_from tokens at) ≡ stopped (tokens_from tokens at)) (sym zero_left) (deepest_stops e tokens at c.requires.begins)
    )

pub inner-returns-in_err-found-clause-stops : goal.inner-returns-in_err-found-clause-stops
inner-returns-in_err-found-clause-stops t c k is =
    let p = err_from_is_err_and c.from_residual.result c.from_residual.ensures.1 in
    let why : c.in_err-found.field-0.0 ≡ Syntax k = cc (p.1, p.2) in
    let stops = c.in_err-found.ensures.stops k (ap Err why) in
    let some : 0 < c.args.depth = omega (arith, c.if-depth-eq0.false) in
    (stops.0, λ e. inner_expects c.args.tokens.now c.args.at c.args.depth e some c.requires.begins ∙ stops.1 (next (token RightParenthesis) e))

pub inner-returns-in_err-expect-clause-stops : goal.inner-returns-in_err-expect-clause-stops
inner-returns-in_err-expect-clause-stops t c k is =
    let p = err_from_is_err_and c.from_residual-in_err-expect.result c.from_residual-in_err-expect.ensures.1 in
    let why : c.in_err-expect.field-0.0 ≡ Syntax k = cc (p.1, p.2) in
    let stops = c.in_err-expect.ensures.stops k (ap Err why) in
    let some : 0 < c.args.depth = omega (arith, c.if-depth-eq0.false) in
    (stops.0, λ e. inner_expects c.args.tokens.now c.args.at c.args.depth e some c.requires.begins ∙ c.in_ok-found.ensures.passes (next (token RightParenthesis) e) ∙ stops.1 e)

pub inner-returns-clause-read : goal.inner-returns-clause-read
inner-returns-clause-read t c =
    let some : 0 < c.args.depth = omega (arith, c.if-depth-eq0.false) in
    let found : TermTree = tree_of c.in_ok-found.found in
    is_inner c.args.tokens.now c.args.at c.in_ok-found.end c.args.depth found some c.requires.begins c.in_ok-found.ensures.read c.in_ok-expect.ensures.there

pub inner-returns-clause-passes : goal.inner-returns-clause-passes
inner-returns-clause-passes t c e =
    let some : 0 < c.args.depth = omega (arith, c.if-depth-eq0.false) in
    inner_expects c.args.tokens.now c.args.at c.args.depth e some c.requires.begins ∙ c.in_ok-found.ensures.passes (next (token RightParenthesis) e)
    ∙ token_passes c.args.tokens.now c.in_ok-found.end RightParenthesis e c.in_ok-expect.ensures.there

-- ---- pars

pub par-returns-then-not-is_kind-clause-read : goal.par-returns-then-not-is_kind-clause-read
par-returns-then-not-is_kind-clause-read t c =
    let tokens = c.args.tokens.now in
    let depth = c.args.depth in
    let parts = c.loop-parts.parts in
    let part = c.in_ok-part.part in
    let tree : TermTree = tree_of part in
    let end = c.in_ok-part.end in
    let last = so_far_last (IsAtom depth) (λ xs ts _. AreAtoms depth xs ts) Star (λ _. []) (atoms_one depth) (atoms_more depth)
    tokens c.args.start c.loop-parts.at end (map tree_of parts) [] tree c.loop-parts.invariant.so_far c.in_ok-part.ensures.read in
    rw c.in_ok-tensor.ensures (is_tensor depth (tokens_from tokens c.args.start) (tokens_from tokens end) (map tree_of parts ++ tree ∷ []) last)

pub par-returns-then-not-is_kind-clause-passes : goal.par-returns-then-not-is_kind-clause-passes
par-returns-then-not-is_kind-clause-passes t c =
    again_last (next (atom c.args.depth)) (atoms_left c.args.depth) (λ e. refl) c.args.tokens.now c.args.start c.loop-parts.at c.in_ok-part.end c.loop-parts.invariant.again c.in_ok-part.ensures.passes
    (λ begins. both_ways c.is_kind.result c.if-not-is_kind.true (c.is_kind.ensures.1 begins))

pub par-loop-parts-preserved : goal.par-loop-parts-preserved
par-loop-parts-preserved t c =
    let tokens = c.args.tokens.now in
    let depth = c.args.depth in
    let start = c.args.start in
    let at = c.loop-parts.at in
    let parts = c.loop-parts.parts in
    let part = c.in_ok-part.part in
    let tree : TermTree = tree_of part in
    let end = c.in_ok-part.end in
    let trees : map tree_of c.push.new.self ≡ map tree_of parts ++ tree ∷ [] = ap (map tree_of) c.in_ok-push.ensures.ok ∙ map_push tree_of parts part in
    let star = c.is_kind.ensures.0 c.if-not-is_kind.false in
    let within = c.in_ok-part.ensures.within in
    let before = c.loop-parts.invariant.within in
    let more_there = within_kind tokens end Star star in
    let more = so_far_more (IsAtom depth) (λ xs ts _. AreAtoms depth xs ts) Star (λ _. []) (atoms_one depth) (atoms_more depth)
    tokens start at end (map tree_of parts) [] tree c.loop-parts.invariant.so_far c.in_ok-part.ensures.read star in
    record {
      within = (omega arith, omega arith);
      so_far = rw trees more;
      again = again_more (next (atom depth)) (atoms_left depth) (λ e. refl) tokens start at end c.loop-parts.invariant.again c.in_ok-part.ensures.passes star;
    }

-- ---- terms

pub term-returns-then-not-is_kind-clause-read : goal.term-returns-then-not-is_kind-clause-read
term-returns-then-not-is_kind-clause-read t c =
    let tokens = c.args.tokens.now in
    let depth = c.args.depth in
    let parts = c.loop-semis.parts in
    let part = c.in_ok-part.part in
    let tree : TermTree = tree_of part in
    let end = c.in_ok-part.end in
    let last = so_far_last (IsPar depth) (ArePars depth) Semicolon (λ n. n ∷ []) (pars_one depth) (pars_more depth)
    tokens c.args.start c.loop-semis.at end (map tree_of parts) c.loop-semis.semis tree c.loop-semis.invariant.so_far c.in_ok-part.ensures.read in
    rw c.in_ok-chain.ensures (is_chain depth (tokens_from tokens c.args.start) (tokens_from tokens end) (map tree_of parts ++ tree ∷ []) c.loop-semis.semis last)

pub term-returns-then-not-is_kind-clause-passes : goal.term-returns-then-not-is_kind-clause-passes
term-returns-then-not-is_kind-clause-passes t c =
    again_last (λ e. next (atom c.args.depth) (next (tail (atoms_left c.args.depth)) e)) (pars_left c.args.depth) (λ e. refl) c.args.tokens.now c.args.start c.loop-semis.at c.in_ok-part.end
    c.loop-semis.invariant.again c.in_ok-part.ensures.passes (λ begins. both_ways c.is_kind.result c.if-not-is_kind.true (c.is_kind.ensures.1 begins))

pub term-loop-semis-preserved : goal.term-loop-semis-preserved
term-loop-semis-preserved t c =
    let tokens = c.args.tokens.now in
    let depth = c.args.depth in
    let start = c.args.start in
    let at = c.loop-semis.at in
    let parts = c.loop-semis.parts in
    let part = c.in_ok-part.part in
    let tree : TermTree = tree_of part in
    let end = c.in_ok-part.end in
    let trees : map tree_of c.push.new.self ≡ map tree_of parts ++ tree ∷ [] = ap (map tree_of) c.in_ok-push.ensures.ok ∙ map_push tree_of parts part in
    let semi = c.is_kind.ensures.0 c.if-not-is_kind.false in
    let within = c.in_ok-part.ensures.within in
    let before = c.loop-semis.invariant.within in
    let more_there = within_kind tokens end Semicolon semi in
    let more = so_far_more (IsPar depth) (ArePars depth) Semicolon (λ n. n ∷ []) (pars_one depth) (pars_more depth)
    tokens start at end (map tree_of parts) c.loop-semis.semis tree c.loop-semis.invariant.so_far c.in_ok-part.ensures.read semi in
    record {
      within = (omega arith, omega arith);
      so_far = rw (trees, c.in_ok-push-2.ensures.ok) more;
      again = again_more (λ e. next (atom depth) (next (tail (atoms_left depth)) e)) (pars_left depth) (λ e. refl) tokens start at end c.loop-semis.invariant.again c.in_ok-part.ensures.passes semi;
    }
