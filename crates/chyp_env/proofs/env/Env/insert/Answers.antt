use Rattle.std.proofs.Common.{◌≡◌, ◌++◌, ◌∷◌, [], sym, subst}
use Rattle.chyp_env.specs.Closed.{FitsBehind}
use Rattle.chyp_env.specs.declared.entry.Entry.{Entry}
use Rattle.chyp_env.specs.Entry.{entry_of}
use Rattle.chyp_env.proofs.Closed.{closed-after, closed-push}
use Rattle.chyp_env.proofs.env.Env.insert.Goals as goal

pub invariant_of-self : goal.invariant_of-self
invariant_of-self c =
    let same : c.self.inside.entries ≡ c.args.self.now = cc (c.self.view_is, c.keep_plain.ensures) in
    let kept = c.in_ok-entry.entry.value in
    let fits : FitsBehind c.self.inside.entries (entry_of kept) =
    subst (λ env. FitsBehind env (entry_of kept)) (sym same) (subst (λ (e : Entry). FitsBehind c.args.self.now (entry_of e)) (sym c.in_ok-entry.ensures.ok) c.requires.closed) in
    closed-after c.insert.result c.self.inside.entries (c.self.inside.entries ++ entry_of kept ∷ []) c.insert.new.self c.insert.ensures.ok c.insert.ensures.err c.self.invariant
    (closed-push c.self.inside.entries (entry_of kept) c.self.invariant fits)
