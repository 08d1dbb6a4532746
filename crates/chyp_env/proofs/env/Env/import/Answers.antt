use Rattle.std.proofs.Common.{◌≡◌, ◌∙◌, ◌++◌, None, false, All, List, option_copied, sym, ap, subst}
use Rattle.chyp_env.specs.Environment.{Binding, is_bound}
use Rattle.chyp_env.specs.Closed.{IsClosed}
use Rattle.chyp_env.specs.Import.{all_passed_on, new_in}
use Rattle.chyp_env.proofs.Closed.{closed-after, closed-import}
use Rattle.chyp_env.proofs.Turns.{new-are-free}
use Rattle.chyp_env.proofs.env.Env.import.Goals as goal

pub append-requires : goal.append-requires
append-requires c =
    let same : c.self.inside.entries ≡ c.args.self.now = cc (c.self.view_is, c.keep_plain.ensures) in
    record {
      fresh = subst (λ env. All (λ (b : Binding). is_bound env b.name ≡ false) c.in_ok-entries.entries) (sym same)
          (new-are-free c.args.self.now (all_passed_on (option_copied c.args.prefix) c.args.imported.now) c.in_ok-entries.entries c.in_ok-entries.ensures);
    }

pub invariant_of-self : goal.invariant_of-self
invariant_of-self c =
    let same : c.self.inside.entries ≡ c.args.self.now = cc (c.self.view_is, c.keep_plain.ensures) in
    let prefix = option_copied c.args.prefix in
    let old = subst IsClosed same c.self.invariant in
    let next = closed-import c.args.self.now c.args.imported.now prefix old c.closed.ensures c.requires.origins c.requires.fits c.requires.prefix in
    let more : c.self.inside.entries ++ c.in_ok-entries.entries ≡ c.args.self.now ++ new_in c.args.self.now (all_passed_on prefix c.args.imported.now) = cc (same, c.in_ok-entries.ensures) in
    closed-after c.append.result c.self.inside.entries (c.self.inside.entries ++ c.in_ok-entries.entries) c.append.new.self c.append.ensures.ok c.append.ensures.err c.self.invariant
    (subst IsClosed (sym more) next)
