use Rattle.std.proofs.Common.{◌≡◌, ◌≤◌, List, ℕ, ◌∷◌, length, sym, ap, subst, ◌∙◌}
use Rattle.std.specs.List.{filter_map}
use Rattle.chyp_lex.specs.Tokens.{text_limit}
use Rattle.chyp_load.specs.Statements.{CutText}
use Rattle.chyp_check.specs.Project.{HaveDistinctNames, HaveShortTexts, Node, Reflects, node_of}
use Rattle.chyp_check.proofs.Nodes.{nodes-distinct, nodes-short}
use Rattle.chyp_check.proofs.project.Project.new.Goals as goal

pub reach-requires : goal.reach-requires
reach-requires c =
    let text = c.args.main.now.text in
    let made = filter_map node_of c.args.modules.now in
    let same = c.deref.ensures.value ∙ c.in_ok-nodes.ensures ∙ ap (λ (name : List ℕ). (name, text) ∷ made) c.requires.home in
    subst HaveDistinctNames (sym same) (nodes-distinct c.args.modules.now text c.distinct.ensures)

pub invariant_of-result : goal.invariant_of-result
invariant_of-result c =
    let text = c.args.main.now.text in
    let made = filter_map node_of c.args.modules.now in
    let same = c.in_ok-nodes.ensures ∙ ap (λ (name : List ℕ). (name, text) ∷ made) c.requires.home in
    let short = subst (λ (cut : CutText). length cut.text ≤ text_limit) c.statements.ensures c.cut.ensures.short in
    record {
      distinct = subst HaveDistinctNames (sym same) (nodes-distinct c.args.modules.now text c.distinct.ensures);
      short = subst HaveShortTexts (sym same) (nodes-short c.args.modules.now text short c.requires.within);
      many = subst (λ (nodes : List Node). length c.in_ok-reach.reach ≡ length nodes) c.deref.ensures.value c.in_ok-reach.ensures.many;
      reflects = subst (λ nodes. Reflects nodes c.in_ok-reach.reach) c.deref.ensures.value c.in_ok-reach.ensures.reflects;
    }
