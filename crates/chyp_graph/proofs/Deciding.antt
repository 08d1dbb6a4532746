-- Whether two edges are the same is decided.
use Rattle.std.proofs.Common.{◌≡◌, ◌∙◌, ap, ap₂}
use Rattle.chyp_term.proofs.Deciding.{Decided, decide-both, decide-numbers, decided-by}
use Rattle.chyp_graph.specs.PlainGraph.{Edge}

pub decide-edge : (d e : Edge) → Decided (d ≡ e)
decide-edge d e =
    decided-by (λ r. same d e r.0 r.1.0 r.1.1) (λ q. (ap (λ (x : Edge). x.name) q, (ap (λ (x : Edge). x.sources) q, ap (λ (x : Edge). x.targets) q)))
    (decide-both (decide-numbers d.name e.name) (decide-both (decide-numbers d.sources e.sources) (decide-numbers d.targets e.targets)))
  where
    same : (d e : Edge) → d.name ≡ e.name → d.sources ≡ e.sources → d.targets ≡ e.targets → d ≡ e
    same d e n s t =
        ap (λ x. record { name = x; sources = d.sources; targets = d.targets }) n ∙ ap₂ (λ x y. record { name = e.name; sources = x; targets = y }) s t
