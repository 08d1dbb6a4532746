-- A search in which no component has an image.
use Rattle.std.proofs.Common.{ℕ, ◌≡◌, max, [], length, sym, ap, subst, arith}
use Rattle.chyp_graph.specs.PlainGraph.{PlainGraph}
use Rattle.chyp_graph.specs.Validity.{IsValid}
use Rattle.chyp_pattern.specs.Pattern.{IsPattern, Parts}
use Rattle.chyp_pairs.specs.Pairs.{Has, Pairs}
use Rattle.chyp_iso.specs.Following.{Fits}
use Rattle.chyp_match.specs.Levels.{Stack}
use Rattle.chyp_match.specs.Search.{IsPlaced, IsSearch, start}

pub started : (l : Parts) (g m : PlainGraph) (pairs : Pairs) (stack : Stack) (a b c d e f : ℕ) → IsPattern l → m ≡ l.graph → IsValid m → IsValid g
    → a ≡ length m.edges → b ≡ length g.edges → c ≡ length m.wires → d ≡ length g.wires → e ≡ max a b → f ≡ max c d
    → pairs ≡ record { pairs = []; edges = e; wires = f } → (n : ℕ) → n ≡ length l.anchors → stack ≡ record { levels = []; room = n } → IsSearch l g (record { pairing = pairs; levels = stack })
started l g m pairs stack a b c d e f p q v w ea eb ec ed me mw is n count made =
    let edges : pairs.edges ≡ e = ap (λ (x : Pairs). x.edges) is in
    let wires : pairs.wires ≡ f = ap (λ (x : Pairs). x.wires) is in
    let none : pairs.pairs ≡ [] = ap (λ (x : Pairs). x.pairs) is in
    let rooms : stack.room ≡ n = ap (λ (x : Stack). x.room) made in
    let fits : Fits m g pairs = record {
      first_valid = v;
      second_valid = w;
      first = record { few_edges = omega arith; few_wires = omega arith };
      second = record { few_edges = omega arith; few_wires = omega arith };
      pairs = λ x k. absurd (subst (λ l. Has l x) none k);
    } in
    record {
      pattern = p;
      placed = subst (IsPlaced l g pairs) (sym (ap (λ (x : Stack). x.levels) made)) (start (subst (λ x. Fits x g pairs) q fits) none);
      room = omega arith;
    }
