use Rattle.std.proofs.Common.{ℕ, ◌≡◌, map, take}
use Rattle.chyp_work.specs.declared.board.WireItem.{WireItem}
use Rattle.chyp_work.proofs.plain.sorts_of.Given as goal

abbrev pub invariant-loop-w : goal.invariant-loop-w
invariant-loop-w l = l.sorts.items ≡ map (λ (e : ℕ × WireItem). e.1.sort) (take l.w-index l.wires.items)
