-- Where a row is being found.
use Rattle.std.proofs.Common.{ℕ, ◌+◌, ◌<◌, ◌≤◌, ◌≡◌, Bool, true, false, List, [], ◌∷◌, ◌++◌, length, Option, Some, slice_get, slice_set, refl, sym, ◌∙◌, ap, subst, arith}
use Rattle.std.specs.Vec.{vec_capacity}
use Rattle.std.proofs.lemmas.List.{length_push}
use Rattle.std.proofs.lemmas.List.Elements.{All-nil, All-push, All-same}
use Rattle.chyp_term.proofs.Members.{get-member, member-Contains}
use Rattle.chyp_term.proofs.Permuted.{found}
use Rattle.chyp_term.proofs.Positions.{slice_get-length}
use Rattle.chyp_term.proofs.Slices.{get-set_same}
use Rattle.chyp_graph.specs.PlainGraph.{Edge, PlainGraph}
use Rattle.chyp_match.specs.Reach.{AreRows, IsMore, IsReach, IsRow, IsUnderWay, IsWalk, LeadsTo, MakersLead, marked}
use Rattle.chyp_match.specs.Row.{IsMarked, Marks}
use Rattle.chyp_match.specs.declared.reach.Reach.{Reach}
use Rattle.chyp_match.proofs.Reaching.{AreMarkedTo, makers-lead, walk-visited, marked-keep, marked-more, marked-some, marked-set, queue-push, rows-set, set-size}

module _ (g : PlainGraph) (s t : Reach) (u : IsUnderWay g s) (rows : t.rows.items ≡ s.rows.items) where
  -- an edge more is marked, and stands in the queue
  module _ (p : ℕ) (b : p < length g.edges) (new : slice_get s.spare.marks p ≡ Some false) (marks : t.spare ≡ record s.spare { marks = slice_set s.spare.marks p true })
      (items : t.queue.items ≡ s.queue.items ++ p ∷ []) (room : vec_capacity t.queue ≡ vec_capacity s.queue) where
    marks-are : t.spare.marks ≡ slice_set s.spare.marks p true
    marks-are = ap (λ (x : Marks). x.marks) marks

    pub pushed-under_way : IsUnderWay g t
    pushed-under_way =
        let size = u.size in
        let few = u.few in
        let queue = u.queue in
        let longer = length_push s.queue.items p in
        let same = ap length items in
        let more = marked-more s.spare.marks p (omega arith) new in
        record {
          rows = subst (AreRows g) (sym rows) u.rows;
          room = ap (λ (x : Marks). x.room) marks ∙ u.room;
          size = ap length marks-are ∙ set-size s.spare.marks p ∙ u.size;
          queue = omega arith;
          few = subst (λ ms. length t.queue.items ≤ marked ms) (sym marks-are) (omega arith);
          within = All-same (λ k. k < length g.edges) t.queue.items (s.queue.items ++ p ∷ []) items (All-push (λ k. k < length g.edges) s.queue.items p u.within b);
        }

    pub pushed-more : IsMore s t
    pushed-more = record {
      rows = rows;
      marks = λ j h. subst (λ ms. IsMarked ms j) (sym marks-are) (marked-keep s.spare.marks p j h);
      queue = queue-push g s.queue.items t.queue.items p items;
    }

    pub pushed-marked : IsMarked t.spare.marks p
    pushed-marked = let size = u.size in subst (λ ms. IsMarked ms p) (sym marks-are) (marked-set s.spare.marks p (omega arith))

-- ## more marks

pub more-none : (s : Reach) → IsMore s s
more-none s = record { rows = refl; marks = λ j h. h; queue = λ i j h. h }

pub more-then : (s t r : Reach) → IsMore s t → IsMore t r → IsMore s r
more-then s t r a b = record { rows = b.rows ∙ a.rows; marks = λ j h. b.marks j (a.marks j h); queue = λ i j h. b.queue i j (a.queue i j h) }

-- a place of the queue stays one
pub more-room : (s t : Reach) → IsMore s t → (i : ℕ) → i < length s.queue.items → i ≤ length t.queue.items
more-room s t m i b =
    let x = found s.queue.items i b in
    let c = slice_get-length t.queue.items i x.0 (m.queue i x.0 x.1) in
    omega arith

-- ## an edge of the queue

pub none-marked : (g : PlainGraph) (wires : List ℕ) (marks : List Bool) → AreMarkedTo g wires 0 marks
none-marked g wires marks i w b e = absurd (omega arith)

-- what makes a source of the edge leads to where it leads
pub source-leads : (g : PlainGraph) (queue : List ℕ) (at item j k : ℕ) (e : Edge) (i w : ℕ) → slice_get queue at ≡ Some item → slice_get queue at ≡ Some j → slice_get g.edges item ≡ Some e
    → slice_get e.sources i ≡ Some w
    → LeadsTo g j k → MakersLead g w k
source-leads g queue at item j k e i w is other ek sw l =
    let both : ◌≡◌ {A = Option ℕ} (Some j) (Some item) = sym other ∙ is in
    let one : j ≡ item = cc in
    makers-lead g item k w e ek (member-Contains e.sources w (get-member e.sources i w sw)) (subst (λ z. LeadsTo g z k) one l)

pub visited : (g : PlainGraph) (root at item : ℕ) (e : Edge) (n : ℕ) (s t : Reach) → slice_get s.queue.items at ≡ Some item → slice_get g.edges item ≡ Some e → length e.sources ≤ n
    → AreMarkedTo g e.sources n t.spare.marks
    → IsMore s t → IsWalk g root at s.spare.marks s.queue.items
    → (LeadsTo g item root → IsWalk g root at s.spare.marks s.queue.items → IsWalk g root at t.spare.marks t.queue.items)
    → IsWalk g root (at + 1) t.spare.marks t.queue.items
visited g root at item e n s t is ek b f m a h =
    walk-visited g root at item n e t.spare.marks t.queue.items (m.queue at item is) ek b f (h (a.leads item (a.queued at item is)) a)

-- ## the beginning

module _ (g : PlainGraph) (m s t : Reach) (row : Marks) (k : ℕ) (b : k < length g.edges) (is : m ≡ record { rows = s.rows; spare = row; queue = s.queue }) (r : IsReach g s) where
  pub begun-under_way : row.room ≡ length g.edges → length row.marks ≡ length g.edges → t.rows.items ≡ m.rows.items → t.spare ≡ record m.spare { marks = slice_set m.spare.marks k true }
      → t.queue.items ≡ k ∷ [] → vec_capacity t.queue ≡ vec_capacity m.queue → IsUnderWay g t
  begun-under_way room size rows spare items capacity = record {
    rows = subst (AreRows g) (sym (rows ∙ ap (λ (x : Reach). x.rows.items) is)) r.rows;
    room = ap (λ (x : Marks). x.room) spare ∙ ap (λ (x : Reach). x.spare.room) is ∙ room;
    size = ap length marks ∙ set-size row.marks k ∙ size;
    queue = let q = r.queue in let e = capacity ∙ ap (λ (x : Reach). vec_capacity x.queue) is in omega arith;
    few = let e = ap length items in let some = marked-some t.spare.marks k (subst (λ ms. IsMarked ms k) (sym marks) (marked-set row.marks k (omega arith))) in omega arith;
    within = All-same (λ k. k < length g.edges) t.queue.items (k ∷ []) items (All-push (λ k. k < length g.edges) [] k (All-nil (λ k. k < length g.edges)) b);
  }
    where
      marks : t.spare.marks ≡ slice_set row.marks k true
      marks = ap (λ (x : Marks). x.marks) spare ∙ ap (λ (x : Reach). slice_set x.spare.marks k true) is

  pub begun-walk : (marks : List Bool) → row.marks ≡ marks → t.spare ≡ record m.spare { marks = slice_set m.spare.marks k true } → t.queue.items ≡ k ∷ []
      → ((spare : List Bool) → spare ≡ slice_set marks k true → IsWalk g k 0 spare (k ∷ [])) → IsWalk g k 0 t.spare.marks t.queue.items
  begun-walk marks e spare items f =
      subst (IsWalk g k 0 t.spare.marks) (sym items)
      (f t.spare.marks (ap (λ (x : Marks). x.marks) spare ∙ ap (λ (x : Reach). slice_set x.spare.marks k true) is ∙ ap (λ ms. slice_set ms k true) e))

-- ## the end

pub found-reach : (g : PlainGraph) (s t : Reach) (row before : Marks) (i k : ℕ) → k < length g.edges → IsUnderWay g s → i ≡ k → IsRow g k s.spare.marks → row ≡ s.spare
    → slice_get s.rows.items k ≡ Some before → before.marks ≡ [] → t.spare ≡ before → t.rows.items ≡ slice_set s.rows.items i row → vec_capacity t.queue ≡ vec_capacity s.queue → IsReach g t
found-reach g s t row before i k b u e r q at none spare rows queue = record {
  rows = subst (AreRows g) (sym (rows ∙ ap (λ n. slice_set s.rows.items n row) e))
      (rows-set g s.rows.items k row u.rows (ap (λ (x : Marks). x.room) q ∙ u.room) (subst (λ (x : Marks). IsRow g k x.marks) (sym q) r));
  spare = spare ∙ whole;
  queue = let c = u.queue in omega arith;
}
  where
    whole : before ≡ record { marks = []; room = length g.edges }
    whole = λ n. record { marks = none n; room = (u.rows.each k before at).room n }

pub found-row : (g : PlainGraph) (rows : List Marks) (row new : Marks) (i k : ℕ) → k < length rows → i ≡ k → IsRow g k new.marks → slice_get (slice_set rows i new) k ≡ Some row → IsRow g k row.marks
found-row g rows row new i k b e r at =
    let both : ◌≡◌ {A = Option Marks} (Some new) (Some row) = sym (get-set_same rows k new b) ∙ ap (λ n. slice_get (slice_set rows n new) k) (sym e) ∙ at in
    let one : new ≡ row = cc in
    subst (λ (x : Marks). IsRow g k x.marks) one r
