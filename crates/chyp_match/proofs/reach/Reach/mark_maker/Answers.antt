use Rattle.std.proofs.Common.{Some, inl, inr, refl, sym, ◌∙◌, ap, arith}
use Rattle.chyp_match.specs.Reach.{here}
use Rattle.chyp_match.proofs.Reaching.{maker-below, maker-leads, maker-none, marked-few, marked-union, row-again, the-maker, walk-joined, walk-pushed}
use Rattle.chyp_match.proofs.Walking.{pushed-marked, pushed-more, pushed-under_way}
use Rattle.chyp_match.proofs.reach.Reach.mark_maker.Goals as goal

pub returns-in_default-clause-maker : goal.returns-in_default-clause-maker
returns-in_default-clause-maker c = maker-none c.args.graph.now c.args.w c.args.self.now.spare.marks c.producer.result c.valid.ensures.valid c.producer.ensures.input c.in_default.is

pub has-requires : goal.has-requires
has-requires c =
    let b = maker-below c.args.graph.now c.args.w _ _ c.in-Some.ensures.port in
    let s = c.requires.under_way.size in
    omega arith

pub returns-then-has-clause-maker : goal.returns-then-has-clause-maker
returns-then-has-clause-maker c =
    the-maker c.args.graph.now c.args.w _ _ c.args.self.now.spare.marks c.valid.ensures.valid c.in-Some.ensures.port
    (c.has.ensures ∙ ap (λ z. Some z) c.if-has.true)

pub index-requires : goal.index-requires
index-requires c =
    let b = maker-below c.args.graph.now c.args.w _ _ c.in-Some.ensures.port in
    let s = c.requires.under_way.rows.size in
    let e = c.j.view_is in
    omega (arith, c.args.self.now.rows.ok.0)

pub index-requires-then-is_known : goal.index-requires-then-is_known
index-requires-then-is_known c =
    let b = maker-below c.args.graph.now c.args.w _ _ c.in-Some.ensures.port in
    let s = c.requires.under_way.rows.size in
    let e = c.j.view_is in
    omega (arith, c.args.self.now.rows.ok.0)

pub join-requires : goal.join-requires
join-requires c =
    let b = maker-below c.args.graph.now c.args.w _ _ c.in-Some.ensures.port in
    let r = row-again c.args.graph.now c.args.self.now.rows.items c.j.inside.0 _ c.index.result.now c.index-then-is_known.result.now c.requires.under_way.rows c.j.view_is b
    c.index.ensures c.index-then-is_known.ensures c.if-is_known.ensures in
    r.size ∙ sym c.requires.under_way.size

pub returns-then-is_known-clause-under_way : goal.returns-then-is_known-clause-under_way
returns-then-is_known-clause-under_way c =
    let u = c.requires.under_way in
    let few = u.few in
    let more = marked-union c.args.self.now.spare.marks c.join.new.self.marks (λ j h. (c.join.ensures.union.marks j).1 (inl h)) in
    record {
      rows = u.rows;
      room = c.join.ensures.room ∙ u.room;
      size = c.join.ensures.union.size ∙ u.size;
      queue = u.queue;
      few = omega arith;
      within = u.within;
    }

pub returns-then-is_known-clause-maker : goal.returns-then-is_known-clause-maker
returns-then-is_known-clause-maker c =
    let b = maker-below c.args.graph.now c.args.w _ _ c.in-Some.ensures.port in
    let r = row-again c.args.graph.now c.args.self.now.rows.items c.j.inside.0 _ c.index.result.now c.index-then-is_known.result.now c.requires.under_way.rows c.j.view_is b
    c.index.ensures c.index-then-is_known.ensures c.if-is_known.ensures in
    the-maker c.args.graph.now c.args.w _ _ c.join.new.self.marks c.valid.ensures.valid c.in-Some.ensures.port
    ((c.join.ensures.union.marks _).1 (inr ((r.marks _ b).1 here)))

pub returns-then-is_known-clause-walk : goal.returns-then-is_known-clause-walk
returns-then-is_known-clause-walk c = λ k next m a n.
    let b = maker-below c.args.graph.now c.args.w _ _ c.in-Some.ensures.port in
    let r = row-again c.args.graph.now c.args.self.now.rows.items c.j.inside.0 _ c.index.result.now c.index-then-is_known.result.now c.requires.under_way.rows c.j.view_is b
    c.index.ensures c.index-then-is_known.ensures c.if-is_known.ensures in
    walk-joined c.args.graph.now k next _ c.args.self.now.spare.marks c.index-then-is_known.result.now.marks c.join.new.self.marks c.args.self.now.queue.items r
    (maker-leads c.args.graph.now c.args.w _ _ k c.in-Some.ensures.port m) c.join.ensures.union a

pub mark-requires : goal.mark-requires
mark-requires c =
    let b = maker-below c.args.graph.now c.args.w _ _ c.in-Some.ensures.port in
    let s = c.requires.under_way.size in
    omega arith

pub push_reserved-requires : goal.push_reserved-requires
push_reserved-requires c =
    let b = maker-below c.args.graph.now c.args.w _ _ c.in-Some.ensures.port in
    let u = c.requires.under_way in
    let s = u.size in
    let few = u.few in
    let room = u.queue in
    let n = c.has.ensures ∙ ap (λ z. Some z) c.if-has.false in
    let less = marked-few c.args.self.now.spare.marks _ (omega arith) n in
    omega (arith, c.args.self.now.queue.ok.0)

pub returns-clause-under_way : goal.returns-clause-under_way
returns-clause-under_way c =
    let b = maker-below c.args.graph.now c.args.w _ _ c.in-Some.ensures.port in
    let n = c.has.ensures ∙ ap (λ z. Some z) c.if-has.false in
    pushed-under_way c.args.graph.now c.args.self.now (record { rows = c.args.self.now.rows; spare = c.mark.new.self; queue = c.push_reserved.new.self }) c.requires.under_way refl _ b n c.mark.ensures
    c.push_reserved.ensures.items c.push_reserved.ensures.capacity

pub returns-clause-more : goal.returns-clause-more
returns-clause-more c =
    let b = maker-below c.args.graph.now c.args.w _ _ c.in-Some.ensures.port in
    let n = c.has.ensures ∙ ap (λ z. Some z) c.if-has.false in
    pushed-more c.args.graph.now c.args.self.now (record { rows = c.args.self.now.rows; spare = c.mark.new.self; queue = c.push_reserved.new.self }) c.requires.under_way refl _ b n c.mark.ensures
    c.push_reserved.ensures.items c.push_reserved.ensures.capacity

pub returns-clause-maker : goal.returns-clause-maker
returns-clause-maker c =
    let b = maker-below c.args.graph.now c.args.w _ _ c.in-Some.ensures.port in
    let n = c.has.ensures ∙ ap (λ z. Some z) c.if-has.false in
    the-maker c.args.graph.now c.args.w _ _ c.mark.new.self.marks c.valid.ensures.valid c.in-Some.ensures.port
    (pushed-marked c.args.graph.now c.args.self.now (record { rows = c.args.self.now.rows; spare = c.mark.new.self; queue = c.push_reserved.new.self }) c.requires.under_way refl _ b n c.mark.ensures
    c.push_reserved.ensures.items c.push_reserved.ensures.capacity)

pub returns-clause-walk : goal.returns-clause-walk
returns-clause-walk c = λ k next m a n.
    let b = maker-below c.args.graph.now c.args.w _ _ c.in-Some.ensures.port in
    let s = c.requires.under_way.size in
    walk-pushed c.args.graph.now k next _ c.args.self.now.spare.marks c.mark.new.self.marks c.args.self.now.queue.items c.push_reserved.new.self.items (omega arith)
    (maker-leads c.args.graph.now c.args.w _ _ k c.in-Some.ensures.port m) (ap (λ x. x.marks) c.mark.ensures) c.push_reserved.ensures.items n a
