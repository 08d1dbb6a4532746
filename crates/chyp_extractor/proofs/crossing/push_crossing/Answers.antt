use Rattle.std.proofs.Common.{◌∙◌, ap, length, sym}
use Rattle.chyp_extract.specs.Extraction.{counts_from, places_in}
use Rattle.chyp_extractor.proofs.Places.{crossing-made, crossing-none, perm-self, places-read}
use Rattle.chyp_extractor.proofs.crossing.push_crossing.Goals as goal

pub permutation-requires : goal.permutation-requires
permutation-requires c =
    let live = c.args.live.now in
    let wanted = c.args.wanted.now in
    let t = c.requires.reordered in
    perm-self (length live) (places_in live wanted) c.in_ok-places.places.items t.places (c.in_ok-places.ensures ∙ places-read live c.write_places.new.table wanted c.write_places.ensures t.there)

pub returns-in_ok-push : goal.returns-in_ok-push
returns-in_ok-push c =
    let live = c.args.live.now in
    let wanted = c.args.wanted.now in
    crossing-made c.args.graph.now live wanted c.in_ok-places.places.items c.in_ok-sorts.sorts c.args.parts.now.items c.push.new.self.items c.in_ok-permutation.field-0
    (c.in_ok-places.ensures ∙ places-read live c.write_places.new.table wanted c.write_places.ensures c.requires.reordered.there)
    (ap (counts_from 0) (sym c.deref.ensures.value) ∙ sym c.counts_up.ensures ∙ c.if-not-counts_up.true)
    c.in_ok-sorts.ensures c.in_ok-permutation.ensures c.in_ok-push.ensures.items

pub returns-else-not-counts_up : goal.returns-else-not-counts_up
returns-else-not-counts_up c =
    let live = c.args.live.now in
    let wanted = c.args.wanted.now in
    crossing-none c.args.graph.now live wanted c.in_ok-places.places.items c.args.parts.now.items
    (c.in_ok-places.ensures ∙ places-read live c.write_places.new.table wanted c.write_places.ensures c.requires.reordered.there)
    (ap (counts_from 0) (sym c.deref.ensures.value) ∙ sym c.counts_up.ensures ∙ c.if-not-counts_up.false)
