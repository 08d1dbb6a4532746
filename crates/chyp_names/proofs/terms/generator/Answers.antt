use Rattle.chyp_names.proofs.Made.{generator_sizes}
use Rattle.chyp_names.proofs.terms.generator.Goals as goal

pub new-requires-clause-sizes : goal.new-requires-clause-sizes
new-requires-clause-sizes c =
    generator_sizes c.sizes_of_generator-sizes.result c.args.name _ _ _ _ c.in_ok-share.ensures c.in_ok-share-2.ensures (c.sizes_of_generator-sizes.ensures c.args.name)
