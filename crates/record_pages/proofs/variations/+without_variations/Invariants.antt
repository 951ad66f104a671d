use Rattle.sgf_text.specs.Trees.{tree_count}
use Rattle.record_pages.proofs.variations.+without_variations.Given as goal

abbrev pub decreases-without_variations : goal.decreases-without_variations
decreases-without_variations l = tree_count l.tree.now
