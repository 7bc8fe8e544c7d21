-- `triples::ranks::count` meets its contract.
use Rattle.triples.specs.Ranks.{triple_count, piece_count}
use Rattle.triples.proofs.ranks.count.Goals as goal

pub returns : goal.returns
unfolding triple_count piece_count
returns c = c.piece_count.ensures
