-- `triples::ranks::next` meets its contract: by the last of the shots that can be greater.
use Rattle.triples.proofs.RankLaws.{next_third, next_second, next_all}
use Rattle.triples.proofs.ranks.next.Goals as goal

pub returns-then-k-n : goal.returns-then-k-n
returns-then-k-n c = next_third _ _ _ _ c.requires.0 c.requires.1 c.requires.2 c.if-k-n.true

pub returns-then-j-n : goal.returns-then-j-n
returns-then-j-n c = next_second _ _ _ _ c.requires.0 c.requires.1 c.requires.2 c.if-k-n.false c.if-j-n.true

pub returns-else-j-n : goal.returns-else-j-n
returns-else-j-n c = next_all _ _ _ _ c.requires.0 c.requires.1 c.requires.2 c.if-j-n.false
