-- `triples::masks::holds` meets its contract: the and of x and p is x where p has every bit of x.
use Rattle.algebra.proofs.BitOps.{inside_bits}
use Rattle.shots.specs.Sizes.{mask_bits}
use Rattle.triples.specs.Pieces.{holds}
use Rattle.triples.proofs.masks.holds.Goals as goal

pub returns : goal.returns
unfolding holds
returns c = inside_bits mask_bits c.args.x c.args.p c.ranges.x.fits
