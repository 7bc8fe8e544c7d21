-- Every list on the way to a placing surface is `word_count` words.
--
--   fold_words                           a loop whose every turn keeps that
--   with_edge_words, with_edges_words    the lists of the loops that place one shot
--   so_far_words                         the list when the shots below m are placed; `placed_words`: when all are
use Rattle.std.specs.Prelude.{ℕ, zero, suc, Bool, true, false, cond, ◌||◌, eqb, List, ℤ}
use Rattle.algebra.specs.Loops.{fold}
use Rattle.algebra.specs.Words.{Words}
use Rattle.algebra.proofs.WordLaws.{put_words}
use Rattle.shots.specs.Patch.{count_of}
use Rattle.triples.specs.Sizes.{word_count}
use Rattle.triples.proofs.SiftLaws.{none_words}
use Rattle.surfaces.specs.Placing.{first_off, begin_of, visible, with_edge, with_edges, place_shot, place_next, placed_of}

pub fold_words : (f : ℕ → List ℕ → List ℕ) → ((i : ℕ) (w : List ℕ) → Words word_count w → Words word_count (f i w)) → (w : List ℕ) (n : ℕ) → Words word_count w → Words word_count (fold f w n)
unfolding fold
fold_words f h w zero v = v
fold_words f h w (suc n) v = h n (fold f w n) (fold_words f h w n v)

cond_words : (b : Bool) (u w : List ℕ) → Words word_count u → Words word_count w → Words word_count (cond b u w)
cond_words true u w p q = p
cond_words false u w p q = q

module _ (l : List ℤ) where
  pub with_edge_words : (w : List ℕ) (m j i : ℕ) (u : List ℕ) → Words word_count u → Words word_count (with_edge l w m j i u)
  unfolding with_edge
  with_edge_words w m j i u v = cond_words (visible l w m i j) _ u (put_words word_count u _ v) v

  pub with_edges_words : (w : List ℕ) (m j : ℕ) (u : List ℕ) → Words word_count u → Words word_count (with_edges l w m j u)
  unfolding with_edges
  with_edges_words w m j u v = fold_words (with_edge l w m j) (with_edge_words w m j) u j v

  next_words : (m : ℕ) (w : List ℕ) → Words word_count w → Words word_count (place_next l m w)
  unfolding place_next place_shot
  next_words m w v = cond_words (eqb m 0 || (eqb m 1 || eqb m (first_off l))) w (place_shot l w m) v (fold_words (with_edges l w m) (with_edges_words w m) w (count_of l) v)

  pub so_far_words : (m : ℕ) → Words word_count (fold (place_next l) (begin_of l) m)
  unfolding begin_of
  so_far_words m = fold_words (place_next l) next_words (begin_of l) m (put_words word_count _ _ (none_words word_count))

  pub placed_words : Words word_count (placed_of l)
  unfolding placed_of
  placed_words = so_far_words (count_of l)
