-- `walks::index::spot` meets its contract: the words are worked in one after the other.
use Rattle.std.specs.Prelude.{◌≡◌, ℕ, ◌+◌, ◌*◌, ◌%◌, ◌<◌, List, [], ◌∷◌}
use mathlib.Core.Path.{refl, ◌∙◌}
use native.Mathlib.Omega.{arith}
use native.Mathlib.Nat.{mod-lt}
use borrow.Author.Rules.{rules}
use borrow.Author.Tests.{tests}
use Rattle.std.specs.List.{fold}
use Rattle.std.proofs.lemmas.Fn.{serves_by}
use Rattle.std.proofs.lemmas.Iterator.{YieldsList-from_slice}
use Rattle.std.proofs.lemmas.Iterator.Consumers.{fold_from_yields_List}
use Rattle.triples.specs.Sets.{words_of}
use Rattle.walks.specs.Index.{spots, spot_from, spot_of}
use Rattle.walks.proofs.index.spot.Goals as goal

pub fold-requires-clause-callable : goal.fold-requires-clause-callable
fold-requires-clause-callable c =
    serves_by _ (λ xs q. q.1 < spots) (λ xs q x v j r. search (rules, tests)) _ _ _ _ (omega arith) (λ xs t q x u y p j. search (rules, tests))

abbrev on : ℕ → ℕ → ℕ
on a x = (a * 32 + x % spots) % spots

as_fold : (a : ℕ) (w : List ℕ) → fold on a w ≡ spot_from a w
as_fold a [] = refl
as_fold a (x ∷ w) = as_fold (on a x) w

small : (a : ℕ) (w : List ℕ) → a < spots → spot_from a w < spots
small a [] h = h
small a (x ∷ w) h = small (on a x) w (mod-lt (a * 32 + x % spots) (omega arith))

pub returns : goal.returns
unfolding spot_of
returns c =
    let w = words_of c.args.list in
    let e : c.fold.result ≡ spot_from 0 w = fold_from_yields_List _ on 0 c.fold.result c.fold.ensures.ran (YieldsList-from_slice w cc) (λ a x b q k. search (rules, tests)) ∙ as_fold 0 w in
    (e, rw e (small 0 w (omega arith)))
