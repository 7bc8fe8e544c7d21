-- `surfaces::flips::linked_at` meets its contract: its tests are those of the definition, over the cone that the code makes.
use Rattle.std.specs.Prelude.{◌≡◌, ℕ, Bool, true, false, not, ◌&&◌, List}
use mathlib.Core.Path.{sym, ◌∙◌, ap}
use mathlib.Core.Bool.{and_assoc}
use Rattle.algebra.specs.Sets.{bit}
use Rattle.algebra.specs.Words.{both_of, meets_of, inside_of}
use Rattle.triples.specs.Sets.{holders_of, words_of}
use Rattle.surfaces.specs.Stars.{cone_of, linked_at}
use Rattle.surfaces.proofs.flips.linked_at.Goals.{then-not-on, else-not-on}
use Rattle.surfaces.proofs.flips.linked_at.Goals as goal

-- b says what the tests before the last do
by-cone : (n x : ℕ) (t w : List ℕ) (k : ℕ) {b : Bool} {cone row : List ℕ} → b ≡ (not (bit x k) && meets_of cone w) → cone ≡ both_of t row → row ≡ holders_of n k → (b && inside_of cone w) ≡ linked_at n x t w k
unfolding linked_at cone_of
by-cone n x t w k {cone = cone} f e h =
    ap (λ (b : Bool). b && inside_of cone w) f ∙ and_assoc (not (bit x k)) (meets_of cone w) (inside_of cone w)
    ∙ ap (λ (u : List ℕ). not (bit x k) && (meets_of u w && inside_of u w)) (e ∙ ap (both_of t) h)

-- the first two tests, o says whether k is in the circuit: it is not, or it is
off : {v m o : Bool} (b w : Bool) → v ≡ m → m ≡ w → o ≡ false → o ≡ b → v ≡ (not b && w)
off b w p q e f = rw (sym f ∙ e) (p ∙ q)

on : {v o : Bool} (b w : Bool) → v ≡ not o → o ≡ true → o ≡ b → v ≡ (not b && w)
on b w p e f = rw (sym f ∙ e) (p ∙ ap not e)

pub returns-then-meets : goal.returns-then-meets
returns-then-meets c =
    let a = c.args in
    let e : c.if-not-on.value ≡ (not (bit a.x a.k) && meets_of (words_of c.both-cone.result) (words_of a.list)) = elim c.if-not-on.branch [ then-not-on u ↦ off _ _ u.value-is u.meets.ensures u.if-not-on.true c.on.ensures | else-not-on u ↦ on _ _ u.value-is u.if-not-on.false c.on.ensures ] in
    c.inside.ensures ∙ by-cone a.held.n a.x (words_of a.star) (words_of a.list) a.k (sym c.if-meets.true ∙ e) c.both-cone.ensures c.row.ensures

pub returns-else-meets : goal.returns-else-meets
returns-else-meets c =
    let a = c.args in
    let e : c.if-not-on.value ≡ (not (bit a.x a.k) && meets_of (words_of c.both-cone.result) (words_of a.list)) = elim c.if-not-on.branch [ then-not-on u ↦ off _ _ u.value-is u.meets.ensures u.if-not-on.true c.on.ensures | else-not-on u ↦ on _ _ u.value-is u.if-not-on.false c.on.ensures ] in
    c.if-meets.false ∙ by-cone a.held.n a.x (words_of a.star) (words_of a.list) a.k (sym c.if-meets.false ∙ e) c.both-cone.ensures c.row.ensures
